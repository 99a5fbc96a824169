use Rattle.std.proofs.Common.{◌*◌, ◌-◌, ◌<◌, ◌^◌, arith}
use Rattle.std.specs.Int.Count.{ones-le}
use Rattle.fv_bits.specs.Stored.{is_apart}
use Rattle.fv_bits.proofs.Apart.{apart_more}
use Rattle.fv_bits.proofs.Counts.{passing_le}
use Rattle.fv_bits.proofs.words.ones_apart.Goals as goal

pub overflow_add-total : goal.overflow_add-total
overflow_add-total c =
    let fits : c.apart_at.result < 2 ^ 64 = omega (arith, c.apart_at.type_inv) in
    let few = ones-le 64 c.apart_at.result fits in
    let so_far = passing_le (is_apart c.args.words.now c.args.others.now) (64 * c.args.first) (64 * (c.loop-at.at - c.args.first)) in
    omega (arith, c.loop-at.invariant, c.requires.few, c.loop-at-test.true, few, so_far)

pub loop-at-preserved : goal.loop-at-preserved
loop-at-preserved c =
    let fits : c.apart_at.result < 2 ^ 64 = omega (arith, c.apart_at.type_inv) in
    apart_more c.args.words.now c.args.others.now c.args.first c.loop-at.at c.apart_at.result c.loop-at.total c.loop-at.auto.at c.apart_at.ensures fits c.loop-at.invariant
