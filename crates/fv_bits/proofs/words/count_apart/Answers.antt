use Rattle.std.proofs.Common.{◌*◌, ◌-◌, ◌/◌, ◌<◌, ◌^◌, arith}
use Rattle.std.specs.Int.Count.{ones-le}
use Rattle.fv_bits.specs.Stored.{is_apart}
use Rattle.fv_bits.proofs.Apart.{apart_by_words}
use Rattle.fv_bits.proofs.Counts.{passing_le}
use Rattle.fv_bits.proofs.words.count_apart.Goals as goal

pub overflow_add-result : goal.overflow_add-result
overflow_add-result c =
    let fits : c.low_bits-above.result < 2 ^ 64 = omega (arith, c.low_bits-above.type_inv) in
    let few = ones-le 64 c.low_bits-above.result fits in
    let whole = passing_le (is_apart c.args.words.now c.args.others.now) (64 * (c.args.from / 64)) (64 * (c.args.to / 64 - c.args.from / 64)) in
    omega (arith, c.ranges.to.fits, c.ones_apart-whole.ensures, few, whole)

pub overflow_sub-result : goal.overflow_sub-result
overflow_sub-result c =
    let by_words = apart_by_words c.args.words.now c.args.others.now c.args.from c.args.to c.ones_apart-whole.result c.apart_at.result c.apart_at-2.result c.requires c.ones_apart-whole.ensures c.apart_at.ensures c.apart_at-2.ensures in
    grind arith

pub overflow_cast-result-3 : goal.overflow_cast-result-3
overflow_cast-result-3 c =
    let by_words = apart_by_words c.args.words.now c.args.others.now c.args.from c.args.to c.ones_apart-whole.result c.apart_at.result c.apart_at-2.result c.requires c.ones_apart-whole.ensures c.apart_at.ensures c.apart_at-2.ensures in
    grind (arith, passing_le)
