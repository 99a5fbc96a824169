use Rattle.std.proofs.Common.{◌≤◌, ◌*◌, length, arith}
use Rattle.fv_bits.specs.Bits.{block_bits}
use Rattle.fv_volmap.proofs.Copies.{took_all}
use Rattle.fv_volmap.proofs.slots.take_members.Goals as goal

pub returns-clause-members : goal.returns-clause-members
returns-clause-members c = λ v.
    let count : length c.args.from.now ≤ block_bits * c.loop-index.index = omega (arith, c.len.ensures, c.div_ceil-index-end.ensures, c.loop-index.auto.index-end, c.loop-index-test.false) in
    took_all c.loop-index.map c.args.from.now c.loop-index.index v count c.loop-index.invariant.taken c.loop-index.invariant.rest
