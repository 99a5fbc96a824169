use Rattle.std.proofs.Common.{IsSome, subst, refl}
use Rattle.std.specs.Box.{with_value}
use Rattle.fv_pool.proofs.Writing.{view_insert}
use Rattle.fv_pool.proofs.kept.overwrite.Goals as goal

pub returns-in-Some : goal.returns-in-Some
returns-in-Some c =
    let box = with_value c.in-Some.kept.now c.args.block.now in
    let through = c.get_mut.follows.holds box in
    view_insert c.args.blocks.now (c.get_mut.follows.lender box) c.args.pvbn box (through.3 (subst IsSome c.in-Some.ensures.value refl))
