use Rattle.fv_volume.specs.States.{state_at}
use Rattle.fv_volumes.proofs.Learned.{got_at, labelled_at}
use Rattle.fv_volumes.proofs.learning.learn_from.Goals as goal

pub learn_base-requires-clause-parent : goal.learn_base-requires-clause-parent
learn_base-requires-clause-parent c =
    let s = c.in-Some.base.parent in
    labelled_at s (state_at c.args.states.now s) c.in-Some-Some.parent (got_at c.args.states.now s c.in-Some-Some.field-0.now c.in-Some-Some.parent (c.in-Some-Some.ensures.lookup.0, c.in-Some-Some.ensures.lookup.1) c.in-Some-Some.field-0-is) (c.requires.others s)
