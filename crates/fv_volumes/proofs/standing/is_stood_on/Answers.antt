use Rattle.std.proofs.Common.{◌∙◌}
use Rattle.fv_volumes.proofs.StoodOn.{on_whichever}
use Rattle.fv_volumes.proofs.standing.is_stood_on.Goals as goal

pub returns : goal.returns
returns c = c.some_is_on.ensures ∙ on_whichever c.args.states.now c.args.slot
