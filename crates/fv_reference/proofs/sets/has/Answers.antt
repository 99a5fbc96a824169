use Rattle.std.proofs.Common.{◌∙◌}
use Rattle.fv_reference.proofs.Finite.{held}
use Rattle.fv_reference.proofs.sets.has.Goals as goal

pub returns : goal.returns
returns g c = c.contains.ensures ∙ held g.met.K.Ord.total c.args.keys.now c.args.key.now
