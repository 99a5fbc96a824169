use Rattle.std.proofs.Common.{◌∙◌}
use Rattle.fv_reference.proofs.Finite.{counted}
use Rattle.fv_reference.proofs.sets.count.Goals as goal

pub returns : goal.returns
returns g c = c.len.ensures.len ∙ counted g.met.K.Ord.total c.args.keys.now.keys c.len.ensures.ordered
