use Rattle.std.proofs.Common.{sym, ◌∙◌}
use Rattle.fv_reference.proofs.Views.{counted}
use Rattle.fv_reference.proofs.maps.len.Goals as goal

pub returns : goal.returns
returns g c = c.len.ensures.len ∙ sym (counted g.met.K.Ord.total c.args.map.now c.len.ensures.ordered)
