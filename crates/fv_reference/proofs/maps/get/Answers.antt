use Rattle.std.proofs.Common.{sym, ◌∙◌}
use Rattle.fv_reference.proofs.Views.{found}
use Rattle.fv_reference.proofs.maps.get.Goals as goal

pub returns : goal.returns
returns g c = c.get.ensures.value ∙ sym (found g.met.K.Ord.total c.args.map.now c.args.key.now)
