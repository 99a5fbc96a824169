use Rattle.fv_reference.proofs.Views.{removed}
use Rattle.fv_reference.proofs.maps.remove.Goals as goal

pub returns : goal.returns
returns g c = removed g.met.K.Ord.total c.requires.ties c.args.map.now c.remove.new.self c.args.key.now c.remove.ensures.updates
