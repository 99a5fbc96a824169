use Rattle.fv_reference.proofs.Finite.{taken}
use Rattle.fv_reference.proofs.sets.take.Goals as goal

pub returns : goal.returns
returns g c = taken g.met.K.Ord.total c.requires.ties c.args.keys.now c.remove.new.self c.args.key.now c.remove.ensures.updates
