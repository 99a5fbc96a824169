use Rattle.fv_reference.proofs.Finite.{added}
use Rattle.fv_reference.proofs.sets.add.Goals as goal

pub returns : goal.returns
returns g c = added g.met.K.Ord.total c.requires.ties c.args.keys.now c.insert.new.self c.args.key c.in_ok-insert.ensures.updates
