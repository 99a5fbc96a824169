use Rattle.fv_reference.proofs.Views.{inserted}
use Rattle.fv_reference.proofs.maps.insert.Goals as goal

pub returns-clause-ok : goal.returns-clause-ok
returns-clause-ok g c =
    inserted g.met.K.Ord.total c.args.map.now c.insert.new.self c.args.key c.args.value c.insert.ensures.was_ordered c.insert.ensures.ordered c.in_ok-insert.ensures.entries
