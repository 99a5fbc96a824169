use Rattle.fv_aggmap.proofs.Areas.{loaded}
use Rattle.fv_aggmap.proofs.map.AggMap.load.Goals as goal

pub returns-clause-loaded : goal.returns-clause-loaded
returns-clause-loaded g c = λ tells. loaded (g.D.Disk.shown c.args.disk.now).reads c.args.found.now c.read_area.new.into c.copy_from.new.self (c.in_ok-read_area.ensures.read tells) c.copy_from.ensures
