use Rattle.fv_root.specs.Finding.{root_found}
use Rattle.fv_third_pass.proofs.Areas.{area_added}
use Rattle.fv_third_pass.proofs.map.note_map.Goals as goal

pub returns-clause-adds : goal.returns-clause-adds
returns-clause-adds g c = λ tells counted.
    area_added (root_found c.args.found.now) (g.D.Disk.shown c.args.disk.now).reads c.args.holders.now counted c.args.lines.now c.note_area.new.lines (c.in_ok-note_area.ensures.adds tells)
