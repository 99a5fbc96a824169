use Rattle.fv_first_pass.proofs.Reading.{nodes_added, entries_had}
use Rattle.fv_first_pass.proofs.container.read_container.Goals as goal

pub returns-clause-adds : goal.returns-clause-adds
returns-clause-adds g c = λ tells t of. nodes_added t (g.D.Disk.shown c.args.disk.now).reads c.args.site.now of c.requires.site c.args.lines.now _ (c.in_ok-row.ensures.adds tells)

pub returns-clause-entries : goal.returns-clause-entries
returns-clause-entries g c = λ tells t of. entries_had t (g.D.Disk.shown c.args.disk.now).reads c.args.site.now of c.requires.site _ (c.in_ok-row.ensures.entries tells)
