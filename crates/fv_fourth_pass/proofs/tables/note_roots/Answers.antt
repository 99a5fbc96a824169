use Rattle.std.proofs.Common.{◌≡◌, map}
use Rattle.std.specs.Prelude.{option_copied}
use Rattle.fv_image.specs.Views.{head_of}
use Rattle.fv_faults.specs.Walks.{Ground}
use Rattle.fv_third_pass.specs.Volumes.{root_of}
use Rattle.fv_fourth_pass.specs.WalkedTables.{number_lines}
use Rattle.fv_fourth_pass.proofs.WalkedRoots.{roots_added, roots_gained}
use Rattle.fv_fourth_pass.proofs.tables.note_roots.Goals as goal

pub returns-clause-adds : goal.returns-clause-adds
returns-clause-adds g c = λ fits clean roots based.
    let volume : Ground = g.S.Source.volume c.args.source.now in
    let later : Ground = g.S.Source.volume c.note_active.new.source in
    let near : later ≡ volume = g.met.S.Source.same_volume c.args.source.now c.note_active.new.source c.in_ok-active.ensures.reads in
    let still = g.met.S.Source.fits_on c.args.source.now c.note_active.new.source c.in_ok-active.ensures.reads fits in
    let gains = roots_gained volume later near c.args.place c.args.roots.now c.in-Some.first.now c.in-Some.rest.now c.in-Some.ensures.cases.0 c.in_ok-tally.tally c.in_ok-active.active.tally c.note_tables.new.both.second
    (c.in_ok-active.ensures.gains fits) (c.in_ok-note_tables.ensures.gains still) in
    roots_added volume later near c.args.place c.args.roots.now c.in-Some.first.now c.in-Some.rest.now c.in-Some.ensures.cases.0 clean c.args.lines c.in_ok-active.active.lines c.note_tables.new.both.first.lines c.note_marks.new.lines
    (number_lines volume.view volume.slot c.args.place (head_of c.args.label.now))
    (c.in_ok-active.ensures.adds fits) (c.in_ok-note_tables.ensures.adds still)
    (c.in_ok-note_marks.ensures volume c.args.place (map root_of c.args.roots.now) c.in_ok-tally.tally (option_copied c.args.base) c.args.row.now c.in_ok-tally.ensures.asked c.in_ok-tally.ensures.empty gains roots based)
