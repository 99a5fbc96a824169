use Rattle.std.specs.Prelude.{option_copied}
use Rattle.fv_fourth_pass.proofs.BaseCounts.{base_added}
use Rattle.fv_fourth_pass.proofs.bases.note_base.Goals as goal

pub returns : goal.returns
returns c = λ w s over.
    base_added w s c.args.label.now c.args.held.now (option_copied c.args.base) c.args.row.now over c.args.place c.args.lines.now c.note_own_entries.new.lines c.note_resting.new.lines
    c.in_ok-note_own_entries.ensures c.in_ok-note_resting.ensures
