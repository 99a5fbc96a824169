use Rattle.std.proofs.Common.{sym, ◌∙◌}
use Rattle.fv_fourth_pass.proofs.WalkedRoots.{counted_known, counted_unknown, numbers_added, numbers_none}
use Rattle.fv_fourth_pass.proofs.tables.note_marks.Goals as goal

pub returns-in_ok-note_none : goal.returns-in_ok-note_none
returns-in_ok-note_none c = λ g at rs start base row is none gains roots based.
    let counted = c.count_marks.ensures g at rs start none gains in
    numbers_added g.view g.slot c.args.place c.args.label.now c.requires c.count_marks.result c.args.lines.now c.note_none.new.lines (sym c.is_asked.ensures ∙ c.if-is_asked.true)
    (counted_unknown g c.args.label.now base row start.copies is rs roots c.count_marks.result counted)
    (counted_known g c.args.label.now base row start.copies is rs roots c.count_marks.result counted based)
    c.in_ok-note_none.ensures

pub returns-else-is_asked : goal.returns-else-is_asked
returns-else-is_asked c = λ g at rs start base row is none gains roots based.
    numbers_none g.view g.slot c.args.place c.args.label.now c.requires c.args.lines.now (sym c.is_asked.ensures ∙ c.if-is_asked.false)
