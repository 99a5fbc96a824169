use Rattle.std.proofs.Common.{sym, ◌∙◌}
use Rattle.fv_fourth_pass.proofs.Copies.{copies_left, copies_more}
use Rattle.fv_fourth_pass.proofs.places.add_copy.Goals as goal

pub returns-then-not-is_copied-clause-has : goal.returns-then-not-is_copied-clause-has
returns-then-not-is_copied-clause-has c = λ has. copies_left c.args.base.now c.args.row.now c.args.copies.now c.args.vvbn has (sym c.is_copied.ensures ∙ c.if-not-is_copied.true)

pub returns-clause-has : goal.returns-clause-has
returns-clause-has c = λ has. copies_more c.args.base.now c.args.row.now c.args.copies.now c.set.new.self c.args.vvbn has c.requires.low (sym c.is_copied.ensures ∙ c.if-not-is_copied.false) c.set.ensures
