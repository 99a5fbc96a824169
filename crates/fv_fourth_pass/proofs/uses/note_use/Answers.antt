use Rattle.std.proofs.Common.{ℕ, subst}
use Rattle.std.specs.Prelude.{nat_le}
use Rattle.fv_faults.specs.Adding.{Adds}
use Rattle.fv_faults.specs.Lines.{line, unless}
use Rattle.fv_fourth_pass.proofs.Charges.{use_added}
use Rattle.fv_fourth_pass.proofs.uses.note_use.Goals as goal

pub returns : goal.returns
returns c = λ w s is.
    use_added w s c.args.label.now c.args.used c.args.place c.args.lines.now c.note_most.new.lines is
    (subst (λ (n : ℕ). Adds (unless (nat_le c.args.used n) (line 14 c.args.place n c.args.used)) c.args.lines.now c.note_most.new.lines) c.from.ensures c.in_ok-note_most.ensures)
