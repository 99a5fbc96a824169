use Rattle.std.proofs.Common.{ℕ, subst, ◌∙◌}
use Rattle.fv_faults.specs.Adding.{Adds}
use Rattle.fv_faults.specs.FourthPass.{none_of}
use Rattle.fv_fourth_pass.proofs.bases.note_resting.Goals as goal

pub returns : goal.returns
returns c = subst (λ (n : ℕ). Adds (none_of c.args.place n) c.args.lines.now c.note_none.new.lines) (c.from.ensures ∙ c.resting.ensures) c.in_ok-note_none.ensures
