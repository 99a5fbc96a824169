use Rattle.std.proofs.Common.{ℕ, subst, ◌∙◌}
use Rattle.std.specs.Prelude.{nat_le}
use Rattle.fv_model.specs.Machines.{capacity}
use Rattle.fv_faults.specs.Adding.{Adds}
use Rattle.fv_faults.specs.Lines.{line, unless}
use Rattle.fv_fourth_pass.proofs.Totals.{commits_added}
use Rattle.fv_fourth_pass.proofs.space.note_commits.Goals as goal

pub returns : goal.returns
returns c = λ y are size used.
    commits_added y c.args.labels.now are c.args.uses.now used c.args.blocks c.args.root c.args.lines.now c.note_most.new.lines size
    (subst (λ (n : ℕ). Adds (unless (nat_le n (capacity c.args.blocks)) (line 14 c.args.root (capacity c.args.blocks) n)) c.args.lines.now c.note_most.new.lines) c.commits.ensures
    (subst (λ (n : ℕ). Adds (unless (nat_le c.commits.result n) (line 14 c.args.root n c.commits.result)) c.args.lines.now c.note_most.new.lines) (c.from.ensures ∙ c.capacity.ensures) c.in_ok-note_most.ensures))
