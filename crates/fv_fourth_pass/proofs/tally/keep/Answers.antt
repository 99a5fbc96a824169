use Rattle.std.proofs.Common.{Bool, true, false, cond, ap, refl, ◌≡◌, ◌∙◌}
use Rattle.std.specs.Prelude.{◌||◌}
use Rattle.std.specs.BTreeSet as sets
use Rattle.std.specs.Cmp.{eq_by_cmp_equiv}
use Rattle.std.specs.Ordering.{eq_by_cmp}
use Rattle.fv_fourth_pass.specs.Tallied.{mark_cmp}
use Rattle.fv_fourth_pass.proofs.Marks.{mark_total}
use Rattle.fv_fourth_pass.proofs.tally.keep.Goals as goal

either : (a b : Bool) → cond a true b ≡ (b || a)
either true true = refl
either true false = refl
either false true = refl
either false false = refl

pub returns-in-Ok : goal.returns-in-Ok
returns-in-Ok c = λ k.
    c.in-Ok.ensures.updates.0 k
    ∙ either (eq_by_cmp mark_cmp c.args.mark k) (sets.contains mark_cmp c.args.marks.now k)
    ∙ ap (λ b. sets.contains mark_cmp c.args.marks.now k || b) ((eq_by_cmp_equiv mark_total).symm c.args.mark k)
