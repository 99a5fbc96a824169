use Rattle.std.proofs.Common.{ℕ, refl, sym, ap, subst, ◌∙◌}
use Rattle.fv_walk.specs.Sights.{Sight}
use Rattle.fv_fourth_pass.specs.Needed.{files_after, one_if, reserved_below}
use Rattle.fv_fourth_pass.specs.Needing.{IsRaised}
use Rattle.fv_fourth_pass.proofs.NeedSteps.{files_stay, needs_one}
use Rattle.fv_fourth_pass.proofs.needs.NeedTallyVisitor.see.Goals as goal

pub returns-in-Inodes : goal.returns-in-Inodes
returns-in-Inodes c =
    let s : Sight = record { visit = c.args.visit.now; at = c.args._at; below = c.args.below.now } in
    needs_one c.args.self.now _ s refl refl (sym (ap (files_after c.args.self.now.files) c.in-Inodes.is))
    (subst (λ (n : ℕ). IsRaised c.args.self.now.reserved n c.raise-self.result) (c.reserved_below.ensures ∙ ap (λ n. reserved_below n s.below) c.shared_over-over.ensures.exact) c.raise-self.ensures)
    (subst (λ (n : ℕ). IsRaised c.args.self.now.standing n c.raise-self-2.result) (c.one_if-standing.ensures ∙ ap one_if c.is_standing.ensures) c.raise-self-2.ensures)

pub returns-in_default : goal.returns-in_default
returns-in_default c =
    let s : Sight = record { visit = c.args.visit.now; at = c.args._at; below = c.args.below.now } in
    needs_one c.args.self.now _ s refl refl (files_stay c.args.self.now.files s.below c.in_default.not-Inodes)
    (subst (λ (n : ℕ). IsRaised c.args.self.now.reserved n c.raise-self.result) (c.reserved_below.ensures ∙ ap (λ n. reserved_below n s.below) c.shared_over-over.ensures.exact) c.raise-self.ensures)
    (subst (λ (n : ℕ). IsRaised c.args.self.now.standing n c.raise-self-2.result) (c.one_if-standing.ensures ∙ ap one_if c.is_standing.ensures) c.raise-self-2.ensures)
