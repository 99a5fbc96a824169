use Rattle.std.proofs.Common.{◌≡◌, ℕ, Option, Some, None, true≢false, is_some, refl, sym, ap, subst, ◌∙◌}
use Rattle.std.specs.Prelude.{IsNone, IsSome}
use Rattle.fv_aggregate.specs.declared.session.Session.{Session}
use Rattle.fv_aggregate.proofs.session.Session.settle.Goals as goal

neither : (o : Option ℕ) (n : ℕ) → IsNone o → o ≡ Some n → ⊥
neither o n none some = cc

nor : (o : Option ℕ) → IsSome o → o ≡ None → ⊥
nor o some none = true≢false (sym some ∙ ap is_some none)

pub returns-in-Some : goal.returns-in-Some
returns-in-Some g c = record {
  dead = λ some. (refl, (refl, refl));
  live = λ alive. absurd (neither c.args.self.now.failed c.in-Some.field-0 alive (subst (λ (k : Session). k.failed ≡ Some c.in-Some.field-0) c.self.view_is c.in-Some.is));
}

pub returns-in-None : goal.returns-in-None
returns-in-None g c = record {
  dead = λ some. absurd (nor c.args.self.now.failed some (subst (λ (k : Session). k.failed ≡ None) c.self.view_is c.in-None.is));
  live = λ alive. c.wait.ensures;
}
