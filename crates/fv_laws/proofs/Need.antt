-- What one stamp does to the blocks that reserves still need.
use Rattle.std.proofs.Common.{◌≡◌, ℕ, ◌+◌, ◌≤◌, Bool, true, false, cond, List, [], ◌∷◌, Some, sum_by, count_by, inl, inr, refl, sym, ap, subst, ◌∙◌, arith}
use Rattle.std.specs.Ordering.{eq_by_cmp, is_eq}
use Rattle.std.specs.Cmp.{Equal-is, tied_itself}
use Rattle.std.specs.FinMap as fin
use Rattle.std.specs.FinSet as set
use Rattle.std.proofs.lemmas.List.Sums.{sum_by-cons}
use Rattle.fv_model.specs.Places.{Place, place_cmp, Stamps, Ids}
use Rattle.fv_model.specs.Space.{needs_block}
use Rattle.fv_laws.proofs.Orders.{place_total, place_ties}
use Rattle.fv_laws.proofs.Ids.{takes, charged, charge_step}
use Rattle.fv_laws.proofs.Lists.{In}
use Rattle.fv_laws.proofs.SetCounts.{IsPart}

module _ {X : Type 0} where
  less_sum : (f g : X → ℕ) → ((x : X) → f x ≤ g x) → (xs : List X) → sum_by f xs ≤ sum_by g xs
  less_sum f g less [] = omega arith
  less_sum f g less (x ∷ xs) =
      let here : f x ≤ g x = less x in let rest = less_sum f g less xs in omega (arith, here, rest, sum_by-cons f x xs, sum_by-cons g x xs)

  -- where each term is no more, and one is less by d
  pub drops : (f g : X → ℕ) → ((x : X) → f x ≤ g x) → (y : X) (d : ℕ) → f y + d ≤ g y → (xs : List X) → In y xs → sum_by f xs + d ≤ sum_by g xs
  drops f g less y d at [] there = absurd there
  drops f g less y d at (x ∷ xs) (inl is) =
      let here : f x + d ≤ g x = subst (λ z. f z + d ≤ g z) (sym is) at in let rest = less_sum f g less xs in omega (arith, here, rest, sum_by-cons f x xs, sum_by-cons g x xs)
  drops f g less y d at (x ∷ xs) (inr there) =
      let here : f x ≤ g x = less x in let rest = drops f g less y d at xs there in omega (arith, here, rest, sum_by-cons f x xs, sum_by-cons g x xs)

one : Bool → ℕ
one b = cond b 1 0

needs_is : (shared : Ids) (m : Stamps) (p : Place) → needs_block shared m p ≡ takes shared p (fin.get m p)
unfolding needs_block
needs_is shared m p = refl

module _ (shared : Ids) (m : Stamps) (q : Place) (s : ℕ) where
  needs_after : (p : Place) (r : Bool) → eq_by_cmp place_cmp p q ≡ r → needs_block shared (fin.insert m q s) p ≡ takes shared p (cond r (Some s) (fin.get m p))
  needs_after p r e = needs_is shared (fin.insert m q s) p ∙ ap (takes shared p) (fin.get-insert place_total m q s p ∙ ap (λ b. cond b (Some s) (fin.get m p)) e)

  module _ (fresh : set.contains shared (q, s) ≡ false) where
    none_at : needs_block shared (fin.insert m q s) q ≡ false
    none_at = needs_after q true (ap is_eq (tied_itself place_total q)) ∙ fresh

    less_at : (p : Place) → cond (needs_block shared (fin.insert m q s) p) 1 0 ≤ cond (needs_block shared m p) 1 0
    less_at p = elim (eq_by_cmp place_cmp p q) as (λ b. eq_by_cmp place_cmp p q ≡ b → cond (needs_block shared (fin.insert m q s) p) 1 0 ≤ cond (needs_block shared m p) 1 0) [
      | true ↦ λ e. let same : p ≡ q = place_ties p q ((Equal-is (place_cmp p q)).0 e) in
          subst (λ z. cond (needs_block shared (fin.insert m q s) z) 1 0 ≤ cond (needs_block shared m z) 1 0) (sym same) (subst (λ b. cond b 1 0 ≤ cond (needs_block shared m q) 1 0) (sym none_at) (omega arith))
      | false ↦ λ e. subst (λ b. cond b 1 0 ≤ cond (needs_block shared m p) 1 0) (sym (needs_after p false e ∙ sym (needs_is shared m p))) (omega arith)
    ] refl

    drop_at : cond (needs_block shared (fin.insert m q s) q) 1 0 + cond (takes shared q (fin.get m q)) 1 0 ≤ cond (needs_block shared m q) 1 0
    drop_at = subst (λ b. cond b 1 0 + cond (takes shared q (fin.get m q)) 1 0 ≤ cond (needs_block shared m q) 1 0) (sym none_at) (subst (λ b. 0 + cond (takes shared q (fin.get m q)) 1 0 ≤ cond b 1 0) (sym (needs_is shared m q)) (omega arith))

-- all blocks that lists of places still need, one list for each entry
module _ {E : Type 0} (places : E → List Place) (shared : Ids) where
  abbrev pub needed : List E → Stamps → ℕ
  needed es m = sum_by (λ e. count_by (needs_block shared m) (places e)) es

  -- one stamp at a reserved place raises the charge by no more than the need falls
  pub both_step : (es : List E) (m : Stamps) (q : Place) (s : ℕ) (kept out : Ids) (e : E) → IsPart kept shared → IsPart out shared → set.contains shared (q, s) ≡ false → In e es → In q (places e) →
      set.len (charged (fin.insert m q s) kept out) + needed es (fin.insert m q s) ≤ set.len (charged m kept out) + needed es m
  both_step es m q s kept out e in_kept in_out fresh there within =
      let up = charge_step m q s kept out shared in_kept in_out fresh in
      let down = drops (λ e. count_by (needs_block shared (fin.insert m q s)) (places e)) (λ e. count_by (needs_block shared m) (places e))
      (λ e. less_sum (λ p. cond (needs_block shared (fin.insert m q s) p) 1 0) (λ p. cond (needs_block shared m p) 1 0) (less_at shared m q s fresh) (places e))
      e (cond (takes shared q (fin.get m q)) 1 0)
      (drops (λ p. cond (needs_block shared (fin.insert m q s) p) 1 0) (λ p. cond (needs_block shared m p) 1 0) (less_at shared m q s fresh) q (cond (takes shared q (fin.get m q)) 1 0) (drop_at shared m q s fresh) (places e) within)
      es there in
      omega (arith, up, down)
