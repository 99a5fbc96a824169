-- Lines that a loop notes for numbers in a row, and lines that are the same ones.
use Rattle.std.proofs.Common.{◌≡◌, ◌⊎◌, ℕ, Bool, true, false, ◌+◌, ◌<◌, ◌≤◌, List, [], ◌∷◌, ◌++◌, get_or, take, length, inl, inr, refl, sym, ap, subst, ◌∙◌, ⊎_elim}
use Rattle.std.specs.Prelude.{flat_map, ◌||◌}
use Rattle.std.specs.List.{list_any, range_with_len}
use Rattle.std.specs.Ordering.{eq_by_cmp}
use Rattle.std.proofs.lemmas.Grind.{flat_map-append}
use Rattle.std.proofs.lemmas.List.{append-nil, take_more, take_all}
use Rattle.fv_laws.proofs.SetCounts.{or_true}
use Rattle.fv_laws.proofs.Lists.{In, any_in, in_any}
use Rattle.fv_faults.specs.declared.fault.Fault.{Fault}
use Rattle.fv_faults.specs.declared.lines.Lines.{Lines}
use Rattle.fv_faults.specs.Adding.{Adds}
use Rattle.fv_faults.specs.Lines.{fault_cmp}
use Rattle.fv_faults.proofs.Adding.{adds_none, adds_then}
use Rattle.fv_faults.proofs.Ordered.{fault_ties, fault_total}
use Rattle.fv_first_pass.proofs.Ranges.{parts_more}

pub range_first : (f : ℕ → List Fault) (a : ℕ) (x : Lines) → Adds (flat_map f (range_with_len a 0)) x x
range_first f a x = adds_none x x refl

pub range_next : (f : ℕ → List Fault) (a n k : ℕ) (old mid new : Lines) → a + n ≡ k → Adds (flat_map f (range_with_len a n)) old mid → Adds (f k) mid new → Adds (flat_map f (range_with_len a (n + 1))) old new
range_next f a n k old mid new is first one =
    subst (λ ls. Adds ls old new) (sym (parts_more f a n k is)) (adds_then (flat_map f (range_with_len a n)) (f k) old mid new first one)

-- for each of a list, one by one
module _ {X : Type 0} (f : X → List Fault) (xs : List X) where
  pub each_first : (x : Lines) → Adds (flat_map f (take 0 xs)) x x
  each_first x = adds_none x x refl

  pub each_next : (k : ℕ) (d : X) (old mid new : Lines) → k < length xs → Adds (flat_map f (take k xs)) old mid → Adds (f (get_or xs k d)) mid new → Adds (flat_map f (take (k + 1) xs)) old new
  each_next k d old mid new low first one =
      subst (λ ls. Adds ls old new)
      (ap (λ ls. flat_map f (take k xs) ++ ls) (sym (append-nil (f (get_or xs k d)))) ∙ sym (flat_map-append f (take k xs) (get_or xs k d ∷ [])) ∙ ap (flat_map f) (sym (take_more xs k d low)))
      (adds_then (flat_map f (take k xs)) (f (get_or xs k d)) old mid new first one)

  pub each_all : (k : ℕ) (old new : Lines) → length xs ≤ k → Adds (flat_map f (take k xs)) old new → Adds (flat_map f xs) old new
  each_all k old new long adds = subst (λ ys. Adds (flat_map f ys) old new) (take_all k xs long) adds

-- ---- lines that two judges note along one walk

abbrev is_noted : List Fault → Fault → Bool
is_noted fs f = list_any (eq_by_cmp fault_cmp f) fs

-- those of the one, put to those of the other
pub all_added : (others : List Fault) (old new : Lines) → ((f : Fault) → is_noted new.lines.keys f ≡ (is_noted old.lines.keys f || is_noted others f)) → Adds others old new
all_added others old new union = record {
  each = λ f. (
    (λ there. ⊎_elim
        (λ was. inl (any_in fault_ties f old.lines.keys was))
        (λ is. inr (any_in fault_ties f others is))
        (either (is_noted old.lines.keys f) (is_noted others f) (sym (union f) ∙ in_any fault_total f new.lines.keys there))),
    λ there. any_in fault_ties f new.lines.keys (union f ∙ ⊎_elim
        (λ was. ap (λ b. b || is_noted others f) (in_any fault_total f old.lines.keys was))
        (λ is. ap (λ b. is_noted old.lines.keys f || b) (in_any fault_total f others is) ∙ or_true (is_noted old.lines.keys f))
        there),
  );
}
  where
    either : (a b : Bool) → (a || b) ≡ true → (a ≡ true) ⊎ (b ≡ true)
    either true b is = inl refl
    either false b is = inr is

-- what one of them noted, who had none before, once they are joined to others
pub taken : (xs : List Fault) (none mid old new : Lines) → none.lines.keys ≡ [] → Adds xs none mid → Adds mid.lines.keys old new → Adds xs old new
taken xs none mid old new empty adds joins = record {
  each = λ f. (
    (λ there. ⊎_elim
        (λ before. inl before)
        (λ one. ⊎_elim (λ was. absurd (subst (In f) empty was)) (λ is. inr is) ((adds.each f).0 one))
        ((joins.each f).0 there)),
    λ there. (joins.each f).1 (⊎_elim (λ before. inl before) (λ is. inr ((adds.each f).1 (inr is))) there),
  );
}
