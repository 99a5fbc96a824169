-- The sum over the entries of a map is the sum over the list that it was made of, where no key comes twice; and no two slots share a name.
use Rattle.std.proofs.Common.{◌≡◌, ◌≢◌, ℕ, ◌+◌, ◌<◌, Bool, true, false, cond, List, [], ◌∷◌, refl, rules, sym, ap, ◌∙◌, arith, Less, Equal, Greater}
use Rattle.std.specs.Prelude.{Option, Some, None, sum_by, not}
use Rattle.std.specs.List.{list_all, range_with_len}
use Rattle.std.specs.declared.cmp.Ordering.{Ordering}
use Rattle.std.specs.Ordering.{eq_by_cmp, is_eq}
use Rattle.std.specs.Cmp.{IsTotalOrder}
use Rattle.std.specs.Cmp.Rules.{comparing}
use Rattle.std.specs.FinMap as fin
use Rattle.std.specs.FinMap.{find, put}
use Rattle.std.specs.FinMap.Entries.{by_order}
use Rattle.std.proofs.lemmas.Bool.{not-true, both_ways}
use Rattle.std.proofs.lemmas.List.Sums.{sum_by-cons}
use Rattle.fv_model.specs.Spelling.{name_cmp}
use Rattle.fv_image.specs.Views.{slots}
use Rattle.fv_image.specs.Held.{Layout}
use Rattle.fv_image.specs.VolumeRules.{share_name, has_distinct_names}
use Rattle.fv_image.proofs.Kept.{at_number}
use Rattle.fv_image.proofs.Uses.{no_entries}

pub name_total : IsTotalOrder name_cmp
name_total = search (comparing, rules)

-- ---- sums over the entries of a map

module _ {K X : Type 0} (R : K → K → Ordering) (o : IsTotalOrder R) (number : X → ℕ) where
  abbrev pub value : K × X → ℕ
  value e = number e.1

  -- no key comes twice
  abbrev pub AllNew : List (K × X) → Type 0
  AllNew [] = Unit {0}
  AllNew (e ∷ es) = (find R e.0 es ≡ None) × AllNew es

  missing : (chosen : Bool) (x y : Option X) → cond chosen x y ≡ None → x ≢ None → (chosen ≡ false) × (y ≡ None)
  missing true x y e some = absurd (some e)
  missing false x y e some = (refl, e)

  sum_put : (k : K) (v : X) (es : List (K × X)) → find R k es ≡ None → sum_by value (put R k v es) ≡ number v + sum_by value es
  sum_put k v [] fresh = sum_by-cons value (k, v) []
  sum_put k v (e ∷ es) fresh =
      let parts : (eq_by_cmp R k e.0 ≡ false) × (find R k es ≡ None) = missing (eq_by_cmp R k e.0) (Some e.1) (find R k es) fresh (λ x. cc) in
      so parts.0 (sum_put k v es parts.1) (R k e.0) refl
    where
      so : eq_by_cmp R k e.0 ≡ false → sum_by value (put R k v es) ≡ number v + sum_by value es → (r : Ordering) → R k e.0 ≡ r → sum_by value (by_order r ((k, v) ∷ e ∷ es) ((e.0, v) ∷ es) (e ∷ put R k v es)) ≡ number v + sum_by value (e ∷ es)
      so other rest Less is = sum_by-cons value (k, v) (e ∷ es)
      so other rest Equal is = let same : eq_by_cmp R k e.0 ≡ true = ap is_eq is in absurd (both_ways _ other same)
      so other rest Greater is =
          let a : sum_by value (e ∷ put R k v es) ≡ value e + sum_by value (put R k v es) = sum_by-cons value e (put R k v es) in
          let c : sum_by value (e ∷ es) ≡ value e + sum_by value es = sum_by-cons value e es in
          omega (arith, a, rest, c)

  pub sum_of_entries : (es : List (K × X)) → AllNew es → sum_by value (fin.entries (fin.from_entries {R = R} es)) ≡ sum_by value es
  sum_of_entries [] new = ap (sum_by value) (no_entries R)
  sum_of_entries (e ∷ es) new =
      let rest : fin.FinMap R X = fin.from_entries es in
      let fresh : find R e.0 (fin.entries rest) ≡ None = sym (fin.get-entries rest e.0) ∙ fin.get-from_entries o es e.0 ∙ new.0 in
      ap (sum_by value) (fin.entries-insert o rest e.0 e.1) ∙ sum_put e.0 e.1 (fin.entries rest) fresh
      ∙ ap (λ (n : ℕ). number e.1 + n) (sum_of_entries es new.1) ∙ sym (sum_by-cons value e es)

-- ---- the names of volumes

-- no two slots share a name
pub apart_in : (y : Layout) → has_distinct_names y ≡ true → (s t : ℕ) → s < t → t < 64 → share_name (y.view.head s) (y.view.head t) ≡ false
unfolding has_distinct_names slots
apart_in y distinct s t order small =
    let at : list_all (λ earlier. not (share_name (y.view.head earlier) (y.view.head t))) (range_with_len 0 t) ≡ true =
    at_number (λ t. list_all (λ earlier. not (share_name (y.view.head earlier) (y.view.head t))) (range_with_len 0 t)) 0 64 t distinct (omega arith) (omega (arith, small)) in
    not-true _ (at_number (λ earlier. not (share_name (y.view.head earlier) (y.view.head t))) 0 t s at (omega arith) (omega (arith, order)))
