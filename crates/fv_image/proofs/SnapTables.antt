-- What a list of snapshots tells, each with its table under its name.
use Rattle.std.proofs.Common.{◌≡◌, ℕ, ◌+◌, Bool, true, false, cond, not, List, [], ◌∷◌, length, map, refl, sym, ap, ◌∙◌, arith}
use Rattle.std.specs.Prelude.{Option, Some, None, ◌||◌, is_some, nat_lt, if◌then◌else◌}
use Rattle.std.specs.List.{list_any}
use Rattle.std.specs.Ordering.{eq_by_cmp}
use Rattle.std.specs.FinMap as fin
use Rattle.std.specs.FinMap.{find}
use Rattle.std.proofs.lemmas.Bool.{and_parts, both_ways, not-true, or_parts}
use Rattle.fv_model.specs.Spelling.{name_cmp, is_same_name}
use Rattle.fv_model.specs.Tables.{Table}
use Rattle.fv_laws.proofs.Changes.{same_name}
use Rattle.fv_laws.proofs.Orders.{name_total, name_ties}
use Rattle.fv_image.specs.Views.{Snap}
use Rattle.fv_image.specs.ReachRules.{are_distinct}
use Rattle.fv_image.specs.Turned.{added, without}

-- two tests that don't pass together come in either order
pub either : {X : Type 0} (p q : Bool) (b c d : X) → (p ≡ true → q ≡ true → ⊥) → cond p b (cond q c d) ≡ cond q c (cond p b d)
either true true b c d apart = absurd (apart refl refl)
either true false b c d apart = refl
either false true b c d apart = refl
either false false b c d apart = refl

module _ (table : Snap → Table) where
  abbrev told : Snap → List ℕ × Table
  told p = (p.name, table p)

  -- no snapshot of a list has a name that stands before it
  pub no_other : (name : List ℕ) (ps : List Snap) → list_any (is_same_name name) (map (λ p. p.name) ps) ≡ false → find name_cmp name (map told ps) ≡ None
  no_other name [] none = refl
  no_other name (p ∷ ps) none = so (no_other name ps) (is_same_name name p.name) refl none
    where
      so : (list_any (is_same_name name) (map (λ p. p.name) ps) ≡ false → find name_cmp name (map told ps) ≡ None) → (here : Bool) → is_same_name name p.name ≡ here → (here || list_any (is_same_name name) (map (λ p. p.name) ps)) ≡ false
          → cond (is_same_name name p.name) (Some (table p)) (find name_cmp name (map told ps)) ≡ None
      so rest true e none = absurd cc
      so rest false e none = rw e (rest none)

  -- as many snapshots are told as there are, where no two have one name
  pub count_told : (ps : List Snap) → are_distinct (map (λ p. p.name) ps) ≡ true → fin.len (fin.from_entries {R = name_cmp} (map told ps)) ≡ length ps
  count_told [] distinct = fin.len-empty name_cmp Table
  count_told (p ∷ ps) distinct =
      let parts = and_parts (not (list_any (is_same_name p.name) (map (λ p. p.name) ps))) _ distinct in
      let rest = count_told ps parts.1 in
      let m = fin.from_entries {R = name_cmp} (map told ps) in
      let none : fin.get m p.name ≡ None = fin.get-from_entries name_total (map told ps) p.name ∙ no_other p.name ps (not-true _ parts.0) in
      fin.len-insert name_total m p.name (table p) ∙ ap (λ (o : Option Table). cond (is_some o) (fin.len m) (fin.len m + 1)) none ∙ omega (arith, rest)

  -- two names that differ aren't one name
  apart : (p q n : List ℕ) → is_same_name p q ≡ false → eq_by_cmp name_cmp n q ≡ true → eq_by_cmp name_cmp n p ≡ true → ⊥
  apart p q n differ first second = both_ways (is_same_name p q) differ (ap (λ (m : List ℕ). is_same_name m q) (sym (same_name n p second)) ∙ first)

  find_added : (p : Snap) (ps : List Snap) → list_any (is_same_name p.name) (map (λ p. p.name) ps) ≡ false → (n : List ℕ)
      → fin.find name_cmp n (map told (added p ps)) ≡ cond (eq_by_cmp name_cmp n p.name) (Some (table p)) (fin.find name_cmp n (map told ps))
  unfolding added
  find_added p [] none n = refl
  find_added p (q ∷ qs) none n = so (nat_lt p.slot q.slot) (or_parts (is_same_name p.name q.name) _ none) (λ f. find_added p qs f n)
    where
      so : (first : Bool) → (is_same_name p.name q.name ≡ false) × (list_any (is_same_name p.name) (map (λ p. p.name) qs) ≡ false)
          → (list_any (is_same_name p.name) (map (λ p. p.name) qs) ≡ false → fin.find name_cmp n (map told (added p qs)) ≡ cond (eq_by_cmp name_cmp n p.name) (Some (table p)) (fin.find name_cmp n (map told qs)))
          → fin.find name_cmp n (map told (if first then p ∷ (q ∷ qs) else q ∷ added p qs)) ≡ cond (eq_by_cmp name_cmp n p.name) (Some (table p)) (fin.find name_cmp n (map told (q ∷ qs)))
      so true parts rest = refl
      so false parts rest = ap (λ (o : Option Table). cond (eq_by_cmp name_cmp n q.name) (Some (table q)) o) (rest parts.1)
          ∙ either (eq_by_cmp name_cmp n q.name) (eq_by_cmp name_cmp n p.name) (Some (table q)) (Some (table p)) (fin.find name_cmp n (map told qs)) (apart p.name q.name n parts.0)

  -- One more is told under its name,
  pub told_added : (p : Snap) (ps : List Snap) → list_any (is_same_name p.name) (map (λ p. p.name) ps) ≡ false
      → fin.from_entries {R = name_cmp} (map told (added p ps)) ≡ fin.insert (fin.from_entries {R = name_cmp} (map told ps)) p.name (table p)
  told_added p ps none = fin.same_map name_total name_ties _ _ (λ n.
      fin.get-from_entries name_total (map told (added p ps)) n ∙ find_added p ps none n
      ∙ sym (fin.get-insert name_total (fin.from_entries {R = name_cmp} (map told ps)) p.name (table p) n
      ∙ ap (λ (o : Option Table). cond (eq_by_cmp name_cmp n p.name) (Some (table p)) o) (fin.get-from_entries name_total (map told ps) n)))

  find_without : (name : List ℕ) (ps : List Snap) (n : List ℕ)
      → fin.find name_cmp n (map told (without name ps)) ≡ cond (eq_by_cmp name_cmp n name) None (fin.find name_cmp n (map told ps))
  find_without name [] n = never (eq_by_cmp name_cmp n name)
    where
      never : (b : Bool) → ◌≡◌ {A = Option Table} None (cond b None None)
      never true = refl
      never false = refl
  find_without name (p ∷ ps) n = so (is_same_name p.name name) refl (find_without name ps n)
    where
      gone : (b c : Bool) (o : Option Table) → (c ≡ true → b ≡ true) → cond b None o ≡ cond b None (cond c (Some (table p)) o)
      gone true c o both = refl
      gone false true o both = absurd (both_ways false refl (both refl))
      gone false false o both = refl

      so : (same : Bool) → is_same_name p.name name ≡ same → fin.find name_cmp n (map told (without name ps)) ≡ cond (eq_by_cmp name_cmp n name) None (fin.find name_cmp n (map told ps))
          → fin.find name_cmp n (map told (cond (not same) (p ∷ without name ps) (without name ps))) ≡ cond (eq_by_cmp name_cmp n name) None (fin.find name_cmp n (map told (p ∷ ps)))
      so true is rest = rest ∙ gone (eq_by_cmp name_cmp n name) (eq_by_cmp name_cmp n p.name) (fin.find name_cmp n (map told ps))
          (λ here. ap (λ (m : List ℕ). eq_by_cmp name_cmp m name) (same_name n p.name here) ∙ is)
      so false is rest = ap (λ (o : Option Table). cond (eq_by_cmp name_cmp n p.name) (Some (table p)) o) rest
          ∙ either (eq_by_cmp name_cmp n p.name) (eq_by_cmp name_cmp n name) (Some (table p)) None (fin.find name_cmp n (map told ps))
          (λ first second. apart p.name name n is second first)

  -- and without one its name is gone.
  pub told_without : (name : List ℕ) (ps : List Snap)
      → fin.from_entries {R = name_cmp} (map told (without name ps)) ≡ fin.remove (fin.from_entries {R = name_cmp} (map told ps)) name
  told_without name ps = fin.same_map name_total name_ties _ _ (λ n.
      fin.get-from_entries name_total (map told (without name ps)) n ∙ find_without name ps n
      ∙ sym (fin.get-remove name_total (fin.from_entries {R = name_cmp} (map told ps)) name n
      ∙ ap (λ (o : Option Table). cond (eq_by_cmp name_cmp n name) None o) (fin.get-from_entries name_total (map told ps) n)))
