-- The order in which partial regions are taken, of a row in the order of slots and numbers: level after level.
use Rattle.std.proofs.Common.{◌≡◌, ℕ, zero, suc, ◌<◌, ◌≤◌, Bool, true, false, cond, not, ◌==◌, List, [], ◌∷◌, ◌++◌, filter, refl, sym, ap, ap₂, ◌∙◌, arith}
use Rattle.std.specs.Prelude.{nat_lt}
use Rattle.std.specs.List.{list_all}
use Rattle.std.specs.declared.cmp.Ordering.TheVariants.{Less, Equal, Greater}
use Rattle.std.specs.Ordering.{is_lt, nat_cmp, ordering_then}
use Rattle.std.proofs.lemmas.Bool.{and_from, and_parts, true≢false}
use Rattle.std.specs.Cmp.{IsStrictWeakOrder}
use Rattle.std.proofs.lemmas.Cmp.{nat_cmp_total, on_total, then_total}
use Rattle.std.proofs.lemmas.List.MinMax.{ranks_by}
use Rattle.std.proofs.lemmas.Bool.Decides.{nat_tests}
use Rattle.std.proofs.lemmas.List.Folds.{list_all-append}
use Rattle.fv_delay.specs.declared.counts.Count.{Count}
use Rattle.fv_delay.specs.Choice.{comes_before, in_order, is_partial, partial, placed}
use Rattle.fv_delay.specs.ByThreshold.{ascends, is_before, level}

-- the regions with `n` delayed entries, then those with one fewer, and so on
unfoldable pub levels : ℕ → List Count → List Count
levels zero cs = []
levels (suc n) cs = level (suc n) cs ++ levels n cs

-- ---- which of two comes first

-- how two counts compare whose tests are known
by_tests : (c d : Count) (s t : Bool) → nat_lt c.count d.count ≡ s → (c.count == d.count) ≡ t
    → comes_before d c ≡ is_lt (ordering_then (ordering_then (cond s Less (cond t Equal Greater)) (nat_cmp d.slot c.slot)) (nat_cmp d.region c.region))
by_tests c d s t e f =
    ap₂ (λ (s t : Bool). is_lt (ordering_then (ordering_then (cond s Less (cond t Equal Greater)) (nat_cmp d.slot c.slot)) (nat_cmp d.region c.region))) e f

-- one with more comes first
more_first : (c d : Count) → c.count < d.count → comes_before d c ≡ true
more_first c d lt =
    let test : nat_lt c.count d.count ≡ true = grind (arith, nat_tests, lt) in
    by_tests c d true (c.count == d.count) test refl

-- the order of slots and numbers
place_weak : IsStrictWeakOrder is_before
place_weak = ranks_by (then_total (on_total (λ (c : Count). c.slot) nat_cmp_total) (on_total (λ (c : Count). c.region) nat_cmp_total)) (λ (c : Count). c)

-- one with no more that is behind another doesn't come first
fewer_later : (c d : Count) → d.count ≤ c.count → is_before c d ≡ true → not (comes_before d c) ≡ true
fewer_later c d le first = so (c.count == d.count) refl
  where
    test : nat_lt c.count d.count ≡ false
    test = grind (arith, nat_tests, le)

    so : (t : Bool) → (c.count == d.count) ≡ t → not (comes_before d c) ≡ true
    so true e = ap not (by_tests c d false true test e ∙ place_weak.one_way c d first)
    so false e = ap not (by_tests c d false false test e)

-- ---- a count put into a row

-- in front of a row of which none comes first
placed_first : (c : Count) (xs : List Count) → list_all (λ d. not (comes_before d c)) xs ≡ true → placed c xs ≡ c ∷ xs
placed_first c [] all = refl
placed_first c (d ∷ ds) all = so (comes_before d c) (and_parts _ _ all).0
  where
    so : (t : Bool) → not t ≡ true → cond t (d ∷ placed c ds) (c ∷ (d ∷ ds)) ≡ c ∷ (d ∷ ds)
    so true e = absurd (true≢false (sym e))
    so false e = refl

-- behind those that all come first
placed_past : (c : Count) (es xs : List Count) → list_all (λ d. comes_before d c) es ≡ true → placed c (es ++ xs) ≡ es ++ placed c xs
placed_past c [] xs all = refl
placed_past c (e ∷ es) xs all =
    let parts = and_parts (comes_before e c) (list_all (λ d. comes_before d c) es) all in
    ap (λ (t : Bool). cond t (e ∷ placed c (es ++ xs)) (c ∷ (e ∷ (es ++ xs)))) parts.0 ∙ ap (λ (rest : List Count). e ∷ rest) (placed_past c es xs parts.1)

-- ---- levels

-- all of a level come before one with fewer
level_first : (c : Count) (n : ℕ) (cs : List Count) → c.count < n → list_all (λ d. comes_before d c) (level n cs) ≡ true
level_first c n [] lt = refl
level_first c n (d ∷ ds) lt = so (d.count == n) refl (level_first c n ds lt)
  where
    so : (t : Bool) → (d.count == n) ≡ t → list_all (λ d. comes_before d c) (level n ds) ≡ true → list_all (λ d. comes_before d c) (cond t (d ∷ level n ds) (level n ds)) ≡ true
    so true e rest =
        let same : d.count ≡ n = grind (arith, nat_tests, e) in
        and_from (comes_before d c) (list_all (λ d. comes_before d c) (level n ds)) (more_first c d (omega (arith, lt, same))) rest
    so false e rest = rest

-- none of a level comes before one with as many that stands in front of all
level_later : (c : Count) (n : ℕ) (cs : List Count) → n ≤ c.count → list_all (λ d. is_before c d) cs ≡ true → list_all (λ d. not (comes_before d c)) (level n cs) ≡ true
level_later c n [] le all = refl
level_later c n (d ∷ ds) le all = so (d.count == n) refl (level_later c n ds le parts.1)
  where
    parts : (is_before c d ≡ true) × (list_all (λ d. is_before c d) ds ≡ true)
    parts = and_parts (is_before c d) (list_all (λ d. is_before c d) ds) all

    so : (t : Bool) → (d.count == n) ≡ t → list_all (λ d. not (comes_before d c)) (level n ds) ≡ true → list_all (λ d. not (comes_before d c)) (cond t (d ∷ level n ds) (level n ds)) ≡ true
    so true e rest =
        let same : d.count ≡ n = grind (arith, nat_tests, e) in
        and_from (not (comes_before d c)) (list_all (λ d. not (comes_before d c)) (level n ds)) (fewer_later c d (omega (arith, le, same)) parts.0) rest
    so false e rest = rest

-- nor one of the levels below
levels_later : (c : Count) (n : ℕ) (cs : List Count) → n ≤ c.count → list_all (λ d. is_before c d) cs ≡ true → list_all (λ d. not (comes_before d c)) (levels n cs) ≡ true
unfolding levels
levels_later c zero cs le all = refl
levels_later c (suc n) cs le all =
    list_all-append (λ d. not (comes_before d c)) (level (suc n) cs) (levels n cs)
    ∙ and_from (list_all (λ d. not (comes_before d c)) (level (suc n) cs)) (list_all (λ d. not (comes_before d c)) (levels n cs)) (level_later c (suc n) cs le all) (levels_later c n cs (omega (arith, le)) all)

-- levels without a count aren't changed by it
levels_without : (c : Count) (n : ℕ) (cs : List Count) → ((k : ℕ) → k < n → (c.count == suc k) ≡ false) → levels n (c ∷ cs) ≡ levels n cs
unfolding levels
levels_without c zero cs none = refl
levels_without c (suc n) cs none =
    ap (λ (t : Bool). cond t (c ∷ level (suc n) cs) (level (suc n) cs) ++ levels n (c ∷ cs)) (none n (omega arith))
    ∙ ap (λ (rest : List Count). level (suc n) cs ++ rest) (levels_without c n cs (λ k lt. none k (omega (arith, lt))))

-- one that stands in front of all is put where its level begins
placed_levels : (c : Count) (n : ℕ) (cs : List Count) → list_all (λ d. is_before c d) cs ≡ true → 1 ≤ c.count → c.count ≤ n → placed c (levels n cs) ≡ levels n (c ∷ cs)
unfolding levels
placed_levels c zero cs all some most = absurd (omega (arith, some, most))
placed_levels c (suc n) cs all some most = so (c.count == suc n) refl (λ below. placed_levels c n cs all some below)
  where
    so : (t : Bool) → (c.count == suc n) ≡ t → (c.count ≤ n → placed c (levels n cs) ≡ levels n (c ∷ cs)) → placed c (level (suc n) cs ++ levels n cs) ≡ cond t (c ∷ level (suc n) cs) (level (suc n) cs) ++ levels n (c ∷ cs)
    so true e rest =
        let same : c.count ≡ suc n = grind (arith, nat_tests, e) in
        placed_first c (level (suc n) cs ++ levels n cs) (levels_later c (suc n) cs (omega (arith, same)) all)
        ∙ ap (λ (rest : List Count). c ∷ (level (suc n) cs ++ rest)) (sym (levels_without c n cs (λ k lt. (let other : suc k < c.count = omega (arith, lt, same) in grind (arith, nat_tests, other)))))
    so false e rest =
        let other : c.count ≤ n = (let below : c.count < suc n = grind (arith, nat_tests, e, most) in omega (arith, below)) in
        placed_past c (level (suc n) cs) (levels n cs) (level_first c (suc n) cs (omega (arith, other)))
        ∙ ap (λ (rest : List Count). level (suc n) cs ++ rest) (rest other)

-- ---- the order

-- an empty row has none
no_levels : (n : ℕ) → [] ≡ levels n []
unfolding levels
no_levels zero = refl
no_levels (suc n) = no_levels n

-- The partial regions of a row in the order of slots and numbers are taken level after level.
pub partial_levels : (cs : List Count) → ascends cs ≡ true → partial cs ≡ levels 63 cs
partial_levels [] up = no_levels 63
partial_levels (c ∷ cs) up = so (is_partial c) refl (partial_levels cs parts.1)
  where
    parts : (list_all (λ d. is_before c d) cs ≡ true) × (ascends cs ≡ true)
    parts = and_parts (list_all (λ d. is_before c d) cs) (ascends cs) up

    so : (t : Bool) → is_partial c ≡ t → in_order (filter is_partial cs) ≡ levels 63 cs → in_order (cond t (c ∷ filter is_partial cs) (filter is_partial cs)) ≡ levels 63 (c ∷ cs)
    so true e rest =
        let both = and_parts (nat_lt 0 c.count) (nat_lt c.count 64) e in
        let some : 1 ≤ c.count = (let test = both.0 in grind (arith, nat_tests, test)) in
        let most : c.count ≤ 63 = (let test = both.1 in grind (arith, nat_tests, test)) in
        ap (placed c) rest ∙ placed_levels c 63 cs parts.0 some most
    so false e rest = rest ∙ sym (levels_without c 63 cs (λ k lt. other k lt))
      where
        other : (k : ℕ) → k < 63 → (c.count == suc k) ≡ false
        other k lt = of (c.count == suc k) refl
          where
            of : (t : Bool) → (c.count == suc k) ≡ t → t ≡ false
            of true is =
                let same : c.count ≡ suc k = grind (arith, nat_tests, is) in
                let some : 1 ≤ c.count = omega (arith, same) in
                let most : c.count < 64 = omega (arith, same, lt) in
                let first : nat_lt 0 c.count ≡ true = grind (arith, nat_tests, some) in
                let second : nat_lt c.count 64 ≡ true = grind (arith, nat_tests, most) in
                absurd (true≢false (sym (and_from (nat_lt 0 c.count) (nat_lt c.count 64) first second) ∙ e))
            of false is = refl
