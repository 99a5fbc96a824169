-- What is chosen is enough for what is missing, or it is all that there is.
use Rattle.std.proofs.Common.{◌≡◌, ◌⊎◌, ℕ, ◌+◌, ◌<◌, ◌≤◌, Bool, true, false, cond, not, ◌&&◌, ◌||◌, List, [], ◌∷◌, ◌++◌, filter, sum_by, refl, ap, ◌∙◌, inl, inr, arith}
use Rattle.std.specs.Prelude.{nat_lt}
use Rattle.std.specs.List.{list_all}
use Rattle.std.proofs.lemmas.Bool.Decides.{nat_tests}
use Rattle.std.proofs.lemmas.List.Sums.{sum_by-append, sum_by-cons}
use Rattle.fv_delay.specs.declared.counts.Count.{Count}
use Rattle.fv_delay.specs.Choice.{chosen, comes_before, full_count, in_order, is_full, is_partial, not_chosen, once_enough, partial, placed, total, while_short}
use Rattle.fv_delay.proofs.Sorting.{sum_in_order}

-- ---- sums

short_parts : (f : Count → ℕ) (taken missing : ℕ) (cs : List Count) → sum_by f (while_short taken missing cs) + sum_by f (once_enough taken missing cs) ≡ sum_by f cs
unfolding while_short once_enough
short_parts f taken missing [] = refl
short_parts f taken missing (c ∷ cs) = so (nat_lt taken missing) (short_parts f (taken + c.count) missing cs)
  where
    so : (t : Bool) → sum_by f (while_short (taken + c.count) missing cs) + sum_by f (once_enough (taken + c.count) missing cs) ≡ sum_by f cs
        → sum_by f (cond t (c ∷ while_short (taken + c.count) missing cs) []) + sum_by f (cond t (once_enough (taken + c.count) missing cs) (c ∷ cs)) ≡ sum_by f (c ∷ cs)
    so true rest = omega (arith, sum_by-cons f c (while_short (taken + c.count) missing cs), sum_by-cons f c cs, rest)
    so false rest = omega arith

-- a count is full, has fewer, or is none
kinds : (f : Count → ℕ) → ((c : Count) → c.count ≡ 0 → f c ≡ 0) → (counts : List Count) → sum_by f (filter is_full counts) + sum_by f (filter is_partial counts) ≡ sum_by f counts
kinds f none [] = refl
kinds f none (c ∷ cs) = so (is_full c) (is_partial c) refl refl (kinds f none cs)
  where
    so : (s t : Bool) → is_full c ≡ s → is_partial c ≡ t → sum_by f (filter is_full cs) + sum_by f (filter is_partial cs) ≡ sum_by f cs
        → sum_by f (cond s (c ∷ filter is_full cs) (filter is_full cs)) + sum_by f (cond t (c ∷ filter is_partial cs) (filter is_partial cs)) ≡ sum_by f (c ∷ cs)
    so true true e g rest = absurd (let high : 64 ≤ c.count = grind (arith, nat_tests, e) in let low : c.count < 64 = grind (arith, nat_tests, g) in omega (arith, high, low))
    so true false e g rest = omega (arith, sum_by-cons f c (filter is_full cs), sum_by-cons f c cs, rest)
    so false true e g rest = omega (arith, sum_by-cons f c (filter is_partial cs), sum_by-cons f c cs, rest)
    so false false e g rest =
        let zero_is : c.count ≡ 0 = grind (arith, nat_tests, e, g) in
        omega (arith, sum_by-cons f c cs, rest, none c zero_is)

-- A number of each region that is 0 where none is delayed, summed over those that are chosen and those that aren't, is the sum over all.
pub sum_parts : (f : Count → ℕ) → ((c : Count) → c.count ≡ 0 → f c ≡ 0) → (counts : List Count) (missing : ℕ) → sum_by f (chosen counts missing) + sum_by f (not_chosen counts missing) ≡ sum_by f counts
unfolding chosen not_chosen
sum_parts f none counts missing =
    let full = filter is_full counts in
    let both = sum_by-append f full (while_short (total full) missing (partial counts)) in
    let parts = short_parts f (total full) missing (partial counts) in
    let moved = sum_in_order f (filter is_partial counts) in
    omega (arith, both, parts, moved, kinds f none counts)

-- ---- enough

short_enough : (taken missing : ℕ) (cs : List Count) → (missing ≤ taken + total (while_short taken missing cs)) ⊎ (once_enough taken missing cs ≡ [])
unfolding while_short once_enough
short_enough taken missing [] = inr refl
short_enough taken missing (c ∷ cs) = so (nat_lt taken missing) refl (short_enough (taken + c.count) missing cs)
  where
    so : (t : Bool) → nat_lt taken missing ≡ t
        → (missing ≤ (taken + c.count) + total (while_short (taken + c.count) missing cs)) ⊎ (once_enough (taken + c.count) missing cs ≡ [])
        → (missing ≤ taken + total (cond t (c ∷ while_short (taken + c.count) missing cs) [])) ⊎ (cond t (once_enough (taken + c.count) missing cs) (c ∷ cs) ≡ [])
    so true e rest = elim rest [
      | inl le ↦ inl (omega (arith, le, sum_by-cons (λ (k : Count). k.count) c (while_short (taken + c.count) missing cs)))
      | inr is ↦ inr is
    ]
    so false e rest = inl (let le : missing ≤ taken = grind (arith, nat_tests, e) in omega (arith, le))

-- The counts of what is chosen reach what is missing, or no region with delayed entries is left.
pub chosen_enough : (counts : List Count) (missing : ℕ) → (missing ≤ total (chosen counts missing)) ⊎ (not_chosen counts missing ≡ [])
unfolding chosen not_chosen
chosen_enough counts missing =
    let full = filter is_full counts in
    elim (short_enough (total full) missing (partial counts)) [
      | inl le ↦ inl (omega (arith, le, sum_by-append (λ (c : Count). c.count) full (while_short (total full) missing (partial counts))))
      | inr is ↦ inr is
    ]

lesser : (f g : Count → ℕ) → ((c : Count) → f c ≤ g c) → (cs : List Count) → sum_by f cs ≤ sum_by g cs
lesser f g each [] = omega arith
lesser f g each (c ∷ cs) = omega (arith, sum_by-cons f c cs, sum_by-cons g c cs, each c, lesser f g each cs)

-- Where the chosen regions have none afterwards and no other has more than before, so many fewer are left in all; and where that isn't what
-- was missing, none is.
pub after_chosen : (after : Count → ℕ) → ((c : Count) → after c ≤ c.count) → (counts : List Count) (missing : ℕ) → sum_by after (chosen counts missing) ≡ 0
    → (sum_by after counts + total (chosen counts missing) ≤ total counts) × ((missing ≤ total (chosen counts missing)) ⊎ (sum_by after counts ≡ 0))
after_chosen after fewer counts missing none =
    let of_after = sum_parts after (λ c is. omega (arith, fewer c, is)) counts missing in
    let of_count = sum_parts (λ (c : Count). c.count) (λ c is. is) counts missing in
    let rest = lesser after (λ (c : Count). c.count) fewer (not_chosen counts missing) in (
      omega (arith, of_after, of_count, rest, none),
      elim (chosen_enough counts missing) [
        | inl le ↦ inl le
        | inr is ↦ inr (let empty : sum_by after (not_chosen counts missing) ≡ 0 = ap (sum_by after) is in omega (arith, of_after, none, empty))
      ],
    )

-- ---- what is chosen

both : (s t : Bool) → s ≡ true → t ≡ true → (s && t) ≡ true
both true true e f = refl
both true false e f = f
both false t e f = e

left_of : (s t : Bool) → (s && t) ≡ true → s ≡ true
left_of true t e = refl
left_of false t e = e

right_of : (s t : Bool) → (s && t) ≡ true → t ≡ true
right_of true t e = e
right_of false true e = refl
right_of false false e = e

module _ (p : Count → Bool) where
  all_append : (cs ds : List Count) → list_all p cs ≡ true → list_all p ds ≡ true → list_all p (cs ++ ds) ≡ true
  all_append [] ds first second = second
  all_append (c ∷ cs) ds first second =
      both (p c) (list_all p (cs ++ ds)) (left_of (p c) (list_all p cs) first) (all_append cs ds (right_of (p c) (list_all p cs) first) second)

  all_placed : (c : Count) (cs : List Count) → p c ≡ true → list_all p cs ≡ true → list_all p (placed c cs) ≡ true
  all_placed c [] one rest = both (p c) true one refl
  all_placed c (d ∷ ds) one rest = so (comes_before d c) (all_placed c ds one (right_of (p d) (list_all p ds) rest))
    where
      so : (t : Bool) → list_all p (placed c ds) ≡ true → list_all p (cond t (d ∷ placed c ds) (c ∷ (d ∷ ds))) ≡ true
      so true behind = both (p d) (list_all p (placed c ds)) (left_of (p d) (list_all p ds) rest) behind
      so false behind = both (p c) (list_all p (d ∷ ds)) one rest

  all_in_order : (cs : List Count) → list_all p cs ≡ true → list_all p (in_order cs) ≡ true
  all_in_order [] all = refl
  all_in_order (c ∷ cs) all = all_placed c (in_order cs) (left_of (p c) (list_all p cs) all) (all_in_order cs (right_of (p c) (list_all p cs) all))

  all_short : (taken missing : ℕ) (cs : List Count) → list_all p cs ≡ true → list_all p (while_short taken missing cs) ≡ true
  unfolding while_short
  all_short taken missing [] all = refl
  all_short taken missing (c ∷ cs) all = so (nat_lt taken missing) (all_short (taken + c.count) missing cs (right_of (p c) (list_all p cs) all))
    where
      so : (t : Bool) → list_all p (while_short (taken + c.count) missing cs) ≡ true → list_all p (cond t (c ∷ while_short (taken + c.count) missing cs) []) ≡ true
      so true rest = both (p c) (list_all p (while_short (taken + c.count) missing cs)) (left_of (p c) (list_all p cs) all) rest
      so false rest = refl

  -- what each of a row passes, with a test of one's own that those of a filter pass
  all_filtered : (q : Count → Bool) → ((c : Count) → q c ≡ true → nat_lt 0 c.count ≡ true) → (r : Count → Bool) → ((c : Count) → p c ≡ (r c && nat_lt 0 c.count)) → (cs : List Count) → list_all r cs ≡ true → list_all p (filter q cs) ≡ true
  all_filtered q some r is [] all = refl
  all_filtered q some r is (c ∷ cs) all = so (q c) refl (all_filtered q some r is cs (right_of (r c) (list_all r cs) all))
    where
      so : (t : Bool) → q c ≡ t → list_all p (filter q cs) ≡ true → list_all p (cond t (c ∷ filter q cs) (filter q cs)) ≡ true
      so true e rest = both (p c) (list_all p (filter q cs)) (is c ∙ both (r c) (nat_lt 0 c.count) (left_of (r c) (list_all r cs) all) (some c e)) rest
      so false e rest = rest

-- Each chosen region is one of those that were counted, and has delayed entries.
pub each_chosen : (p : Count → Bool) (counts : List Count) (missing : ℕ) → list_all p counts ≡ true → list_all (λ c. p c && nat_lt 0 c.count) (chosen counts missing) ≡ true
unfolding chosen
each_chosen p counts missing all =
    let q : Count → Bool = λ c. p c && nat_lt 0 c.count in
    let full = filter is_full counts in
    all_append q full (while_short (total full) missing (partial counts))
    (all_filtered q is_full (λ c is. grind (arith, nat_tests, is)) p (λ c. refl) counts all)
    (all_short q (total full) missing (partial counts)
    (all_in_order q (filter is_partial counts) (all_filtered q is_partial (λ c is. left_of (nat_lt 0 c.count) (nat_lt c.count full_count) is) p (λ c. refl) counts all)))

-- Each region with at least 64 delayed entries is chosen.
pub full_chosen : (p : Count → Bool) (counts : List Count) (missing : ℕ) → list_all p (chosen counts missing) ≡ true → list_all (λ c. not (is_full c) || p c) counts ≡ true
unfolding chosen
full_chosen p counts missing all = passed counts (front (filter is_full counts) (while_short (total (filter is_full counts)) missing (partial counts)) all)
  where
    front : (cs ds : List Count) → list_all p (cs ++ ds) ≡ true → list_all p cs ≡ true
    front [] ds is = refl
    front (c ∷ cs) ds is = both (p c) (list_all p cs) (left_of (p c) (list_all p (cs ++ ds)) is) (front cs ds (right_of (p c) (list_all p (cs ++ ds)) is))

    passed : (cs : List Count) → list_all p (filter is_full cs) ≡ true → list_all (λ c. not (is_full c) || p c) cs ≡ true
    passed [] is = refl
    passed (c ∷ cs) is = so (is_full c) is (passed cs)
      where
        so : (t : Bool) → list_all p (cond t (c ∷ filter is_full cs) (filter is_full cs)) ≡ true → (list_all p (filter is_full cs) ≡ true → list_all (λ c. not (is_full c) || p c) cs ≡ true)
            → ((not t || p c) && list_all (λ c. not (is_full c) || p c) cs) ≡ true
        so true all rest = both (p c) (list_all (λ c. not (is_full c) || p c) cs) (left_of (p c) (list_all p (filter is_full cs)) all) (rest (right_of (p c) (list_all p (filter is_full cs)) all))
        so false all rest = rest all
