-- What a threshold takes of a whole row, told by the row's sums.
use Rattle.std.proofs.Common.{◌≡◌, ℕ, zero, suc, ◌-◌, ◌<◌, ◌≤◌, Bool, true, false, cond, ◌&&◌, ◌||◌, ◌==◌, List, [], ◌∷◌, filter, get_or, length, min, sym, refl, ap, ap₂, ◌∙◌, ⊎_elim, arith}
use Rattle.std.specs.Prelude.{nat_lt, nat_le}
use Rattle.std.specs.List.{list_all, list_any}
use Rattle.std.proofs.lemmas.Bool.{and_from, and_parts, and_right, or_cases, or_from, or_left, or_parts, or_right}
use Rattle.std.proofs.lemmas.Bool.Decides.{nat_tests}
use Rattle.std.proofs.lemmas.List.Sums.{sum_by-cons}
use Rattle.fv_delay.specs.declared.counts.Count.{Count}
use Rattle.fv_delay.specs.declared.threshold.Table.{Table}
use Rattle.fv_delay.specs.declared.threshold.Threshold.{Threshold}
use Rattle.fv_delay.specs.Choice.{full_count, is_full, total}
use Rattle.fv_delay.specs.Holding.{has_some}
use Rattle.fv_delay.specs.ByThreshold.{IsTable, behind, level, most_blocks, passed, taken_by, takes_some, threshold_below, threshold_for}

-- ---- the number of a threshold

-- It stays behind any row.
pub behind_count : (t : Threshold) (cs : List Count) → (behind t cs).count ≡ t.count
unfolding behind
behind_count t [] = refl
behind_count t (c ∷ cs) = behind_count (passed t c.count) cs ∙ so (c.count == t.count)
  where
    so : (s : Bool) → (cond s (record t { left = t.left - c.count }) t).count ≡ t.count
    so true = refl
    so false = refl

abbrev pub threshold_of : ℕ → ℕ → Threshold
threshold_of count left = record { count = count; left = left }

below_low : (n missing : ℕ) (cs : List Count) → (threshold_below n missing cs).count ≤ n
unfolding threshold_below
below_low zero missing cs = omega arith
below_low (suc n) missing cs = so (nat_le missing (total (level (suc n) cs))) (below_low n (missing - total (level (suc n) cs)) cs)
  where
    rest : Threshold
    rest = threshold_below n (missing - total (level (suc n) cs)) cs

    so : (s : Bool) → rest.count ≤ n → (cond s (threshold_of (suc n) missing) rest).count ≤ suc n
    so true le = omega arith
    so false le = omega (arith, le)

-- It is below that of a full region.
pub threshold_low : (cs : List Count) (missing : ℕ) → (threshold_for cs missing).count < full_count
threshold_low cs missing = let le = below_low 63 (missing - total (filter is_full cs)) cs in omega (arith, le)

-- ---- the sums of a row

-- whether a row of regions with delayed entries has one of a kind is told by the sum of these
pub any_of : (p : Count → Bool) (cs : List Count) → list_all has_some cs ≡ true → nat_lt 0 (total (filter p cs)) ≡ list_any p cs
any_of p [] some = refl
any_of p (c ∷ cs) some = so (p c) (any_of p cs parts.1)
  where
    parts : (has_some c ≡ true) × (list_all has_some cs ≡ true)
    parts = and_parts (has_some c) (list_all has_some cs) some

    so : (t : Bool) → nat_lt 0 (total (filter p cs)) ≡ list_any p cs → nat_lt 0 (total (cond t (c ∷ filter p cs) (filter p cs))) ≡ (t || list_any p cs)
    so true rest =
        let one : 0 < c.count = (let test = parts.0 in grind (arith, nat_tests, test)) in
        let more : 0 < total (c ∷ filter p cs) = omega (arith, one, sum_by-cons (λ (c : Count). c.count) c (filter p cs)) in
        grind (arith, nat_tests, more)
    so false rest = rest

-- a number of the table is some where the sum is
some_seen : (blocks n : ℕ) → blocks ≡ min n most_blocks → nat_lt 0 blocks ≡ nat_lt 0 n
some_seen blocks n is = so (nat_lt 0 n) refl
  where
    so : (t : Bool) → nat_lt 0 n ≡ t → nat_lt 0 blocks ≡ nat_lt 0 n
    so true e =
        let some : 0 < n = grind (arith, nat_tests, e) in
        let more : 0 < blocks = omega (arith, is, some) in
        let test : nat_lt 0 blocks ≡ true = grind (arith, nat_tests, more) in
        test ∙ sym e
    so false e =
        let none : n ≡ 0 = grind (arith, nat_tests, e) in
        let nothing : blocks ≡ 0 = omega (arith, is, none) in
        let test : nat_lt 0 blocks ≡ false = grind (arith, nat_tests, nothing) in
        test ∙ sym e

-- a table of nothing is one of no regions
pub none_counted : (table : Table) (cs : List Count) → IsTable table cs → list_all has_some cs ≡ true → table.all ≡ 0 → cs ≡ []
none_counted table [] is some none = refl
none_counted table (c ∷ cs) is some none =
    let test = (and_parts (has_some c) (list_all has_some cs) some).0 in
    let one : 0 < c.count = grind (arith, nat_tests, test) in
    absurd (omega (arith, is.all, none, one, sum_by-cons (λ (c : Count). c.count) c cs))

-- ---- whether a region has more than a number

any_weaker : (p q : Count → Bool) → ((c : Count) → p c ≡ true → q c ≡ true) → (cs : List Count) → list_any p cs ≡ true → list_any q cs ≡ true
any_weaker p q weaker [] is = is
any_weaker p q weaker (c ∷ cs) is = ⊎_elim
    (λ (e : p c ≡ true). or_left (q c) (list_any q cs) (weaker c e))
    (λ (e : list_any p cs ≡ true). or_right (q c) (list_any q cs) (any_weaker p q weaker cs e))
    (or_cases (p c) (list_any p cs) is)

-- no region has just as many as one of the numbers above, and none is full
none_above : (n : ℕ) (cs : List Count) → ((m : ℕ) → n < m → m < full_count → list_any (λ c. c.count == m) cs ≡ false) → list_any is_full cs ≡ false → list_any (λ c. nat_lt n c.count) cs ≡ false
none_above n [] levels full = refl
none_above n (c ∷ cs) levels full =
    or_from (nat_lt n c.count) (list_any (λ d. nat_lt n d.count) cs) (here (nat_lt n c.count) refl)
    (none_above n cs (λ m low high. (or_parts (c.count == m) (list_any (λ d. d.count == m) cs) (levels m low high)).1) parts.1)
  where
    parts : (is_full c ≡ false) × (list_any is_full cs ≡ false)
    parts = or_parts (is_full c) (list_any is_full cs) full

    here : (t : Bool) → nat_lt n c.count ≡ t → t ≡ false
    here false e = refl
    here true e =
        let more : n < c.count = grind (arith, nat_tests, e) in
        let few : c.count < full_count = (let test = parts.0 in grind (arith, nat_tests, test)) in
        let same : (c.count == c.count) ≡ true = grind (arith, nat_tests) in
        sym same ∙ (or_parts (c.count == c.count) (list_any (λ d. d.count == c.count) cs) (levels c.count more few)).0

module _ (n : ℕ) (table : Table) (cs : List Count) (is : IsTable table cs) (some : list_all has_some cs ≡ true) where
  -- the table tells of those with just so many
  level_seen : (m d : ℕ) → m < full_count → nat_lt 0 (get_or table.partial m d) ≡ list_any (λ c. c.count == m) cs
  level_seen m d lt = some_seen (get_or table.partial m d) (total (level m cs)) (is.partial m d lt) ∙ any_of (λ c. c.count == m) cs some

  full_seen : nat_lt 0 table.full ≡ list_any is_full cs
  full_seen = some_seen table.full (total (filter is_full cs)) is.full ∙ any_of is_full cs some

  -- Where it has blocks at a number above, a region has more.
  pub more_here : (m d : ℕ) → n < m → m < full_count → 0 < get_or table.partial m d → list_any (λ c. nat_lt n c.count) cs ≡ true
  more_here m d low high blocks =
      let test : nat_lt 0 (get_or table.partial m d) ≡ true = grind (arith, nat_tests, blocks) in
      any_weaker (λ c. c.count == m) (λ c. nat_lt n c.count) more cs (sym (level_seen m d high) ∙ test)
    where
      more : (c : Count) → (c.count == m) ≡ true → nat_lt n c.count ≡ true
      more c e =
          let same : c.count ≡ m = grind (arith, nat_tests, e) in
          let above : n < c.count = omega (arith, same, low) in
          grind (arith, nat_tests, above)

  -- Where it has none at any of these, it is the full ones that have.
  pub more_full : n < full_count → ((m : ℕ) → n < m → m < full_count → get_or table.partial m 0 ≡ 0) → nat_lt 0 table.full ≡ list_any (λ c. nat_lt n c.count) cs
  more_full low none = full_seen ∙ so (list_any is_full cs) refl
    where
      no_level : (m : ℕ) → n < m → m < full_count → list_any (λ c. c.count == m) cs ≡ false
      no_level m past high =
          let nothing = none m past high in
          let test : nat_lt 0 (get_or table.partial m 0) ≡ false = grind (arith, nat_tests, nothing) in
          sym (level_seen m 0 high) ∙ test

      more : (c : Count) → is_full c ≡ true → nat_lt n c.count ≡ true
      more c e =
          let full : full_count ≤ c.count = grind (arith, nat_tests, e) in
          let above : n < c.count = omega (arith, full, low) in
          grind (arith, nat_tests, above)

      so : (t : Bool) → list_any is_full cs ≡ t → list_any is_full cs ≡ list_any (λ c. nat_lt n c.count) cs
      so true e = e ∙ sym (any_weaker is_full (λ c. nat_lt n c.count) more cs e)
      so false e = e ∙ sym (none_above n cs no_level e)

-- ---- what is taken of the row

-- a row with one more has some
pub longer : (c : Count) (cs : List Count) → nat_lt 0 (length (c ∷ cs)) ≡ true
longer c cs = (let some : 0 < suc (length cs) = omega arith in grind (arith, nat_tests, some))

-- one is taken where a region has more, or where one has just so many and some of these are to be taken
taken_some : (n left : ℕ) (cs : List Count) → list_all has_some cs ≡ true
    → nat_lt 0 (length (taken_by (threshold_of n left) cs)) ≡ (list_any (λ c. nat_lt n c.count) cs || (nat_lt 0 (total (level n cs)) && nat_lt 0 left))
unfolding taken_by
taken_some n left [] some = refl
taken_some n left (c ∷ cs) some = so (nat_lt n c.count) (c.count == n) (nat_lt 0 left) refl (λ k. taken_some n k cs parts.1)
  where
    parts : (has_some c ≡ true) × (list_all has_some cs ≡ true)
    parts = and_parts (has_some c) (list_all has_some cs) some

    more : Bool
    more = list_any (λ c. nat_lt n c.count) cs

    same : List Count
    same = level n cs

    row : ℕ → List Count
    row k = taken_by (threshold_of n k) cs

    so : (r s u : Bool) → nat_lt 0 left ≡ u → ((k : ℕ) → nat_lt 0 (length (row k)) ≡ (more || (nat_lt 0 (total same) && nat_lt 0 k)))
        → nat_lt 0 (length (cond (r || (s && u)) (c ∷ taken_by (cond s (threshold_of n (left - c.count)) (threshold_of n left)) cs) (taken_by (cond s (threshold_of n (left - c.count)) (threshold_of n left)) cs)))
        ≡ ((r || more) || (nat_lt 0 (total (cond s (c ∷ same) same)) && u))
    so true s u e rest = longer c (taken_by (cond s (threshold_of n (left - c.count)) (threshold_of n left)) cs)
    so false true true e rest =
        let one : 0 < c.count = (let test = parts.0 in grind (arith, nat_tests, test)) in
        let some : 0 < total (c ∷ same) = omega (arith, one, sum_by-cons (λ (c : Count). c.count) c same) in
        let test : nat_lt 0 (total (c ∷ same)) ≡ true = grind (arith, nat_tests, some) in
        longer c (row (left - c.count)) ∙ sym (or_right more (nat_lt 0 (total (c ∷ same)) && true) (and_from (nat_lt 0 (total (c ∷ same))) true test refl))
    so false true false e rest =
        let none : left ≡ 0 = grind (arith, nat_tests, e) in
        let less : left - c.count ≡ 0 = omega (arith, none) in
        let test : nat_lt 0 (left - c.count) ≡ false = grind (arith, nat_tests, less) in
        rest (left - c.count)
        ∙ ap (λ (t : Bool). more || t) (and_right (nat_lt 0 (total same)) (nat_lt 0 (left - c.count)) test ∙ sym (and_right (nat_lt 0 (total (c ∷ same))) false refl))
    so false false u e rest = rest left ∙ ap (λ (t : Bool). more || (nat_lt 0 (total same) && t)) e

-- Behind a row as much less is to be taken as its regions with just so many have.
pub behind_left : (t : Threshold) (cs : List Count) → behind t cs ≡ threshold_of t.count (t.left - total (level t.count cs))
unfolding behind
behind_left t [] = λ i. threshold_of t.count (none i)
  where
    none : t.left ≡ t.left - 0
    none = omega arith
behind_left t (c ∷ cs) = so (c.count == t.count) (λ k. behind_left k cs)
  where
    same : List Count
    same = level t.count cs

    less : t.left - c.count - total same ≡ t.left - total (c ∷ same)
    less = omega (arith, sum_by-cons (λ (c : Count). c.count) c same)

    so : (s : Bool) → ((k : Threshold) → behind k cs ≡ threshold_of k.count (k.left - total (level k.count cs)))
        → behind (cond s (threshold_of t.count (t.left - c.count)) t) cs ≡ threshold_of t.count (t.left - total (cond s (c ∷ same) same))
    so true rest = rest (threshold_of t.count (t.left - c.count)) ∙ ap (threshold_of t.count) less
    so false rest = rest t

module _ (t : Threshold) (table : Table) (cs : List Count) (is : IsTable table cs) (low : t.count < full_count) (blocks : ℕ) (here : blocks ≡ get_or table.partial t.count 0) where
  -- Whether one of the row is taken, by its table.
  pub takes_seen : list_all has_some cs ≡ true → (more : Bool) → more ≡ list_any (λ c. nat_lt t.count c.count) cs → (more || (nat_lt 0 blocks && nat_lt 0 t.left)) ≡ takes_some t cs
  takes_seen some more above =
      ap₂ (λ (s u : Bool). s || (u && nat_lt 0 t.left)) above (some_seen blocks (total (level t.count cs)) (here ∙ is.partial t.count 0 low))
      ∙ sym (taken_some t.count t.left cs some)

  -- And the threshold behind it.
  pub behind_seen : t.left ≤ most_blocks → threshold_of t.count (t.left - blocks) ≡ behind t cs
  behind_seen most = ap (threshold_of t.count) (omega (arith, here, is.partial t.count 0 low, most)) ∙ sym (behind_left t cs)
