-- A volume's regions with delayed entries, and its delayed entries.
use Rattle.std.proofs.Common.{◌≡◌, ℕ, zero, suc, ◌+◌, ◌-◌, ◌*◌, ◌<◌, ◌≤◌, Bool, true, false, cond, ◌&&◌, List, [], ◌∷◌, filter, map, length, refl, sym, ap, ◌∙◌, ⊎_elim, arith}
use Rattle.std.specs.List.{range_with_len}
use Rattle.std.proofs.lemmas.Bool.{both_ways, cases_lt, true≢false}
use Rattle.std.proofs.lemmas.Bool.Decides.{nat_tests}
use Rattle.fv_bits.proofs.Counts.{passing, passing-add, passing-suc}
use Rattle.fv_image.specs.Containers.{fan, level_width}
use Rattle.fv_image.proofs.Counts.{none_between}
use Rattle.fv_delay.specs.declared.counts.Count.{Count}
use Rattle.fv_delay.specs.Delay.{delayed_in, is_delayed, region_of}
use Rattle.fv_delay.specs.Holding.{Holding, counted, counts_in, has_some}
use Rattle.fv_delay.specs.Reclaims.{goes_with}
use Rattle.fv_delay.proofs.Parts.{none_passes, none_past, region_within}

-- a row of regions with none that has some
row_none : (f : ℕ → Count) (a n k : ℕ) → k < n → filter has_some (map f (range_with_len a n)) ≡ [] → has_some (f (a + k)) ≡ false
row_none f a zero k lt none = absurd (omega (arith, lt))
row_none f a (suc n) k lt none = so (has_some (f a)) refl none k lt (row_none f (a + 1) n)
  where
    row : List Count
    row = filter has_some (map f (range_with_len (a + 1) n))

    so : (t : Bool) → has_some (f a) ≡ t → cond t (f a ∷ row) row ≡ [] → (k : ℕ) → k < suc n → ((j : ℕ) → j < n → row ≡ [] → has_some (f ((a + 1) + j)) ≡ false) → has_some (f (a + k)) ≡ false
    so true e is k lt rest = (let long : suc (length row) ≡ 0 = ap length is in absurd (omega (arith, long)))
    so false e is zero lt rest = ap (λ (m : ℕ). has_some (f m)) (omega arith) ∙ e
    so false e is (suc k) lt rest = ap (λ (m : ℕ). has_some (f m)) (omega arith) ∙ rest k (omega (arith, lt)) is

none_row : (f : ℕ → Count) (a n : ℕ) → ((k : ℕ) → has_some (f k) ≡ false) → filter has_some (map f (range_with_len a n)) ≡ []
none_row f a zero none = refl
none_row f a (suc n) none =
    let rest : List Count = filter has_some (map f (range_with_len (a + 1) n)) in
    ap (λ (t : Bool). cond t (f a ∷ rest) rest) (none a) ∙ none_row f (a + 1) n none

-- a number in its region
in_region : (v : ℕ) → v ≡ fan * region_of v + (v - fan * region_of v)
in_region v = omega arith

zero_more : (n : ℕ) → n ≡ 0 + n
zero_more n = omega arith

positive : (n : ℕ) → 0 < suc n
positive n = omega arith

below_fan : (v : ℕ) → v - fan * region_of v < fan
below_fan v = omega arith

module _ (x : Holding) where
  -- The region of a delayed entry is one of the container's, and has some.
  pub some_there : (v : ℕ) → is_delayed x.map x.container v ≡ true → (region_of v < level_width (length x.container.entries) 0) × (0 < delayed_in x.map x.container (region_of v))
  unfolding delayed_in
  some_there v is = (
    ⊎_elim
        (λ (inside : v < length x.container.entries). region_within (length x.container.entries) v inside)
        (λ (past : length x.container.entries ≤ v). absurd (both_ways _ (none_past x.map x.container v past) is))
        (cases_lt v (length x.container.entries)),
    so (passing (is_delayed x.map x.container) (fan * region_of v) fan) refl,
  )
    where
      so : (n : ℕ) → passing (is_delayed x.map x.container) (fan * region_of v) fan ≡ n → 0 < n
      so (suc n) e = positive n
      so zero e =
          let off = none_passes (is_delayed x.map x.container) (fan * region_of v) fan (v - fan * region_of v) (below_fan v) e in
          absurd (true≢false (sym is ∙ ap (is_delayed x.map x.container) (in_region v) ∙ off))

  -- Where no region has some, no entry is delayed.
  pub none_delayed_in : (s v : ℕ) → counts_in s x ≡ [] → is_delayed x.map x.container v ≡ false
  unfolding counts_in
  none_delayed_in s v none = so (is_delayed x.map x.container v) refl
    where
      so : (t : Bool) → is_delayed x.map x.container v ≡ t → t ≡ false
      so false e = refl
      so true e =
          let there = some_there v e in
          let off : has_some (counted s x (region_of v)) ≡ false = ap (λ (r : ℕ). has_some (counted s x r)) (zero_more (region_of v)) ∙ row_none (counted s x) 0 (level_width (length x.container.entries) 0) (region_of v) there.0 none in
          let some = there.1 in
          let on : has_some (counted s x (region_of v)) ≡ true = grind (arith, nat_tests, some) in
          absurd (both_ways _ off on)

  -- And where no entry is, no region has some.
  pub none_counted_in : (s : ℕ) → ((v : ℕ) → v < length x.container.entries → is_delayed x.map x.container v ≡ false) → counts_in s x ≡ []
  unfolding counts_in delayed_in
  none_counted_in s none = none_row (counted s x) 0 (level_width (length x.container.entries) 0) (λ k. at k (none_between (is_delayed x.map x.container) (fan * k) fan (λ v low high. each v)))
    where
      each : (v : ℕ) → is_delayed x.map x.container v ≡ false
      each v = ⊎_elim (λ (inside : v < length x.container.entries). none v inside) (λ (past : length x.container.entries ≤ v). none_past x.map x.container v past) (cases_lt v (length x.container.entries))

      at : (k : ℕ) → delayed_in x.map x.container k ≡ 0 → has_some (counted s x k) ≡ false
      at k is = grind (arith, nat_tests, is)

  -- What goes with some regions goes with others that are the same among the container's.
  pub goes_alike : (f g : ℕ → Bool) → ((r : ℕ) → r < level_width (length x.container.entries) 0 → f r ≡ g r) → (v : ℕ) → goes_with x.map x.container f v ≡ goes_with x.map x.container g v
  goes_alike f g same v = so (is_delayed x.map x.container v) refl
    where
      so : (t : Bool) → is_delayed x.map x.container v ≡ t → (t && f (region_of v)) ≡ (t && g (region_of v))
      so false e = refl
      so true e = same (region_of v) (some_there v e).0
