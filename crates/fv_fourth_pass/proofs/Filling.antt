-- How many entries are a volume's own and how many are delayed.
use Rattle.std.proofs.Common.{◌≡◌, ◌≢◌, ℕ, ◌<◌, ◌≤◌, Bool, true, false, List, [], ◌∷◌, map, refl, sym, ap, ◌∙◌, arith}
use Rattle.std.specs.Prelude.{Option, Some, None, not, ◌&&◌, ◌||◌, count_by, find, nat_lt, ◌==◌, if◌then◌else◌}
use Rattle.std.specs.List.{list_any, range_with_len}
use Rattle.std.specs.Option.{is_some, option_map}
use Rattle.std.proofs.lemmas.Bool.Decides.{nat_tests}
use Rattle.fv_bits.specs.Members.{is_member}
use Rattle.fv_image.specs.Views.{Head, Snap, View, entry_count, is_active_map, is_delayed, is_held_in, is_own, map_slot, used_slots, volume_bit, vvbns}
use Rattle.fv_image.specs.Volumes.{snap_at}
use Rattle.fv_walk.specs.declared.visit.Table.{Table}
use Rattle.fv_walk.specs.Visits.{rooted}
use Rattle.fv_fourth_pass.specs.Filled.{HasFilled, is_delayed_by, is_kept, is_own_by, is_used_slot}
use Rattle.fv_fourth_pass.proofs.Once.{any_mapped}
use Rattle.fv_fourth_pass.proofs.Totals.{same_counts}

-- ---- map slots

pub used_first : (h : Head) (j : ℕ) → j ≡ 0 → true ≡ is_used_slot h j
used_first h j first = let test : (0 == j) ≡ true = grind (arith, nat_tests, first) in sym (ap (λ b. b || list_any (λ slot. slot == j) (map (λ (p : Snap). p.slot) h.snapshots)) test)

found_any : {X : Type 0} (p : X → Bool) (xs : List X) → is_some (find p xs) ≡ list_any p xs
found_any p [] = refl
found_any p (x ∷ xs) = so (p x) (found_any p xs)
  where
    so : (b : Bool) → is_some (find p xs) ≡ list_any p xs → is_some (if b then Some x else find p xs) ≡ (b || list_any p xs)
    so true rest = refl
    so false rest = rest

both_there : (o : Option Table) (q : Option Snap) → option_map rooted o ≡ option_map (λ p. p.table) q → is_some o ≡ is_some q
both_there None None same = refl
both_there None (Some p) same = absurd cc
both_there (Some x) None same = absurd cc
both_there (Some x) (Some p) same = refl

pub used_later : (h : Head) (j : ℕ) (o : Option Table) → j ≢ 0 → option_map rooted o ≡ option_map (λ p. p.table) (snap_at h j) → is_some o ≡ is_used_slot h j
unfolding snap_at
used_later h j o later same =
    let test : (0 == j) ≡ false = grind (arith, nat_tests, later) in
    both_there o (snap_at h j) same
    ∙ found_any (λ (p : Snap). p.slot == j) h.snapshots
    ∙ sym (any_mapped (λ slot. slot == j) (λ (p : Snap). p.slot) h.snapshots)
    ∙ sym (ap (λ b. b || list_any (λ slot. slot == j) (map (λ (p : Snap). p.slot) h.snapshots)) test)

-- ---- what is held

module _ (h : Head) (held : List Bool) (v : ℕ) where
  pub kept_low : v < h.span → is_kept h held v ≡ is_member held v
  kept_low low =
      let test : nat_lt v h.span ≡ true = grind (arith, nat_tests, low) in
      ap (λ (b : Bool). if b then is_member held v else is_used_slot h (map_slot h.span v)) test

  pub kept_high : h.span ≤ v → is_kept h held v ≡ is_used_slot h (map_slot h.span v)
  kept_high high =
      let test : nat_lt v h.span ≡ false = grind (arith, nat_tests, high) in
      ap (λ (b : Bool). if b then is_member held v else is_used_slot h (map_slot h.span v)) test

-- ---- counts

module _ (w : View) (s : ℕ) (h : Head) (held : List Bool) (row : List ℕ) (has : HasFilled w s h held row) where
  kept_is : (v : ℕ) → is_kept h held v ≡ is_held_in w s h v
  unfolding is_held_in
  kept_is v = so (nat_lt v h.span) refl
    where
      so : (b : Bool) → nat_lt v h.span ≡ b → is_kept h held v ≡ is_held_in w s h v
      so true test =
          let low : v < h.span = grind (arith, nat_tests, test) in
          kept_low h held v low ∙ has.reached v low
      so false test =
          ap (λ (b : Bool). if b then is_member held v else is_used_slot h (map_slot h.span v)) test
          ∙ sym (ap (λ (b : Bool). if b then list_any (λ slot. volume_bit w s h.span slot v) (used_slots h) else is_used_slot h (map_slot h.span v)) test)

  pub own_count : count_by (is_own_by h held row) (range_with_len 0 (entry_count h.span)) ≡ count_by (is_own w s h) (vvbns h.span)
  unfolding vvbns
  own_count = same_counts (is_own_by h held row) (is_own w s h) (range_with_len 0 (entry_count h.span)) (λ v. λ i. sym (has.entries v) i && (kept_is v i && not (is_active_map h v)))

  pub delayed_count : count_by (is_delayed_by h held row) (range_with_len 0 (entry_count h.span)) ≡ count_by (is_delayed w s h) (vvbns h.span)
  unfolding vvbns
  delayed_count = same_counts (is_delayed_by h held row) (is_delayed w s h) (range_with_len 0 (entry_count h.span)) (λ v. λ i. sym (has.entries v) i && not (kept_is v i))
