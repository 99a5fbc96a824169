-- The snapshots that a label names stand in their slots.
use Rattle.std.proofs.Common.{◌≡◌, ℕ, ◌+◌, ◌<◌, ◌≤◌, Bool, true, false, List, [], ◌∷◌, map, length, refl, arith}
use Rattle.std.specs.Prelude.{◌&&◌, ◌==◌, take, nat_lt, nat_le, if◌then◌else◌}
use Rattle.std.specs.List.{list_all}
use Rattle.std.proofs.lemmas.Bool.{and_from}
use Rattle.std.proofs.lemmas.Bool.Decides.{nat_tests}
use Rattle.fv_codec.specs.declared.label.SnapRecord.{SnapRecord}
use Rattle.fv_codec.specs.declared.label.Label.{Label}
use Rattle.fv_image.specs.Views.{Snap, snaps_from, head_of}
use Rattle.fv_image.specs.Mapped.{stored_slots, is_rising, AreInSlots}

-- the snapshot of a used record
abbrev snap_of : ℕ → SnapRecord → Snap
snap_of j r = record { slot = j; name = take r.name_length r.name; table = record { levels = r.levels; root = r.root } }

within_from : (rs : List SnapRecord) (j most : ℕ) → 1 ≤ j → j + length rs ≤ most → list_all (λ (p : Snap). nat_le 1 p.slot && nat_lt p.slot most) (snaps_from j rs) ≡ true
unfolding snaps_from
within_from [] j most least fits = refl
within_from (r ∷ rs) j most least fits = so (r.name_length == 0) (within_from rs (j + 1) most (omega (arith, least)) (omega (arith, fits)))
  where
    here : (nat_le 1 j && nat_lt j most) ≡ true
    here = let first : nat_le 1 j ≡ true = grind (arith, nat_tests, least) in let low : j < most = omega (arith, fits) in let second : nat_lt j most ≡ true = grind (arith, nat_tests, low) in and_from (nat_le 1 j) _ first second

    so : (free : Bool) → list_all (λ (p : Snap). nat_le 1 p.slot && nat_lt p.slot most) (snaps_from (j + 1) rs) ≡ true
        → list_all (λ (p : Snap). nat_le 1 p.slot && nat_lt p.slot most) (if free then snaps_from (j + 1) rs else snap_of j r ∷ snaps_from (j + 1) rs) ≡ true
    so true rest = rest
    so false rest = and_from (nat_le 1 j && nat_lt j most) _ here rest

above : (rs : List SnapRecord) (i j : ℕ) → i < j → list_all (nat_lt i) (map (λ (p : Snap). p.slot) (snaps_from j rs)) ≡ true
unfolding snaps_from
above [] i j lt = refl
above (r ∷ rs) i j lt = so (r.name_length == 0) (above rs i (j + 1) (omega (arith, lt)))
  where
    so : (free : Bool) → list_all (nat_lt i) (map (λ (p : Snap). p.slot) (snaps_from (j + 1) rs)) ≡ true → list_all (nat_lt i) (map (λ (p : Snap). p.slot) (if free then snaps_from (j + 1) rs else snap_of j r ∷ snaps_from (j + 1) rs)) ≡ true
    so true rest = rest
    so false rest = let first : nat_lt i j ≡ true = grind (arith, nat_tests, lt) in and_from (nat_lt i j) _ first rest

rising_from : (rs : List SnapRecord) (j : ℕ) → is_rising (map (λ (p : Snap). p.slot) (snaps_from j rs)) ≡ true
unfolding snaps_from
rising_from [] j = refl
rising_from (r ∷ rs) j = so (r.name_length == 0) (rising_from rs (j + 1))
  where
    so : (free : Bool) → is_rising (map (λ (p : Snap). p.slot) (snaps_from (j + 1) rs)) ≡ true → is_rising (map (λ (p : Snap). p.slot) (if free then snaps_from (j + 1) rs else snap_of j r ∷ snaps_from (j + 1) rs)) ≡ true
    so true rest = rest
    so false rest = and_from (list_all (nat_lt j) (map (λ (p : Snap). p.slot) (snaps_from (j + 1) rs))) _ (above rs j (j + 1) (omega arith)) rest

pub label_slots : (l : Label) → length l.snapshots ≡ 24 → AreInSlots (head_of l)
unfolding head_of
label_slots l long = record {
  within = within_from l.snapshots 1 stored_slots (omega arith) (omega (arith, long));
  rising = rising_from l.snapshots 1;
}
