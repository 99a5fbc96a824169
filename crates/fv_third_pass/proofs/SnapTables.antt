-- The table of the snapshot in a map slot.
use Rattle.std.proofs.Common.{◌≡◌, ◌≢◌, ℕ, zero, suc, ◌+◌, ◌-◌, ◌<◌, ◌≤◌, Bool, true, false, List, [], ◌∷◌, length, get_or, refl, sym, ap, ◌∙◌, arith}
use Rattle.std.specs.Prelude.{Option, Some, None, find, ◌==◌, if◌then◌else◌}
use Rattle.std.specs.Option.{option_map}
use Rattle.std.proofs.lemmas.Bool.Decides.{nat_tests}
use Rattle.fv_codec.specs.declared.label.SnapRecord.{SnapRecord}
use Rattle.fv_codec.specs.declared.label.Label.{Label}
use Rattle.fv_image.specs.Views.{Snap, head_of, snaps_from}
use Rattle.fv_image.specs.Volumes.{snap_at}
use Rattle.fv_first_pass.specs.Records.{free, snap_in}

never : (rs : List SnapRecord) (j v : ℕ) → v < j → find (λ (p : Snap). p.slot == v) (snaps_from j rs) ≡ None
unfolding snaps_from
never [] j v low = refl
never (r ∷ rs) j v low = so (r.name_length == 0) (never rs (j + 1) v (omega (arith, low)))
  where
    other : (j == v) ≡ false
    other = let apart : j ≢ v = omega (arith, low) in grind (arith, nat_tests, apart)

    so : (b : Bool) → find (λ (p : Snap). p.slot == v) (snaps_from (j + 1) rs) ≡ None → find (λ (p : Snap). p.slot == v) (if b then snaps_from (j + 1) rs else snap_in j r ∷ snaps_from (j + 1) rs) ≡ None
    so true rest = rest
    so false rest = ap (λ (t : Bool). if t then Some (snap_in j r) else find (λ (p : Snap). p.slot == v) (snaps_from (j + 1) rs)) other ∙ rest

abbrev named : ℕ → SnapRecord → Option Snap
named j r = if r.name_length == 0 then None else Some (snap_in j r)

found_at : (rs : List SnapRecord) (j k v : ℕ) → k < length rs → v ≡ j + k → find (λ (p : Snap). p.slot == v) (snaps_from j rs) ≡ named v (get_or rs k free)
unfolding snaps_from
found_at [] j k v low is = absurd (omega (arith, low))
found_at (r ∷ rs) j zero v low is = so (r.name_length == 0)
  where
    same : v ≡ j
    same = omega (arith, is)

    here : (j == v) ≡ true
    here = grind (arith, nat_tests, same)

    so : (b : Bool) → find (λ (p : Snap). p.slot == v) (if b then snaps_from (j + 1) rs else snap_in j r ∷ snaps_from (j + 1) rs) ≡ (if b then None else Some (snap_in v r))
    so true = never rs (j + 1) v (omega (arith, same))
    so false = ap (λ (t : Bool). if t then Some (snap_in j r) else find (λ (p : Snap). p.slot == v) (snaps_from (j + 1) rs)) here ∙ ap (λ n. Some (snap_in n r)) (sym same)
found_at (r ∷ rs) j (suc k) v low is = so (r.name_length == 0) (found_at rs (j + 1) k v (omega (arith, low)) (omega (arith, is)))
  where
    other : (j == v) ≡ false
    other = let apart : j ≢ v = omega (arith, is) in grind (arith, nat_tests, apart)

    so : (b : Bool) → find (λ (p : Snap). p.slot == v) (snaps_from (j + 1) rs) ≡ named v (get_or rs k free)
        → find (λ (p : Snap). p.slot == v) (if b then snaps_from (j + 1) rs else snap_in j r ∷ snaps_from (j + 1) rs) ≡ named v (get_or rs k free)
    so true rest = rest
    so false rest = ap (λ (t : Bool). if t then Some (snap_in j r) else find (λ (p : Snap). p.slot == v) (snaps_from (j + 1) rs)) other ∙ rest

module _ (l : Label) (long : length l.snapshots ≡ 24) (slot : ℕ) (least : 1 ≤ slot) (most : slot ≤ 24) where
  snap_is : snap_at (head_of l) slot ≡ named slot (get_or l.snapshots (slot - 1) free)
  unfolding snap_at head_of
  snap_is = found_at l.snapshots 1 (slot - 1) slot (omega (arith, long, least, most)) (omega (arith, least))

  pub free_table : (get_or l.snapshots (slot - 1) free).name_length ≡ 0 → None ≡ option_map (λ (p : Snap). p.table) (snap_at (head_of l) slot)
  free_table none = sym (ap (option_map (λ (p : Snap). p.table)) (snap_is ∙ ap (λ n. if n == 0 then None else Some (snap_in slot (get_or l.snapshots (slot - 1) free))) none))

  pub used_table : (get_or l.snapshots (slot - 1) free).name_length ≢ 0
      → Some (record { levels = (get_or l.snapshots (slot - 1) free).levels; root = (get_or l.snapshots (slot - 1) free).root }) ≡ option_map (λ (p : Snap). p.table) (snap_at (head_of l) slot)
  used_table used =
      let test : ((get_or l.snapshots (slot - 1) free).name_length == 0) ≡ false = grind (arith, nat_tests, used) in
      sym (ap (option_map (λ (p : Snap). p.table)) (snap_is ∙ ap (λ (b : Bool). if b then None else Some (snap_in slot (get_or l.snapshots (slot - 1) free))) test))
