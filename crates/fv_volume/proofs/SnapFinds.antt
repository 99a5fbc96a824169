-- The snapshot of a name: it stands in its map slot, whose map is used, and its table is told under the name.
use Rattle.std.proofs.Common.{◌≡◌, ℕ, ◌<◌, ◌≤◌, Bool, true, false, cond, List, [], ◌∷◌, map, Option, Some, None, inl, inr, refl, sym, ap, ◌∙◌, arith}
use Rattle.std.specs.Prelude.{IsSome, is_some, if◌then◌else◌}
use Rattle.std.specs.Option.{option_map}
use Rattle.std.specs.FinMap as fin
use Rattle.std.proofs.lemmas.Option.{same_Some}
use Rattle.fv_model.specs.Spelling.{is_same_name, name_cmp}
use Rattle.fv_model.specs.Tables.{Table}
use Rattle.fv_laws.proofs.Changes.{same_name}
use Rattle.fv_laws.proofs.Lists.{In, in_map}
use Rattle.fv_laws.proofs.Orders.{name_total}
use Rattle.fv_tables.specs.Spelled.{Under}
use Rattle.fv_image.specs.Volumes.{snap_at}
use Rattle.fv_image.proofs.MapSteps.{found_rising}
use Rattle.fv_volmap.specs.Slots.{slot_at, slot_count, stored_count}
use Rattle.fv_volume.specs.declared.state.Snap.{Snap}
use Rattle.fv_volume.specs.declared.state.VolumeState.{VolumeState}
use Rattle.fv_volume.specs.Asking.{snap_named}
use Rattle.fv_volume.specs.Files.{IsLabelled}
use Rattle.fv_volume.specs.OneVolume.{snap_by, snaps_by}
use Rattle.fv_volume.specs.States.{head_in, snap_in}
use Rattle.fv_volume.proofs.KnownBases.{snap_inside}

-- what is found under a name has it
pub named_there : (name : List ℕ) (snaps : List Snap) (q : Snap) → snap_named snaps name ≡ Some q → In q snaps × (name ≡ q.name)
named_there name [] q e = absurd cc
named_there name (p ∷ ps) q e = so (is_same_name name p.name) refl (λ f. named_there name ps q f) e
  where
    so : (b : Bool) → is_same_name name p.name ≡ b → (snap_named ps name ≡ Some q → In q ps × (name ≡ q.name)) → (if b then Some p else snap_named ps name) ≡ Some q → In q (p ∷ ps) × (name ≡ q.name)
    so true same rest f = let one : p ≡ q = same_Some p q f in (inl one, same_name name p.name same ∙ ap (λ (r : Snap). r.name) one)
    so false differ rest f = let later = rest f in (inr later.0, later.1)

-- A table is told under a name where a snapshot has it, and it is that of the first one.
pub told_named : (blocks : ℕ → Under) (name : List ℕ) (snaps : List Snap) → fin.get (snaps_by blocks snaps) name ≡ option_map (λ (q : Snap). (snap_by blocks q).1) (snap_named snaps name)
told_named blocks name snaps = fin.get-from_entries name_total (map (snap_by blocks) snaps) name ∙ found snaps
  where
    found : (snaps : List Snap) → fin.find name_cmp name (map (snap_by blocks) snaps) ≡ option_map (λ (q : Snap). (snap_by blocks q).1) (snap_named snaps name)
    found [] = refl
    found (q ∷ qs) = by (is_same_name name q.name) (found qs)
      where
        by : (t : Bool) → fin.find name_cmp name (map (snap_by blocks) qs) ≡ option_map (λ (q : Snap). (snap_by blocks q).1) (snap_named qs name)
            → cond t (Some (snap_by blocks q).1) (fin.find name_cmp name (map (snap_by blocks) qs)) ≡ option_map (λ (q : Snap). (snap_by blocks q).1) (if t then Some q else snap_named qs name)
        by true later = refl
        by false later = later

module _ (y : VolumeState) (slot : ℕ) (labelled : IsLabelled slot y) (q : Snap) (there : In q y.snapshots) where
  -- The head has it in its slot,
  pub snap_at_slot : snap_at (head_in y) q.slot ≡ Some (snap_in q)
  unfolding snap_at
  snap_at_slot = found_rising (head_in y).snapshots labelled.snapshots.slots.rising (snap_in q) (in_map snap_in q y.snapshots there)

  -- which isn't the active one,
  pub slot_inside : (1 ≤ q.slot) × (q.slot < stored_count)
  slot_inside = snap_inside y slot labelled q.slot (snap_in q) snap_at_slot

  -- and is used.
  pub slot_used : is_some (slot_at y.map q.slot) ≡ true
  slot_used =
      let least = slot_inside.0 in
      let greatest = slot_inside.1 in
      labelled.slots.each q.slot (omega (arith, least)) (omega (arith, greatest)) ∙ ap is_some snap_at_slot
