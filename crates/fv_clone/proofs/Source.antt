-- A snapshot that is asked by its name, for a clone or for a mirror: the volume that has it, and what the base tells of both.
use Rattle.std.proofs.Common.{◌≡◌, ◌<◌, ◌≤◌, ℕ, List, Some, sym, ap, subst, ◌∙◌, arith}
use Rattle.std.specs.Prelude.{IfSome, IsSome}
use Rattle.std.proofs.lemmas.Option.{same_Some}
use Rattle.fv_codec.specs.Blocks.{IsPointer, most_stamps}
use Rattle.fv_container.specs.Chains.{slot_count}
use Rattle.fv_laws.proofs.Lists.{In}
use Rattle.fv_volmap.specs.Slots.{slot_at, slot_count as map_slot_count, stored_count}
use Rattle.fv_volume.specs.declared.state.Base.{Base}
use Rattle.fv_volume.specs.declared.state.Snap.{Snap}
use Rattle.fv_volume.specs.declared.state.VolumeState.{VolumeState}
use Rattle.fv_volume.specs.Cloning.{base_on}
use Rattle.fv_volume.specs.Files.{IsLabelled}
use Rattle.fv_volume.specs.Labels.{label_said}
use Rattle.fv_volume.specs.SnapRecords.{IsSayableSnap}
use Rattle.fv_volume.specs.States.{States, snap_in, state_at}
use Rattle.fv_volume.proofs.EachRoot.{all_in}
use Rattle.fv_volume.proofs.KeptReads.{each_sayable}
use Rattle.fv_volume.proofs.SnapFinds.{named_there, slot_inside}
use Rattle.fv_clone.specs.Admitting.{IsAsked}
use Rattle.fv_clone.proofs.Asked.{base_inside, base_used, labelled_at}

-- The base is of the snapshot that is asked, among volumes with labels that can be written.
pub record IsOfAsked (states : States) (b : Base) (name : List ℕ) (size : ℕ) : Type 0 where
  pub asked : IsAsked states b.name b.snapshot name size
  pub is : b ≡ base_on asked.source.home.volume asked.source.snap
  pub labelled : (s : ℕ) → IfSome (state_at states s) (IsLabelled s)

module _ {states : States} {b : Base} {name : List ℕ} {size : ℕ} (base_of : IsOfAsked states b name size) where
  -- the volume, and its snapshot
  abbrev home : VolumeState
  home = base_of.asked.source.home.volume

  abbrev snap : Snap
  snap = base_of.asked.source.snap

  pub home_labelled : IsLabelled base_of.asked.source.home.slot home
  home_labelled = labelled_at states base_of.labelled base_of.asked.source.home.slot home base_of.asked.source.home.there

  -- The base leads to the volume's slot,
  pub home_is : b.parent ≡ base_of.asked.source.home.slot
  home_is = ap (λ (c : Base). c.parent) base_of.is ∙ home_labelled.slot_is

  pub home_slot : home.slot ≡ b.parent
  home_slot = home_labelled.slot_is ∙ sym home_is

  pub home_there : state_at states b.parent ≡ Some home
  home_there = ap (state_at states) home_is ∙ base_of.asked.source.home.there

  pub home_inside : b.parent < slot_count
  home_inside = let at = home_is in let low = base_of.asked.source.home.within in omega (arith, at, low)

  pub home_stamps : home.now ≤ most_stamps
  unfolding label_said
  home_stamps = (home_labelled.label 0 1 (omega arith) (omega arith) (omega arith)).now

  -- and to the snapshot's map slot, which is used.
  pub snap_slot : b.slot ≡ snap.slot
  snap_slot = ap (λ (c : Base). c.slot) base_of.is

  pub snap_there : In snap home.snapshots
  snap_there = (named_there b.snapshot home.snapshots snap base_of.asked.source.found).0

  pub snap_stored : (1 ≤ b.slot) × (b.slot < stored_count)
  snap_stored = subst (λ (n : ℕ). (1 ≤ n) × (n < stored_count)) (sym snap_slot) (slot_inside home base_of.asked.source.home.slot home_labelled snap snap_there)

  pub snap_inside : b.slot < map_slot_count
  snap_inside = subst (λ (n : ℕ). n < map_slot_count) (sym snap_slot) (base_inside home base_of.asked.source.home.slot b.snapshot snap home_labelled base_of.asked.source.found)

  -- It tells the snapshot's table.
  pub snap_table : b.table ≡ snap.table
  snap_table = ap (λ (c : Base). c.table) base_of.is

  sayable : IsSayableSnap (snap_in snap)
  sayable = all_in (λ (q : Snap). IsSayableSnap (snap_in q)) home.snapshots (each_sayable home.snapshots home_labelled.snapshots.each) snap snap_there

  pub table_levels : b.table.levels ≤ 2
  table_levels = subst (λ t. t.levels ≤ 2) (sym snap_table) sayable.levels

  pub table_root : IsPointer b.table.root
  table_root = subst (λ t. IsPointer t.root) (sym snap_table) sayable.root

  -- So it is with whatever volume is found there.
  module _ (y : VolumeState) (there : state_at states b.parent ≡ Some y) where
    pub same_home : home ≡ y
    same_home = same_Some home y (sym home_there ∙ there)

    pub snap_used : IsSome (slot_at y.map b.slot)
    snap_used = subst (λ (z : VolumeState). IsSome (slot_at z.map b.slot)) same_home
        (subst (λ (n : ℕ). IsSome (slot_at home.map n)) (sym snap_slot) (base_used home base_of.asked.source.home.slot b.snapshot snap home_labelled base_of.asked.source.found))
