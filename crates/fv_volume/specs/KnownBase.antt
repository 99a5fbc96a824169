-- What a volume knows of the snapshot that it stands on, once the volume of that was read.
use Rattle.std.specs.Prelude.{◌≡◌, ◌≢◌, ◌≤◌, ℕ, Some, IfSome, is_some}
use Rattle.std.specs.Option.{option_map}
use Rattle.fv_image.specs.Volumes.{snap_at}
use Rattle.fv_volmap.specs.Slots.{has, slot_at, slot_of_base}
use Rattle.fv_volume.specs.declared.state.Base.{Base}
use Rattle.fv_volume.specs.declared.state.Snap.{Snap}
use Rattle.fv_volume.specs.declared.state.VolumeState.{VolumeState}
use Rattle.fv_volume.specs.States.{States, footing_in, head_in, snap_in, state_at}

-- A volume is as it was but for the names and the table that it knows of its base, and for the numbers that the slot of that has.
pub record KeepsRest (x y : VolumeState) : Type 0 where
  pub rest : y ≡ record x { base = y.base; map = y.map }
  pub footing : option_map footing_in y.base ≡ option_map footing_in x.base
  pub span : y.map.span ≡ x.map.span
  pub others : (k : ℕ) → k ≢ slot_of_base → slot_at y.map k ≡ slot_at x.map k
  pub used : is_some (slot_at y.map slot_of_base) ≡ is_some (slot_at x.map slot_of_base)

-- It knows the names of its parent and of the parent's snapshot, and the table of that; the slot of its base has what the snapshot's slot has.
pub record KnowsSnap (parent : VolumeState) (snap : Snap) (x : VolumeState) (b : Base) : Type 0 where
  pub named : b.name ≡ parent.name
  pub called : b.snapshot ≡ snap.name
  pub table : b.table ≡ snap.table
  pub same : (v : ℕ) → has v (slot_at x.map slot_of_base) ≡ has v (slot_at parent.map b.slot)

-- So it is where that volume has the snapshot and isn't wider.
abbrev pub KnowsBase : VolumeState → VolumeState → Type 0
KnowsBase parent x = IfSome x.base (λ b. (snap : Snap) → snap_at (head_in parent) b.slot ≡ Some (snap_in snap) → parent.span ≤ x.span → KnowsSnap parent snap x b)

-- A volume knows what it stands on, where that is the volume of another slot than its own: one in its own slot it can't stand on.
abbrev pub KnowsIn : States → ℕ → VolumeState → Type 0
KnowsIn states s x = IfSome x.base (λ b. b.parent ≢ s → IfSome (state_at states b.parent) (λ parent. KnowsBase parent x))

-- So does each volume of a session.
abbrev pub KnowBases : States → Type 0
KnowBases states = (s : ℕ) → IfSome (state_at states s) (KnowsIn states s)
