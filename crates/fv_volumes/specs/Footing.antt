-- What a clone stands on, in memory: a snapshot of another volume of the session.
use Rattle.std.specs.Prelude.{◌≡◌, ◌≢◌, ◌<◌, ◌≤◌, ◌⊎◌, ◌==◌, ◌&&◌, ℕ, zero, suc, Bool, true, false, Option, Some, None, IfSome, is_some}
use Rattle.std.specs.List.{list_any, range_with_len}
use Rattle.std.specs.Option.{option_map, option_map_or, option_and_then}
use Rattle.fv_image.specs.Views.{Footing}
use Rattle.fv_image.specs.Volumes.{snap_at}
use Rattle.fv_container.specs.Chains.{Slots, container_at, own_entry, slot_count}
use Rattle.fv_volmap.specs.Slots.{has, slot_at, slot_of_base, stored_count}
use Rattle.fv_volume.specs.declared.state.Base.{Base}
use Rattle.fv_volume.specs.declared.state.Snap.{Snap}
use Rattle.fv_volume.specs.declared.state.VolumeState.{VolumeState}
use Rattle.fv_volume.specs.States.{States, footing_in, head_in, snap_in, state_at}

-- A volume that stands on another has no entry of its own under what the slot of its base has; and what one of its tables reaches has an entry of
-- its own, or that slot has it.
pub record IsOnBase (slots : Slots) (x : VolumeState) : Type 0 where
  pub leaves : (v : ℕ) → has v (slot_at x.map slot_of_base) ≡ true → own_entry (container_at slots x.slot) v ≡ None
  pub rests : (k v : ℕ) → k < stored_count → has v (slot_at x.map k) ≡ true → (is_some (own_entry (container_at slots x.slot) v) ≡ true) ⊎ (has v (slot_at x.map slot_of_base) ≡ true)

-- The volume and the snapshot that it stands on are there under the names that it knows, with the table that it knows; the slot of its base has what
-- the snapshot's slot has. The other volume is known, isn't being split, and isn't wider.
pub record IsFooted (states : States) (x : VolumeState) (b : Base) : Type 0 where
  pub parent : VolumeState
  pub inside : b.parent < slot_count
  pub there : state_at states b.parent ≡ Some parent
  pub snap : Snap
  pub found : snap_at (head_in parent) b.slot ≡ Some (snap_in snap)
  pub above : b.slot ≢ 0
  pub named : b.name ≡ parent.name
  pub called : b.snapshot ≡ snap.name
  pub table : b.table ≡ snap.table
  pub span : parent.span ≤ x.span
  pub known : parent.known ≡ true
  pub whole : option_map_or (λ (c : Base). c.splitting) parent.base false ≡ false
  pub same : (v : ℕ) → has v (slot_at x.map slot_of_base) ≡ has v (slot_at parent.map b.slot)

-- whether the chain of bases from a slot comes to an end within so many volumes
unfoldable pub ends_in : (ℕ → Option Footing) → ℕ → ℕ → Bool
ends_in footing zero s = false
ends_in footing (suc n) s = option_map_or (λ b. ends_in footing n b.parent) (footing s) true

abbrev pub footing_at : States → ℕ → Option Footing
footing_at states s = option_and_then (λ x. option_map footing_in x.base) (state_at states s)

-- So do all clones of a session, by chains that end.
pub record AreFooted (states : States) (slots : Slots) : Type 0 where
  pub each : (s : ℕ) → IfSome (state_at states s) (λ x. IfSome x.base (λ b. IsFooted states x b × IsOnBase slots x))
  pub ends : (s : ℕ) → s < slot_count → ends_in (footing_at states) slot_count s ≡ true

-- the volume of a slot, if there is one, stands on a base that passes
abbrev pub stands_by : (Base → Bool) → Option VolumeState → Bool
stands_by test o = option_map_or (λ x. option_map_or test x.base false) o false

-- a base is on the volume of a slot: on its snapshot with a map slot, or on whichever where none is given
abbrev pub is_base_on : ℕ → Option ℕ → Base → Bool
is_base_on slot snap b = (b.parent == slot) && option_map_or (λ k. b.slot == k) snap true

-- some volume of a session stands on a base that passes
unfoldable pub some_stands : States → (Base → Bool) → Bool
some_stands states test = list_any (λ s. stands_by test (state_at states s)) (range_with_len 0 slot_count)

-- a clone stands on the volume of a slot, on whichever snapshot of it; and one stands on its snapshot with this map slot
abbrev pub is_stood_on : States → ℕ → Bool
is_stood_on states slot = some_stands states (λ b. b.parent == slot)

abbrev pub is_snap_stood_on : States → ℕ → ℕ → Bool
is_snap_stood_on states slot snap = some_stands states (λ b. (b.parent == slot) && (b.slot == snap))
