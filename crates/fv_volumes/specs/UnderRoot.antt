-- Volumes in memory beside what a root on the disk names.
use Rattle.std.specs.Prelude.{◌≡◌, ◌≢◌, ◌≤◌, ◌<◌, ◌+◌, ◌*◌, ℕ, Bool, true, false, List, length, Option, Some, None}
use Rattle.std.specs.FinMap as fin
use Rattle.fv_disk.specs.Shown.{Image}
use Rattle.fv_bits.specs.Bits.{bit_of_bytes, block_bits}
use Rattle.fv_bits.specs.Members.{is_member}
use Rattle.fv_codec.specs.declared.label.Label.{Label}
use Rattle.fv_image.specs.Containers.{IsNodePlace}
use Rattle.fv_image.specs.Maps.{map_bit}
use Rattle.fv_image.specs.Views.{entry_count, map_vvbn}
use Rattle.fv_image.specs.Held.{is_held, label_place, layout_at}
use Rattle.fv_model.specs.Space.{map_blocks}
use Rattle.fv_image.specs.Whole.{is_held_by, times_held}
use Rattle.fv_image.specs.SoundSlots.{IsSoundSlot}
use Rattle.fv_root.specs.declared.find.Found.{Found}
use Rattle.fv_root.specs.Finding.{root_found}
use Rattle.fv_container.specs.Clean.{IsCleanOn}
use Rattle.fv_container.specs.Mapped.{Mapped, entry_under}
use Rattle.fv_container.specs.Paged.{Paged}
use Rattle.fv_container.specs.Spelled.{names}
use Rattle.fv_container.specs.Chains.{container_at, map_in, own_entry, slot_count}
use Rattle.fv_aggmap.specs.Space.{Space}
use Rattle.fv_pool.specs.declared.pool.Pool.{Pool}
use Rattle.fv_volume.specs.declared.state.VolumeState.{VolumeState}
use Rattle.fv_volumes.specs.Housed.{settled_at}
use Rattle.fv_volume.specs.Loading.{IsLoaded, label_of}
use Rattle.fv_volume.specs.States.{States, placed_in, state_at}
use Rattle.fv_volume.specs.Stored.{AreApartIn, AreSpacedIn, has_block, has_stored_map, map_entry, slot_map, stays}

-- the map of the root on the disk is the one that its area spells; the next one may differ
pub record IsMapOf (i : Image) (found : Found) (space : Space) : Type 0 where
  pub len : length space.committed ≡ found.blocks
  pub bits : (b : ℕ) → is_member space.committed b ≡ map_bit (root_found found) i b

-- Block j of the map of a slot stands on the disk under its VVBN, in a block that the root there holds, and has the bits of the slot.
pub record StandsMap (i : Image) (found : Found) (x : VolumeState) (map : Mapped) (k j : ℕ) : Type 0 where
  pub place : ℕ
  pub some : 1 ≤ place
  pub there : entry_under map (map_vvbn x.span k j) ≡ Some (map_entry place)
  pub held : is_held (layout_at (root_found found) i) place ≡ true
  pub bits : (b : ℕ) → b < block_bits → bit_of_bytes (i place) b ≡ is_member (slot_map x k) (block_bits * j + b)

-- so it is with each map that a point leaves where it stands
abbrev pub StandMaps : Image → Found → VolumeState → Mapped → Type 0
StandMaps i found x map = (k j : ℕ) → has_stored_map x k ≡ true → j < map_blocks x.span → StandsMap i found x map k j

-- A volume that is lent: its label, if it has one, and the nodes of its container are those that the root on the disk names. A new one has neither,
-- also where that root still names a volume of its slot that was removed. Its blocks are apart, and the maps that
-- a point leaves stand there, as its container's clean nodes do. Without a change it is as that root has it.
pub record IsLentSlot (i : Image) (found : Found) (s : ℕ) (x : VolumeState) (paged : Paged) : Type 0 where
  pub label : x.label ≢ 0 → x.label ≡ label_place (root_found found) s
  pub nodes : (b : ℕ) → names paged.map.tree b ≡ true → (l : Label) × (label_of found i s ≡ Some l) × IsNodePlace i l.container l.height (entry_count l.span) b
  pub clean : IsCleanOn i paged
  pub apart : AreApartIn x paged.map
  pub maps : StandMaps i found x paged.map
  pub unchanged : x.changed ≡ false → IsLoaded i found s (Some x) (Some paged)

-- a slot, with or without a volume; without one the root on the disk may still have the one that was removed
abbrev pub IsLentAt : Image → Found → ℕ → Option VolumeState → Option Paged → Type 0
IsLentAt i found s None None = Unit {0}
IsLentAt i found s None (Some paged) = ⊥
IsLentAt i found s (Some x) None = ⊥
IsLentAt i found s (Some x) (Some paged) = IsLentSlot i found s x paged

-- A slot stands in an image under a root: its volume is as that root has it, the slot is sound by itself, and it holds the blocks of its
-- volume, each once.
pub record StandsUnder (i : Image) (found : Found) (s : ℕ) (state : Option VolumeState) (container : Option Paged) : Type 0 where
  pub loaded : IsLoaded i found s state container
  pub sound : IsSoundSlot (layout_at (root_found found) i) s
  pub once : (b : ℕ) → times_held (layout_at (root_found found) i) s b ≤ 1
  pub holds : (b : ℕ) → is_held_by (layout_at (root_found found) i) s b ≡ has_block state (map_in container) b

-- Volumes with blocks that wait over one image stand, settled, in another under new labels: each slot stands there, the entries that stay
-- have their blocks, no entry came below a span where there was none, and the volumes are spaced.
pub record AllStandUnder (pool : Pool) (states : States) (before : Image) (found : Found) (labels : List ℕ) (next : List Bool) (container : ℕ → Option Paged) (i : Image) : Type 0 where
  pub each : (s : ℕ) → s < slot_count → StandsUnder i found s (settled_at labels states s) (container s)
  pub kept : (s v : ℕ) (x : VolumeState) → s < slot_count → state_at states s ≡ Some x → stays x v ≡ true
      → placed_in fin.empty i (own_entry (map_in (container s)) v) ≡ placed_in pool.kept before (own_entry (container_at pool.containers s) v)
  pub holes : (s v : ℕ) (x : VolumeState) → s < slot_count → state_at states s ≡ Some x → v < x.span → own_entry (container_at pool.containers s) v ≡ None → own_entry (map_in (container s)) v ≡ None
  pub spaced : AreSpacedIn found.blocks next (settled_at labels states) (λ s. map_in (container s))
