-- A commit: what it leaves at each moment, and what it ends with.
use Rattle.std.specs.Prelude.{◌≡◌, ◌≢◌, ◌<◌, ◌+◌, ◌%◌, ◌^◌, ◌⊎◌, ℕ, Bool, true, false, List, Some, Ok}
use Rattle.fv_disk.specs.Shown.{Image, Shown, IsSettled}
use Rattle.fv_codec.specs.declared.root.Root.{Root}
use Rattle.fv_codec.specs.Blocks.{gate_open, root_at}
use Rattle.fv_bits.specs.Members.{IsBlockOf, is_member}
use Rattle.fv_image.specs.Layout.{gate_place, root_place, area_blocks, area_place}
use Rattle.fv_image.specs.NewerRoot.{root_of}
use Rattle.fv_image.specs.Maps.{map_bit}
use Rattle.fv_root.specs.declared.find.Found.{Found}
use Rattle.fv_root.specs.Formatted.{SameVolumes}
use Rattle.fv_root.specs.Finding.{IsFound, other_slot, root_found}

-- `find_root` would answer this, over what reads give and over each image that a crash now may leave
pub record IsFoundOn (disk : Shown) (found : Found) : Type 0 where
  pub reads : IsFound disk.reads found
  pub images : (c : Image) → disk.images c → IsFound c found

-- a root with the generation that follows the one that was found; generations wrap at 2^64
abbrev pub next_root : Found → Root → Root
next_root found root = record root { generation = (found.root.generation + 1) % 2 ^ 64 }

-- what is found after a commit: the new root in the slot that wasn't taken, with both gates open
abbrev pub next_found : Found → Root → Found
next_found found root = record { blocks = found.blocks; slot = other_slot found.slot; root = next_root found root; older_open = true }

-- the images agree on the map area of a slot
abbrev pub SameArea : ℕ → ℕ → Image → Image → Type 0
SameArea blocks slot before c = (k : ℕ) → k < area_blocks blocks → c (area_place blocks slot k) ≡ before (area_place blocks slot k)

-- The old side: the old root counts, and its map area and all blocks from the first allocatable one on are
-- those of an image that a crash before the commit might have left. What was in flight then is so still.
pub record OldSide (old : Shown) (found : Found) (c : Image) : Type 0 where
  pub counts : root_of c ≡ Some (root_found found)
  pub from : Image
  pub left : old.images from
  pub area : SameArea found.blocks found.slot from c
  pub volumes : SameVolumes found.blocks from c

-- The new side: the new root counts, its map area is the map, and all blocks from the first allocatable one
-- on are as the disk read when the commit began.
pub record NewSide (old : Shown) (found : Found) (root : Root) (map : List Bool) (c : Image) : Type 0 where
  pub counts : root_of c ≡ Some (root_found (next_found found root))
  pub bits : (b : ℕ) → map_bit (root_found (next_found found root)) c b ≡ is_member map b
  pub volumes : SameVolumes found.blocks old.reads c

-- what a crash at any moment of a commit leaves: the old side or the whole new one
abbrev pub OldOrNew : Shown → Found → Root → List Bool → Image → List ℕ → Type 0
OldOrNew old found root map c g = (OldSide old found c ⊎ NewSide old found root map c) × (g ≡ old.given)

-- what a commit that was done ends with
pub record IsCommitted (old : Shown) (found : Found) (root : Root) (map : List Bool) (new : Shown) : Type 0 where
  pub settled : IsSettled new
  pub side : NewSide old found root map new.reads
  pub gates : (slot : ℕ) → slot < 2 → gate_open (new.reads (gate_place slot)) ≡ true
  pub stands : IsFoundOn new (next_found found root)

-- ---- the steps

-- a block that isn't a slot's gate
abbrev pub IsNotGate : ℕ → ℕ → Type 0
IsNotGate slot b = b ≢ gate_place slot

-- a block that is neither a slot's root nor in its map area
pub record IsOutside (blocks slot b : ℕ) : Type 0 where
  pub root : b ≢ root_place slot
  pub area : (k : ℕ) → k < area_blocks blocks → b ≢ area_place blocks slot k

-- the old side, with the other slot's gate closed
pub record IsShut (old : Shown) (found : Found) (c : Image) : Type 0 where
  pub side : OldSide old found c
  pub gate : gate_open (c (gate_place (other_slot found.slot))) ≡ false

-- so many blocks of a slot's map area are those of the map
abbrev pub HasArea : ℕ → ℕ → List Bool → ℕ → Image → Type 0
HasArea blocks slot map count i = (k : ℕ) → k < count → IsBlockOf map k (i (area_place blocks slot k))

-- a slot has this root and this map
pub record IsStaged (blocks slot : ℕ) (root : Root) (map : List Bool) (i : Image) : Type 0 where
  pub spells : root_at (i (root_place slot)) ≡ Ok root
  pub area : HasArea blocks slot map (area_blocks blocks) i
