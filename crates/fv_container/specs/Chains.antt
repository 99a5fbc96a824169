-- Containers by volume slot, and the first entry along a chain of parents.
use Rattle.std.specs.Prelude.{◌≡◌, ◌≢◌, ◌<◌, ◌/◌, ℕ, get_or, zero, suc, List, length, replicate, slice_set, slice_index_or, All, Option, Some, None, Err, IfSome, IsTrue}
use Rattle.fv_container.specs.declared.entry.Entry.{Entry}
use Rattle.fv_disk.specs.Shown.{Image, Shown}
use Rattle.fv_container.specs.Mapped.{Mapped, entry_under}
use Rattle.fv_container.specs.Paged.{Paged}
use Rattle.fv_disk.specs.declared.fault.BlockFault.{BlockFault}
use Rattle.fv_image.specs.Containers.{level_width, node_shape}
use Rattle.fv_container.specs.Clean.{IsCleanOn}
use Rattle.fv_container.specs.Reading.{IsBadNode}

-- how many volumes there can be
abbrev pub slot_count : ℕ
slot_count = 64

-- the container of each slot that has one, and the slot of its parent
pub record Slots : Type 0 where
  pub containers : List (Option Paged)
  pub parents : List (Option ℕ)

abbrev pub slots_of : List (Option Paged) → List (Option ℕ) → Slots
slots_of containers parents = record { containers = containers; parents = parents }

-- the container of a slot, with what of it is in memory
abbrev pub paged_at : Slots → ℕ → Option Paged
paged_at slots slot = slice_index_or slots.containers slot None

-- its map alone
abbrev pub map_in : Option Paged → Option Mapped
map_in None = None
map_in (Some paged) = Some paged.map

abbrev pub container_at : Slots → ℕ → Option Mapped
container_at slots slot = map_in (paged_at slots slot)

abbrev pub parent_at : Slots → ℕ → Option ℕ
parent_at slots slot = slice_index_or slots.parents slot None

abbrev pub with_container : Slots → ℕ → Option Paged → Slots
with_container slots slot paged = record { containers = slice_set slots.containers slot paged; parents = slots.parents }

abbrev pub with_parent : Slots → ℕ → Option ℕ → Slots
with_parent slots slot parent = record { containers = slots.containers; parents = slice_set slots.parents slot parent }

-- no slot has a container
abbrev pub no_containers : Slots
no_containers = record { containers = replicate slot_count None; parents = replicate slot_count None }

-- what holds of the slots at all times
pub record IsSlots (slots : Slots) : Type 0 where
  pub containers : length slots.containers ≡ slot_count
  pub parents : length slots.parents ≡ slot_count
  pub within : All (λ parent. IfSome parent (λ slot. slot < slot_count)) slots.parents

-- the entry that a slot's own container has; without a container each is a hole
abbrev pub own_entry : Option Mapped → ℕ → Option Entry
own_entry None v = None
own_entry (Some map) v = entry_under map v

-- the first of two that isn't a hole
abbrev pub or_else : Option Entry → Option Entry → Option Entry
or_else None next = next
or_else (Some entry) next = Some entry

-- the first entry that isn't a hole, from a slot on along so many volumes
unfoldable pub along : Slots → ℕ → Option ℕ → ℕ → Option Entry
along slots zero slot v = None
along slots (suc more) None v = None
along slots (suc more) (Some slot) v = or_else (own_entry (container_at slots slot) v) (along slots more (parent_at slots slot) v)

-- the first entry along the chain of a slot, which is at most 64 volumes
abbrev pub chain_entry : Slots → ℕ → ℕ → Option Entry
chain_entry slots slot v = along slots slot_count (Some slot) v

-- each container is clean on a disk
abbrev pub AreCleanOn : Image → Slots → Type 0
AreCleanOn i slots = (s : ℕ) → IfSome (paged_at slots s) (IsCleanOn i)

-- The disk tells what it reads, and each container is clean on it. So what is read of an entry is what the maps say.
abbrev pub TellsEntries : Shown → Slots → Type 0
TellsEntries disk slots = IsTrue disk.tells × AreCleanOn disk.reads slots

-- Each container has the map that it had, whatever of it came into memory, and what was clean is clean.
pub record KeepsMaps (disk : Shown) (old new : Slots) : Type 0 where
  pub maps : (s : ℕ) → container_at new s ≡ container_at old s
  pub parents : new.parents ≡ old.parents
  pub clean : TellsEntries disk old → AreCleanOn disk.reads new

-- a fault of the leaf of a container that has a VVBN, and of one of the containers
abbrev pub IsFaultIn : Image → Option Paged → ℕ → BlockFault → Type 0
IsFaultIn i None v fault = ⊥
IsFaultIn i (Some paged) v fault = (v < length paged.map.entries) × IsBadNode i (get_or paged.map.tree (v / 256) 0) 0 fault

pub record IsLeafFault (i : Image) (slots : Slots) (v : ℕ) (fault : BlockFault) : Type 0 where
  pub slot : ℕ
  pub reason : IsFaultIn i (paged_at slots slot) v fault

-- a place in the tree of a container where a leaf has to stand, and none does
pub record IsBadLeaf (i : Image) (map : Mapped) (at want found : ℕ) : Type 0 where
  pub region : ℕ
  pub within : region < level_width (length map.entries) 0
  pub place : at ≡ get_or map.tree region 0
  pub some : at ≢ 0
  pub fault : node_shape 0 (i at) ≡ Err (record { want = want; found = found })

-- and one in the tree of some slot's container
pub record IsLeafDamage (i : Image) (slots : Slots) (at want found : ℕ) : Type 0 where
  pub slot : ℕ
  pub map : Mapped
  pub there : container_at slots slot ≡ Some map
  pub leaf : IsBadLeaf i map at want found
