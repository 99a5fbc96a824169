-- A block that gets another place under its number.
use Rattle.std.specs.Prelude.{◌≡◌, ◌≢◌, ◌≤◌, ◌<◌, ◌⊎◌, ℕ, true, List, length, slice_set, Option, Some, None}
use Rattle.std.specs.FinMap as fin
use Rattle.fv_disk.specs.Shown.{Image, Shown as Disk}
use Rattle.fv_disk.specs.declared.fault.BlockFault.{BlockFault}
use Rattle.fv_disk.specs.declared.fault.BlockFault.TheVariants.{DiskFault, Damaged, Memory}
use Rattle.fv_codec.specs.Blocks.{last_place}
use Rattle.fv_aggmap.specs.Space.{Space, IsFree, IsFull}
use Rattle.fv_container.specs.declared.entry.Entry.{Entry}
use Rattle.fv_container.specs.Chains.{Slots, TellsEntries, container_at, own_entry}
use Rattle.fv_volmap.specs.Slots.{Volume}
use Rattle.fv_pool.specs.declared.pool.Pool.{Pool}
use Rattle.fv_pool.specs.BlocksOver.{AreApart, LacksLeaf, SetsEntry, given_back, held_block, held_entry}

-- a block that was free is taken
pub record TakesPlace (space : Space) (place : ℕ) (after : Space) : Type 0 where
  pub free : IsFree space place
  pub taken : after ≡ record space { next = slice_set space.next place true }
  pub least : 1 ≤ place
  pub greatest : place ≤ last_place
  pub within : place < length space.next

-- A block of a kind is kept under a PVBN that was free, and the own entry of a VVBN leads to it. The block of the entry that the slot's own
-- container had there is given back: the one that the leaf in memory has, which is the container's as far as entries are told. All else stays.
pub record MovesBlock (disk : Disk) (old : Pool) (slot vvbn kind : ℕ) (block : List ℕ) (new : Pool) : Type 0 where
  pub place : ℕ
  pub taken : Space
  pub takes : TakesPlace old.map place taken
  pub before : Option Entry
  pub space : new.map ≡ given_back taken before
  pub told : TellsEntries disk old.containers → before ≡ own_entry (container_at old.containers slot) vvbn
  pub entry : SetsEntry disk old.containers slot vvbn (record { pvbn = place; kind = kind }) new.containers
  pub kept : new.kept ≡ fin.insert old.kept place block
  pub found : new.found ≡ old.found
  pub version : new.version ≡ old.version

-- no block is free, told at the place of the root: one was wanted and none found
abbrev pub LacksFree : Space → ℕ → ℕ → ℕ → ℕ → Type 0
LacksFree space root at want found = (want ≡ 1) × (found ≡ 0) × (at ≡ root) × IsFull space

abbrev pub LacksFreeBlock : Space → ℕ → BlockFault → Type 0
LacksFreeBlock space root (Damaged at want found) = LacksFree space root at want found
LacksFreeBlock space root DiskFault = ⊥
LacksFreeBlock space root Memory = ⊥

-- Why a block wasn't moved: that; or a leaf doesn't stand where it has to, or wasn't read; or memory ran out.
abbrev pub LacksMove : Disk → Slots → Space → ℕ → BlockFault → Type 0
LacksMove disk slots space root (Damaged at want found) = LacksFree space root at want found ⊎ LacksLeaf disk slots at want found
LacksMove disk slots space root DiskFault = Unit {0}
LacksMove disk slots space root Memory = Unit {0}

-- What the VVBNs of a volume lead to after one of its blocks moved, where a slot of its maps has the number: it leads to the block, and each
-- other one to what it led to, where the volume's entries lie apart. They do afterwards, where entries are told.
pub record HoldsMoved (disk : Disk) (old : Pool) (map : Volume) (slot vvbn kind : ℕ) (block : List ℕ) (new : Pool) (place : ℕ) : Type 0 where
  pub entry : held_entry map new.containers slot vvbn ≡ Some (record { pvbn = place; kind = kind })
  pub others : (w : ℕ) → w ≢ vvbn → held_entry map new.containers slot w ≡ held_entry map old.containers slot w
  pub content : (i : Image) → held_block map new slot i vvbn ≡ Some block
  pub contents : AreApart old map slot → (i : Image) (w : ℕ) → w ≢ vvbn → held_block map new slot i w ≡ held_block map old slot i w
  pub apart : TellsEntries disk old.containers → AreApart old map slot → AreApart new map slot

-- ---- where a block lies

-- the place of an entry, 0 without one
abbrev pub place_or_none : Option Entry → ℕ
place_or_none None = 0
place_or_none (Some entry) = entry.pvbn

-- a VVBN isn't held, or lies nowhere, as far as entries are told; the place of the volume's label is told, with 1 for the one block that has to
-- stand there
pub record IsNowhere (told : Type 0) (entry : Option Entry) (label at want found : ℕ) : Type 0 where
  pub none : told → place_or_none entry ≡ 0
  pub at_is : at ≡ label
  pub want_is : want ≡ 1
  pub found_is : found ≡ 0

-- why the entry of a VVBN isn't found
abbrev pub LacksHeld : Disk → Slots → Option Entry → ℕ → BlockFault → Type 0
LacksHeld disk slots entry label (Damaged at want found) = IsNowhere (TellsEntries disk slots) entry label at want found ⊎ LacksLeaf disk slots at want found
LacksHeld disk slots entry label DiskFault = Unit {0}
LacksHeld disk slots entry label Memory = ⊥
