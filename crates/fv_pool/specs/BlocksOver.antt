-- The blocks of one volume over what a session lends: which VVBNs are held and where their blocks lie, and what reading a block does.
use Rattle.std.specs.Prelude.{◌≡◌, ◌≤◌, ◌<◌, ◌⊎◌, ◌≢◌, ◌/◌, ℕ, true, false, cond, nat_le, ◌&&◌, not, ◌==◌, ◌+◌, List, [], length, count_by, slice_set, Option, Some, None, is_some, IfSome, IsTrue}
use Rattle.std.specs.Option.{ForSome, option_map}
use Rattle.std.specs.List.{range_with_len}
use Rattle.std.specs.FinMap as fin
use Rattle.fv_disk.specs.Shown.{Image, Shown as Disk}
use Rattle.fv_disk.specs.declared.fault.BlockFault.{BlockFault}
use Rattle.fv_disk.specs.declared.fault.BlockFault.TheVariants.{DiskFault, Damaged, Memory}
use Rattle.fv_codec.specs.Blocks.{last_place}
use Rattle.fv_aggmap.specs.Space.{Space, IsFree, IsFull, free_blocks}
use Rattle.fv_bits.specs.Members.{is_member}
use Rattle.fv_container.specs.declared.entry.Entry.{Entry}
pub use Rattle.fv_container.specs.Chains.{KeepsMaps, TellsEntries}
use Rattle.fv_container.specs.Chains.{AreCleanOn, IsLeafDamage, Slots, chain_entry, container_at, own_entry, paged_at, with_container}
use Rattle.fv_container.specs.Loading.{HasPut}
use Rattle.fv_container.specs.Mapped.{Mapped}
use Rattle.fv_container.specs.Paged.{Paged, is_here}
use Rattle.fv_tree.specs.declared.blocks.Placed.{Placed}
use Rattle.fv_volmap.specs.Slots.{Allocates, Volume, taken_in}
use Rattle.fv_pool.specs.declared.pool.Pool.{Pool}
use Rattle.fv_pool.specs.Keeping.{Blocks, seen}

-- The entry of a VVBN that is held: some slot of the volume's maps has it, the base's slot among them, and this is the first entry
-- along the chain of the volume. A VVBN that no slot has isn't held, although its own entry may still stand until the next
-- consistency point.
unfoldable pub held_entry : Volume → Slots → ℕ → ℕ → Option Entry
held_entry map slots slot v = cond (nat_le v last_place && taken_in map.slots v) (chain_entry slots slot v) None

-- where an entry's block lies
abbrev pub place_of : Option Entry → Option ℕ
place_of entry = option_map (λ e. e.pvbn) entry

-- the block that an entry names: the kept one, or what stands on the disk
abbrev pub block_of : Blocks → Image → Option Entry → Option (List ℕ)
block_of kept i entry = option_map (λ e. seen kept i e.pvbn) entry

-- the place that a pointer's PVBN tells: 0 tells none, and neither does one past all places
unfoldable pub place_told : ℕ → Option ℕ
place_told hint = cond (not (hint == 0) && nat_le hint last_place) (Some hint) None

abbrev pub place_or : Option ℕ → Option ℕ → Option ℕ
place_or None place = place
place_or (Some told) place = Some told

-- Where the block of a pointer is read: at the place that it tells, whatever the entry of its VVBN says, or else at that of the entry.
abbrev pub place_read : Option Entry → ℕ → Option ℕ
place_read entry hint = place_or (place_told hint) (place_of entry)

-- a pointer tells no wrong place of its block: it tells none, or that of its VVBN's entry
abbrev pub IsRightPlace : Option Entry → ℕ → Type 0
IsRightPlace entry hint = (hint ≡ 0) ⊎ (place_of entry ≡ Some hint)

-- the steps that a pointer costs: none where it tells a PVBN, and else one look-up
abbrev pub steps_by : ℕ → ℕ
steps_by hint = cond (hint == 0) 1 0

-- a pointer leads to a VVBN that isn't held, as far as entries are told; the place of the volume's label is told, with 1 for the one block that
-- has to stand there
pub record IsLoose (told : Type 0) (entry : Option Entry) (label at want found : ℕ) : Type 0 where
  pub none : told → entry ≡ None
  pub at_is : at ≡ label
  pub want_is : want ≡ 1
  pub found_is : found ≡ 0

-- a leaf of a container doesn't stand where it has to, where the disk tells what it reads
abbrev pub LacksLeaf : Disk → Slots → ℕ → ℕ → ℕ → Type 0
LacksLeaf disk slots at want found = IsTrue disk.tells → IsLeafDamage disk.reads slots at want found

-- why the entry of a VVBN isn't read
abbrev pub IsEntryFault : Disk → Slots → BlockFault → Type 0
IsEntryFault disk slots (Damaged at want found) = LacksLeaf disk slots at want found
IsEntryFault disk slots DiskFault = Unit {0}
IsEntryFault disk slots Memory = ⊥

-- why a leaf isn't held in memory
abbrev pub IsHoldFault : Disk → Slots → BlockFault → Type 0
IsHoldFault disk slots (Damaged at want found) = LacksLeaf disk slots at want found
IsHoldFault disk slots DiskFault = Unit {0}
IsHoldFault disk slots Memory = Unit {0}

-- why the block of a pointer isn't read
abbrev pub IsLooseFault : Disk → Slots → Option Entry → ℕ → BlockFault → Type 0
IsLooseFault disk slots entry label (Damaged at want found) = IsLoose (TellsEntries disk slots) entry label at want found ⊎ LacksLeaf disk slots at want found
IsLooseFault disk slots entry label DiskFault = Unit {0}
IsLooseFault disk slots entry label Memory = ⊥

-- Nothing of a pool changed but its cache.
pub record LeavesPool (old new : Pool) : Type 0 where
  pub map : new.map ≡ old.map
  pub containers : new.containers ≡ old.containers
  pub kept : new.kept ≡ old.kept
  pub found : new.found ≡ old.found
  pub version : new.version ≡ old.version

-- ---- a block is placed

-- the entries of a slot's container; without one there are none
abbrev pub entries_in : Option Mapped → List (Option Entry)
entries_in None = []
entries_in (Some container) = container.entries

-- a number that the maps hadn't and a block that was free are taken
pub record Takes (space : Space) (map : Volume) (placed : Placed) (space_after : Space) (map_after : Volume) : Type 0 where
  pub number : Allocates map placed.vvbn map_after
  pub free : IsFree space placed.pvbn
  pub taken : space_after ≡ record space { next = slice_set space.next placed.pvbn true }
  pub least : 1 ≤ placed.pvbn
  pub greatest : placed.pvbn ≤ last_place
  pub within : placed.pvbn < length space.next

-- the places of the nodes of a container's tree on the disk
abbrev pub tree_in : Option Mapped → List ℕ
tree_in None = []
tree_in (Some container) = container.tree

-- a container has as many entries as before, and the same tree on the disk
pub record HasShapeOf (old new : Option Mapped) : Type 0 where
  pub there : is_some new ≡ is_some old
  pub count : length (entries_in new) ≡ length (entries_in old)
  pub tree : tree_in new ≡ tree_in old

-- An entry is set in the container of a slot, which has one. Its leaf came into memory, and all else stays; what was clean is clean.
pub record SetsEntry (disk : Disk) (old : Slots) (slot v : ℕ) (entry : Entry) (new : Slots) : Type 0 where
  pub here : own_entry (container_at new slot) v ≡ Some entry
  pub rest : (w : ℕ) → w ≢ v → own_entry (container_at new slot) w ≡ own_entry (container_at old slot) w
  pub others : (s : ℕ) → s ≢ slot → container_at new s ≡ container_at old s
  pub parents : new.parents ≡ old.parents
  pub shape : HasShapeOf (container_at old slot) (container_at new slot)
  pub clean : TellsEntries disk old → AreCleanOn disk.reads new

-- An entry is put into the container of a slot, whose leaf is in memory.
pub record PutsIn (old : Slots) (slot v : ℕ) (entry : Entry) (was : Paged) (new : Slots) : Type 0 where
  pub now : Paged
  pub puts : HasPut v (Some entry) was now
  pub set : new ≡ with_container old slot (Some now)

abbrev pub PutsEntry : Slots → ℕ → ℕ → Entry → Slots → Type 0
PutsEntry old slot v entry new = IfSome (paged_at old slot) (λ was. PutsIn old slot v entry was new)

-- Nothing can fail behind this: the leaf of a number is in memory, and the block that is placed under it is kept.
pub record IsPrepared (disk : Disk) (old : Pool) (slot : ℕ) (placed : Placed) (block : List ℕ) (new : Pool) : Type 0 where
  pub map : new.map ≡ old.map
  pub found : new.found ≡ old.found
  pub version : new.version ≡ old.version
  pub kept : new.kept ≡ fin.insert old.kept placed.pvbn block
  pub containers : KeepsMaps disk old.containers new.containers
  pub here : IfSome (paged_at new.containers slot) (λ paged. is_here paged (placed.vvbn / 256) ≡ true)

-- the next root won't hold the block of an entry
abbrev pub given_back : Space → Option Entry → Space
given_back space None = space
given_back space (Some entry) = record space { next = slice_set space.next entry.pvbn false }

-- A block of a kind is kept under a PVBN that was free, and the entry of a VVBN that no slot had leads to it. Where that VVBN had an
-- entry still, the block of that is given back: the one that the leaf in memory has, which is the container's as far as entries are told. All
-- else stays.
pub record PlacesBlock (disk : Disk) (old : Pool) (map : Volume) (slot kind : ℕ) (block : List ℕ) (new : Pool) (map_after : Volume) (placed : Placed) : Type 0 where
  pub taken : Space
  pub takes : Takes old.map map placed taken map_after
  pub before : Option Entry
  pub space : new.map ≡ given_back taken before
  pub told : TellsEntries disk old.containers → before ≡ own_entry (container_at old.containers slot) placed.vvbn
  pub entry : SetsEntry disk old.containers slot placed.vvbn (record { pvbn = placed.pvbn; kind = kind }) new.containers
  pub kept : new.kept ≡ fin.insert old.kept placed.pvbn block
  pub found : new.found ≡ old.found
  pub version : new.version ≡ old.version

-- No block was placed: leaves may have come into memory, and nothing else of a pool changed but its cache.
pub record LoadsPool (disk : Disk) (old new : Pool) : Type 0 where
  pub map : new.map ≡ old.map
  pub kept : new.kept ≡ old.kept
  pub found : new.found ≡ old.found
  pub version : new.version ≡ old.version
  pub containers : KeepsMaps disk old.containers new.containers

-- Why no number and no block were taken: a slot has each number, told at the place of the volume's label; or no block is free, told at the
-- place of the root. One was wanted and none found.
abbrev pub LacksRoom : Space → Volume → ℕ → ℕ → ℕ → ℕ → ℕ → Type 0
LacksRoom space map root label at want found = (want ≡ 1) × (found ≡ 0) ×
    (((at ≡ label) × ((v : ℕ) → v < map.span → taken_in map.slots v ≡ true)) ⊎ ((at ≡ root) × IsFull space))

abbrev pub LacksNumbers : Space → Volume → ℕ → ℕ → BlockFault → Type 0
LacksNumbers space map root label (Damaged at want found) = LacksRoom space map root label at want found
LacksNumbers space map root label DiskFault = ⊥
LacksNumbers space map root label Memory = ⊥

-- Why no block was placed: these; or a leaf doesn't stand where it has to, or wasn't read; or memory ran out.
abbrev pub LacksPlace : Disk → Slots → Space → Volume → ℕ → ℕ → BlockFault → Type 0
LacksPlace disk slots space map root label (Damaged at want found) = LacksRoom space map root label at want found ⊎ LacksLeaf disk slots at want found
LacksPlace disk slots space map root label DiskFault = Unit {0}
LacksPlace disk slots space map root label Memory = Unit {0}

-- how many numbers below the span no slot has
unfoldable pub free_numbers : Volume → ℕ
free_numbers map = count_by (λ v. not (taken_in map.slots v)) (range_with_len 0 map.span)

-- so many numbers and blocks are free at least
pub record HasRoom (space : Space) (map : Volume) (room : ℕ) : Type 0 where
  pub numbers : room ≤ free_numbers map
  pub blocks : room ≤ free_blocks space

-- at most one number and one block fewer are free
pub record LeavesRoom (space : Space) (map : Volume) (space_after : Space) (map_after : Volume) : Type 0 where
  pub numbers : free_numbers map ≤ free_numbers map_after + 1
  pub blocks : free_blocks space ≤ free_blocks space_after + 1

-- the block under a VVBN that is held
abbrev pub held_block : Volume → Pool → ℕ → Image → ℕ → Option (List ℕ)
held_block map pool slot i v = block_of pool.kept i (held_entry map pool.containers slot v)

-- the next root will hold the block of an entry
abbrev pub IsKeptBack : Space → Entry → Type 0
IsKeptBack space e = is_member space.next e.pvbn ≡ true

abbrev pub OtherPlace : Entry → Entry → Type 0
OtherPlace e f = f.pvbn ≢ e.pvbn

-- The entries of the volume's own container, those that are delayed among them, and the entries of the VVBNs that are held: the next
-- root will hold the block of each, and no two VVBNs have the same one. Soundness of an image gives it to what is loaded from it, for
-- each slot, whatever VVBNs the maps have (`loaded_apart` in `proofs/Apart.antt`).
pub record AreApart (pool : Pool) (map : Volume) (slot : ℕ) : Type 0 where
  pub own : (v : ℕ) → ForSome (own_entry (container_at pool.containers slot) v) (IsKeptBack pool.map)
  pub held : (v : ℕ) → ForSome (held_entry map pool.containers slot v) (IsKeptBack pool.map)
  pub own_apart : (v w : ℕ) → w ≢ v → ForSome (own_entry (container_at pool.containers slot) v) (λ e. ForSome (own_entry (container_at pool.containers slot) w) (OtherPlace e))
  pub held_apart : (v w : ℕ) → w ≢ v → ForSome (own_entry (container_at pool.containers slot) v) (λ e. ForSome (held_entry map pool.containers slot w) (OtherPlace e))

-- A placed block's VVBN wasn't held before. It leads to the block, and each other VVBN to the block that it led to, where the
-- volume's entries lie apart. They do afterwards, where entries are told.
pub record HoldsMore (disk : Disk) (old : Pool) (map : Volume) (slot kind : ℕ) (block : List ℕ) (new : Pool) (map_after : Volume) (placed : Placed) : Type 0 where
  pub fresh : held_entry map old.containers slot placed.vvbn ≡ None
  pub entry : held_entry map_after new.containers slot placed.vvbn ≡ Some (record { pvbn = placed.pvbn; kind = kind })
  pub others : (w : ℕ) → w ≢ placed.vvbn → held_entry map_after new.containers slot w ≡ held_entry map old.containers slot w
  pub content : (i : Image) → held_block map_after new slot i placed.vvbn ≡ Some block
  pub contents : AreApart old map slot → (i : Image) (w : ℕ) → w ≢ placed.vvbn → held_block map_after new slot i w ≡ held_block map old slot i w
  pub apart : TellsEntries disk old.containers → AreApart old map slot → AreApart new map_after slot
