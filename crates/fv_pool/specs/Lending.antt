-- One volume's blocks over what a session lends: what they show to a tree, and what the calls of a tree leave of all that was lent.
use Rattle.std.specs.Prelude.{◌≡◌, ◌≢◌, ◌<◌, ◌≤◌, ◌+◌, ◌⊎◌, ◌==◌, ◌||◌, ℕ, zero, suc, true, false, cond, List, length, Option, Some, None, is_some, IsTrue}
use Rattle.std.specs.Ordering.{nat_cmp}
use Rattle.std.specs.FinMap as fin
use Rattle.fv_disk.specs.Shown.{Rose, Image, Shown as Disk}
use Rattle.fv_disk.specs.DiskCalls.{OnlyReads}
use Rattle.fv_disk.specs.declared.fault.BlockFault.{BlockFault}
use Rattle.fv_disk.specs.declared.fault.BlockFault.TheVariants.{DiskFault, Damaged, Memory}
use Rattle.fv_bits.specs.Members.{is_member}
use Rattle.fv_codec.specs.Blocks.{last_place}
use Rattle.fv_image.specs.Layout.{root_place}
use Rattle.fv_image.specs.Reclaimed.{IsAllocatable}
use Rattle.fv_aggmap.specs.Space.{Space, blocks_of, free_blocks, is_held}
use Rattle.fv_container.specs.declared.entry.Entry.{Entry}
use Rattle.fv_container.specs.Chains.{AreCleanOn, Slots, container_at, own_entry, slot_count}
use Rattle.fv_store.specs.Held.{StandsOn}
use Rattle.fv_tree.specs.Sources.{Shown, Use}
use Rattle.fv_tree.specs.Spelled.{Rooted}
use Rattle.fv_tree.specs.Standing.{IsNodeDamage, LacksBlock}
use Rattle.fv_volmap.specs.Slots.{Volume, active_of, has, slot_at}
use Rattle.fv_pool.specs.declared.blocks.Home.{Home}
use Rattle.fv_pool.specs.declared.noted.Noted.{Noted}
use Rattle.fv_pool.specs.declared.pool.Pool.{Pool}
pub use Rattle.fv_pool.specs.BlocksOver.{HasShapeOf, TellsEntries, tree_in}
use Rattle.fv_pool.specs.BlocksOver.{AreApart, LacksLeaf, entries_in, free_numbers, held_block, held_entry, place_read, steps_by, IsRightPlace}

-- What a session lends for one volume: the pool, the volume's maps, the disk, and the counter of steps; with the volume that is
-- meant, the room that was made for its blocks, the strays, and the damages that were answered.
pub record Lent : Type 1 where
  pub pool : Pool
  pub map : Volume
  pub disk : Disk
  pub steps : ℕ
  pub home : Home
  pub room : ℕ
  pub strays : ℕ
  pub noted : Noted

abbrev pub lent_by : Pool → Volume → Disk → ℕ → Home → ℕ → ℕ → Noted → Lent
lent_by pool map disk steps home room strays noted = record { pool = pool; map = map; disk = disk; steps = steps; home = home; room = room; strays = strays; noted = noted }

-- ---- what is shown

-- a block more under a number, where there is one
abbrev pub with_block : fin.FinMap nat_cmp (List ℕ) → ℕ → Option (List ℕ) → fin.FinMap nat_cmp (List ℕ)
with_block blocks v None = blocks
with_block blocks v (Some block) = fin.insert blocks v block

-- what a function has below a number
unfoldable pub below : ℕ → (ℕ → Option (List ℕ)) → fin.FinMap nat_cmp (List ℕ)
below zero f = fin.empty
below (suc n) f = with_block (below n f) n (f n)

-- the VVBNs that are held, with their blocks
abbrev pub blocks_held : Volume → Pool → ℕ → Image → fin.FinMap nat_cmp (List ℕ)
blocks_held map pool slot i = below 1048576 (held_block map pool slot i)

-- the PVBN and the kind of an entry; 0 and 0 where none stands
abbrev pub use_of : Option Entry → Use
use_of None = record { pvbn = 0; kind = 0 }
use_of (Some e) = record { pvbn = e.pvbn; kind = e.kind }

-- the members of the active map are in use, each as its entry says
abbrev pub use_under : Volume → Slots → ℕ → ℕ → Option Use
use_under map slots slot v = cond (is_member (active_of map) v) (Some (use_of (held_entry map slots slot v))) None

-- a place, and 0 where there is none
abbrev pub place_or_none : Option ℕ → ℕ
place_or_none None = 0
place_or_none (Some place) = place

-- One number or block was wanted and none was there: at the place of the volume's label, or at that of the root.
pub record LacksOne (label root at want found : ℕ) : Type 0 where
  pub want_is : want ≡ 1
  pub found_is : found ≡ 0
  pub at_is : (at == label || at == root) ≡ true

-- What a tree sees: the blocks that are held, the active map with the entries of its members, which pointers tell no wrong place and where
-- they are read, the room that was made, the steps that pointers cost and those that were made, the faults of the disk, and the damages that were answered.
abbrev pub shown_over : Lent → Shown
shown_over l = record {
  held = blocks_held l.map l.pool l.home.slot l.disk.reads;
  used = use_under l.map l.pool.containers l.home.slot;
  strays = l.strays;
  right = λ v pvbn. IsRightPlace (held_entry l.map l.pool.containers l.home.slot v) pvbn;
  read_at = λ p. place_or_none (place_read (held_entry l.map l.pool.containers l.home.slot p.vvbn) p.pvbn);
  room = l.room;
  cost = λ p. steps_by p.pvbn;
  spent = l.steps;
  faults = l.disk.faults;
  damages = l.noted.count;
  last = record { at = l.noted.at; want = l.noted.want; found = l.noted.found };
  is_damage = λ d. ∥ (LacksOne l.home.label (root_place l.pool.found.slot) d.at d.want d.found ⊎ LacksLeaf l.disk l.pool.containers d.at d.want d.found) ∥₁;
}

-- ---- damages

-- a damage is counted and kept as the last one; another fault changes nothing
abbrev pub Notes : Noted → BlockFault → Noted → Type 0
Notes old (Damaged at want found) new = Rose old.count new.count × (old.count ≤ new.count) × (new.at ≡ at) × (new.want ≡ want) × (new.found ≡ found)
Notes old DiskFault new = new ≡ old
Notes old Memory new = new ≡ old

-- A pointer's VVBN isn't held: the place of the volume's label, with 1 for the block that has to stand there.
pub record IsHole (label at want found : ℕ) : Type 0 where
  pub at_is : at ≡ label
  pub want_is : want ≡ 1
  pub found_is : found ≡ 0

-- the last damage is one of those
abbrev pub WasHole : ℕ → Noted → Type 0
WasHole label noted = IsHole label noted.at noted.want noted.found

abbrev pub WasLack : ℕ → ℕ → Noted → Type 0
WasLack label root noted = LacksOne label root noted.at noted.want noted.found

-- or a leaf of a container that has to stand there
abbrev pub WasLeaf : Disk → Slots → Noted → Type 0
WasLeaf disk slots noted = LacksLeaf disk slots noted.at noted.want noted.found

-- what the last damage is where any was answered
abbrev pub WasDamage : Disk → Pool → Home → Noted → Type 0
WasDamage disk pool home noted = WasLack home.label (root_place pool.found.slot) noted ⊎ WasLeaf disk pool.containers noted

-- ---- what calls leave

-- Blocks were read. Nothing changed but the cache, the steps, the disk's time and count of faults, and the damages; one that came
-- is that of a VVBN that isn't held, or of a leaf of a container.
pub record ReadsOver (old new : Lent) : Type 0 where
  pub home : new.home ≡ old.home
  pub map : new.map ≡ old.map
  pub space : new.pool.map ≡ old.pool.map
  pub containers : new.pool.containers ≡ old.pool.containers
  pub kept : new.pool.kept ≡ old.pool.kept
  pub found : new.pool.found ≡ old.pool.found
  pub version : new.pool.version ≡ old.pool.version
  pub room : new.room ≡ old.room
  pub strays : new.strays ≡ old.strays
  pub steps : old.steps ≤ new.steps
  pub only_reads : OnlyReads old.disk new.disk
  pub noted : (new.noted ≡ old.noted) ⊎ (WasHole old.home.label new.noted ⊎ WasLeaf old.disk old.pool.containers new.noted)

-- an entry of a slot's own container leads to a block
pub record IsOwn (slots : Slots) (slot b : ℕ) : Type 0 where
  pub vvbn : ℕ
  pub entry : Entry
  pub stands : own_entry (container_at slots slot) vvbn ≡ Some entry
  pub leads : entry.pvbn ≡ b

-- a block that calls for a slot's volume may take: it lies where a volume's can, the root on the disk doesn't hold it, and, as far as entries
-- are told, it is free, or an entry of the volume leads to it, which may be replaced
pub record MayTake (told : Type 0) (space : Space) (slots : Slots) (slot b : ℕ) : Type 0 where
  pub lies : IsAllocatable (blocks_of space) b
  pub spare : is_member space.committed b ≡ false
  pub free : told → (is_held space.committed space.next b ≡ false) ⊎ IsOwn slots slot b

-- a VVBN has an entry now that leads to a block that could be taken
pub record IsNewEntry (told : Type 0) (space : Space) (slots new : Slots) (slot v : ℕ) : Type 0 where
  pub entry : Entry
  pub stands : own_entry (container_at new slot) v ≡ Some entry
  pub takes : MayTake told space slots slot entry.pvbn

-- the last damage came for want of a number or a block, and the room that was made is used up
pub record IsOutOfRoom (old new : Lent) : Type 0 where
  pub none : new.room ≡ 0
  pub lacks : WasLack old.home.label (root_place old.pool.found.slot) new.noted

-- no more numbers and blocks went than the room fell by
pub record Spends (old new : Lent) : Type 0 where
  pub numbers : free_numbers old.map + new.room ≤ free_numbers new.map + old.room
  pub blocks : free_blocks old.pool.map + new.room ≤ free_blocks new.pool.map + old.room

-- Where the entries of a volume lie apart they do so afterwards, and each number that another slot of its maps than the active one has leads to
-- the entry and the block that it led to.
pub record KeepsSlots (slot : ℕ) (old new : Lent) : Type 0 where
  pub apart : AreApart new.pool new.map slot
  pub entries : (k v : ℕ) → k ≢ 0 → has v (slot_at old.map k) ≡ true → held_entry new.map new.pool.containers slot v ≡ held_entry old.map old.pool.containers slot v
  pub blocks : (k v : ℕ) → k ≢ 0 → has v (slot_at old.map k) ≡ true → (i : Image) → held_block new.map new.pool slot i v ≡ held_block old.map old.pool slot i v

-- Blocks were read, placed and given up for one volume. The disk is only read, and the root on it holds what it held. Where entries are
-- told, a block that the next root held it goes on holding unless an entry of the volume led to it, and what it holds anew is an entry's. No
-- block is kept anew, and no entry leads to a block, that couldn't be taken. The entries behind the span stay, those under numbers that another
-- slot than the active one has, and all of other volumes. A number that the active map has anew has an entry. While some of the room is left, it
-- tells what was taken.
pub record GoesOver (old new : Lent) : Type 0 where
  pub home : new.home ≡ old.home
  pub found : new.pool.found ≡ old.pool.found
  pub version : new.pool.version ≡ old.pool.version
  pub room : new.room ≤ old.room
  pub spends : 0 < new.room → Spends old new
  pub steps : old.steps ≤ new.steps
  pub only_reads : OnlyReads old.disk new.disk
  pub noted : (new.noted ≡ old.noted) ⊎ (WasHole old.home.label new.noted ⊎ (IsOutOfRoom old new ⊎ WasLeaf old.disk old.pool.containers new.noted))
  pub committed : new.pool.map.committed ≡ old.pool.map.committed
  pub loses : TellsEntries old.disk old.pool.containers → (b : ℕ) → is_member old.pool.map.next b ≡ true → is_member new.pool.map.next b ≡ false → IsOwn old.pool.containers old.home.slot b
  pub gains : TellsEntries old.disk old.pool.containers → (b : ℕ) → is_member new.pool.map.next b ≡ true → IsOwn new.pool.containers old.home.slot b
      ⊎ ((is_member old.pool.map.next b ≡ true) × (IsOwn old.pool.containers old.home.slot b → IsOwn new.pool.containers old.home.slot b))
  pub entries : (v : ℕ) → (own_entry (container_at new.pool.containers old.home.slot) v ≡ own_entry (container_at old.pool.containers old.home.slot) v)
      ⊎ IsNewEntry (TellsEntries old.disk old.pool.containers) old.pool.map old.pool.containers new.pool.containers old.home.slot v
  pub beyond : (v : ℕ) → old.map.span ≤ v → own_entry (container_at new.pool.containers old.home.slot) v ≡ own_entry (container_at old.pool.containers old.home.slot) v
  pub kept : (b : ℕ) → (fin.get new.pool.kept b ≡ fin.get old.pool.kept b) ⊎ MayTake (TellsEntries old.disk old.pool.containers) old.pool.map old.pool.containers old.home.slot b
  pub shape : HasShapeOf (container_at old.pool.containers old.home.slot) (container_at new.pool.containers old.home.slot)
  pub others : (s : ℕ) → s ≢ old.home.slot → container_at new.pool.containers s ≡ container_at old.pool.containers s
  pub parents : new.pool.containers.parents ≡ old.pool.containers.parents
  pub span : new.map.span ≡ old.map.span
  pub snapshots : (s : ℕ) → s ≢ 0 → slot_at new.map s ≡ slot_at old.map s
  pub clean : TellsEntries old.disk old.pool.containers → AreCleanOn new.disk.reads new.pool.containers
  pub keeps : TellsEntries old.disk old.pool.containers → AreApart old.pool old.map old.home.slot → KeepsSlots old.home.slot old new
  pub own_kept : (k v : ℕ) → k ≢ 0 → has v (slot_at old.map k) ≡ true → own_entry (container_at new.pool.containers old.home.slot) v ≡ own_entry (container_at old.pool.containers old.home.slot) v
  pub own_new : (v : ℕ) → has v (slot_at new.map 0) ≡ true → (has v (slot_at old.map 0) ≡ true) ⊎ (is_some (own_entry (container_at new.pool.containers old.home.slot) v) ≡ true)

-- ---- calls on a tree

-- A volume can be lent: its slot is one of those that volumes can have, the cache stands on the disk, the numbers of its maps are
-- VVBNs, and its container has an entry for each of them.
pub record CanLend (pool : Pool) (map : Volume) (disk : Disk) (slot : ℕ) : Type 0 where
  pub within : slot < slot_count
  pub stands : StandsOn disk pool.store.pairs
  pub few : map.span ≤ last_place + 1
  pub entries : map.span ≤ length (entries_in (container_at pool.containers slot))

-- Content is told: the disk tells what it reads, the entries of the volume lie apart, and the containers are clean on the disk.
abbrev pub IsTold : Disk → Pool → Volume → ℕ → Type 0
IsTold disk pool map slot = IsTrue disk.tells × AreApart pool map slot × AreCleanOn disk.reads pool.containers

-- A new ledger is one of a name that is cut into parts, of which it has some. It counts the steps of a call.
pub record IsLedger (blank_name blank_parts of_name of_parts : ℕ) : Type 0 where
  pub name : blank_name ≡ of_name
  pub parts : blank_parts ≡ of_parts
  pub some : 0 < of_parts

abbrev pub no_damage : Noted
no_damage = record { count = 0; at = 0; want = 0; found = 0 }

-- what is lent when a call begins: no stray was counted and no damage answered
abbrev pub lent_for : Pool → Volume → Disk → ℕ → Home → ℕ → Lent
lent_for pool map disk steps home room = lent_by pool map disk steps home room 0 no_damage

-- what a volume shows to a tree
abbrev pub sees : Pool → Volume → Disk → Home → Shown
sees pool map disk home = shown_over (lent_for pool map disk 0 home 0)

-- a call left it so, whatever it counted
pub record ReadsLent (old : Lent) (pool : Pool) (map : Volume) (disk : Disk) (steps : ℕ) : Type 0 where
  pub noted : Noted
  pub reads : ReadsOver old (lent_by pool map disk steps old.home old.room old.strays noted)

pub record GoesLent (old : Lent) (pool : Pool) (map : Volume) (disk : Disk) (steps room : ℕ) : Type 0 where
  pub strays : ℕ
  pub noted : Noted
  pub goes : GoesOver old (lent_by pool map disk steps old.home room strays noted)

-- Why a call that only loads failed: a read failed; or a pointer of the tree leads to a VVBN that isn't held, or, where content is told,
-- the block of a node of the tree hasn't its shape, or a leaf of a container doesn't stand where it has to; or memory ran out.
abbrev pub ReadFails : Type 0 → Rooted → Lent → ℕ → BlockFault → Type 0
ReadFails told t old faults DiskFault = Rose old.disk.faults faults
ReadFails told t old faults (Damaged at want found) = (faults ≡ old.disk.faults)
    × ((IsHole old.home.label at want found × (told → LacksBlock t)) ⊎ ((told → IsNodeDamage t (shown_over old) (shown_over old) at want found) ⊎ LacksLeaf old.disk old.pool.containers at want found))
ReadFails told t old faults Memory = faults ≡ old.disk.faults

-- Why a call that places failed: a read failed; or a pointer's VVBN isn't held, or the room is used up and a number or a block is
-- lacking, or a leaf of a container doesn't stand where it has to; or memory ran out.
abbrev pub GoesFails : Lent → ℕ → ℕ → BlockFault → Type 0
GoesFails old faults room DiskFault = Rose old.disk.faults faults
GoesFails old faults room (Damaged at want found) =
    (faults ≡ old.disk.faults) × (IsHole old.home.label at want found ⊎ (((room ≡ 0) × LacksOne old.home.label (root_place old.pool.found.slot) at want found) ⊎ LacksLeaf old.disk old.pool.containers at want found))
GoesFails old faults room Memory = faults ≡ old.disk.faults
