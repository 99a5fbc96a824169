-- What a clean step leaves of the volumes of a session. No file of the volume that is cleaned is in memory.
--
-- An example: the active table and a snapshot of a mirror share the node under VVBN 9, which lies at 420. A step moves it to 500, with all places in
-- it known. Both tables are told as before, with that node under VVBN 9; each pointer to it is unknown, so none tells 420. Block 420 was the mirror's
-- own, so the next root won't hold it.
use Rattle.std.specs.Prelude.{◌≡◌, ◌≢◌, ◌<◌, ℕ, Bool, true, false, List, Option, Some, None, IfSome, is_some}
use Rattle.fv_disk.specs.Shown.{Shown as Disk}
use Rattle.fv_disk.specs.DiskCalls.{OnlyReads}
use Rattle.fv_bits.specs.Members.{is_member}
use Rattle.fv_container.specs.declared.entry.Entry.{Entry}
use Rattle.fv_container.specs.Chains.{container_at, own_entry, paged_at, slot_count}
use Rattle.fv_image.specs.Views.{Placed}
use Rattle.fv_store.specs.Held.{StandsOn}
use Rattle.fv_tables.specs.Alike.{hintless}
use Rattle.fv_tables.specs.Spelled.{Under}
use Rattle.fv_tables.specs.Told.{standing_at, table_told}
use Rattle.fv_tree.specs.Sources.{Use}
use Rattle.fv_files.specs.Apart.{stored_trees}
use Rattle.fv_volmap.specs.Slots.{Slot}
use Rattle.fv_pool.specs.declared.pool.Pool.{Pool}
use Rattle.fv_pool.specs.declared.rooted.Rooted.{Rooted}
use Rattle.fv_volume.specs.declared.state.VolumeState.{VolumeState}
use Rattle.fv_volume.specs.Files.{AreNamed}
use Rattle.fv_volume.specs.Held.{IsHeldIn}
use Rattle.fv_volume.specs.OneVolume.{IsTableIn, volume_for}
use Rattle.fv_volume.specs.Placing.{LiesApart}
use Rattle.fv_volume.specs.Sharing.{pointer_in}
use Rattle.fv_volume.specs.Slots.{sum_of}
use Rattle.fv_volume.specs.States.{States, state_at, with_state}
use Rattle.fv_volume.specs.Stored.{AreSpacedIn}
use Rattle.fv_volumes.specs.Footing.{AreFooted}
use Rattle.fv_volumes.specs.Housed.{AreHoused}
use Rattle.fv_volumes.specs.UnderRoot.{IsLentAt}
use Rattle.fv_cleaner.specs.Filling.{FillsBlock, FillsPlaces}
use Rattle.fv_cleaner.specs.Searching.{IsNext, Lies}
use Rattle.fv_cleaner.specs.Stepping.{CleansVolume}

-- ---- a table

-- A block of a slot was cleaned, as the tables of that slot see it. The slot has the VVBN. The block was to be cleaned next, lies at another place,
-- and each pointer in it got the place of its VVBN. All else of the slot stays, and what a slot has under a VVBN lies there.
pub record CleansUnder (at : Lies) (old : Under) (uses : ℕ → Option Use) (v : ℕ) (x : Placed) (new : Under) (now : ℕ → Option Use) (place : ℕ) (block : List ℕ) : Type 0 where
  pub next : IsNext at v x
  pub there : old v ≡ Some x.block
  pub used : uses v ≡ Some (record { pvbn = x.pvbn; kind = x.kind })
  pub here : new v ≡ Some block
  pub use_now : now v ≡ Some (record { pvbn = place; kind = x.kind })
  pub others : (w : ℕ) → w ≢ v → new w ≡ old w
  pub uses_same : (w : ℕ) → w ≢ v → now w ≡ uses w
  pub lies : (w : ℕ) (z : Placed) → at w ≡ Some z → is_some (old w) ≡ true → (old w ≡ Some z.block) × (uses w ≡ Some (record { pvbn = z.pvbn; kind = z.kind }))
  pub fills : FillsBlock x.kind x.block block
  pub places : FillsPlaces at x.kind x.block block

-- So the table of a root that lies whole in the slot lies whole in it again, of a volume of which not all places are known. It is told as before,
-- and each pointer of it is the same but for the place that it tells.
pub record TableStays (old new : Under) (now : ℕ → Option Use) (slot : Slot) (count : ℕ) (root : Rooted) : Type 0 where
  pub lies : IsTableIn false new now slot count root
  pub told : table_told (standing_at new root.levels root.root) ≡ table_told (standing_at old root.levels root.root)
  pub pointers : (o : Option ℕ) (level place : ℕ) → hintless (pointer_in (stored_trees new root.levels root.root o) level place) ≡ hintless (pointer_in (stored_trees old root.levels root.root o) level place)

abbrev pub StaysInSlot : Type 0
StaysInSlot = (at : Lies) (old new : Under) (uses now : ℕ → Option Use) (v place : ℕ) (x : Placed) (block : List ℕ) → CleansUnder at old uses v x new now place block
    → (slot : Slot) (count : ℕ) (root : Rooted) → IsTableIn false old uses slot count root → TableStays old new now slot count root

-- ---- a session

-- The volume of a slot is one of a session's volumes that are held. Not all its places are known, nothing of its files is in memory, and no other
-- volume has an entry for one of its blocks.
pub record MayBeCleaned (disk : Disk) (pool : Pool) (states : States) (slot : ℕ) (x : VolumeState) : Type 0 where
  pub there : state_at states slot ≡ Some x
  pub each : (s : ℕ) → IfSome (state_at states s) (IsHeldIn disk pool s)
  pub housed : AreHoused pool.containers states
  pub footed : AreFooted states pool.containers
  pub apart : (s : ℕ) (z : VolumeState) → s ≢ slot → state_at states s ≡ Some z → LiesApart pool.containers s slot
  pub files : x.files ≡ None
  pub unclean : x.known ≡ false

-- What a step leaves of the other volumes: each is held, and stands for what it stood for.
pub record LeavesBeside (disk : Disk) (pool : Pool) (states : States) (slot : ℕ) (after : Disk) (left : Pool) : Type 0 where
  pub held : (s : ℕ) (z : VolumeState) → s ≢ slot → state_at states s ≡ Some z → IsHeldIn after left s z
  pub volume : (s : ℕ) (z : VolumeState) → s ≢ slot → state_at states s ≡ Some z → volume_for after left z ≡ volume_for disk pool z

-- The volume that was cleaned is held, and stands for what it stood for; so it is with the others. The volumes are in order again.
pub record StandsCleaned (disk : Disk) (pool : Pool) (states : States) (slot : ℕ) (x : VolumeState) (after : Disk) (left : Pool) (y : VolumeState) : Type 0 where
  pub held : IsHeldIn after left slot y
  pub name : y.name ≡ x.name
  pub volume : volume_for after left y ≡ volume_for disk pool x
  pub found : left.found ≡ pool.found
  pub version : left.version ≡ pool.version
  pub others : LeavesBeside disk pool states slot after left
  pub housed : AreHoused left.containers (with_state states slot (Some y))
  pub footed : AreFooted (with_state states slot (Some y)) left.containers
  pub named : AreNamed states → AreNamed (with_state states slot (Some y))
  pub commits : sum_of (with_state states slot (Some y)) ≡ sum_of states

-- What is asked of a step: the cache stands on the disk, which was only read.
abbrev pub StandsAfterStep : Type 1
StandsAfterStep = (disk after : Disk) (pool left : Pool) (states : States) (slot : ℕ) (x y : VolumeState) (took : Bool) → MayBeCleaned disk pool states slot x → CleansVolume disk pool x left y took → OnlyReads disk after
    → StandsOn after left.store.pairs → StandsCleaned disk pool states slot x after left y

-- ---- what the next root holds

-- Which blocks the next root holds after a block of a volume moved: that where it lies now; not that of the entry that the volume's own container
-- had under its VVBN; and of all others those that it would have held.
pub record HoldsAfter (pool left : Pool) (slot v place : ℕ) : Type 0 where
  pub taken : is_member left.map.next place ≡ true
  pub was_free : is_member pool.map.next place ≡ false
  pub gone : (e : Entry) → own_entry (container_at pool.containers slot) v ≡ Some e → is_member left.map.next e.pvbn ≡ false
  pub others : (b : ℕ) → b ≢ place → ((e : Entry) → own_entry (container_at pool.containers slot) v ≡ Some e → b ≢ e.pvbn) → is_member left.map.next b ≡ is_member pool.map.next b
  pub committed : left.map.committed ≡ pool.map.committed

-- So volumes are spaced again,
abbrev pub StaySpaced : Pool → States → ℕ → Pool → VolumeState → Type 0
StaySpaced pool states slot left y = AreSpacedIn pool.found.blocks pool.map.next (state_at states) (container_at pool.containers)
    → AreSpacedIn left.found.blocks left.map.next (state_at (with_state states slot (Some y))) (container_at left.containers)

-- and each slot stands beside what the root on the disk names, as it did.
abbrev pub StayLent : Disk → Pool → States → ℕ → Disk → Pool → VolumeState → Type 0
StayLent disk pool states slot after left y = ((s : ℕ) → s < slot_count → IsLentAt disk.reads pool.found s (state_at states s) (paged_at pool.containers s))
    → (s : ℕ) → s < slot_count → IsLentAt after.reads left.found s (state_at (with_state states slot (Some y)) s) (paged_at left.containers s)
