-- What a consistency point does, and why it isn't done.
use Rattle.std.specs.Prelude.{◌≡◌, ◌<◌, ◌≤◌, ◌+◌, ◌%◌, ◌^◌, ◌||◌, ◌⊎◌, ℕ, Bool, List, Some, None, Result, IfSome, IsTrue, true, false, if◌then◌else◌}
use Rattle.std.specs.Option.{option_map}
use Rattle.std.specs.FinMap as fin
use Rattle.fv_disk.specs.Shown.{Image, Shown, IsSettled}
use Rattle.fv_disk.specs.Faults.{HasBlockCause}
use Rattle.fv_disk.specs.Sparing.{LeftBefore}
use Rattle.fv_bits.specs.Members.{is_member}
use Rattle.fv_codec.specs.declared.root.Root.{Root}
use Rattle.fv_model.specs.Machines.{Machine, first_block}
use Rattle.fv_image.specs.Layout.{root_place}
use Rattle.fv_image.specs.NewerRoot.{root_of}
use Rattle.fv_image.specs.Volumes.{told}
use Rattle.fv_image.specs.Held.{label_place, view_at}
use Rattle.fv_image.specs.WholeMachine.{machine_of}
use Rattle.fv_root.specs.declared.find.Found.{Found}
use Rattle.fv_root.specs.Finding.{other_slot, root_found}
use Rattle.fv_root.specs.Commits.{IsFoundOn, next_found}
use Rattle.fv_store.specs.Held.{StandsOn}
use Rattle.fv_container.specs.Chains.{Slots, container_at, own_entry, parent_at, slot_count}
use Rattle.fv_container.specs.Leading.{place_at}
use Rattle.fv_container.specs.Mapped.{Mapped, entry_under}
use Rattle.fv_delay.specs.declared.regions.Region.{Region}
use Rattle.fv_delay.specs.Holding.{has_region}
use Rattle.fv_delay.specs.Reclaims.{goes_with}
use Rattle.fv_aggmap.specs.Loading.{IsLoaded as IsMapLoaded}
use Rattle.fv_aggmap.specs.Space.{blocks_of, free_blocks}
use Rattle.fv_pool.specs.BlocksOver.{LacksLeaf}
use Rattle.fv_pool.specs.declared.pool.Pool.{Pool}
use Rattle.fv_volume.specs.declared.state.VolumeState.{VolumeState}
use Rattle.fv_volume.specs.Stored.{is_map_written, map_entry, stays}
use Rattle.fv_volume.specs.States.{States, placed_in, state_at, head_in, view_over}
use Rattle.fv_volume.specs.Trees.{active_in, no_trees}
use Rattle.fv_disk.specs.declared.fault.BlockFault.{BlockFault}
use Rattle.fv_disk.specs.declared.fault.BlockFault.TheVariants.{DiskFault, Damaged, Memory}
use Rattle.fv_cp.specs.Choosing.{CountsMissing, LeavesRoom, has_slot, marked_as, regions_chosen}
use Rattle.fv_cp.specs.Known.{AreKnown}
use Rattle.fv_cp.specs.Lent.{FitTogether, IsLent, blocks_asked}
use Rattle.fv_volumes.specs.Housed.{settled_as}

-- the machine of the volumes lent
abbrev pub machine_lent : Shown → Pool → States → Machine
machine_lent disk pool states = told (view_over pool states disk.reads)

-- a block behind the fixed ones that the root on the disk holds
abbrev pub IsOnDisk : Pool → ℕ → Type 0
IsOnDisk pool b = (first_block pool.found.blocks ≤ b) × (is_member pool.map.committed b ≡ true)

-- The old side: an image stands for the machine of the last point, and each block that the root on the disk holds is as in an image that a
-- crash before might have left. So of what that root holds nothing that was given back is written over before another root counts.
pub record IsOld (disk : Shown) (pool : Pool) (before : Machine) (c : Image) : Type 0 where
  pub stands : machine_of c ≡ Some before
  pub left : LeftBefore (IsOnDisk pool) disk c

-- The new side: the root that follows the one on the disk counts, and the image stands for a machine.
pub record IsNew (pool : Pool) (m : Machine) (c : Image) : Type 0 where
  pub stands : machine_of c ≡ Some m
  pub root : Root
  pub counts : root_of c ≡ Some (root_found (next_found pool.found root))

-- an image is of the old side, or of the new one with the machine of the volumes lent
abbrev pub OldOrLent : Shown → Pool → States → Machine → Image → List ℕ → Type 0
OldOrLent disk pool states before c g = (IsOld disk pool before c ⊎ IsNew pool (machine_lent disk pool states) c) × (g ≡ disk.given)

-- What a point makes of the container of a volume that it writes, some regions of which it reclaims: each delayed entry of these regions
-- is a hole now, the blocks of the maps that are written have new places, and every other entry stays.
pub record LeavesEntries (set : List Bool) (regions : ℕ → Bool) (x : VolumeState) (old new : Mapped) : Type 0 where
  pub reclaimed : (v : ℕ) → is_map_written x v ≡ false → entry_under new v ≡ (if goes_with x.map old regions v then None else entry_under old v)
  pub written : (v : ℕ) → is_map_written x v ≡ true → entry_under new v ≡ Some (map_entry (place_at new v))
  pub spare : (v : ℕ) → is_map_written x v ≡ true → is_member set (place_at new v) ≡ false

-- whether a point writes a volume that reclaims some regions
abbrev pub is_due : List Region → ℕ → VolumeState → Bool
is_due regions s x = has_slot regions s || x.changed

-- So it is with all volumes, where a point reclaims these regions: one that it doesn't write keeps its container.
pub record LeavesContainers (set : List Bool) (regions : List Region) (states : States) (old new : Slots) : Type 0 where
  pub written : (s : ℕ) (x : VolumeState) (before : Mapped) → s < slot_count → state_at states s ≡ Some x → is_due regions s x ≡ true → container_at old s ≡ Some before
      → (after : Mapped) × ((container_at new s ≡ Some after) × LeavesEntries set (has_region regions s) x before after)
  pub stays : (s : ℕ) → s < slot_count → IfSome (state_at states s) (λ x. is_due regions s x ≡ false) → container_at new s ≡ container_at old s

-- What a point that was done leaves: a settled disk that stands for the volumes lent, which are as they were, with nothing new. The regions
-- that are chosen for what was missing are reclaimed, and no other.
pub record IsPoint (old : Shown) (pool : Pool) (states : States) (want : ℕ) (new : Shown) (left : Pool) (stay : States) (marks : List Bool) : Type 0 where
  pub settled : IsSettled new
  pub stands : machine_of new.reads ≡ Some (machine_lent old pool states)
  pub lent : IsLent new left stay (machine_lent old pool states)
  pub heads : (s : ℕ) → option_map head_in (state_at stay s) ≡ option_map head_in (state_at states s)
  pub machine : machine_lent new left stay ≡ machine_lent old pool states
  pub tables : (s : ℕ) → IfSome (state_at states s) (λ x. active_in (view_over left stay new.reads) no_trees s ≡ active_in (view_over pool states old.reads) no_trees s)
  pub unchanged : (s : ℕ) → IfSome (state_at stay s) (λ x. x.changed ≡ false)
  pub room : LeavesRoom (view_at (root_found left.found) new.reads) want
  -- the regions were chosen for what the space rule lacks by the new image, with what was delayed before
  pub missing : CountsMissing pool states (view_at (root_found left.found) new.reads) want
  -- the volumes with delayed entries are marked
  pub delays : AreKnown new.reads left.found marks
  -- of a volume that was written the entries are as the writing leaves them, once its chosen regions were reclaimed; another keeps its
  -- container
  pub entries : (s : ℕ) (x : VolumeState) (before : Mapped) → s < slot_count → state_at states s ≡ Some x → is_due (regions_chosen pool states want) s x ≡ true → container_at pool.containers s ≡ Some before
      → (after : Mapped) × ((container_at left.containers s ≡ Some after) × LeavesEntries pool.map.committed (has_region (regions_chosen pool states want) s) x before after)
  pub containers : (s : ℕ) → s < slot_count → IfSome (state_at states s) (λ x. is_due (regions_chosen pool states want) s x ≡ false) → container_at left.containers s ≡ container_at pool.containers s
  pub blocks : left.found.blocks ≡ pool.found.blocks
  -- a volume without changes and without a chosen region isn't written: it stays as it is, and the root names the label for it that it had
  pub same : (s : ℕ) → IfSome (state_at states s) (λ x. is_due (regions_chosen pool states want) s x ≡ false → state_at stay s ≡ Some x)
  pub label_same : (s : ℕ) → IfSome (state_at states s) (λ x. is_due (regions_chosen pool states want) s x ≡ false → label_place (root_found left.found) s ≡ label_place (root_found pool.found) s)
  -- an entry that stays is as it was, with the block that it had, which waited or stood on the disk
  pub kept : (s v : ℕ) (x : VolumeState) → s < slot_count → state_at states s ≡ Some x → stays x v ≡ true
      → placed_in left.kept new.reads (own_entry (container_at left.containers s) v) ≡ placed_in pool.kept old.reads (own_entry (container_at pool.containers s) v)

-- The volumes stay as they were, but that each that changed or was to be written is now as the root on the disk names it.
abbrev pub AreWritten : States → States → Type 0
AreWritten states stay = (s : ℕ) → (marks : Bool) × ((label : ℕ) × (state_at stay s ≡ option_map (settled_as label) (option_map (marked_as marks) (state_at states s))))

-- The pool once another root counts: that root is the one found, and the map of the next root is the one that it has.
pub record IsSwitched (pool : Pool) (root : Root) (left : Pool) : Type 0 where
  pub found : left.found ≡ next_found pool.found root
  pub version : left.version ≡ pool.version
  pub map : left.map ≡ record { committed = pool.map.next; next = pool.map.next }
  pub size : blocks_of left.map ≡ pool.found.blocks

-- A root is the next one after another: it stands in the other slot, one generation on. Generations wrap at 2^64.
pub record IsNextRoot (found next : Found) : Type 0 where
  pub slot : next.slot ≡ other_slot found.slot
  pub generation : next.root.generation ≡ (found.root.generation + 1) % 2 ^ 64

-- What a point that was done leaves of any disk, and of any volumes that it was lent: the cache tells what the disk reads, the root and
-- the map in memory are those of the new root, all fits together as the next point needs it, and parents and the aggregate's size stay.
pub record GoesOn (old : Shown) (pool : Pool) (states : States) (new : Shown) (left : Pool) (stay : States) : Type 0 where
  pub stands : StandsOn new left.store.pairs
  -- the point was made: another root counts
  pub next : IsNextRoot pool.found left.found
  -- the version stays, and the new root has it
  pub version : left.version ≡ pool.version
  pub root_version : left.found.root.version ≡ pool.version
  pub found : IsTrue old.tells → IsFoundOn new left.found
  pub loaded : IsTrue old.tells → IsMapLoaded new.reads left.found left.map
  pub fit : FitTogether left stay
  pub unkept : left.kept ≡ fin.empty
  pub settled : AreWritten states stay
  -- the new root names no label for a slot without a volume
  pub free : (s : ℕ) → s < slot_count → state_at stay s ≡ None → label_place (root_found left.found) s ≡ 0
  pub parents : (s : ℕ) → parent_at left.containers s ≡ parent_at pool.containers s
  pub blocks : left.found.blocks ≡ pool.found.blocks

-- why a point isn't done: fewer blocks are free than the volumes ask for that changed
abbrev pub LacksRoom : Pool → States → BlockFault → Type 0
LacksRoom pool states DiskFault = Unit {0}
LacksRoom pool states (Damaged at want found) = (at ≡ root_place pool.found.slot) × ((want ≡ blocks_asked states) × ((found ≡ free_blocks pool.map) × (found < want)))
LacksRoom pool states Memory = ⊥

-- Why a point isn't prepared: that; or a leaf of a container doesn't stand where it has to, or wasn't read; or memory ran out.
abbrev pub LacksPoint : Shown → Pool → States → BlockFault → Type 0
LacksPoint disk pool states DiskFault = Unit {0}
LacksPoint disk pool states (Damaged at want found) = LacksRoom pool states (Damaged at want found) ⊎ LacksLeaf disk pool.containers at want found
LacksPoint disk pool states Memory = Unit {0}

-- both counts of faults rose where a write or barrier failed, and stay elsewhere
pub record Counts (old new : Shown) (result : Result (Unit {0}) BlockFault) : Type 0 where
  pub tells : new.tells ≡ old.tells
  pub given : new.given ≡ old.given
  pub ends : new.ends ≡ old.ends
  pub cause : HasBlockCause old.faults new.faults result
  pub write_cause : HasBlockCause old.write_faults new.write_faults result
