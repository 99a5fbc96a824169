-- What a consistency point does in front of which the files of all volumes are placed.
use Rattle.std.specs.Prelude.{◌≡◌, ◌≤◌, ◌<◌, ◌+◌, ◌⊎◌, ℕ, Bool, true, false, List, Some, None, Result, Ok, Err, IfSome, IsTrue}
use Rattle.std.specs.Option.{option_map}
use Rattle.std.specs.FinMap as fin
use Rattle.fv_disk.specs.Shown.{Image, IsSettled, Rose, Shown}
use Rattle.fv_model.specs.Machines.{Machine}
use Rattle.fv_image.specs.Held.{label_place, view_at}
use Rattle.fv_image.specs.WholeMachine.{machine_of}
use Rattle.fv_root.specs.Finding.{root_found}
use Rattle.fv_root.specs.Commits.{IsFoundOn}
use Rattle.fv_store.specs.Held.{StandsOn}
use Rattle.fv_container.specs.Chains.{container_at, own_entry, parent_at, slot_count}
use Rattle.fv_aggmap.specs.Loading.{IsLoaded as IsMapLoaded}
use Rattle.fv_aggmap.specs.Space.{free_blocks}
use Rattle.fv_pool.specs.declared.fault.VolumeFault.{VolumeFault}
use Rattle.fv_pool.specs.declared.fault.VolumeFault.TheVariants.{Refused, DiskFault, Damaged, Memory}
use Rattle.fv_pool.specs.declared.pool.Pool.{Pool}
use Rattle.fv_pool.specs.BlocksOver.{held_entry, LacksLeaf}
pub use Rattle.fv_pool.specs.Causes.{IsNoDamage}
use Rattle.fv_volume.specs.declared.state.VolumeState.{VolumeState}
use Rattle.fv_volumes.specs.Housed.{AreHoused}
use Rattle.fv_volume.specs.States.{States, placed_in, state_at}
use Rattle.fv_volume.specs.Stored.{stays}
use Rattle.fv_cp.specs.Held.{machine_held, IsHeld}
use Rattle.fv_cp.specs.Lent.{asked_all, FitTogether}
use Rattle.fv_cp.specs.Choosing.{CountsMissing, LeavesRoom, regions_chosen}
use Rattle.fv_cp.specs.Known.{AreKnown}
use Rattle.fv_disk.specs.declared.fault.BlockFault.TheVariants as block
use Rattle.fv_cp.specs.Placing.{pending_files, AreButPlaced, ArePlaced, AreReady, FailsToPlace, HasNumbers, HasWholeMap, HaveNoFiles, KeepCores, LeavesUnused, PlacesEntries, RestsPlaced}
use Rattle.fv_cp.specs.Points.{AreWritten, IsNew, IsNextRoot, IsOld, LacksRoom, LeavesContainers}

-- an image is of the old side, or of the new one with the machine of the session
abbrev pub OldOrHeld : Shown → Pool → States → Machine → Image → List ℕ → Type 0
OldOrHeld disk pool states before c g = (IsOld disk pool before c ⊎ IsNew pool (machine_held disk pool states) c) × (g ≡ disk.given)

-- What the placing of files and a point make of the entries of volumes. First each stays or leads to a block that the root on the disk
-- doesn't hold. Then regions are chosen by what the volumes are, with the maps that they have behind the point, and it leaves each entry
-- as one that reclaims these regions does.
pub record LeavesPlaced (pool : Pool) (states : States) (want : ℕ) (left : Pool) (stay : States) : Type 0 where
  -- the pool and the volumes between the two
  pub mid : Pool
  pub between : States
  pub found : mid.found ≡ pool.found
  pub version : mid.version ≡ pool.version
  pub others : AreButPlaced states between
  pub maps : (s : ℕ) → option_map (λ (x : VolumeState). x.map) (state_at stay s) ≡ option_map (λ (x : VolumeState). x.map) (state_at between s)
  -- the maps between the two are whole, and the point changes of a volume only whether it waits, and what names it
  pub whole : (s : ℕ) → HasWholeMap (state_at between s)
  pub written : AreWritten between stay
  pub housed : AreHoused mid.containers between
  pub placed : PlacesEntries pool.map pool.containers mid.containers
  pub unused : LeavesUnused pool mid between
  pub rest : RestsPlaced pool states mid between
  -- So these regions are those that are chosen by the entries of before and the volumes behind the point.
  pub chosen : regions_chosen mid between want ≡ regions_chosen pool stay want
  pub containers : LeavesContainers pool.map.committed (regions_chosen mid between want) between mid.containers left.containers

-- What such a point that was done leaves: a settled disk that stands for the machine of the session, which still stands for it, with
-- nothing in memory that isn't on the disk, and the space rule holds.
pub record IsHeldPoint (old : Shown) (pool : Pool) (states : States) (want : ℕ) (new : Shown) (left : Pool) (stay : States) (marks : List Bool) : Type 0 where
  pub settled : IsSettled new
  pub stands : machine_of new.reads ≡ Some (machine_held old pool states)
  pub held : IsHeld new left stay (machine_held old pool states)
  pub machine : machine_held new left stay ≡ machine_held old pool states
  pub unchanged : (s : ℕ) → IfSome (state_at stay s) (λ x. x.changed ≡ false)
  pub room : LeavesRoom (view_at (root_found left.found) new.reads) want
  -- the volumes with delayed entries are marked
  pub delays : AreKnown new.reads left.found marks
  pub entries : LeavesPlaced pool states want left stay
  -- the regions were chosen for what the space rule lacks by the new image, with what was delayed once the files were placed
  pub missing : CountsMissing entries.mid entries.between (view_at (root_found left.found) new.reads) want
  -- the new root names no label for a slot without a volume
  pub free : (s : ℕ) → s < slot_count → state_at stay s ≡ None → label_place (root_found left.found) s ≡ 0
  -- once the files were placed, an entry that stays is as it was, with the block that it had, which waited or stood on the disk
  pub kept : (s v : ℕ) (x : VolumeState) → s < slot_count → state_at entries.between s ≡ Some x → stays x v ≡ true
      → placed_in left.kept new.reads (own_entry (container_at left.containers s) v) ≡ placed_in entries.mid.kept old.reads (own_entry (container_at entries.mid.containers s) v)
  -- and without a file in memory no more blocks waited
  pub idle : HaveNoFiles states → entries.mid.kept ≡ pool.kept

-- Through a point before which no file is in memory the volumes stay but for that, and under each VVBN that a slot of a volume's maps has lies the
-- block of before, though it waited then: the entry along the chain of the volume is the same, and so is the block that it leads to.
pub record KeepsBlocks (old : Shown) (pool : Pool) (states : States) (new : Shown) (left : Pool) (stay : States) : Type 0 where
  pub written : AreWritten states stay
  pub blocks : (s v : ℕ) (x : VolumeState) → state_at states s ≡ Some x
      → placed_in left.kept new.reads (held_entry x.map left.containers s v) ≡ placed_in pool.kept old.reads (held_entry x.map pool.containers s v)

-- What it leaves of any disk, and of any volumes: the cache tells what the disk reads, the root and the map in memory are those of the new
-- root, all fits together as the next point needs it, no file is in memory and nothing of a volume waits to be written, calls can be made
-- on each volume, and of each only that is new which placing and a point change.
pub record GoesOnWhole (old : Shown) (pool : Pool) (states : States) (new : Shown) (left : Pool) (stay : States) : Type 0 where
  pub stands : StandsOn new left.store.pairs
  -- the point was made: another root counts, of the pool's version
  pub next : IsNextRoot pool.found left.found
  pub version : left.version ≡ pool.version
  pub root_version : left.found.root.version ≡ pool.version
  pub found : IsTrue old.tells → IsFoundOn new left.found
  pub loaded : IsTrue old.tells → IsMapLoaded new.reads left.found left.map
  pub fit : FitTogether left stay
  pub ready : AreReady new left stay
  pub none : HaveNoFiles stay
  pub unchanged : (s : ℕ) → IfSome (state_at stay s) (λ x. x.changed ≡ false)
  pub unkept : left.kept ≡ fin.empty
  -- the new root names no label for a slot without a volume
  pub free : (s : ℕ) → s < slot_count → state_at stay s ≡ None → label_place (root_found left.found) s ≡ 0
  pub cores : KeepCores states stay
  pub parents : (s : ℕ) → parent_at left.containers s ≡ parent_at pool.containers s
  pub blocks : left.found.blocks ≡ pool.found.blocks

-- What is left where it wasn't done, and no write failed: some files may have been placed. The volumes are what they were.
pub record StillHeld (old : Shown) (pool : Pool) (states : States) (new : Shown) (left : Pool) (stay : States) : Type 0 where
  pub placed : ArePlaced old pool states new left stay
  pub stands : StandsOn new left.store.pairs
  pub ready : AreReady new left stay

-- So it is after each fault but that of a write or a barrier.
abbrev pub IsStill : Shown → Pool → States → Shown → Pool → States → VolumeFault → Type 0
IsStill old pool states new left stay (Refused r) = ⊥
IsStill old pool states new left stay DiskFault = Rose old.write_faults new.write_faults ⊎ StillHeld old pool states new left stay
IsStill old pool states new left stay (Damaged at want found) = StillHeld old pool states new left stay
IsStill old pool states new left stay Memory = StillHeld old pool states new left stay

-- The count of faults rose where a read, a write or a barrier failed, and stays elsewhere; that of writes stays but for those. Nothing is
-- refused.
abbrev pub HasWholeCause : Shown → Shown → Result Unit VolumeFault → Type 0
HasWholeCause old new (Ok done) = (new.faults ≡ old.faults) × (new.write_faults ≡ old.write_faults)
HasWholeCause old new (Err (Refused r)) = ⊥
HasWholeCause old new (Err DiskFault) = Rose old.faults new.faults × ((new.write_faults ≡ old.write_faults) ⊎ Rose old.write_faults new.write_faults)
HasWholeCause old new (Err (Damaged at want found)) = (new.faults ≡ old.faults) × (new.write_faults ≡ old.write_faults)
HasWholeCause old new (Err Memory) = (new.faults ≡ old.faults) × (new.write_faults ≡ old.write_faults)

-- Why such a point isn't done. Fewer blocks are free than it asks for, with the files in their places; or a leaf of a container doesn't
-- stand where it has to; or a file was in memory that wasn't placed.
abbrev pub WholeFails : Shown → Pool → States → Shown → Pool → States → VolumeFault → Type 0
WholeFails disk pool states new left stay (Refused r) = ⊥
WholeFails disk pool states new left stay DiskFault = Unit {0}
WholeFails disk pool states new left stay (Damaged at want found) = (LacksRoom left stay (block.Damaged at want found) ⊎ LacksLeaf new left.containers at want found) ⊎ FailsToPlace disk pool states new (Damaged at want found)
WholeFails disk pool states new left stay Memory = Unit {0}

-- what is told and given and the ends of a host stay
pub record WholeCounts (old new : Shown) (result : Result Unit VolumeFault) : Type 0 where
  pub tells : new.tells ≡ old.tells
  pub given : new.given ≡ old.given
  pub ends : new.ends ≡ old.ends
  pub cause : HasWholeCause old new result

-- With so many free numbers in each volume with files in memory, and so many free blocks, no damage is answered.
pub record HaveFullRoom (pool : Pool) (states : States) : Type 0 where
  pub numbers : (s : ℕ) → HasNumbers (state_at states s)
  pub free : pending_files states < free_blocks pool.map
  pub blocks : asked_all states + pending_files states ≤ free_blocks pool.map
