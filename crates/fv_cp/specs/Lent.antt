-- What a consistency point is lent: volumes with what they share, over a disk on which they stand.
use Rattle.std.specs.Prelude.{◌≡◌, ◌<◌, ℕ, true, false, Option, Some, None, IfSome, cond, replicate}
use Rattle.std.specs.List.{sum_by}
use Rattle.fv_disk.specs.Shown.{Shown}
use Rattle.fv_model.specs.Machines.{Machine}
use Rattle.fv_image.specs.Held.{layout_at, AllKeep}
use Rattle.fv_image.specs.Seen.{seen}
use Rattle.fv_image.specs.Soundness.{AreTables}
use Rattle.fv_image.specs.WholeMachine.{Tells, is_built}
use Rattle.fv_root.specs.Finding.{root_found, IsInRange}
use Rattle.fv_root.specs.Commits.{IsFoundOn}
use Rattle.fv_container.specs.Chains.{slot_count, container_at, paged_at}
use Rattle.fv_aggmap.specs.Space.{blocks_of}
use Rattle.fv_volmap.specs.Slots.{stored_count}
use Rattle.fv_pool.specs.declared.pool.Pool.{Pool}
use Rattle.fv_volume.specs.declared.state.VolumeState.{VolumeState}
use Rattle.fv_pool.specs.Keeping.{IsUnkept}
use Rattle.fv_volume.specs.KnownBase.{KnowBases}
use Rattle.fv_volume.specs.States.{States, state_at, view_over}
use Rattle.fv_volume.specs.Trees.{no_trees}
use Rattle.fv_volume.specs.Files.{AreStates}
pub use Rattle.fv_volume.specs.Loading.{Houses}
use Rattle.fv_volume.specs.Writing.{IsTaken, asked, map_wait, on_disk}
pub use Rattle.fv_volumes.specs.Housed.{AreHoused, HaveReaches}
pub use Rattle.fv_volume.specs.Stored.{AreApartIn, AreSpacedIn, has_block}
pub use Rattle.fv_volumes.specs.UnderRoot.{IsLentAt, IsLentSlot, IsMapOf}

-- ---- in memory

-- the blocks that wait to be written lie where the root on the disk holds nothing
abbrev pub AreKept : Pool → Type 0
AreKept pool = (b : ℕ) → IsTaken (on_disk pool.map) b → IsUnkept pool.kept b

-- The pool and the volumes fit together, whatever the disk tells: the root is in range and of the map's size and the pool's version, the
-- volumes are housed, and the blocks that wait to be written lie where they can.
pub record FitTogether (pool : Pool) (states : States) : Type 0 where
  pub range : IsInRange pool.found
  pub size : blocks_of pool.map ≡ pool.found.blocks
  pub version : pool.version ≡ pool.found.root.version
  pub housed : AreHoused pool.containers states
  pub kept : AreKept pool

-- ---- over a disk

-- The volumes that changed since the root that counts, and new ones, with blocks that are still to be written; none of their files is in
-- memory. `before` is the machine that the root's image stands for, and each image that a crash now may leave keeps that image's layout.
pub record IsLent (disk : Shown) (pool : Pool) (lent : States) (before : Machine) : Type 0 where
  pub found : IsFoundOn disk pool.found
  pub tells : Tells (layout_at (root_found pool.found) disk.reads) before
  pub keeps : AllKeep (root_found pool.found) disk.reads disk
  pub map : IsMapOf disk.reads pool.found pool.map
  pub slots : (s : ℕ) → s < slot_count → IsLentAt disk.reads pool.found s (state_at lent s) (paged_at pool.containers s)
  pub spaced : AreSpacedIn pool.found.blocks pool.map.next (state_at lent) (container_at pool.containers)
  pub states : AreStates (view_over pool lent disk.reads) no_trees lent
  pub built : is_built (view_over pool lent disk.reads) ≡ true
  pub tables : AreTables (seen (view_over pool lent disk.reads))
  pub reach : HaveReaches (view_over pool lent disk.reads) lent
  -- each clone knows what it stands on
  pub knows : KnowBases lent

-- ---- room

-- the blocks that a volume asks for where it changed: its overhead, and those of the snapshots' maps that wait
abbrev pub asked_by : Option VolumeState → ℕ
asked_by None = 0
asked_by (Some x) = cond x.changed (asked x) 0

-- the blocks that a consistency point asks for
abbrev pub blocks_asked : States → ℕ
blocks_asked states = sum_by asked_by states

-- the blocks that a volume asks for where it is written
abbrev pub asked_of : Option VolumeState → ℕ
asked_of None = 0
asked_of (Some x) = asked x

-- those of all volumes, changed or not
abbrev pub asked_all : States → ℕ
asked_all states = sum_by asked_of states

-- the blocks of a volume's maps that wait
abbrev pub waiting_by : Option VolumeState → ℕ
waiting_by None = 0
waiting_by (Some x) = map_wait x

-- those of all volumes
abbrev pub maps_waiting : States → ℕ
maps_waiting states = sum_by waiting_by states

-- no map of a volume waits
abbrev pub HaveNoneWaiting : States → Type 0
HaveNoneWaiting states = (s : ℕ) → IfSome (state_at states s) (λ x. x.fresh ≡ replicate stored_count false)
