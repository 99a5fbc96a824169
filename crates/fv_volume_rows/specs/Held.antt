-- Volumes of which each call can be made.
use Rattle.std.specs.Prelude.{◌≡◌, ◌≢◌, ◌⊎◌, ℕ, is_some, length, IfSome, IsTrue}
use Rattle.std.specs.FinMap as fin
use Rattle.fv_disk.specs.Shown.{Shown as Disk}
use Rattle.fv_disk.specs.DiskCalls.{Stays}
use Rattle.fv_root.specs.Commits.{IsFoundOn}
use Rattle.fv_root.specs.Formatted.{IsSize}
use Rattle.fv_container.specs.Chains.{container_at, slot_count}
use Rattle.fv_store.specs.Held.{StandsOn}
use Rattle.fv_pool.specs.declared.pool.Pool.{Pool}
use Rattle.fv_volume.specs.declared.state.VolumeState.{VolumeState}
use Rattle.fv_pool.specs.BlocksOver.{entries_in}
use Rattle.fv_volume.specs.Files.{IsLabelled}
use Rattle.fv_volume.specs.OneVolume.{IsReady}
use Rattle.fv_volume.specs.States.{States, state_at}
use Rattle.fv_volume.specs.Writing.{IsTaken, on_disk}
use Rattle.fv_cp.specs.Lent.{FitTogether}

-- The cache stands on the disk, and calls can be made on the volume of each slot.
pub record AreHeld (disk : Disk) (pool : Pool) (states : States) : Type 0 where
  pub long : length states ≡ slot_count
  pub size : IsSize pool.found.blocks
  pub stands : StandsOn disk pool.store.pairs
  pub labelled : (s : ℕ) → IfSome (state_at states s) (IsLabelled s)
  pub ready : (s : ℕ) → IfSome (state_at states s) (IsReady disk pool)

-- A point can be made: the pool and the volumes fit together, and the root is the disk's.
pub record AreFit (disk : Disk) (pool : Pool) (states : States) : Type 0 where
  pub fit : FitTogether pool states
  pub root : IsTrue disk.tells → IsFoundOn disk pool.found

-- ---- a call on one of them

-- A volume keeps its slot, its span, and what it stands on.
pub record KeepsPlace (x y : VolumeState) : Type 0 where
  pub slot : y.slot ≡ x.slot
  pub span : y.span ≡ x.span
  pub base : y.base ≡ x.base

-- Of the pool the root and its map stay, of the containers those of other slots, and a block that is kept anew lies where the root on the disk
-- holds nothing.
pub record LeavesRoot (d e : Disk) (p q : Pool) (slot : ℕ) : Type 0 where
  pub stays : Stays d e
  pub found : q.found ≡ p.found
  pub version : q.version ≡ p.version
  pub committed : q.map.committed ≡ p.map.committed
  pub kept : (b : ℕ) → (fin.get q.kept b ≡ fin.get p.kept b) ⊎ (IsTaken (on_disk p.map) b → ⊥)
  pub others : (s : ℕ) → s ≢ slot → container_at q.containers s ≡ container_at p.containers s
  pub there : is_some (container_at q.containers slot) ≡ is_some (container_at p.containers slot)
  pub count : length (entries_in (container_at q.containers slot)) ≡ length (entries_in (container_at p.containers slot))
  pub parents : q.containers.parents ≡ p.containers.parents

-- A call on a volume leaves it where it was, and the root.
pub record LeavesPlace (d e : Disk) (p q : Pool) (x y : VolumeState) : Type 0 where
  pub place : KeepsPlace x y
  pub root : LeavesRoot d e p q x.slot
