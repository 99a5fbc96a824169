-- What volumes of a session are between points, whatever of their files is in memory.
use Rattle.std.specs.Prelude.{◌≤◌, ◌<◌, ℕ, flat_map, IfSome}
use Rattle.std.specs.FinMap as fin
use Rattle.fv_disk.specs.Shown.{Shown}
use Rattle.fv_model.specs.Machines.{Machine, capacity}
use Rattle.fv_model.specs.Spelling.{name_cmp}
use Rattle.fv_image.specs.Views.{slots}
use Rattle.fv_image.specs.Held.{layout_at, AllKeep}
use Rattle.fv_image.specs.WholeMachine.{Tells}
use Rattle.fv_root.specs.Finding.{root_found}
use Rattle.fv_root.specs.Commits.{IsFoundOn}
use Rattle.fv_container.specs.Chains.{slot_count, container_at, paged_at}
use Rattle.fv_pool.specs.declared.pool.Pool.{Pool}
use Rattle.fv_volume.specs.Files.{AreNamed}
pub use Rattle.fv_volume.specs.Held.{named_held, IsHeldIn}
use Rattle.fv_volume.specs.Slots.{sum_of}
use Rattle.fv_volume.specs.States.{States, state_at}
use Rattle.fv_volume.specs.Stored.{AreSpacedIn}
use Rattle.fv_volumes.specs.Footing.{AreFooted}
use Rattle.fv_volumes.specs.UnderRoot.{IsLentAt, IsMapOf}

-- The volumes of a session between points. `before` is the machine that the image of the root on the disk stands for, and each image that a
-- crash now may leave keeps that image's layout. The next root will hold the blocks of the volumes and no others. Files may be in memory:
-- what changed of them has no block yet.
pub record IsHeld (disk : Shown) (pool : Pool) (states : States) (before : Machine) : Type 0 where
  pub found : IsFoundOn disk pool.found
  pub tells : Tells (layout_at (root_found pool.found) disk.reads) before
  pub keeps : AllKeep (root_found pool.found) disk.reads disk
  pub map : IsMapOf disk.reads pool.found pool.map
  pub slots : (s : ℕ) → s < slot_count → IsLentAt disk.reads pool.found s (state_at states s) (paged_at pool.containers s)
  pub spaced : AreSpacedIn pool.found.blocks pool.map.next (state_at states) (container_at pool.containers)
  pub names : AreNamed states
  pub each : (s : ℕ) → IfSome (state_at states s) (IsHeldIn disk pool s)
  pub commits : sum_of states ≤ capacity pool.found.blocks
  -- each clone stands on a snapshot of another volume
  pub footed : AreFooted states pool.containers

-- The machine that a session stands for between points: each volume by its own table, in memory and in its blocks.
unfoldable pub machine_held : Shown → Pool → States → Machine
machine_held disk pool states = record {
  blocks = pool.found.blocks;
  version = pool.version;
  volumes = fin.from_entries {R = name_cmp} (flat_map (λ s. named_held disk pool (state_at states s)) slots);
}
