-- What a mirror is of: a table that the machine has under the snapshot's name.
use Rattle.std.proofs.Common.{◌≡◌, ℕ, List, Some, ap, ◌∙◌}
use Rattle.std.specs.Option.{option_map}
use Rattle.std.specs.FinMap as fin
use Rattle.fv_disk.specs.Shown.{Shown as Disk}
use Rattle.fv_tables.specs.Told.{table_told}
use Rattle.fv_pool.specs.declared.pool.Pool.{Pool}
use Rattle.fv_volume.specs.declared.state.Snap.{Snap}
use Rattle.fv_volume.specs.declared.state.VolumeState.{VolumeState}
use Rattle.fv_volume.specs.Asking.{snap_named}
use Rattle.fv_volume.specs.OneVolume.{blocks_in, standing_kept, volume_for}
use Rattle.fv_volume.proofs.SnapFinds.{told_named}

-- a snapshot of a volume is told under its name
pub snapshot_told : (disk : Disk) (pool : Pool) (y : VolumeState) (name : List ℕ) (q : Snap) → snap_named y.snapshots name ≡ Some q
    → fin.get (volume_for disk pool y).snapshots name ≡ Some (table_told (standing_kept (blocks_in disk pool y) q))
snapshot_told disk pool y name q found = told_named (blocks_in disk pool y) name y.snapshots ∙ ap (option_map (λ (r : Snap). table_told (standing_kept (blocks_in disk pool y) r))) found
