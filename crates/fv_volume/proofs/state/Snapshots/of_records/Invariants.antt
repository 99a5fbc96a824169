use Rattle.std.proofs.Common.{◌≡◌, take}
use Rattle.fv_image.specs.Views.{snaps_from}
use Rattle.fv_volume.specs.States.{snaps_in}
use Rattle.fv_volume.proofs.state.Snapshots.of_records.Given as goal

abbrev pub invariant-loop-at : goal.invariant-loop-at
invariant-loop-at l = snaps_in l.snaps ≡ snaps_from 1 (take l.at l.records)
