use Rattle.std.proofs.Common.{◌≡◌, ◌-◌, ◌++◌, replicate}
use Rattle.fv_model.specs.Numbers.{most_snapshots}
use Rattle.fv_volume.specs.SnapRecords.{free_record, records_from}
use Rattle.fv_volume.specs.States.{snaps_in}
use Rattle.fv_volume.proofs.label.records_of.Given as goal

abbrev pub invariant-loop-at : goal.invariant-loop-at
invariant-loop-at l = l.records ≡ records_from l.at 1 (snaps_in l.snaps) ++ replicate (most_snapshots - l.at) free_record
