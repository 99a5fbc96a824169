use Rattle.std.proofs.Common.{◌<◌, arith, length, ap}
use Rattle.fv_image.specs.Views.{snaps_from}
use Rattle.fv_volume.specs.States.{snaps_in}
use Rattle.fv_volume.proofs.SnapRecords.{said_more}
use Rattle.fv_volume.proofs.state.Snapshots.of_records.Goals as goal

pub loop-at-init : goal.loop-at-init
unfolding snaps_from
loop-at-init c = ap snaps_in c.new-snaps.ensures

pub loop-at-preserved : goal.loop-at-preserved
loop-at-preserved c =
    let within : c.loop-at.at < length c.args.records.now = omega arith in
    said_more c.args.records.now c.loop-at.at _ c.loop-at.snaps c.add_said.new.self within c.loop-at.invariant c.in_ok-add_said.ensures
