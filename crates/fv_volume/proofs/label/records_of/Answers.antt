use Rattle.std.proofs.Common.{arith}
use Rattle.fv_volume.specs.States.{snaps_in}
use Rattle.fv_volume.proofs.SnapRecords.{record_next, records_all, records_first}
use Rattle.fv_volume.proofs.label.records_of.Goals as goal

pub loop-at-init : goal.loop-at-init
loop-at-init c = records_first (snaps_in c.args.snaps.now)

pub loop-at-preserved : goal.loop-at-preserved
loop-at-preserved c = record_next c.loop-at.at (snaps_in c.args.snaps.now) c.record_at.result c.loop-at.records c.loop-at-test.true c.loop-at.invariant c.record_at.ensures

pub returns : goal.returns
returns c = records_all c.loop-at.at (snaps_in c.args.snaps.now) c.loop-at.records (let low = c.loop-at-test.false in omega (arith, low)) c.loop-at.invariant
