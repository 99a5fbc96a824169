use Rattle.std.proofs.lemmas.Result.{on_ok_weaker}
use Rattle.fv_volume.specs.States.{snaps_in}
use Rattle.fv_volume.proofs.SnapRecords.{none_said, one_said}
use Rattle.fv_volume.proofs.state.Snapshots.add_said.Goals as goal

pub returns-then-said-eq0 : goal.returns-then-said-eq0
returns-then-said-eq0 c = none_said c.args.said.now c.args.slot (snaps_in c.args.self.now) c.if-said-eq0.true

pub returns : goal.returns
returns c =
    on_ok_weaker c.push.result (one_said c.args.said.now c.args.slot c.args.self.now c.push.new.self c.snap_of.result c.if-said-eq0.false c.snap_of.ensures) c.push.ensures.pushed
