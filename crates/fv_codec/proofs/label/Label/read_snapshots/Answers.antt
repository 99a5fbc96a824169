use Rattle.std.proofs.Common.{arith}
use Rattle.fv_codec.proofs.Items.{reads_on, leaves_with}
use Rattle.fv_codec.proofs.label.Label.read_snapshots.Goals as goal

pub returns-in_err-snap-clause-verdict : goal.returns-in_err-snap-clause-verdict
returns-in_err-snap-clause-verdict c = leaves_with c.from_residual.ensures.1 c.tail.ensures.value c.loop-i-test.true c.in_err-snap.ensures.verdict c.loop-i.invariant

pub loop-i-preserved : goal.loop-i-preserved
loop-i-preserved c = reads_on c.tail.ensures.value c.loop-i-test.true (omega arith) c.in_ok-snap.ensures.verdict c.in_ok-snap.ensures.value c.loop-i.invariant
