use Rattle.std.proofs.Common.{arith}
use Rattle.fv_codec.proofs.Items.{reads_on, leaves_with}
use Rattle.fv_codec.proofs.reading.places_in.Goals as goal

pub returns-in_err-place-clause-verdict : goal.returns-in_err-place-clause-verdict
returns-in_err-place-clause-verdict c = leaves_with c.from_residual.ensures.1 c.tail.ensures.value c.loop-i-test.true c.in_err-place.ensures.verdict c.loop-i.invariant

pub loop-i-preserved : goal.loop-i-preserved
loop-i-preserved c = reads_on c.tail.ensures.value c.loop-i-test.true (omega arith) c.in_ok-place.ensures.verdict c.in_ok-place.ensures.value c.loop-i.invariant
