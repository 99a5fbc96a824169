use Rattle.std.proofs.Common.{arith}
use Rattle.fv_codec.proofs.Items.{reads_on, leaves_with}
use Rattle.fv_codec.proofs.node.Node.read_children.Goals as goal

pub returns-in_err-child-clause-verdict : goal.returns-in_err-child-clause-verdict
returns-in_err-child-clause-verdict c = leaves_with c.from_residual.ensures.1 c.tail.ensures.value c.loop-i-test.true c.in_err-child.ensures.verdict c.loop-i.invariant

pub loop-i-preserved : goal.loop-i-preserved
loop-i-preserved c = reads_on c.tail.ensures.value c.loop-i-test.true (omega arith) c.in_ok-child.ensures.verdict c.in_ok-child.ensures.value c.loop-i.invariant
