use Rattle.std.proofs.Common.{arith}
use Rattle.fv_script.proofs.Digits.{ended, turn}
use Rattle.fv_script.proofs.hex.fill.Goals as goal

pub loop-i-preserved : goal.loop-i-preserved
loop-i-preserved c = turn _ _ _ _ c.loop-i.invariant (omega arith) (omega arith) c.byte.ensures

pub returns : goal.returns
returns c = ended _ _ _ c.loop-i.invariant (omega (arith, c.loop-i.auto.i-end, c.loop-i-test.false))
