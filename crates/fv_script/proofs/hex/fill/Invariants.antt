use Rattle.fv_script.proofs.Digits.{Filled}
use Rattle.fv_script.proofs.hex.fill.Given as goal

abbrev pub invariant-loop-i : goal.invariant-loop-i
invariant-loop-i l = Filled l.block l.digits l.i
