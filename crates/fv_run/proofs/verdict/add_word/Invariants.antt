use Rattle.fv_run.proofs.Digits.{Spelled}
use Rattle.fv_run.proofs.verdict.add_word.Given as goal

abbrev pub invariant-loop-i : goal.invariant-loop-i
invariant-loop-i l = Spelled l.fn.line.items l.bytes l.i l.line.items
