use Rattle.std.specs.Prelude.{length}
use Rattle.fv_script.proofs.Hexes.{Spelled}
use Rattle.fv_script.proofs.content.lay_digits.Given as goal

abbrev pub invariant-loop-i : goal.invariant-loop-i
invariant-loop-i l = Spelled l.line (length l.fn.line) l.bytes l.i
