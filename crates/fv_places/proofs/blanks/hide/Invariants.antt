use Rattle.std.proofs.Common.{◌≡◌, ◌++◌, map, take, drop}
use Rattle.fv_tables.specs.Alike.{hintless}
use Rattle.fv_places.proofs.blanks.hide.Given as goal

abbrev pub invariant-loop-i : goal.invariant-loop-i
invariant-loop-i l = l.pointers ≡ map hintless (take l.i l.fn.pointers) ++ drop l.i l.fn.pointers
