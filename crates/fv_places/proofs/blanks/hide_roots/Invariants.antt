use Rattle.std.proofs.Common.{◌≡◌, ◌++◌, map, take, drop}
use Rattle.fv_tables.specs.Alike.{hintless_record}
use Rattle.fv_places.proofs.blanks.hide_roots.Given as goal

abbrev pub invariant-loop-i : goal.invariant-loop-i
invariant-loop-i l = l.files ≡ map hintless_record (take l.i l.fn.files) ++ drop l.i l.fn.files
