use Rattle.std.proofs.Common.{take}
use Rattle.fv_faults.specs.Adding.{Adds}
use Rattle.fv_first_pass.proofs.noting.note_all.Given as goal

abbrev pub invariant-loop-k : goal.invariant-loop-k
invariant-loop-k l = record { adds : Adds (take l.k l.found) l.fn.lines l.lines }
