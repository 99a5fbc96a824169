use Rattle.fv_faults.specs.Adding.{Adds}
use Rattle.fv_third_pass.specs.Maps.{kinds_to}
use Rattle.fv_third_pass.proofs.volume_map.note_kinds.Given as goal

abbrev pub invariant-loop-k : goal.invariant-loop-k
invariant-loop-k l = record { adds : Adds (kinds_to l.row l.label l.map.span l.map.slot l.k) l.fn.lines l.lines }
