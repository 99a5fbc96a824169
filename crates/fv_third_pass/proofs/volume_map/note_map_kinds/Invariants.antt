use Rattle.std.proofs.Common.{take}
use Rattle.fv_faults.specs.Adding.{Adds}
use Rattle.fv_third_pass.specs.Maps.{kinds_with}
use Rattle.fv_third_pass.proofs.volume_map.note_map_kinds.Given as goal

abbrev pub invariant-loop-j : goal.invariant-loop-j
invariant-loop-j l = record { adds : Adds (kinds_with l.row l.at l.label.span (take l.j l.label.snapshots)) l.fn.lines l.lines }
