use Rattle.std.proofs.Common.{take, flat_map}
use Rattle.fv_faults.specs.Adding.{Adds}
use Rattle.fv_third_pass.specs.Files.{record_lines}
use Rattle.fv_third_pass.proofs.files.note_records.Given as goal

abbrev pub invariant-loop-k : goal.invariant-loop-k
invariant-loop-k l = record { adds : Adds (flat_map (record_lines l.block) (take l.k l.records)) l.fn.lines l.lines }
