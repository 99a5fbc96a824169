use Rattle.fv_faults.specs.Adding.{Adds}
use Rattle.fv_third_pass.specs.Bits.{twice_to}
use Rattle.fv_third_pass.proofs.twice.note_all.Given as goal

abbrev pub invariant-loop-block : goal.invariant-loop-block
invariant-loop-block l = record { adds : Adds (twice_to l.holders l.block) l.fn.lines l.lines }
