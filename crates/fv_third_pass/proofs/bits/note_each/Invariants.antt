use Rattle.std.proofs.Common.{◌*◌, Bool, List}
use Rattle.std.specs.Prelude.{flat_map}
use Rattle.std.specs.List.{range_with_len}
use Rattle.fv_bits.specs.Bits.{block_bits}
use Rattle.fv_bits.specs.Members.{IsBlockOf}
use Rattle.fv_faults.specs.Adding.{Adds}
use Rattle.fv_third_pass.specs.Bits.{differs}
use Rattle.fv_third_pass.proofs.bits.note_each.Given as goal

abbrev pub invariant-loop-bit : goal.invariant-loop-bit
invariant-loop-bit l = record {
  adds : (set : List Bool) → IsBlockOf set l.k l.wanted
      → Adds (flat_map (differs l.saying.rule l.saying.at set l.found) (range_with_len (block_bits * l.k) l.bit)) l.fn.lines l.lines;
}
