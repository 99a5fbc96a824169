use Rattle.std.proofs.Common.{◌≡◌, ◌++◌, get_or}
use Rattle.std.specs.Prelude.{flat_map}
use Rattle.std.specs.List.{range_with_len}
use Rattle.fv_first_pass.specs.Passed.{place_lines}
use Rattle.fv_first_pass.proofs.places.root_lines.Given as goal

abbrev pub invariant-loop-slot : goal.invariant-loop-slot
invariant-loop-slot l = record {
  said : l.said.items ≡ l.fn.said.items ++ flat_map (λ s. place_lines l.found.blocks l.at (get_or l.found.root.labels s 0)) (range_with_len 0 l.slot);
}
