use Rattle.std.proofs.Common.{◌≡◌}
use Rattle.std.specs.Prelude.{map}
use Rattle.fv_third_pass.specs.Volumes.{AreFew, root_of}
use Rattle.fv_third_pass.proofs.MapRoots.{roots_to}
use Rattle.fv_third_pass.proofs.roots.roots_of.Given as goal

abbrev pub invariant-loop-slot : goal.invariant-loop-slot
invariant-loop-slot l = record { roots : map root_of l.roots.items ≡ roots_to l.label l.slot; few : AreFew l.roots.items }
