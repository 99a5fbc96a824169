use Rattle.std.proofs.Common.{◌≡◌, ◌^◌, ◌/◌, map}
use Rattle.std.specs.List.{range_with_len}
use Rattle.fv_model.specs.Trees.{fan}
use Rattle.fv_reference.proofs.trees.spots_over.Given as goal

abbrev pub invariant-loop-level : goal.invariant-loop-level
invariant-loop-level l = l.spots.items ≡ map (λ k. (k, l.index / fan ^ k)) (range_with_len 0 l.level)
