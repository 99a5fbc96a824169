use Rattle.std.proofs.Common.{◌≡◌, ◌++◌, flat_map}
use Rattle.std.specs.List.{range_with_len}
use Rattle.fv_model.specs.Space.{reserved_at}
use Rattle.fv_reference.proofs.space.list_reserved.Given as goal

abbrev pub invariant-loop-level : goal.invariant-loop-level
invariant-loop-level l = l.places.items ≡ l.fn.places.items ++ flat_map (reserved_at l.number l.reserve) (range_with_len 0 l.level)
