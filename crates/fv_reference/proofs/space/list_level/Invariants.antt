use Rattle.std.proofs.Common.{◌≡◌, ◌++◌, ◌*◌, ◌^◌, ℕ, map, filter, nat_lt}
use Rattle.std.specs.List.{range_with_len}
use Rattle.fv_model.specs.Trees.{fan}
use Rattle.fv_model.specs.Places.{OfFile, Place}
use Rattle.fv_reference.proofs.space.list_level.Given as goal

abbrev pub invariant-loop-index : goal.invariant-loop-index
invariant-loop-index l =
    l.places.items ≡ l.fn.places.items ++ map {A = ℕ} {B = Place} (λ p. record { owner = OfFile l.number; level = l.level; index = p }) (filter (λ p. nat_lt (p * fan ^ l.level) l.reserve) (range_with_len 0 l.index))
