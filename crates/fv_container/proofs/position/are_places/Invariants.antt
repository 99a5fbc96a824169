use Rattle.std.proofs.Common.{ℕ, ◌<◌, ◌≤◌, get_or}
use Rattle.fv_codec.specs.Blocks.{last_place}
use Rattle.fv_container.proofs.position.are_places.Given as goal

abbrev pub invariant-loop-n : goal.invariant-loop-n
invariant-loop-n l = (m : ℕ) → m < l.n → get_or l.places m 0 ≤ last_place
