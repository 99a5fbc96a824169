use Rattle.std.proofs.Common.{◌≡◌, ◌++◌, map}
use Rattle.fv_model.specs.Places.{placed}
use Rattle.fv_reference.specs.Owners.{owner_of}
use Rattle.fv_reference.proofs.places.list_stamps.Given as goal

abbrev pub invariant-loop-spot : goal.invariant-loop-spot
invariant-loop-spot l =
    l.entries.items ++ map (λ e. (placed (owner_of l.owner) e.0, e.1)) l.spot-iterator ≡ l.fn.entries.items ++ map (λ e. (placed (owner_of l.owner) e.0, e.1)) l.stamps.entries
