use Rattle.std.proofs.Common.{◌≡◌, ◌++◌, flat_map}
use Rattle.fv_model.specs.Places.{OfFile, tree_entries}
use Rattle.fv_reference.proofs.places.list_all.Given as goal

abbrev pub invariant-loop-number : goal.invariant-loop-number
invariant-loop-number l =
    l.entries.items ++ flat_map (λ e. tree_entries (OfFile e.0) e.1.tree) l.number-iterator ≡ l.fn.entries.items ++ flat_map (λ e. tree_entries (OfFile e.0) e.1.tree) l.files.entries
