use Rattle.std.proofs.Common.{◌≡◌, ◌++◌, List, length}
use Rattle.std.specs.FinMap as fin
use Rattle.fv_reference.specs.Maps.{map_of}
use Rattle.fv_reference.proofs.maps.from_entries.Given as goal

abbrev pub invariant-loop-key : goal.invariant-loop-key
invariant-loop-key g l = (done : List (g.row.K.Denot × g.row.V.Denot)) × (l.rest.items ++ done ≡ l.fn.entries.items) × (map_of g.K.Ord.cmp l.map ≡ fin.from_entries done)

abbrev pub decreases-loop-key : goal.decreases-loop-key
decreases-loop-key g l = length l.rest.items
