use Rattle.std.proofs.Common.{◌≡◌, take, flat_map}
use Rattle.fv_model.specs.Trees.{spots_over}
use Rattle.fv_reference.proofs.trees.spots_over_all.Given as goal

abbrev pub invariant-loop-cell : goal.invariant-loop-cell
invariant-loop-cell l = l.all.items ≡ flat_map (spots_over l.levels) (take l.cell-index l.cells)
