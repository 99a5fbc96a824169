use Rattle.std.proofs.Common.{◌≡◌, drop}
use Rattle.fv_model.specs.Trees.{stamp_spots, spot_cmp}
use Rattle.fv_reference.specs.Maps.{map_of}
use Rattle.fv_reference.proofs.trees.stamp_spots.Given as goal

abbrev pub invariant-loop-spot : goal.invariant-loop-spot
invariant-loop-spot l =
    stamp_spots l.stamp (drop l.spot-index l.spots) (map_of spot_cmp l.stamps) ≡ stamp_spots l.stamp l.spots (map_of spot_cmp l.fn.stamps)
