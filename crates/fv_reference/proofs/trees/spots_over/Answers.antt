use Rattle.fv_reference.proofs.Levels.{spot_more}
use Rattle.fv_reference.proofs.trees.spots_over.Goals as goal

pub loop-level-preserved : goal.loop-level-preserved
loop-level-preserved c = spot_more c.args.index c.loop-level.level c.loop-level.spots.items c.add_spot.new.spots.items c.in_ok-add_spot.ensures c.loop-level.invariant
