use Rattle.std.proofs.Common.{arith}
use Rattle.fv_tree.proofs.Bordered.{stamped_marks}
use Rattle.fv_tree.proofs.erase.stamp_above.Goals as goal

pub returns-clause-changes : goal.returns-clause-changes
returns-clause-changes c = λ le. let end = c.loop-below.auto.below-end le in omega (arith, c.loop-below.invariant.changes, c.loop-below-test.false, c.loop-below.auto.below, end)

pub returns-clause-marks : goal.returns-clause-marks
returns-clause-marks c = λ le.
    let end = c.loop-below.auto.below-end le in
    let was = c.loop-below.invariant in
    stamped_marks c.args.tree.now c.loop-below.tree c.args.index c.args.lowest c.loop-below.below c.args.tree.now.few (omega (arith, c.loop-below-test.false)) was.same was.after (omega (arith, end))
