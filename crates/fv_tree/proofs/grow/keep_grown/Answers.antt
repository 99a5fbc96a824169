use Rattle.std.proofs.Common.{arith}
use Rattle.fv_tree.proofs.Held.{but_then}
use Rattle.fv_tree.proofs.Newly.{more_same, more_tops}
use Rattle.fv_tree.proofs.Grown.{one_grown, not_grown}
use Rattle.fv_tree.proofs.grow.keep_grown.Goals as goal

pub loop-below-preserved : goal.loop-below-preserved
loop-below-preserved c =
    let was = c.loop-below.invariant in
    let put = c.in_ok-keep.ensures.node in record {
      fields = but_then c.args.tree.now c.loop-below.tree c.keep.new.tree was.fields c.keep.ensures.fields;
      high = omega (arith, c.loop-below-test.true, c.requires.few);
      changes = let more = c.keep.ensures.changes in omega (arith, was.changes, more, c.loop-below.auto.below);
      lowest = λ e. absurd (omega (arith, e, c.loop-below.auto.below));
      higher = λ _. c.new_mark-child.ensures.is;
      grown = one_grown c.args.tree.now c.loop-below.tree c.keep.new.tree c.args.stamp c.loop-below.below c.loop-below.child c.node_over.result.children put c.node_over.ensures.children c.node_over.result.long was.lowest was.higher was.grown;
      same = more_same c.args.tree.now c.loop-below.tree c.keep.new.tree c.loop-below.below c.node_over.result c.in_ok-keep.ensures.kept c.loop-below.auto.below was.same;
      tops = more_tops c.args.tree.now c.loop-below.tree c.keep.new.tree c.loop-below.below c.node_over.result c.in_ok-keep.ensures.kept c.node_over.ensures.changed c.node_over.ensures.placed was.tops;
      others = not_grown c.args.tree.now c.loop-below.tree c.keep.new.tree c.loop-below.below c.node_over.result.children put c.loop-below.auto.below was.others;
    }

pub returns-clause-changes : goal.returns-clause-changes
returns-clause-changes c = omega (arith, c.loop-below.invariant.changes, c.loop-below.invariant.high)
