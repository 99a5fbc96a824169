use Rattle.std.proofs.Common.{◌/◌, ap, arith}
use Rattle.fv_tree.proofs.Collected.{one_more_child}
use Rattle.fv_tree.proofs.cut.add_ranges.Goals as goal

pub loop-slot-preserved : goal.loop-slot-preserved
loop-slot-preserved c =
    let was = c.loop-slot.invariant in
    let now = c.in_ok-add_range.ensures in record {
      added = one_more_child c.args.children.now c.args.level c.args.most c.args.place c.loop-slot.slot (c.args.most / c.width.result) c.args.below.now.items c.loop-slot.below.items c.add_range.new.below.items (ap (λ w. c.args.most / w) c.width.ensures.is) c.loop-slot-test.true was.added now.added;
      rising = λ rising below.
          let before = was.rising rising below in
          let after = now.rising before.0 before.1 in
          (after.0, λ j lt. let is = after.1 j lt in omega (arith, is));
      bound = λ bound most below. now.bound bound (omega (arith, most, c.loop-slot-test.true)) (was.bound bound most below);
    }

pub returns-clause-rising : goal.returns-clause-rising
returns-clause-rising c = λ rising below.
    let before = c.loop-slot.invariant.rising rising below in
    (before.0, λ j lt. let is = before.1 j lt in omega (arith, is, c.loop-slot.auto.slot-end, c.loop-slot-test.false))
