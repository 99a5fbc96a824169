use Rattle.std.proofs.Common.{Some, subst, IsSome, refl, ap}
use Rattle.std.specs.Option.{option_map}
use Rattle.fv_tree.specs.declared.kept.KeptNode.{KeptNode}
use Rattle.fv_tree.proofs.Observed.{observed}
use Rattle.fv_tree.proofs.Differing.{node_mark, marks_node}
use Rattle.fv_model.specs.Trees.{spot_cmp}
use Rattle.fv_tree.proofs.MapMarks.{set_kept}
use Rattle.fv_tree.proofs.refill.mark_spot.Goals as goal

pub returns-in-Some-clause-children : goal.returns-in-Some-clause-children
returns-in-Some-clause-children c =
    observed c.args.nodes.now (c.get_mut.follows.lender c.mark.new.node) c.args.level c.args.place c.in-Some.node.now c.mark.new.node ((c.get_mut.follows.holds c.mark.new.node).3 (subst IsSome c.in-Some.ensures.value refl)).0 c.in-Some.ensures.value
    (option_map (λ (kept : KeptNode). kept.children)) (ap Some c.mark.ensures.children)

pub returns-in-Some-clause-marked : goal.returns-in-Some-clause-marked
returns-in-Some-clause-marked c =
    marks_node c.args.nodes.now (c.get_mut.follows.lender c.mark.new.node) c.args.level c.args.place c.in-Some.node.now c.mark.new.node ((c.get_mut.follows.holds c.mark.new.node).3 (subst IsSome c.in-Some.ensures.value refl)).0 c.in-Some.ensures.value
    (c.get_mut.follows.holds c.mark.new.node).0 c.mark.ensures.changed c.mark.ensures.placed

pub returns-in-Some-clause-counted : goal.returns-in-Some-clause-counted
returns-in-Some-clause-counted c =
    set_kept spot_cmp node_mark c.args.nodes.now (c.get_mut.follows.lender c.mark.new.node) (c.args.level, c.args.place) c.in-Some.node.now c.mark.new.node c.in-Some.ensures.value (c.get_mut.follows.holds c.mark.new.node).0 c.mark.ensures.changed c.args.changed.now c.recounted.result
    c.requires.counted c.recounted.ensures
