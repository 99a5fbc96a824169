use Rattle.std.proofs.Common.{subst, ap, IsSome, refl, IsSome}
use Rattle.std.specs.Option.{option_map}
use Rattle.fv_tree.specs.declared.kept.KeptNode.{KeptNode}
use Rattle.fv_tree.specs.Flushing.{node_placed}
use Rattle.fv_tree.proofs.Observed.{elsewhere_same, observed, changed_still}
use Rattle.fv_tree.proofs.Differing.{node_mark, node_again}
use Rattle.fv_model.specs.Trees.{spot_cmp}
use Rattle.fv_tree.proofs.MapMarks.{set_kept}
use Rattle.fv_tree.proofs.placing.point_slot.Goals as goal

pub returns-in-Some-clause-others : goal.returns-in-Some-clause-others
returns-in-Some-clause-others c = λ k q other.
    ap (option_map (λ (kept : KeptNode). kept.children)) (elsewhere_same c.args.nodes.now (c.get_mut.follows.lender c.point_child.new.node) c.args.level c.args.place c.in-Some.node.now c.point_child.new.node ((c.get_mut.follows.holds c.point_child.new.node).3 (subst IsSome c.in-Some.ensures.value refl)).0 c.in-Some.ensures.value k q other)

pub returns-in-Some-clause-placed : goal.returns-in-Some-clause-placed
returns-in-Some-clause-placed c =
    observed c.args.nodes.now (c.get_mut.follows.lender c.point_child.new.node) c.args.level c.args.place c.in-Some.node.now c.point_child.new.node ((c.get_mut.follows.holds c.point_child.new.node).3 (subst IsSome c.in-Some.ensures.value refl)).0 c.in-Some.ensures.value node_placed c.point_child.ensures.placed

pub returns-in-Some-clause-changed : goal.returns-in-Some-clause-changed
returns-in-Some-clause-changed c =
    changed_still c.args.nodes.now (c.get_mut.follows.lender c.point_child.new.node) c.args.level c.args.place c.in-Some.node.now c.point_child.new.node ((c.get_mut.follows.holds c.point_child.new.node).3 (subst IsSome c.in-Some.ensures.value refl)).0 c.in-Some.ensures.value c.point_child.ensures.changed

pub returns-in-Some-clause-again : goal.returns-in-Some-clause-again
returns-in-Some-clause-again c = node_again c.args.nodes.now (c.get_mut.follows.lender c.point_child.new.node) (c.args.level, c.args.place) c.in-Some.node.now c.point_child.new.node c.in-Some.ensures.value (c.get_mut.follows.holds c.point_child.new.node).0

pub returns-in-Some-clause-counted : goal.returns-in-Some-clause-counted
returns-in-Some-clause-counted c =
    set_kept spot_cmp node_mark c.args.nodes.now (c.get_mut.follows.lender c.point_child.new.node) (c.args.level, c.args.place) c.in-Some.node.now c.point_child.new.node c.in-Some.ensures.value (c.get_mut.follows.holds c.point_child.new.node).0 c.point_child.ensures.changed c.args.changed.now c.recounted.result
    c.requires.counted c.recounted.ensures
