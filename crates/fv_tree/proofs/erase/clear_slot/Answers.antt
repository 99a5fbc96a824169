use Rattle.std.proofs.Common.{subst, IsSome, refl}
use Rattle.fv_tree.specs.Unlinking.{cleared_in}
use Rattle.fv_tree.proofs.Written.{changed}
use Rattle.fv_tree.proofs.Bordered.{still_ordered}
use Rattle.fv_tree.proofs.Differing.{node_mark, marks_node}
use Rattle.fv_model.specs.Trees.{spot_cmp}
use Rattle.fv_tree.proofs.MapMarks.{set_kept}
use Rattle.fv_tree.proofs.erase.clear_slot.Goals as goal

pub returns-in-Some-clause-children : goal.returns-in-Some-clause-children
returns-in-Some-clause-children c =
    changed c.args.nodes.now (c.get_mut.follows.lender c.clear_child.new.node) c.args.level c.args.place c.in-Some.node.now c.clear_child.new.node (cleared_in c.args.slot) ((c.get_mut.follows.holds c.clear_child.new.node).3 (subst IsSome c.in-Some.ensures.value refl)).0 c.in-Some.ensures.value c.clear_child.ensures.children

pub returns-in-Some-clause-marked : goal.returns-in-Some-clause-marked
returns-in-Some-clause-marked c =
    marks_node c.args.nodes.now (c.get_mut.follows.lender c.clear_child.new.node) c.args.level c.args.place c.in-Some.node.now c.clear_child.new.node ((c.get_mut.follows.holds c.clear_child.new.node).3 (subst IsSome c.in-Some.ensures.value refl)).0 c.in-Some.ensures.value
    (c.get_mut.follows.holds c.clear_child.new.node).0 c.clear_child.ensures.changed c.clear_child.ensures.placed

pub returns-in-Some-clause-ordered : goal.returns-in-Some-clause-ordered
returns-in-Some-clause-ordered c =
    still_ordered c.args.nodes.now (c.get_mut.follows.lender c.clear_child.new.node) (c.args.level, c.args.place) c.clear_child.new.node c.get_mut.ensures.ordered (c.get_mut.follows.holds c.clear_child.new.node).0

pub returns-in-Some-clause-counted : goal.returns-in-Some-clause-counted
returns-in-Some-clause-counted c =
    set_kept spot_cmp node_mark c.args.nodes.now (c.get_mut.follows.lender c.clear_child.new.node) (c.args.level, c.args.place) c.in-Some.node.now c.clear_child.new.node c.in-Some.ensures.value (c.get_mut.follows.holds c.clear_child.new.node).0 c.clear_child.ensures.changed c.args.changed.now c.recounted.result
    c.requires.counted c.recounted.ensures
