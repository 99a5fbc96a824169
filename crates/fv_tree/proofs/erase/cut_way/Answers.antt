use Rattle.std.proofs.Common.{◌≡◌, ◌+◌, ℕ, ap, arith}
use Rattle.std.specs.BTreeMap as tree
use Rattle.fv_tree.specs.declared.kept.KeptCell.{KeptCell}
use Rattle.fv_tree.specs.Costs.{cells_changed, cells_held}
use Rattle.fv_tree.proofs.Bordered.{way_marks}
use Rattle.fv_tree.proofs.erase.cut_way.Goals as goal

pub returns-clause-differs : goal.returns-clause-differs
returns-clause-differs c =
    let t = c.args.tree.now in
    let v = c.forget_way.new.tree in
    let few = t.few in
    let some = c.requires.some in
    let same = c.forget_way.ensures.levels in
    let kept = ap cells_changed c.stamp_above.ensures.stamps.cells in record {
      marks = way_marks t v c.stamp_above.new.tree c.clear_slot.new.nodes c.args.index (c.args.lost + 1) c.width.result c.forget_way.ensures.marks (omega arith) (omega (arith, some, few)) c.width.ensures.is c.clear_slot.ensures.marked.others (c.stamp_above.ensures.marks (omega (arith, some, same)));
      cells = omega (arith, kept, c.forget_way.ensures.fewer);
      held = (let same : cells_held c.stamp_above.new.tree ≡ cells_held v = ap (λ (m : tree.BTreeMap ℕ KeptCell). tree.btree_map_len m) c.stamp_above.ensures.stamps.cells in omega (arith, same, c.forget_way.ensures.held));
      ordered = c.stamp_above.ensures.ordered c.clear_slot.ensures.ordered;
    }
