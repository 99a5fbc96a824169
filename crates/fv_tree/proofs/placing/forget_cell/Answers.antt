use Rattle.std.proofs.Common.{sym, ap, ◌∙◌, arith}
use Rattle.std.specs.Ordering.{nat_cmp}
use Rattle.fv_tree.proofs.Differing.{cell_fewer, cell_mark, cell_weight, some_cell}
use Rattle.fv_tree.proofs.MapMarks.{counted, left_kept, no_more}
use Rattle.fv_tree.specs.Flushing.{cell_changed}
use Rattle.std.specs.BTreeMap as maps
use Rattle.fv_tree.proofs.placing.forget_cell.Goals as goal

pub returns-clause-changes : goal.returns-clause-changes
returns-clause-changes c = no_more nat_cmp cell_mark c.args.tree.now.cells c.remove-gone.new.self c.args.index c.remove-gone.ensures.entries

pub returns-clause-fewer : goal.returns-clause-fewer
returns-clause-fewer c = cell_fewer c.args.tree.now.cells c.remove-gone.new.self c.args.index c.remove-gone.ensures.entries

pub recounted-tree-requires-clause-before : goal.recounted-tree-requires-clause-before
recounted-tree-requires-clause-before c = λ was.
    let some = some_cell c.args.tree.now.cells c.args.index (ap cell_changed (sym c.remove-gone.ensures.value) ∙ sym c.cell_differed.ensures ∙ was) in
    omega (arith, some, c.args.tree.now.counted_cells)

pub invariant_of-tree-clause-counted_cells : goal.invariant_of-tree-clause-counted_cells
invariant_of-tree-clause-counted_cells c =
    let was = ap cell_changed (sym c.remove-gone.ensures.value) ∙ sym c.cell_differed.ensures in
    left_kept nat_cmp cell_mark c.args.tree.now.cells c.remove-gone.new.self c.args.index c.remove-gone.ensures.entries c.args.tree.now.changed_cells c.recounted-tree.result c.cell_differed.result
    (cell_weight (maps.get nat_cmp c.args.tree.now.cells c.args.index) ∙ ap counted was) c.args.tree.now.counted_cells c.recounted-tree.ensures
