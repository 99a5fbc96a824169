use Rattle.std.proofs.Common.{◌≡◌, ◌+◌, sym, ◌∙◌, arith}
use Rattle.std.specs.Cmp.{nat_cmp_total}
use Rattle.std.specs.Ordering.{nat_cmp}
use Rattle.fv_tree.proofs.Differing.{cell_mark}
use Rattle.fv_tree.proofs.MapMarks.{put_absent, put_one}
use Rattle.fv_tree.proofs.write.keep_cell.Goals as goal

pub returns-in-Ok-clause-count : goal.returns-in-Ok-clause-count
returns-in-Ok-clause-count c = put_one nat_cmp cell_mark c.args.tree.now.cells c.insert.new.self nat_cmp_total c.args.index _ c.insert.ensures.was_ordered c.in-Ok.ensures.entries

pub invariant_of-tree-in-Ok-clause-counted_cells : goal.invariant_of-tree-in-Ok-clause-counted_cells
invariant_of-tree-in-Ok-clause-counted_cells c =
    let count : c.recounted-changed.result ≡ c.args.tree.now.changed_cells + 1 = omega (arith, c.recounted-changed.ensures) in
    put_absent nat_cmp cell_mark c.args.tree.now.cells c.insert.new.self nat_cmp_total c.args.index _ c.insert.ensures.was_ordered c.in-Ok.ensures.entries (sym c.contains_key.ensures ∙ c.if-contains_key.false)
    c.args.tree.now.changed_cells c.recounted-changed.result c.args.tree.now.counted_cells count
