use Rattle.std.proofs.Common.{Result, Ok, Err, OnOk, OnErr, refl, sym, ◌∙◌, arith}
use Rattle.std.specs.Cmp.{nat_cmp_total}
use Rattle.std.specs.Ordering.{nat_cmp}
use Rattle.fv_tree.proofs.Differing.{cell_mark}
use Rattle.fv_tree.proofs.MapMarks.{put_absent, put_none, same_marked}
use Rattle.fv_tree.proofs.rewrite.hold_cell.Goals as goal

pub returns-in-Ok-clause-changes : goal.returns-in-Ok-clause-changes
returns-in-Ok-clause-changes c = put_none nat_cmp cell_mark c.args.tree.now.cells c.insert.new.self nat_cmp_total c.args.index _ c.insert.ensures.was_ordered c.in-Ok.ensures.entries refl

-- either way the call ended
by_result : {T E A B X : Type 0} (r : Result T E) → OnOk r A → OnErr r B → (A → X) → (B → X) → X
by_result (Ok x) ok err of_ok of_err = of_ok ok
by_result (Err e) ok err of_ok of_err = of_err err

pub invariant_of-tree-clause-counted_cells : goal.invariant_of-tree-clause-counted_cells
invariant_of-tree-clause-counted_cells c =
    by_result c.insert.result c.insert.ensures.entries c.insert.ensures.err
    (λ put. put_absent nat_cmp cell_mark c.args.tree.now.cells c.insert.new.self nat_cmp_total c.args.index _ c.insert.ensures.was_ordered put (sym c.contains_key.ensures ∙ c.if-contains_key.false) c.args.tree.now.changed_cells c.args.tree.now.changed_cells c.args.tree.now.counted_cells (omega arith))
    (λ same. c.args.tree.now.counted_cells ∙ sym (same_marked nat_cmp cell_mark c.args.tree.now.cells c.insert.new.self same))
