use Rattle.std.proofs.Common.{true, refl}
use Rattle.std.specs.Box.{with_value}
use Rattle.std.specs.Ordering.{nat_cmp}
use Rattle.fv_tree.specs.declared.kept.KeptCell.{KeptCell}
use Rattle.fv_tree.proofs.Differing.{cell_mark}
use Rattle.fv_tree.proofs.MapMarks.{set_kept, set_one}
use Rattle.fv_tree.proofs.write.set_content.Goals as goal

pub returns-in-Some-clause-count : goal.returns-in-Some-clause-count
returns-in-Some-clause-count c =
    let now : KeptCell = record { block = with_value c.in-Some.cell.now.block c.args.block.now; changed = true; placed = c.still_placed-cell.result } in
    set_one nat_cmp cell_mark c.args.cells.now (c.get_mut.follows.lender now) c.args.index c.in-Some.cell.now now c.in-Some.ensures.value (c.get_mut.follows.holds now).0

pub returns-in-Some-clause-counted : goal.returns-in-Some-clause-counted
returns-in-Some-clause-counted c =
    let now : KeptCell = record { block = with_value c.in-Some.cell.now.block c.args.block.now; changed = true; placed = c.still_placed-cell.result } in
    set_kept nat_cmp cell_mark c.args.cells.now (c.get_mut.follows.lender now) c.args.index c.in-Some.cell.now now c.in-Some.ensures.value (c.get_mut.follows.holds now).0 refl c.args.changed.now c.recounted.result c.requires.counted c.recounted.ensures
