use Rattle.std.proofs.Common.{refl, arith}
use Rattle.std.proofs.lemmas.Result.{err_from_is_err_and}
use Rattle.fv_tree.specs.Standing.{standing, under}
use Rattle.fv_inode.specs.Files.{AreRecords}
use Rattle.fv_inode.proofs.Looked.{earlier, looks_then, looks_done, looks_failed_then}
use Rattle.fv_inode.proofs.Numbered.{used_below, least_in, least_searched}
use Rattle.fv_tree.proofs.Right.{right_on}
use Rattle.fv_inode.proofs.create.find_free.Goals as goal

pub returns-in_err-files-clause-looks : goal.returns-in_err-files-clause-looks
returns-in_err-files-clause-looks g c =
    let p = err_from_is_err_and c.from_residual.result c.from_residual.ensures.1 in
    rw (p.1, p.2) (looks_failed_then g.B.Blocks.told c.args.tree.now (g.B.Blocks.shown c.args.blocks.now) (g.B.Blocks.shown c.loop-cell.blocks) (g.B.Blocks.shown c.read_files.new.blocks) (tt {0}) c.in_err-files.field-0.0 c.loop-cell.invariant.looks c.in_err-files.ensures.looks)

pub overflow_add-result : goal.overflow_add-result
overflow_add-result g c = omega (arith, c.loop-cell-test.true, c.numbered_cells-count.ensures.few, (c.in-Some.ensures.some c.in-Some.slot refl).0)

pub returns-in-Some-clause-bound : goal.returns-in-Some-clause-bound
returns-in-Some-clause-bound g c = omega (arith, c.loop-cell-test.true, c.numbered_cells-count.ensures.few, (c.in-Some.ensures.some c.in-Some.slot refl).0)

pub returns-in-Some-clause-number : goal.returns-in-Some-clause-number
returns-in-Some-clause-number g c = λ told.
    let old = g.B.Blocks.shown c.args.blocks.now in
    let mid = g.B.Blocks.shown c.loop-cell.blocks in
    let was = c.loop-cell.invariant in
    let found = c.in-Some.ensures.some c.in-Some.slot refl in
    least_in (standing (under old) c.args.tree.now) c.loop-cell.cell c.in_ok-files.files c.in-Some.slot (earlier (λ t. AreRecords t c.loop-cell.cell c.in_ok-files.files) c.args.tree.now old mid was.looks.untouched.held (c.in_ok-files.ensures.files told)) found.0 (was.least told) found.1 found.2

pub loop-cell-preserved : goal.loop-cell-preserved
loop-cell-preserved g c =
    let old = g.B.Blocks.shown c.args.blocks.now in
    let mid = g.B.Blocks.shown c.loop-cell.blocks in
    let was = c.loop-cell.invariant in
    let are : g.B.Blocks.told → AreRecords (standing (under old) c.args.tree.now) c.loop-cell.cell c.in_ok-files.files = λ told.
    earlier (λ t. AreRecords t c.loop-cell.cell c.in_ok-files.files) c.args.tree.now old mid was.looks.untouched.held (c.in_ok-files.ensures.files told) in
    let none = c.in_default.ensures.none refl in
    record {
      least = λ told k lt. used_below (standing (under old) c.args.tree.now) c.loop-cell.cell c.in_ok-files.files 16 (are told) (omega arith) (was.least told) none k (omega (arith, lt));
      looks = looks_then g.B.Blocks.told c.args.tree.now old mid _ (tt {0}) _ was.looks (looks_done g.B.Blocks.told (standing (under mid) c.args.tree.now) mid _ c.in_ok-files.files (tt {0}) c.in_ok-files.ensures.looks);
      reads = g.met.B.Blocks.reads_on c.args.blocks.now c.loop-cell.blocks c.read_files.new.blocks was.reads c.in_ok-files.ensures.reads;
    }

pub returns-clause-number : goal.returns-clause-number
returns-clause-number g c = λ told.
    let count = c.numbered_cells-count.ensures in
    least_searched (standing (under (g.B.Blocks.shown c.args.blocks.now)) c.args.tree.now) c.numbered_cells-count.result count.few count.all (λ k lt. c.loop-cell.invariant.least told k (omega (arith, lt, c.loop-cell-test.false)))

pub read_files-requires : goal.read_files-requires
read_files-requires g c = record { right = λ told. right_on (g.B.Blocks.shown c.args.blocks.now) (g.B.Blocks.shown c.loop-cell.blocks) c.args.tree.now c.loop-cell.invariant.looks.untouched (c.requires.right told) }
