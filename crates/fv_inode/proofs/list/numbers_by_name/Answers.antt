use Rattle.std.proofs.Common.{◌≡◌, ◌*◌, ◌+◌, ◌-◌, ◌^◌, ap, ◌∙◌, arith}
use Rattle.std.proofs.lemmas.Result.{err_from_is_err_and}
use Rattle.fv_model.specs.Trees.{fan}
use Rattle.fv_tree.specs.Standing.{standing, under}
use Rattle.fv_inode.specs.Files.{AreRecords}
use Rattle.fv_inode.specs.Listing.{numbers_in, names_from}
use Rattle.fv_inode.proofs.Looked.{earlier, looks_self, looks_then, looks_done, looks_failed_then}
use Rattle.fv_inode.proofs.Views.{nothing}
use Rattle.fv_tree.proofs.Right.{right_on}
use Rattle.fv_inode.proofs.list.numbers_by_name.Goals as goal

pub loop-cell-init : goal.loop-cell-init
loop-cell-init g c =
    let old = g.B.Blocks.shown c.args.blocks.now in
    let t = standing (under old) c.args.tree.now in
    record {
      high = omega (arith, c.cells-cell.ensures.is);
      small = c.cells-cell.ensures.few;
      numbers = λ told. nothing t (16 * c.cells-cell.result) c.new-numbers.result c.new-numbers.ensures.len ∙ ap (names_from t (16 * c.cells-cell.result)) (omega (arith, c.cells-cell.ensures.is));
      looks = looks_self g.B.Blocks.told t old;
      reads = g.met.B.Blocks.reads_nothing c.args.blocks.now;
    }

pub returns-in_err-files-clause-looks : goal.returns-in_err-files-clause-looks
returns-in_err-files-clause-looks g c =
    let p = err_from_is_err_and c.from_residual.result c.from_residual.ensures.1 in
    rw (p.1, p.2) (looks_failed_then g.B.Blocks.told c.args.tree.now (g.B.Blocks.shown c.args.blocks.now) (g.B.Blocks.shown c.loop-cell.blocks) (g.B.Blocks.shown c.read_files.new.blocks) (tt {0}) c.in_err-files.field-0.0 c.loop-cell.invariant.looks c.in_err-files.ensures.looks)

pub loop-cell-preserved : goal.loop-cell-preserved
loop-cell-preserved g c =
    let old = g.B.Blocks.shown c.args.blocks.now in
    let mid = g.B.Blocks.shown c.loop-cell.blocks in
    let new = g.B.Blocks.shown c.read_files.new.blocks in
    let t = standing (under old) c.args.tree.now in
    let was = c.loop-cell.invariant in
    let cell = c.loop-cell.cell in
    let rest = 16 * (fan ^ c.args.tree.now.levels - cell) in
    let are : g.B.Blocks.told → AreRecords t (cell - 1) c.in_ok-files.files = λ told.
    earlier (λ u. AreRecords u (cell - 1) c.in_ok-files.files) c.args.tree.now old mid was.looks.untouched.held (c.in_ok-files.ensures.files told) in
    let before : g.B.Blocks.told → numbers_in c.loop-cell.numbers ≡ names_from t (16 * (cell - 1) + 16) rest = λ told. was.numbers told ∙ ap (λ n. names_from t n rest) (omega (arith, c.loop-cell-test.true)) in
    record {
      high = omega (arith, was.high);
      small = omega (arith, was.small);
      numbers = λ told. c.in_ok-add_names.ensures.added t rest (are told) (before told) ∙ ap (names_from t (16 * (cell - 1))) (omega (arith, was.high, c.loop-cell-test.true));
      looks = looks_then g.B.Blocks.told c.args.tree.now old mid new (tt {0}) _ was.looks (looks_done g.B.Blocks.told (standing (under mid) c.args.tree.now) mid new c.in_ok-files.files (tt {0}) c.in_ok-files.ensures.looks);
      reads = g.met.B.Blocks.reads_on c.args.blocks.now c.loop-cell.blocks c.read_files.new.blocks was.reads c.in_ok-files.ensures.reads;
    }

pub read_files-requires : goal.read_files-requires
read_files-requires g c = record { right = λ told. right_on (g.B.Blocks.shown c.args.blocks.now) (g.B.Blocks.shown c.loop-cell.blocks) c.args.tree.now c.loop-cell.invariant.looks.untouched (c.requires.right told) }
