use Rattle.std.proofs.Common.{◌*◌, ◌+◌, sym, ◌∙◌, arith}
use Rattle.std.proofs.lemmas.Result.{err_from_is_err_and}
use Rattle.fv_tables.specs.Told.{records_each}
use Rattle.fv_tree.specs.Standing.{standing, under}
use Rattle.fv_inode.specs.Files.{HasNoneBelow, FindsBelow}
use Rattle.fv_inode.proofs.Looked.{earlier, looks_then, looks_done, looks_failed_then}
use Rattle.fv_inode.proofs.Named.{none_at_all, found_some, found_none}
use Rattle.fv_tree.proofs.Right.{right_on}
use Rattle.fv_inode.proofs.find.find_named.Goals as goal

pub returns-in_err-found-clause-looks : goal.returns-in_err-found-clause-looks
returns-in_err-found-clause-looks g c =
    let p = err_from_is_err_and c.from_residual.result c.from_residual.ensures.1 in
    rw (p.1, p.2) (looks_failed_then g.B.Blocks.told c.args.tree.now (g.B.Blocks.shown c.args.blocks.now) (g.B.Blocks.shown c.loop-cell.blocks) (g.B.Blocks.shown c.find_at.new.blocks) (tt {0}) c.in_err-found.field-0.0 c.loop-cell.invariant.looks c.in_err-found.ensures.looks)

pub returns-then-is_some-clause-found : goal.returns-then-is_some-clause-found
returns-then-is_some-clause-found g c = λ told.
    let old = g.B.Blocks.shown c.args.blocks.now in
    let mid = g.B.Blocks.shown c.loop-cell.blocks in
    let was = c.loop-cell.invariant in
    let bound = records_each * c.loop-cell.cell in
    found_some (standing (under old) c.args.tree.now) c.args.name.now (bound + records_each) c.in_ok-found.found (sym c.is_some.ensures ∙ c.if-is_some.true)
    (earlier (λ t. HasNoneBelow t c.args.name.now bound → FindsBelow t c.args.name.now (bound + records_each) c.in_ok-found.found) c.args.tree.now old mid was.looks.untouched.held (c.in_ok-found.ensures.found told) (was.none told))

pub loop-cell-preserved : goal.loop-cell-preserved
loop-cell-preserved g c =
    let old = g.B.Blocks.shown c.args.blocks.now in
    let mid = g.B.Blocks.shown c.loop-cell.blocks in
    let was = c.loop-cell.invariant in
    let bound = records_each * c.loop-cell.cell in
    let none : g.B.Blocks.told → HasNoneBelow (standing (under old) c.args.tree.now) c.args.name.now (bound + records_each) = λ told.
    found_none (standing (under old) c.args.tree.now) c.args.name.now (bound + records_each) c.in_ok-found.found (sym c.is_some.ensures ∙ c.if-is_some.false)
    (earlier (λ t. HasNoneBelow t c.args.name.now bound → FindsBelow t c.args.name.now (bound + records_each) c.in_ok-found.found) c.args.tree.now old mid was.looks.untouched.held (c.in_ok-found.ensures.found told) (was.none told)) in
    record {
      none = λ told n lt. none told n (omega (arith, lt));
      looks = looks_then g.B.Blocks.told c.args.tree.now old mid _ (tt {0}) _ was.looks (looks_done g.B.Blocks.told (standing (under mid) c.args.tree.now) mid _ c.in_ok-found.found (tt {0}) c.in_ok-found.ensures.looks);
      reads = g.met.B.Blocks.reads_on c.args.blocks.now c.loop-cell.blocks c.find_at.new.blocks was.reads c.in_ok-found.ensures.reads;
    }

pub returns-clause-found : goal.returns-clause-found
returns-clause-found g c = λ told.
    none_at_all (standing (under (g.B.Blocks.shown c.args.blocks.now)) c.args.tree.now) c.args.name.now
    (λ n lt. c.loop-cell.invariant.none told n (omega (arith, lt, c.cells-cell-end.ensures.is, c.loop-cell-test.false)))

pub find_at-requires-clause-right : goal.find_at-requires-clause-right
find_at-requires-clause-right g c = λ told. right_on (g.B.Blocks.shown c.args.blocks.now) (g.B.Blocks.shown c.loop-cell.blocks) c.args.tree.now c.loop-cell.invariant.looks.untouched (c.requires.right told)
