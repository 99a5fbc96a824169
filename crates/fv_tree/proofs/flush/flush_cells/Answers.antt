use Rattle.std.proofs.Common.{arith}
use Rattle.fv_tree.proofs.Calls.{flushes_none, flushes_ok, flushes_failing, flushes_on}
use Rattle.fv_tree.proofs.flush.flush_cells.Goals as goal

pub loop-preserved : goal.loop-preserved
loop-preserved g c = let was = c.loop.invariant in
    let now = c.in_ok-flush_first_cell.ensures in record {
      flushing = flushes_ok 0 (flushes_on g.met.B.Blocks.goes_on g.met.B.Blocks.keeps_on was.flushing now.flushing);
      count = omega (arith, now.fewer, was.count);
    }

pub loop-init : goal.loop-init
loop-init g c = record {
  flushing = flushes_none c.args.blocks.now c.args.tree.now 0 (g.met.B.Blocks.goes_nothing c.args.blocks.now) (λ v. g.met.B.Blocks.reads_keep v c.args.blocks.now c.args.blocks.now (g.met.B.Blocks.reads_nothing c.args.blocks.now));
  count = omega arith;
}

pub returns-in_err-flush_first_cell-clause-flushing : goal.returns-in_err-flush_first_cell-clause-flushing
returns-in_err-flush_first_cell-clause-flushing g c =
    flushes_failing c.from_residual.result c.from_residual.ensures.1 (flushes_on g.met.B.Blocks.goes_on g.met.B.Blocks.keeps_on c.loop.invariant.flushing c.in_err-flush_first_cell.ensures.flushing)

pub returns-clause-flushing : goal.returns-clause-flushing
returns-clause-flushing g c = flushes_ok _ c.loop.invariant.flushing
