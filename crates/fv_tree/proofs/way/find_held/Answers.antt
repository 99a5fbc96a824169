use Rattle.std.proofs.Common.{rules, is_some, ap, arith}
use Rattle.fv_tree.specs.Standing.{standing, under}
use Rattle.fv_tree.proofs.Below.{at_the_cell}
use Rattle.fv_tree.proofs.Causes.{calm_itself, calm_then, untouched_itself, untouched_then}
use Rattle.fv_tree.proofs.Calls.{loads_on}
use Rattle.fv_tree.proofs.Right.{right_on}
use Rattle.fv_tree.proofs.way.find_held.Goals as goal

pub returns-in_err-pointer-clause-loads : goal.returns-in_err-pointer-clause-loads
returns-in_err-pointer-clause-loads g c =
    loads_on g.B.Blocks.told c.args.tree.now _ _ _ c.from_residual.result _ c.from_residual.ensures.1 c.loop-level.invariant.untouched c.loop-level.invariant.calm (g.met.B.Blocks.reads_on c.args.blocks.now c.loop-level.blocks c.step.new.blocks c.loop-level.invariant.reads c.in_err-pointer.ensures.reads) c.in_err-pointer.ensures.untouched c.in_err-pointer.ensures.counts c.in_err-pointer.ensures.cause

pub returns-clause-pointer : goal.returns-clause-pointer
returns-clause-pointer g c = λ told.
    let t = standing (under (g.B.Blocks.shown c.args.blocks.now)) c.args.tree.now in
    at_the_cell t c.loop-level.level c.args.index c.loop-level.pointer (omega arith) (c.loop-level.invariant.pointer told)

pub loop-level-init : goal.loop-level-init
loop-level-init g c = record {
  high = omega arith;
  pointer = search rules;
  untouched = untouched_itself _;
  calm = calm_itself _;
  reads = g.met.B.Blocks.reads_nothing c.args.blocks.now;
}

pub loop-level-preserved : goal.loop-level-preserved
loop-level-preserved g c =
    let was = c.loop-level.invariant in
    let now = c.in_ok-pointer.ensures in record {
      high = omega arith;
      pointer = search rules;
      untouched = untouched_then _ _ _ was.untouched now.untouched;
      calm = calm_then _ _ _ was.calm now.counts.calm;
      reads = g.met.B.Blocks.reads_on c.args.blocks.now c.loop-level.blocks c.step.new.blocks was.reads now.reads;
    }

pub returns-in_err-pointer-clause-held : goal.returns-in_err-pointer-clause-held
returns-in_err-pointer-clause-held g c = λ way.
    let level = c.loop-level.level in
    let node = way level (omega arith) (let high = c.loop-level.invariant.high in omega (arith, high)) in
    absurd (c.in_err-pointer.ensures.held (ap is_some node.1))

pub step-requires-clause-right : goal.step-requires-clause-right
step-requires-clause-right g c = λ told. right_on (g.B.Blocks.shown c.args.blocks.now) (g.B.Blocks.shown c.loop-level.blocks) c.args.tree.now c.loop-level.invariant.untouched (c.requires.right told)
