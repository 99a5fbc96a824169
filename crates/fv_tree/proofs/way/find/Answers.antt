use Rattle.std.proofs.Common.{rules, ◌≡◌, ◌/◌, ◌^◌, refl, arith}
use Rattle.fv_model.specs.Trees.{fan}
use Rattle.fv_tree.specs.Standing.{standing, under}
use Rattle.fv_tree.specs.Sources.{Shown}
use Rattle.fv_tree.specs.Flushing.{loaded, loaded_over}
use Rattle.fv_tree.specs.Lookups.{place_cost}
use Rattle.std.specs.FinMap as fin
use Rattle.fv_tree.proofs.Below.{at_the_cell}
use Rattle.fv_tree.proofs.Causes.{calm_itself, calm_then, untouched_itself, untouched_then}
use Rattle.fv_tree.proofs.Costly.{cost_last, cost_step}
use Rattle.fv_tree.proofs.Calls.{loads_on}
use Rattle.fv_tree.proofs.Right.{readable_on}
use Rattle.fv_tree.proofs.way.find.Goals as goal

pub returns-in_err-pointer-clause-loads : goal.returns-in_err-pointer-clause-loads
returns-in_err-pointer-clause-loads g c =
    loads_on g.B.Blocks.told c.args.tree.now _ _ _ c.from_residual.result _ c.from_residual.ensures.1 c.loop-level.invariant.untouched c.loop-level.invariant.calm (g.met.B.Blocks.reads_on c.args.blocks.now c.loop-level.blocks c.follow.new.blocks c.loop-level.invariant.reads c.in_err-pointer.ensures.reads) c.in_err-pointer.ensures.untouched c.in_err-pointer.ensures.counts c.in_err-pointer.ensures.cause

pub returns-clause-pointer : goal.returns-clause-pointer
returns-clause-pointer g c = λ told.
    let t = standing (under (g.B.Blocks.shown c.args.blocks.now)) c.args.tree.now in
    at_the_cell t c.loop-level.level c.args.index c.loop-level.pointer (omega arith) (c.loop-level.invariant.pointer told)

pub loop-level-init : goal.loop-level-init
loop-level-init g c = record {
  high = omega arith;
  pointer = search rules;
  spent = λ _. refl;
  untouched = untouched_itself _;
  calm = calm_itself _;
  reads = g.met.B.Blocks.reads_nothing c.args.blocks.now;
}

pub loop-level-preserved : goal.loop-level-preserved
loop-level-preserved g c =
    let old : Shown = g.B.Blocks.shown c.args.blocks.now in
    let mid : Shown = g.B.Blocks.shown c.loop-level.blocks in
    let t = c.args.tree.now in
    let level = c.loop-level.level in
    let was = c.loop-level.invariant in
    let now = c.in_ok-pointer.ensures in
    let same : place_cost mid.cost (loaded mid t) level (c.args.index / fan ^ level) ≡ place_cost old.cost (loaded old t) level (c.args.index / fan ^ level) =
    λ j. place_cost (was.untouched.cost j) (loaded_over (λ v. fin.get (was.untouched.held j) v) t) level (c.args.index / fan ^ level) in record {
      high = omega arith;
      pointer = search rules;
      spent = λ told.
          let first = was.spent told in
          let more = now.spent told in
          let step = cost_step old.cost (loaded old t) c.args.index level (omega arith) in
          omega (arith, first, more, same, step);
      untouched = untouched_then _ _ _ was.untouched now.untouched;
      calm = calm_then _ _ _ was.calm now.counts.calm;
      reads = g.met.B.Blocks.reads_on c.args.blocks.now c.loop-level.blocks c.follow.new.blocks was.reads now.reads;
    }

pub returns-clause-spent : goal.returns-clause-spent
returns-clause-spent g c = λ told.
    let old : Shown = g.B.Blocks.shown c.args.blocks.now in
    let last = cost_last old.cost (loaded old c.args.tree.now) c.args.index c.loop-level.level (omega arith) in
    let was = c.loop-level.invariant.spent told in
    omega (arith, last, was)

pub follow-requires-clause-right : goal.follow-requires-clause-right
follow-requires-clause-right g c = λ told. readable_on (g.B.Blocks.shown c.args.blocks.now) (g.B.Blocks.shown c.loop-level.blocks) c.args.tree.now c.loop-level.invariant.untouched (c.requires.right told)
