use Rattle.std.proofs.Common.{Ok, ◌≡◌, ◌-◌, ◌^◌, sym, subst, arith}
use Rattle.fv_model.specs.Trees.{fan}
use Rattle.fv_tree.specs.Standing.{standing, under}
use Rattle.fv_tree.specs.Collecting.{AllBelow, Collects}
use Rattle.std.proofs.lemmas.Result.{err_from_is_err_and}
use Rattle.fv_tree.proofs.Collected.{collects_as, collects_back, past_same}
use Rattle.fv_tree.proofs.Calls.{loading_none, loading_ok, loading_then}
use Rattle.fv_tree.proofs.Right.{right_loaded}
use Rattle.fv_tree.proofs.cut.keep_past.Goals as goal

pub loop-level-init : goal.loop-level-init
loop-level-init g c =
    let old = under (g.B.Blocks.shown c.args.blocks.now) in record {
      high = omega arith;
      places = λ _. c.in_ok-places.ensures.places old;
      bound = c.in_ok-places.ensures.bound;
      nodes = λ _ k q lt le past. absurd (omega (arith, lt, le));
      loading = loading_none g.B.Blocks.told (g.B.Blocks.shown c.args.blocks.now) c.args.tree.now (Ok 0) (g.met.B.Blocks.reads_nothing c.args.blocks.now) tt;
    }

pub keep_level-requires-clause-places : goal.keep_level-requires-clause-places
keep_level-requires-clause-places g c = λ told.
    let was = c.loop-level.invariant in
    let s = standing (under (g.B.Blocks.shown c.args.blocks.now)) c.args.tree.now in
    let t = standing (under (g.B.Blocks.shown c.loop-level.blocks)) c.loop-level.tree in
    subst (Collects t c.loop-level.level c.args.most) (sym c.as_slice.ensures.value) (collects_as s t c.loop-level.level c.args.most c.loop-level.places.items (was.loading.same told) (was.places told))

pub returns-clause-bound : goal.returns-clause-bound
returns-clause-bound g c =
    let n : 3 - c.loop-level.level ≡ 3 = omega (arith, c.loop-level-test.false) in
    subst (λ most. AllBelow c.loop-level.places.items (fan ^ most)) n c.loop-level.invariant.bound

pub loop-level-preserved : goal.loop-level-preserved
loop-level-preserved g c =
    let s = standing (under (g.B.Blocks.shown c.args.blocks.now)) c.args.tree.now in
    let t = standing (under (g.B.Blocks.shown c.loop-level.blocks)) c.loop-level.tree in
    let was = c.loop-level.invariant in
    let now = c.in_ok-places-2.ensures in record {
      high = (let high = was.high in omega (arith, high));
      places = λ told. collects_back s t (c.loop-level.level - 1) c.args.most c.in_ok-places-2.places.items (was.loading.same told) (now.places told);
      bound = now.bound;
      nodes = λ told k q lt le past. now.nodes told k q lt (omega (arith, le, was.loading.fields.levels)) (past_same s t k c.args.most q (was.loading.same told) past);
      loading = loading_ok 0 (loading_then (g.met.B.Blocks.reads_on c.args.blocks.now c.loop-level.blocks c.keep_level.new.blocks) was.loading now.loading);
    }

pub returns-clause-cells : goal.returns-clause-cells
returns-clause-cells g c = λ told.
    let none : c.loop-level.level ≡ 0 = omega (arith, c.loop-level-test.false) in
    subst (λ level. Collects (standing (under (g.B.Blocks.shown c.args.blocks.now)) c.args.tree.now) level c.args.most c.loop-level.places.items) none (c.loop-level.invariant.places told)

pub returns-in_err-places-2-clause-loading : goal.returns-in_err-places-2-clause-loading
returns-in_err-places-2-clause-loading g c = let p = err_from_is_err_and c.from_residual-in_err-places-2.result c.from_residual-in_err-places-2.ensures.1 in
    rw (p.1, p.2) (loading_then (g.met.B.Blocks.reads_on c.args.blocks.now c.loop-level.blocks c.keep_level.new.blocks) c.loop-level.invariant.loading c.in_err-places-2.ensures.loading)

pub returns-in_err-places-clause-loading : goal.returns-in_err-places-clause-loading
returns-in_err-places-clause-loading g c = let p = err_from_is_err_and c.from_residual.result c.from_residual.ensures.1 in
    rw (p.1, p.2) (loading_none g.B.Blocks.told (g.B.Blocks.shown c.args.blocks.now) c.args.tree.now _ (g.met.B.Blocks.reads_nothing c.args.blocks.now) c.in_err-places.ensures.memory)

pub returns-clause-loading : goal.returns-clause-loading
returns-clause-loading g c = loading_ok _ c.loop-level.invariant.loading

pub keep_level-requires-clause-right : goal.keep_level-requires-clause-right
keep_level-requires-clause-right g c = λ told. right_loaded c.loop-level.invariant.loading told (c.requires.right told)
