use Rattle.std.proofs.Common.{rules, Ok, ◌≡◌, ◌<◌, ◌+◌, ◌-◌, ◌*◌, ◌/◌, ◌^◌, inl, inr, [], get_or, length, sym, subst, arith}
use Rattle.std.proofs.lemmas.Bool.{cases_lt}
use Rattle.std.proofs.lemmas.Result.{err_from_is_err_and}
use Rattle.fv_model.specs.Trees.{fan}
use Rattle.fv_tree.specs.Standing.{standing, under}
use Rattle.fv_tree.specs.Collecting.{IsRising, AllBelow, Extends, IsHeld}
use Rattle.fv_tree.proofs.Collected.{past_up, one_more_range, ranges_under, all_ranges, all_held, IsUnderOne}
use Rattle.fv_tree.proofs.Calls.{loading_err, loading_none, loading_ok, loading_then}
use Rattle.fv_tree.proofs.Right.{right_loaded}
use Rattle.fv_tree.proofs.cut.keep_level.Goals as goal

pub keep_range-requires-clause-node : goal.keep_range-requires-clause-node
keep_range-requires-clause-node g c = λ told lt.
    let s = standing (under (g.B.Blocks.shown c.args.blocks.now)) c.args.tree.now in
    let was = c.loop-place.invariant in
    let place = get_or c.args.places.now c.loop-place.place-index 0 in
    let less : c.args.level < s.levels = omega (arith, lt, was.loading.fields.levels) in
    was.still told (c.args.level + 1) (place / fan) (c.requires.nodes told (c.args.level + 1) (place / fan) (omega arith) (omega (arith, less)) (past_up s c.args.level c.args.most place less ((c.requires.places told).past c.loop-place.place-index c.loop-place-test.true)))

pub loop-place-preserved : goal.loop-place-preserved
loop-place-preserved g c =
    let s = standing (under (g.B.Blocks.shown c.args.blocks.now)) c.args.tree.now in
    let t = standing (under (g.B.Blocks.shown c.loop-place.blocks)) c.loop-place.tree in
    let was = c.loop-place.invariant in
    let now = c.in_ok-keep_range.ensures in
    let at = c.loop-place.place-index in
    let places = c.args.places.now in
    let rises : g.B.Blocks.told → IsRising c.keep_range.new.below.items × AllBelow c.keep_range.new.below.items ((get_or places at 0 + 1) * fan) = λ told. now.rising (was.rising told) (was.bound told at (omega arith) c.loop-place-test.true) in record {
      added = λ told. one_more_range s t c.args.level c.args.most at places [] c.loop-place.below.items c.keep_range.new.below.items (was.loading.same told) (was.added told) (now.added told);
      rising = λ told. (rises told).0;
      below = now.bound (fan ^ (3 - (c.args.level - 1))) (ranges_under c.args.level (get_or places at 0) c.requires.low (omega (arith, c.requires.high, c.args.tree.now.few)) (c.requires.bound at c.loop-place-test.true)) was.below;
      bound = λ told k le lt j less.
          let first = (rises told).1 j less in
          let next : get_or places at 0 < get_or places k 0 = (c.requires.places told).rising at k (omega (arith, le)) lt in
          omega (arith, first, next);
      nodes = λ told j lt. elim (cases_lt j at) [
        | inl less ↦ now.nodes told c.args.level (get_or places j 0) (was.nodes told j less)
        | inr le ↦ let same : j ≡ at = omega (arith, lt, le) in subst (λ k. IsHeld c.keep_range.new.tree c.args.level (get_or places k 0)) (sym same) (now.node told)
      ];
      still = λ told level place held. now.nodes told level place (was.still told level place held);
      loading = loading_ok 0 (loading_then (g.met.B.Blocks.reads_on c.args.blocks.now c.loop-place.blocks c.keep_range.new.blocks) was.loading now.loading);
    }

pub returns-clause-places : goal.returns-clause-places
returns-clause-places g c = λ told.
    let s = standing (under (g.B.Blocks.shown c.args.blocks.now)) c.args.tree.now in
    let was = c.loop-place.invariant in
    let places = c.args.places.now in
    let all : c.loop-place.place-index ≡ length places = omega (arith, c.loop-place-test.false, c.loop-place.auto.place-index-end) in
    all_ranges s c.args.level c.args.most places c.loop-place.below.items c.requires.low c.requires.high (c.requires.places told)
    (subst (λ n. Extends (IsUnderOne s c.args.level c.args.most places n) [] c.loop-place.below.items) all (was.added told)) (was.rising told)

pub returns-clause-nodes : goal.returns-clause-nodes
returns-clause-nodes g c = λ told.
    let s = standing (under (g.B.Blocks.shown c.args.blocks.now)) c.args.tree.now in
    let was = c.loop-place.invariant in
    all_held c.args.tree.now c.loop-place.tree s c.args.level c.args.most c.args.places.now c.requires.low (c.requires.places told) (c.requires.nodes told) (was.still told) (λ j lt. was.nodes told j (omega (arith, lt, c.loop-place-test.false)))

pub returns-in_err-keep_range-clause-loading : goal.returns-in_err-keep_range-clause-loading
returns-in_err-keep_range-clause-loading g c = let p = err_from_is_err_and c.from_residual.result c.from_residual.ensures.1 in
    rw (p.1, p.2) (loading_err (loading_then (g.met.B.Blocks.reads_on c.args.blocks.now c.loop-place.blocks c.keep_range.new.blocks) c.loop-place.invariant.loading c.in_err-keep_range.ensures.loading))

pub returns-clause-loading : goal.returns-clause-loading
returns-clause-loading g c = loading_ok _ c.loop-place.invariant.loading

pub loop-place-init : goal.loop-place-init
loop-place-init g c = record { added = search rules; rising = search rules; below = search rules; bound = search rules; nodes = search rules; still = search rules; loading = loading_none g.B.Blocks.told (g.B.Blocks.shown c.args.blocks.now) c.args.tree.now (Ok 0) (g.met.B.Blocks.reads_nothing c.args.blocks.now) tt }

pub keep_range-requires-clause-right : goal.keep_range-requires-clause-right
keep_range-requires-clause-right g c = λ told. right_loaded c.loop-place.invariant.loading told (c.requires.right told)
