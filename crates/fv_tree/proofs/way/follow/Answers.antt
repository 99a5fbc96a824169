use Rattle.std.proofs.Common.{◌≡◌, get_or, refl, sym, ap, ◌∙◌, ◌/◌, ◌%◌, ◌+◌}
use Rattle.std.proofs.lemmas.Result.{IfOk-weaker, IfErr-weaker, on_ok_weaker}
use Rattle.fv_model.specs.Trees.{fan}
use Rattle.fv_tree.specs.Spelled.{hole, pointers_at, pointer_at}
use Rattle.fv_tree.specs.Standing.{standing, under}
use Rattle.fv_tree.proofs.Below.{below, on_the_way}
use Rattle.fv_tree.proofs.Causes.{err_unless, followed_fails}
use Rattle.fv_tree.proofs.Costly.{node_costs}
use Rattle.fv_tree.proofs.Right.{node_empty, way_right, way_spelled}
use Rattle.fv_tree.proofs.way.follow.Goals as goal

pub returns-clause-below : goal.returns-clause-below
returns-clause-below g c = λ told.
    let t = standing (under (g.B.Blocks.shown c.args.blocks.now)) c.args.tree.now in
    IfOk-weaker c.changed_or_loaded.result _ _ (λ p h. h ∙ (λ j. get_or (pointers_at t c.args.level (c.args.index / c.width.ensures.is j) c.args.pointer.now) (c.args.index / c.width-2.ensures.is j % fan) hole) ∙ below t c.args.level c.args.index c.args.pointer.now c.requires.low c.requires.high (c.requires.pointer told)) (c.changed_or_loaded.ensures.child told)

pub returns-clause-cause : goal.returns-clause-cause
returns-clause-cause g c =
    let old = g.B.Blocks.shown c.args.blocks.now in
    let t = standing (under old) c.args.tree.now in
    let at : g.B.Blocks.told → pointer_at t c.args.level (c.args.index / c.width.result) ≡ c.args.pointer.now = λ told. (λ j. pointer_at t c.args.level (c.args.index / c.width.ensures.is j)) ∙ on_the_way t c.args.level c.args.index c.requires.high ∙ sym (c.requires.pointer told) in
    IfErr-weaker c.changed_or_loaded.result _ _ (λ e p. followed_fails g.B.Blocks.told t old _ c.args.level (c.args.index / c.width.result) c.args.pointer.now e refl c.requires.low c.requires.high at
    (λ told some. node_empty old c.args.tree.now (c.requires.right told) c.args.level (c.args.index / c.width.result) c.args.pointer.now c.requires.low (sym (at told)) p.0 some) p.1)
    (err_unless _ _ c.changed_or_loaded.result c.changed_or_loaded.ensures.changed c.changed_or_loaded.ensures.cause)

pub returns-clause-spent : goal.returns-clause-spent
returns-clause-spent g c = λ told.
    let old = g.B.Blocks.shown c.args.blocks.now in
    on_ok_weaker c.changed_or_loaded.result (λ is. is ∙ ap (λ n. old.spent + n) (node_costs old.cost (under old) c.args.tree.now c.args.level c.args.index (c.args.index / c.width.result) c.args.pointer.now c.requires.low c.requires.high
    (ap (λ w. c.args.index / w) c.width.ensures.is) (c.requires.pointer told))) c.changed_or_loaded.ensures.spent

pub changed_or_loaded-requires-clause-right : goal.changed_or_loaded-requires-clause-right
changed_or_loaded-requires-clause-right g c = λ told. way_right (g.B.Blocks.shown c.args.blocks.now) c.args.tree.now c.args.level c.args.index (c.args.index / c.width.result) c.args.pointer.now c.requires.low c.requires.high (ap (λ w. c.args.index / w) c.width.ensures.is) (c.requires.pointer told) (c.requires.right told)

pub changed_or_loaded-requires-clause-same : goal.changed_or_loaded-requires-clause-same
changed_or_loaded-requires-clause-same g c = λ told. way_spelled (g.B.Blocks.shown c.args.blocks.now) c.args.tree.now c.args.level c.args.index (c.args.index / c.width.result) c.args.pointer.now c.requires.low c.requires.high (ap (λ w. c.args.index / w) c.width.ensures.is) (c.requires.pointer told) (c.requires.right told)
