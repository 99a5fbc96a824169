use Rattle.std.proofs.Common.{get_or, refl, sym, ap, ◌∙◌, ◌/◌, ◌%◌}
use Rattle.std.proofs.lemmas.Result.{IfOk-weaker, IfErr-weaker}
use Rattle.fv_model.specs.Trees.{fan}
use Rattle.fv_tree.specs.Spelled.{hole, pointers_at, pointer_at}
use Rattle.fv_tree.specs.Standing.{standing, under}
use Rattle.fv_tree.proofs.Below.{below, on_the_way}
use Rattle.fv_tree.proofs.Causes.{err_unless, node_fails}
use Rattle.fv_tree.proofs.Right.{way_loads}
use Rattle.fv_tree.proofs.way.step.Goals as goal

pub returns-clause-below : goal.returns-clause-below
returns-clause-below g c = λ told.
    let t = standing (under (g.B.Blocks.shown c.args.blocks.now)) c.args.tree.now in
    IfOk-weaker c.child.result _ _ (λ p h. h ∙ (λ j. get_or (pointers_at t c.args.level (c.args.index / c.width.ensures.is j) c.args.pointer.now) (c.args.index / c.width-2.ensures.is j % fan) hole) ∙ below t c.args.level c.args.index c.args.pointer.now c.requires.low c.requires.high (c.requires.pointer told)) (c.child.ensures.child told)

pub returns-clause-cause : goal.returns-clause-cause
returns-clause-cause g c =
    let t = standing (under (g.B.Blocks.shown c.args.blocks.now)) c.args.tree.now in
    IfErr-weaker c.child.result _ _ (λ e p. node_fails g.B.Blocks.told t _ _ c.args.level (c.args.index / c.width.result) c.args.pointer.now e refl c.requires.low c.requires.high (λ told. (λ j. pointer_at t c.args.level (c.args.index / c.width.ensures.is j)) ∙ on_the_way t c.args.level c.args.index c.requires.high ∙ sym (c.requires.pointer told)) (λ _. p.0) p.1) (err_unless _ _ c.child.result c.child.ensures.held c.child.ensures.cause)

pub child-requires-clause-right : goal.child-requires-clause-right
child-requires-clause-right g c = λ told. way_loads (g.B.Blocks.shown c.args.blocks.now) c.args.tree.now c.args.level c.args.index (c.args.index / c.width.result) c.args.pointer.now c.requires.low c.requires.high (ap (λ w. c.args.index / w) c.width.ensures.is) (c.requires.pointer told) (c.requires.right told)
