use Rattle.std.proofs.Common.{ap, ◌∙◌}
use Rattle.fv_codec.specs.declared.pointer.Pointer.{Pointer}
use Rattle.fv_tree.proofs.Stepped.{holds_as_much}
use Rattle.fv_tree.proofs.Calls.{one_err, one_none, one_ok}
use Rattle.std.proofs.lemmas.Result.{err_from_is_err_and}
use Rattle.fv_tree.proofs.placing.replace.Goals as goal

pub returns-clause-still : goal.returns-clause-still
returns-clause-still g c = holds_as_much c.args.tree.now c.point.new.tree c.args.spot.0 c.args.spot.1 _ (λ none. c.if-old-eq0.false (ap (λ (p : Pointer). p.stamp) c.pointer_in-old.ensures.is ∙ none)) c.point.ensures.points

pub returns-then-old-eq0-clause-one : goal.returns-then-old-eq0-clause-one
returns-then-old-eq0-clause-one g c = one_none g.B.Blocks.told g.B.Blocks.known (g.B.Blocks.shown c.args.blocks.now) _ (g.met.B.Blocks.goes_nothing c.args.blocks.now)

pub returns-in_err-new-clause-one : goal.returns-in_err-new-clause-one
returns-in_err-new-clause-one g c = let p = err_from_is_err_and c.from_residual.result c.from_residual.ensures.1 in
    rw (p.1, p.2) (one_err c.in_err-new.ensures.one)

pub returns-clause-one : goal.returns-clause-one
returns-clause-one g c = one_ok _ c.in_ok-new.ensures.one
