use Rattle.std.proofs.Common.{◌++◌, List, sym, ap, ◌∙◌, append_assoc}
use Rattle.fv_model.specs.Places.{Place}
use Rattle.fv_model.specs.Space.{reserved_at}
use Rattle.fv_reference.proofs.Counting.{levels_more}
use Rattle.fv_reference.proofs.space.list_reserved.Goals as goal

pub loop-level-preserved : goal.loop-level-preserved
loop-level-preserved c =
    c.in_ok-list_level.ensures ∙ ap (λ (xs : List Place). xs ++ reserved_at c.args.number c.args.reserve c.loop-level.level) c.loop-level.invariant ∙ append_assoc c.args.places.now.items _ _ ∙ ap (λ (ys : List Place). c.args.places.now.items ++ ys) (sym (levels_more (reserved_at c.args.number c.args.reserve) c.loop-level.level))
