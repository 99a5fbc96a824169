use Rattle.std.proofs.Common.{◌*◌, ◌^◌, ◌++◌, ◌∷◌, [], ℕ, Bool, List, sym, ap, ◌∙◌, cond, nat_lt, append_assoc}
use Rattle.fv_model.specs.Trees.{fan}
use Rattle.fv_model.specs.Places.{Place, OfFile}
use Rattle.fv_reference.proofs.Counting.{reserved_more}
use Rattle.fv_reference.proofs.space.list_level.Goals as goal

pub loop-index-preserved : goal.loop-index-preserved
loop-index-preserved c =
    let g : ℕ → Place = λ p. record { owner = OfFile c.args.number; level = c.args.level; index = p } in
    let h : ℕ → Bool = λ p. nat_lt (p * fan ^ c.args.level) c.args.reserve in
    c.in_ok-list_range.ensures ∙ ap (λ (xs : List Place). xs ++ cond (h c.loop-index.index) (g c.loop-index.index ∷ []) []) c.loop-index.invariant ∙ append_assoc c.args.places.now.items _ _ ∙ ap (λ (ys : List Place). c.args.places.now.items ++ ys) (sym (reserved_more g h c.loop-index.index))
