use Rattle.std.proofs.Common.{◌≡◌, true, subst, take, List, ℕ, ◌∷◌, [], ◌++◌, ◌∙◌, sym, ap, arith}
use Rattle.std.specs.List.{All}
use Rattle.std.proofs.lemmas.List.{take_more, take_all}
use Rattle.std.proofs.lemmas.List.Elements.{All-push}
use Rattle.fv_model.specs.Spelling.{is_name}
use Rattle.fv_run.proofs.answering.are_names.Goals as goal

pub loop-name-preserved : goal.loop-name-preserved
loop-name-preserved c =
    subst (λ (names : List (List ℕ)). All (λ name. is_name name ≡ true) names)
    (ap (λ (name : List ℕ). take c.loop-name.name-index c.args.names.now ++ name ∷ []) c.name-item.is ∙ sym (take_more c.args.names.now c.loop-name.name-index c.name-item.result (omega arith)))
    (All-push (λ name. is_name name ≡ true) (take c.loop-name.name-index c.args.names.now) c.name-item.result c.loop-name.invariant c.as_bytes.ensures.form)

pub returns-clause-form : goal.returns-clause-form
returns-clause-form c = subst (λ (names : List (List ℕ)). All (λ name. is_name name ≡ true) names) (take_all c.loop-name.name-index c.args.names.now (omega arith)) c.loop-name.invariant
