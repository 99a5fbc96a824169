use Rattle.std.proofs.Common.{◌≡◌, None, Some, sym, subst, ◌∙◌}
use Rattle.std.specs.Prelude.{IfSome}
use Rattle.std.proofs.lemmas.List.{get_or_default}
use Rattle.std.proofs.lemmas.Result.{on_ok_weaker}
use Rattle.fv_volume.specs.KnownBase.{KnowsBase}
use Rattle.fv_volume.specs.States.{States, state_at}
use Rattle.fv_volumes.proofs.Learned.{labelled_at, learned_there}
use Rattle.fv_volumes.proofs.learning.learn_volume.Goals as goal

pub learn_from-learned-requires-clause-labelled : goal.learn_from-learned-requires-clause-labelled
learn_from-learned-requires-clause-labelled c =
    let states = c.args.states.now.items in
    let s = c.args.slot in
    let at : state_at states s ≡ Some c.in-Some.state = get_or_default states s None c.index_mut.result.now c.requires.slot ∙ sym c.index_mut.ensures.value ∙ sym c.take.ensures.value ∙ c.in-Some.is in
    labelled_at s (state_at states s) c.in-Some.state at (c.requires.labelled s)

pub returns-clause-learns : goal.returns-clause-learns
returns-clause-learns c =
    let states = c.args.states.now.items in
    let s = c.args.slot in
    let at : state_at states s ≡ Some c.in-Some.state = get_or_default states s None c.index_mut.result.now c.requires.slot ∙ sym c.index_mut.ensures.value ∙ sym c.take.ensures.value ∙ c.in-Some.is in
    on_ok_weaker c.learn_from-learned.result
    (λ knows. learned_there states s c.in-Some.state c.learn_from-learned.new.state c.take.new.self c.requires.slot at c.learn_from-learned.ensures.rest
    (subst (λ (xs : States). IfSome c.learn_from-learned.new.state.base (λ b. IfSome (state_at xs b.parent) (λ parent. KnowsBase parent c.learn_from-learned.new.state))) c.deref.ensures.value knows))
    c.learn_from-learned.ensures.knows
