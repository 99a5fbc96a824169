use Rattle.std.proofs.Common.{◌≡◌, ◌<◌, ◌∙◌, None, sym, ap, arith}
use Rattle.std.proofs.lemmas.List.{get_or_default}
use Rattle.fv_container.specs.Chains.{slot_count}
use Rattle.fv_volume.specs.States.{state_at}
use Rattle.fv_volumes.specs.Footing.{is_base_on, stands_by}
use Rattle.fv_volumes.proofs.StoodOn.{stands_here, stands_nowhere}
use Rattle.fv_volumes.proofs.standing.some_is_on.Goals as goal

pub returns-then-is_on : goal.returns-then-is_on
returns-then-is_on c =
    let states = c.args.states.now in
    let at = c.loop-at.at in
    let low : at < slot_count = omega (arith, c.requires, c.loop-at-test.true) in
    let read : c.index-states-at.result ≡ state_at states at = c.index-states-at.is ∙ get_or_default states at c.index-states-at.result None c.loop-at-test.true in
    sym (stands_here states (is_base_on c.args.slot c.args.snap) at low (ap (stands_by (is_base_on c.args.slot c.args.snap)) (sym read) ∙ sym c.is_on.ensures ∙ c.if-is_on.true))

pub returns : goal.returns
returns c = sym (stands_nowhere c.args.states.now (is_base_on c.args.slot c.args.snap) (λ s low. c.loop-at.invariant s (omega (arith, low, c.requires, c.loop-at-test.false))))
