use Rattle.std.proofs.Common.{◌≡◌, ◌+◌, sym, ap, subst, ◌∙◌}
use Rattle.std.specs.Prelude.{IfSome}
use Rattle.fv_pool.specs.BlocksOver.{held_entry, place_of, steps_by}
use Rattle.fv_pool.proofs.Lent.{entry_reads, of_place, of_some, told_costs, told_reads}
use Rattle.fv_pool.proofs.blocks.find_place.Goals as goal

pub returns-then-is_some-clause-place : goal.returns-then-is_some-clause-place
returns-then-is_some-clause-place g c = λ tells.
    told_reads c.told_place-told.result c.args.pointer.now.pvbn (held_entry c.args.map.now c.args.pool.now.containers c.args.slot c.args.pointer.now.vvbn) c.told_place-told.ensures.told (sym c.is_some.ensures ∙ c.if-is_some.true)

pub returns-then-is_some-clause-step : goal.returns-then-is_some-clause-step
returns-then-is_some-clause-step g c =
    of_some c.told_place-told.result _ (told_costs c.told_place-told.result c.args.pointer.now.pvbn c.args.steps.now c.told_place-told.ensures.told (sym c.is_some.ensures ∙ c.if-is_some.true))

pub returns-clause-place : goal.returns-clause-place
returns-clause-place g c = λ tells.
    c.place_of.ensures.place ∙ ap place_of (c.in_ok-entry.ensures.entry tells)
    ∙ entry_reads c.told_place-told.result c.args.pointer.now.pvbn (held_entry c.args.map.now c.args.pool.now.containers c.args.slot c.args.pointer.now.vvbn) c.told_place-told.ensures.told (sym c.is_some.ensures ∙ c.if-is_some.false)

pub returns-clause-step : goal.returns-clause-step
returns-clause-step g c =
    subst (λ o. IfSome o (λ pvbn. c.find_entry.new.steps ≡ c.args.steps.now + steps_by c.args.pointer.now.pvbn)) (sym c.place_of.ensures.place) (of_place c.in_ok-entry.entry _ c.in_ok-entry.ensures.step)
