use Rattle.std.proofs.Common.{rules, ◌≡◌, Result, Ok, Err, sym, ap, subst, ◌∙◌}
use Rattle.fv_model.specs.declared.answers.Refusal.{Refusal}
use Rattle.fv_charge.specs.Changes.{IsLeft, admission}
use Rattle.std.specs.Prelude.{pos}
use Rattle.fv_snapshot.specs.Creating.{JudgesCreation}
use Rattle.fv_snapshot.specs.Granting.{slot_granted}
use Rattle.fv_snapshot.specs.declared.creating.Granted.{Granted}
use Rattle.fv_snapshot.proofs.Finding.{copied_some, none_some}
use Rattle.fv_snapshot.proofs.Judging.{judged_full, judged_some, judged_space}
use Rattle.fv_snapshot.proofs.creating.judge_create.Goals as goal

pub returns-then-is_some-clause-judges : goal.returns-then-is_some-clause-judges
returns-then-is_some-clause-judges c =
    judged_some c.args.volume.now c.args.name.now c.requires.labelled c.args.blocks c.args.others
    (sym (copied_some c.named.result _ c.named.ensures) ∙ sym c.is_some.ensures ∙ c.if-is_some.true)

pub returns-in_default-clause-judges : goal.returns-in_default-clause-judges
returns-in_default-clause-judges c =
    judged_full c.args.volume.now c.args.name.now c.requires.labelled c.args.blocks c.args.others
    (none_some _ (sym (copied_some c.named.result _ c.named.ensures) ∙ sym c.is_some.ensures ∙ c.if-is_some.false)) c.in_default.ensures.full

pub returns-in_err-admit-clause-judges : goal.returns-in_err-admit-clause-judges
returns-in_err-admit-clause-judges c =
    let failed : c.from_residual.result ≡ Err c.in_err-admit.field-0.0 = search rules in
    let more = c.map_more-delta.ensures in
    subst (λ (r : Result Granted Refusal). JudgesCreation c.args.volume.now c.args.blocks c.args.others c.args.name.now (slot_granted r)) (sym failed)
    (judged_space c.args.volume.now c.args.name.now c.requires.labelled c.args.blocks c.args.others c.requires.booked
    (none_some _ (sym (copied_some c.named.result _ c.named.ensures) ∙ sym c.is_some.ensures ∙ c.if-is_some.false))
    c.in-Some.slot c.in-Some.ensures.free c.map_more-delta.result (more.charge ∙ ap pos c.map_room-room.ensures.exact) more.need more.size more.kind (Err c.in_err-admit.field-0.0)
    (λ l moved. c.in_err-admit.ensures.exact l moved ∙ ap (admission l c.args.others) c.capacity.ensures)
    (λ m k v l moved left. c.in_err-admit.ensures.machine m k v l moved (subst (IsLeft m k v l c.args.others) (sym c.capacity.ensures) left)))

pub returns-clause-judges : goal.returns-clause-judges
returns-clause-judges c =
    let more = c.map_more-delta.ensures in
    judged_space c.args.volume.now c.args.name.now c.requires.labelled c.args.blocks c.args.others c.requires.booked
    (none_some _ (sym (copied_some c.named.result _ c.named.ensures) ∙ sym c.is_some.ensures ∙ c.if-is_some.false))
    c.in-Some.slot c.in-Some.ensures.free c.map_more-delta.result (more.charge ∙ ap pos c.map_room-room.ensures.exact) more.need more.size more.kind (Ok c.in_ok-admit.field-0)
    (λ l moved. c.in_ok-admit.ensures.exact l moved ∙ ap (admission l c.args.others) c.capacity.ensures)
    (λ m k v l moved left. c.in_ok-admit.ensures.machine m k v l moved (subst (IsLeft m k v l c.args.others) (sym c.capacity.ensures) left))
