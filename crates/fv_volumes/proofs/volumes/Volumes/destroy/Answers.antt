use Rattle.std.proofs.Common.{◌≡◌, ◌∙◌, Bool, List, None, Err, rules, refl, sym, ap, subst, arith}
use Rattle.std.specs.Prelude.{IfErr}
use Rattle.fv_container.specs.Chains.{Slots, container_at}
use Rattle.fv_model.specs.declared.answers.Refusal.{Refusal}
use Rattle.fv_pool.specs.declared.fault.VolumeFault.TheVariants.{Refused}
use Rattle.fv_pool.specs.Causes.{of_block}
use Rattle.fv_pool.proofs.CallCauses.{not_refused}
use Rattle.fv_volume.proofs.Committed.{sum_with}
use Rattle.fv_volume.specs.Loading.{Houses}
use Rattle.fv_volume.specs.Slots.{sum_of}
use Rattle.fv_volume.specs.States.{States, state_at}
use Rattle.fv_volumes.proofs.Destroyed.{cause_of, destroy_failed, destroy_missing, destroy_used, destroys}
use Rattle.fv_volumes.proofs.volumes.Volumes.destroy.Goals as goal

pub returns-then-is_stood_on-clause-destroys : goal.returns-then-is_stood_on-clause-destroys
returns-then-is_stood_on-clause-destroys g c =
    destroy_used (g.D.Disk.shown c.args.disk.now) c.args.self.now c.args.pool.now c.args.name.now c.requires.housed.long c.in-Some.slot c.in-Some.ensures.some.0 c.in-Some.ensures.some.1 (sym c.is_stood_on.ensures ∙ c.if-is_stood_on.true)

pub returns-in_err-marks-in-Some-clause-destroys : goal.returns-in_err-marks-in-Some-clause-destroys
returns-in_err-marks-in-Some-clause-destroys g c =
    destroy_failed (g.D.Disk.shown c.args.disk.now) c.args.self.now c.args.pool.now c.args.name.now c.requires.housed.long c.in-Some.slot c.in-Some.ensures.some.0 c.in-Some.ensures.some.1 (sym c.is_stood_on.ensures ∙ c.if-is_stood_on.false)
    c.mark_slot.new.pool c.mark_slot.ensures.leaves c.in_err-marks-in-Some.field-0.0 c.in_err-marks-in-Some.ensures.fault c.from_residual.result (search rules)

pub returns-in_err-marks-in-Some-clause-cause : goal.returns-in_err-marks-in-Some-clause-cause
returns-in_err-marks-in-Some-clause-cause g c =
    cause_of (List Bool) (g.D.Disk.shown c.args.disk.now).faults (g.D.Disk.shown c.mark_slot.new.disk).faults c.in_err-marks-in-Some.field-0.0 c.from_residual.result (search rules) c.in_err-marks-in-Some.ensures.cause

pub returns-in_err-marks-in-Some-clause-refused : goal.returns-in_err-marks-in-Some-clause-refused
returns-in_err-marks-in-Some-clause-refused g c =
    let fault = c.in_err-marks-in-Some.field-0.0 in
    let failed : c.from_residual.result ≡ Err (of_block fault) = search rules in
    subst (λ r. IfErr r (λ e. (w : Refusal) → e ≡ Refused w → (c.mark_slot.new.disk ≡ c.args.disk.now) × (c.mark_slot.new.pool ≡ c.args.pool.now))) (sym failed) (λ w is. absurd (not_refused fault w is))

pub commits_beside-requires-clause-labelled : goal.commits_beside-requires-clause-labelled
commits_beside-requires-clause-labelled g c = c.requires.housed.volumes c.in-Some.slot

pub empty_slot-requires-clause-housed : goal.empty_slot-requires-clause-housed
empty_slot-requires-clause-housed g c =
    let slot = c.in-Some.slot in
    subst (λ (s : Slots). Houses (state_at c.args.self.now slot) (container_at s slot)) (sym c.mark_slot.ensures.leaves.containers) (c.requires.housed.each slot)

pub empty_slot-requires-clause-labelled : goal.empty_slot-requires-clause-labelled
empty_slot-requires-clause-labelled g c = c.requires.housed.volumes c.in-Some.slot

pub returns-in_ok-marks-in-Some-clause-destroys : goal.returns-in_ok-marks-in-Some-clause-destroys
returns-in_ok-marks-in-Some-clause-destroys g c =
    destroys (g.D.Disk.shown c.args.disk.now) c.args.self.now c.args.pool.now c.args.name.now c.requires.housed.long c.in-Some.slot c.in-Some.ensures.some.0 c.in-Some.ensures.some.1 (sym c.is_stood_on.ensures ∙ c.if-is_stood_on.false)
    c.in_ok-marks-in-Some.marks c.mark_slot.new.pool c.empty_slot.new.self c.empty_slot.new.pool c.requires.housed c.mark_slot.ensures.leaves c.in_ok-marks-in-Some.ensures.marks c.empty_slot.ensures.empties

pub returns-in_ok-marks-in-Some-clause-sum : goal.returns-in_ok-marks-in-Some-clause-sum
returns-in_ok-marks-in-Some-clause-sum g c =
    let long = c.requires.housed.long in
    let low = c.in-Some.ensures.some.0 in
    let with = sum_with c.args.self.now c.in-Some.slot (omega (arith, long, low)) None c.commits_beside.result c.commits_beside.ensures in
    omega (arith, with) ∙ ap (λ (s : States). sum_of s) (sym c.empty_slot.ensures.row)

pub returns-in-None-clause-destroys : goal.returns-in-None-clause-destroys
returns-in-None-clause-destroys g c = destroy_missing (g.D.Disk.shown c.args.disk.now) c.args.self.now c.args.pool.now c.args.name.now c.in-None.ensures.none

pub returns-in-None-clause-refused : goal.returns-in-None-clause-refused
returns-in-None-clause-refused g c = λ w is. (refl, refl)
