use Rattle.std.proofs.Common.{◌≡◌, Ok, Err, Result, true, false, rules, sym, ap, subst, ◌∙◌}
use Rattle.fv_model.specs.declared.answers.Reply.{Reply}
use Rattle.fv_model.specs.Numbers.{is_step_count}
use Rattle.fv_aggregate.specs.declared.fault.Fault.{Fault}
use Rattle.fv_aggregate.specs.Answers.{answer}
use Rattle.fv_aggregate.specs.Cleaning.{TakesAll}
use Rattle.fv_aggregate.proofs.SteppedBy.{takes_all, takes_fault, takes_none}
use Rattle.fv_aggregate.proofs.session.Session.work_steps.Goals as goal

pub returns-then-not-in_steps : goal.returns-then-not-in_steps
returns-then-not-in_steps g c =
    let d = g.D.Disk.shown c.args.disk.now in
    let far : is_step_count c.args.steps ≡ false = ap is_step_count (sym c.from.ensures) ∙ sym c.in_steps.ensures ∙ c.if-not-in_steps.true in
    subst (λ (r : Reply). TakesAll c.args.steps d c.args.disk.now c.args.self.now d c.args.disk.now c.args.self.now (Ok r)) (sym c.refuse.ensures)
    (takes_none c.args.steps g.D.Disk.shown c.args.disk.now (g.met.D.Disk.laws c.args.disk.now) c.args.self.now c.requires.fresh c.requires.stands far)

pub returns-in_err-take_steps : goal.returns-in_err-take_steps
returns-in_err-take_steps g c =
    let d = g.D.Disk.shown c.args.disk.now in let e = g.D.Disk.shown c.take_steps.new.disk in
    let near : is_step_count c.args.steps ≡ true = ap is_step_count (sym c.from.ensures) ∙ sym c.in_steps.ensures ∙ c.if-not-in_steps.false in
    let failed : c.from_residual.result ≡ Err c.in_err-take_steps.field-0.0 = search rules in
    subst (λ (k : Result Unit Fault). TakesAll c.args.steps d c.args.disk.now c.args.self.now e c.take_steps.new.disk c.take_steps.new.self (answer c.args.into.now k)) (sym failed)
    (takes_fault c.args.steps g.D.Disk.shown c.args.disk.now (g.met.D.Disk.laws c.args.disk.now) c.args.self.now c.requires.fresh c.requires.stands near
    c.take_steps.new.disk c.take_steps.new.self c.in_err-take_steps.field-0.0 c.in_err-take_steps.ensures.works c.in_err-take_steps.ensures.idle)

pub returns : goal.returns
returns g c =
    let d = g.D.Disk.shown c.args.disk.now in let e = g.D.Disk.shown c.take_steps.new.disk in
    let near : is_step_count c.args.steps ≡ true = ap is_step_count (sym c.from.ensures) ∙ sym c.in_steps.ensures ∙ c.if-not-in_steps.false in
    subst (λ (r : Reply). TakesAll c.args.steps d c.args.disk.now c.args.self.now e c.take_steps.new.disk c.take_steps.new.self (Ok r)) (sym c.done.ensures)
    (takes_all c.args.steps g.D.Disk.shown c.args.disk.now (g.met.D.Disk.laws c.args.disk.now) c.args.self.now c.requires.fresh c.requires.stands near
    c.take_steps.new.disk c.take_steps.new.self c.in_ok-take_steps.field-0 c.in_ok-take_steps.ensures.works c.in_ok-take_steps.ensures.idle)
