use Rattle.std.proofs.Common.{◌≡◌, Bool, Ok, Err, Result, rules, sym, subst, arith}
use Rattle.fv_aggregate.specs.declared.fault.Fault.{Fault}
use Rattle.fv_aggregate.specs.Working.{SeeksStep, TakesStep}
use Rattle.fv_aggregate.proofs.WorkedLoops.{sought_all, sought_fault, sought_more, sought_step}
use Rattle.fv_aggregate.proofs.session.Session.seek_step.Goals as goal

pub returns-in_err-step_at : goal.returns-in_err-step_at
returns-in_err-step_at g c =
    let r = c.requires in let l = c.loop-slot in
    let d = g.D.Disk.shown c.args.disk.now in let e = g.D.Disk.shown c.step_at.new.disk in
    let failed : c.from_residual.result ≡ Err c.in_err-step_at.field-0.0 = search rules in
    subst (λ (k : Result Bool Fault). SeeksStep d c.args.self.now e c.step_at.new.self k) (sym failed)
    (sought_fault d (g.met.D.Disk.laws c.args.disk.now) c.args.self.now r.fresh r.stands r.long r.none r.few l.slot
    (g.D.Disk.shown l.disk) l.self l.invariant.sought e c.step_at.new.self c.in_err-step_at.field-0.0 c.in_err-step_at.ensures)

pub returns-then-branch : goal.returns-then-branch
returns-then-branch g c =
    let r = c.requires in let l = c.loop-slot in
    let e = g.D.Disk.shown c.step_at.new.disk in
    sought_step (g.D.Disk.shown c.args.disk.now) (g.met.D.Disk.laws c.args.disk.now) c.args.self.now r.fresh r.stands r.long r.none r.few l.slot
    (g.D.Disk.shown l.disk) l.self l.invariant.sought e c.step_at.new.self
    (subst (λ (b : Bool). TakesStep l.slot (g.D.Disk.shown l.disk) l.self e c.step_at.new.self (Ok b)) c.if-branch.true c.in_ok-step_at.ensures)

pub loop-slot-preserved : goal.loop-slot-preserved
loop-slot-preserved g c =
    let r = c.requires in let l = c.loop-slot in
    let e = g.D.Disk.shown c.step_at.new.disk in record {
      sought = sought_more (g.D.Disk.shown c.args.disk.now) (g.met.D.Disk.laws c.args.disk.now) c.args.self.now r.fresh r.stands r.long r.none r.few
          l.slot (g.D.Disk.shown l.disk) l.self l.invariant.sought e c.step_at.new.self
          (subst (λ (b : Bool). TakesStep l.slot (g.D.Disk.shown l.disk) l.self e c.step_at.new.self (Ok b)) c.if-branch.false c.in_ok-step_at.ensures);
    }

pub returns : goal.returns
returns g c =
    let r = c.requires in let l = c.loop-slot in
    sought_all (g.D.Disk.shown c.args.disk.now) (g.met.D.Disk.laws c.args.disk.now) c.args.self.now r.fresh r.stands r.long r.none r.few l.slot
    (g.D.Disk.shown l.disk) l.self l.invariant.sought (omega arith)
