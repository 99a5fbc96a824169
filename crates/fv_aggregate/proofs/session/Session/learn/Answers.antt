use Rattle.std.proofs.Common.{◌≡◌, ◌≤◌, Bool, false, Ok, Err, rules, sym, subst, ◌∙◌, arith}
use Rattle.fv_model.specs.Refusals.{next}
use Rattle.fv_model.specs.declared.commands.Command.TheVariants.{Clean}
use Rattle.fv_aggregate.specs.declared.session.Session.{Session}
use Rattle.fv_aggregate.specs.Cleaning.{CleansOnce, Learns}
use Rattle.fv_aggregate.specs.Parts.{silent}
use Rattle.fv_aggregate.proofs.CleanedLoop.{cleaned_more, cleaned_none, finished_commits, finished_fit, finished_ready, learns_endless, learns_fault, learns_finished}
use Rattle.fv_aggregate.proofs.session.Session.learn.Goals as goal

pub loop-init : goal.loop-init
loop-init g c = record { cleaned = cleaned_none c.args.slot (g.D.Disk.shown c.args.disk.now) (g.met.D.Disk.laws c.args.disk.now) c.args.self.now c.requires.fresh c.requires.stands c.requires.unclean }

pub returns-in_err-clean_once : goal.returns-in_err-clean_once
returns-in_err-clean_once g c name has =
    let d = g.D.Disk.shown c.args.disk.now in let e = g.D.Disk.shown c.loop.disk in let s = c.args.self.now in let n = c.loop.self in
    let h = g.D.Disk.shown c.clean_once.new.disk in let p = c.clean_once.new.self in
    let f = c.in_err-clean_once.field-0.0 in
    let failed : c.from_residual.result ≡ Err f = search rules in
    subst (Learns (λ m. next m (Clean name)) c.args.slot d s h p) (sym failed)
    (learns_fault c.args.slot d s c.requires.fresh name has c.loop.counter e n c.loop.invariant.cleaned h p f c.in_err-clean_once.ensures)

pub invariant_of-self : goal.invariant_of-self
invariant_of-self g c =
    let v : Session = record { volumes = c.self.inside.volumes; pool = c.self.inside.pool; delays = c.self.inside.delays; pending = c.self.inside.pending; failed = c.self.inside.failed } in
    let e = g.D.Disk.shown c.loop.disk in let n = c.loop.self in let h = g.D.Disk.shown c.clean_once.new.disk in
    let once : CleansOnce c.args.slot e n h v (Ok c.in_ok-clean_once.field-0) = subst (λ (k : Session). CleansOnce c.args.slot e n h k (Ok c.in_ok-clean_once.field-0)) (sym c.self.view_is) c.in_ok-clean_once.ensures in
    let fit = c.self.invariant.0 once.backs.done.0 in (
      λ alive. finished_fit c.args.slot v once.unclean fit c.clean_finish.new.volumes c.clean_finish.ensures,
      λ alive. c.self.invariant.1 alive ∙ sym (finished_commits c.args.slot v once.unclean fit c.clean_finish.new.volumes c.clean_finish.ensures),
      λ alive. finished_ready c.args.slot v once.unclean fit c.clean_finish.new.volumes c.clean_finish.ensures silent (c.self.invariant.2 alive),
    )

pub returns-then-not-branch : goal.returns-then-not-branch
returns-then-not-branch g c name has =
    let v : Session = record { volumes = c.self.inside.volumes; pool = c.self.inside.pool; delays = c.self.inside.delays; pending = c.self.inside.pending; failed = c.self.inside.failed } in
    let d = g.D.Disk.shown c.args.disk.now in let e = g.D.Disk.shown c.loop.disk in let s = c.args.self.now in let n = c.loop.self in let h = g.D.Disk.shown c.clean_once.new.disk in
    let none : CleansOnce c.args.slot e n h c.clean_once.new.self (Ok false) = subst (λ (b : Bool). CleansOnce c.args.slot e n h c.clean_once.new.self (Ok b)) c.if-not-branch.true c.in_ok-clean_once.ensures in
    let once : CleansOnce c.args.slot e n h v (Ok false) = subst (λ (k : Session). CleansOnce c.args.slot e n h k (Ok false)) (sym c.self.view_is) none in
    let fit = c.self.invariant.0 once.backs.done.0 in
    learns_finished c.args.slot d s c.requires.fresh name has c.loop.counter e n c.loop.invariant.cleaned h v once fit c.clean_finish.new.volumes c.clean_finish.ensures

pub loop-preserved : goal.loop-preserved
loop-preserved g c =
    let d = g.D.Disk.shown c.args.disk.now in let e = g.D.Disk.shown c.loop.disk in let s = c.args.self.now in let n = c.loop.self in
    let h = g.D.Disk.shown c.clean_once.new.disk in let p = c.clean_once.new.self in
    record {
      cleaned = cleaned_more c.args.slot d s c.loop.counter e n c.loop.invariant.cleaned h p
          (subst (λ (b : Bool). CleansOnce c.args.slot e n h p (Ok b)) c.if-not-branch.false c.in_ok-clean_once.ensures);
    }

pub returns : goal.returns
returns g c name has =
    let past : 17179869184 ≤ c.loop.counter = grind (arith, c.loop-test.false, c.loop.auto.counter-end) in
    learns_endless c.args.slot (g.D.Disk.shown c.args.disk.now) c.args.self.now c.requires.fresh name has (g.D.Disk.shown c.loop.disk) c.loop.self c.loop.counter past c.loop.invariant.cleaned
