use Rattle.std.proofs.Common.{◌≡◌, ℕ, ◌+◌, suc, sym, ap, subst, arith}
use Rattle.std.specs.Prelude.{Ok, Err, Bool, IfSome, IsTrue, Option}
use Rattle.fv_container.specs.Chains.{map_in, paged_at}
use Rattle.fv_container.specs.Paged.{Paged}
use Rattle.fv_delay.specs.Holding.{Holding}
use Rattle.fv_volume.specs.States.{state_at}
use Rattle.fv_pool.specs.Keeping.{IsUnkept}
use Rattle.fv_cp.specs.Choosing.{holding_with, holdings}
use Rattle.fv_cp.specs.Planning.{HasLeavesAt, LeaveDelays, taken, takes_of}
use Rattle.fv_cp.proofs.Plans.{delays_begin, delays_more}
use Rattle.fv_cp.specs.Course.{AreHereIn, HasCome, HaveHere}
use Rattle.fv_volume.specs.Writing.{IsTaken, on_disk}
use Rattle.fv_cp.proofs.Stepping.{asked_on, clean_come, come_first, come_more, past_alike, spares_on}
use Rattle.fv_volumes.proofs.Sparing.{failed_as, spares_fewer}
use Rattle.fv_cp.proofs.point.write_volumes.Goals as goal

pub loop-slot-init : goal.loop-slot-init
loop-slot-init g c =
    let disk = g.D.Disk.shown c.args.disk.now in
    let pool = c.args.pool.now in
    let mid = g.D.Disk.shown c.write_kept.new.disk in
    let kept = c.in_ok-write_kept.ensures in
    let regions = taken c.args.plan.now (holdings pool.containers c.args.volumes.now) in record {
      come = come_first regions disk mid pool c.write_kept.new.self c.args.volumes.now c.args.labels.now c.requires.labels kept.stands c.requires.housed c.requires.room
          kept.map kept.containers kept.found kept.version kept.empty (spares_fewer (IsUnkept pool.kept) (IsTaken (on_disk pool.map)) disk mid (Ok tt) c.requires.kept kept.writes) kept.written;
      delays = λ tells before lent leaves. delays_begin c.args.plan.now (holdings pool.containers c.args.volumes.now) c.args.delays.now;
    }

pub returns-in_err-write_kept-clause-spares : goal.returns-in_err-write_kept-clause-spares
returns-in_err-write_kept-clause-spares g c = failed_as (IsTaken (on_disk c.args.pool.now.map)) (g.D.Disk.shown c.args.disk.now) (g.D.Disk.shown c.write_kept.new.disk) c.in_err-write_kept.field-0.0 _
    (spares_fewer (IsUnkept c.args.pool.now.kept) (IsTaken (on_disk c.args.pool.now.map)) (g.D.Disk.shown c.args.disk.now) (g.D.Disk.shown c.write_kept.new.disk) (Err c.in_err-write_kept.field-0.0) c.requires.kept c.in_err-write_kept.ensures.writes)
    c.from_residual.ensures.0

pub loop-slot-preserved : goal.loop-slot-preserved
loop-slot-preserved g c =
    let s = c.loop-slot.slot in
    let did = c.in_ok-write_slot.ensures in
    let next : suc s ≡ s + 1 = omega arith in
    let come = c.loop-slot.invariant.come in
    let plan = c.args.plan.now in
    let states = c.args.volumes.now in
    let first = holdings c.args.pool.now.containers states in
    let here : holdings c.loop-slot.pool.containers states s ≡ first s = ap (λ (c : Option Paged). holding_with (state_at states s) (map_in c)) (come.rest s (omega arith)) in
    let alike : taken plan (holdings c.loop-slot.pool.containers states) s ≡ taken plan first s = ap (λ (o : Option Holding). takes_of plan s o) here in record {
      come = subst (λ (n : ℕ). HasCome (taken plan first) (HaveHere (taken plan first) c.args.pool.now.containers) (g.D.Disk.shown c.args.disk.now) c.args.pool.now states n c.write_slot.new.labels c.write_slot.new.pool (g.D.Disk.shown c.write_slot.new.disk)) next
          (come_more (taken plan first) (g.D.Disk.shown c.args.disk.now) c.args.pool.now states s (omega (arith, c.loop-slot-test.true)) c.requires.map c.requires.range c.loop-slot.labels c.loop-slot.pool (g.D.Disk.shown c.loop-slot.disk) come
          c.write_slot.new.labels c.write_slot.new.pool (g.D.Disk.shown c.write_slot.new.disk)
          (past_alike (taken plan (holdings c.loop-slot.pool.containers states)) (taken plan first) (state_at states s) s c.loop-slot.labels c.loop-slot.pool (g.D.Disk.shown c.loop-slot.disk) c.write_slot.new.labels c.write_slot.new.pool (g.D.Disk.shown c.write_slot.new.disk) alike did.past)
          did.count did.spares did.committed did.found did.version did.kept did.stands);
      delays = λ tells before lent leaves. delays_more plan first s (holdings c.loop-slot.pool.containers states s) c.args.delays.now c.loop-slot.delays c.write_slot.new.delays here (c.loop-slot.invariant.delays tells before lent leaves)
          (did.delays (subst IsTrue (sym come.spares.counted.tells) tells)
          (clean_come (taken plan first) (g.D.Disk.shown c.args.disk.now) c.args.pool.now states before lent tells s (omega (arith, c.loop-slot-test.true)) c.loop-slot.labels c.loop-slot.pool (g.D.Disk.shown c.loop-slot.disk) come)
          (subst (λ (f : ℕ → Bool). IfSome (paged_at c.loop-slot.pool.containers s) (AreHereIn f)) (sym alike) (subst (λ (c : Option Paged). IfSome c (AreHereIn (taken plan first s))) (sym (come.rest s (omega arith))) (leaves s (omega (arith, c.loop-slot-test.true))))));
    }

pub write_slot-requires-clause-leaves : goal.write_slot-requires-clause-leaves
write_slot-requires-clause-leaves g c =
    let s = c.loop-slot.slot in
    subst (HasLeavesAt c.args.plan.now s (state_at c.args.volumes.now s)) (sym (c.loop-slot.invariant.come.rest s (omega arith))) (c.requires.leaves s (omega (arith, c.loop-slot-test.true)))

pub write_slot-requires-clause-room : goal.write_slot-requires-clause-room
write_slot-requires-clause-room g c =
    let come = c.loop-slot.invariant.come in
    let on = asked_on c.args.volumes.now c.loop-slot.slot (omega (arith, c.loop-slot-test.true, come.housed.long)) in
    omega (arith, on, come.room)

pub returns-in_err-write_slot-clause-spares : goal.returns-in_err-write_slot-clause-spares
returns-in_err-write_slot-clause-spares g c = failed_as (IsTaken (on_disk c.args.pool.now.map)) (g.D.Disk.shown c.args.disk.now) (g.D.Disk.shown c.write_slot.new.disk) c.in_err-write_slot.field-0.0 _
    (spares_on (taken c.args.plan.now (holdings c.args.pool.now.containers c.args.volumes.now)) (g.D.Disk.shown c.args.disk.now) c.args.pool.now c.args.volumes.now c.loop-slot.slot (omega (arith, c.loop-slot-test.true)) c.requires.map c.requires.range c.loop-slot.labels c.loop-slot.pool (g.D.Disk.shown c.loop-slot.disk) c.loop-slot.invariant.come
    c.write_slot.new.labels c.write_slot.new.pool (g.D.Disk.shown c.write_slot.new.disk) (Err c.in_err-write_slot.field-0.0) c.in_err-write_slot.ensures.spares)
    c.from_residual-in_err-write_slot.ensures.0

pub returns-clause-delays : goal.returns-clause-delays
returns-clause-delays g c = λ tells before lent leaves.
    let last : c.loop-slot.slot ≡ 64 = omega (arith, c.loop-slot-test.false, c.loop-slot.auto.slot-end) in
    subst (λ (n : ℕ). LeaveDelays c.args.plan.now (holdings c.args.pool.now.containers c.args.volumes.now) n c.args.delays.now c.loop-slot.delays) last (c.loop-slot.invariant.delays tells before lent leaves)
