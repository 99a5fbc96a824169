use Rattle.std.proofs.Common.{◌≡◌, Err, Result, rules, refl, sym, ap, subst, ◌∙◌, arith}
use Rattle.std.specs.Prelude.{IfErr}
use Rattle.fv_pool.specs.declared.fault.VolumeFault.{VolumeFault}
use Rattle.fv_pool.specs.Causes.{IsNoDamage}
use Rattle.fv_volume.specs.Held.{HasPlaceCause}
use Rattle.fv_cp.specs.Placing.{FailsToPlace, HasNoFiles, HasWholeMap, HaveNoFiles}
use Rattle.fv_cp.proofs.Flushing.{all_slots, cause_on, come_more, enough_more, filed_more, lacks_place, passed_more, passed_none, slot_reads}
use Rattle.fv_cp.proofs.placing.flush.Goals as goal

pub loop-slot-init : goal.loop-slot-init
loop-slot-init g c = record { passed = passed_none (g.D.Disk.shown c.args.disk.now) c.args.pool.now c.args.volumes.now c.requires.fit c.requires.ready c.requires.stands; still = λ none. refl; calm = refl }

pub returns-in_err-flush_slot-clause-placed : goal.returns-in_err-flush_slot-clause-placed
returns-in_err-flush_slot-clause-placed g c =
    let did = c.flush_slot.ensures in
    let passed = c.loop-slot.invariant.passed in
    (come_more (g.D.Disk.shown c.args.disk.now) c.args.pool.now c.args.volumes.now (g.D.Disk.shown c.loop-slot.disk) c.loop-slot.pool c.loop-slot.volumes passed.come c.loop-slot.slot
    (g.D.Disk.shown c.flush_slot.new.disk) c.flush_slot.new.pool c.flush_slot.new.volumes (passed.ahead c.loop-slot.slot (omega arith)) did.placed
    (λ none. let all = did.idle none in (all.0, (all.1.0, ap g.D.Disk.shown all.1.1)))).placed

pub returns-in_err-flush_slot-clause-stands : goal.returns-in_err-flush_slot-clause-stands
returns-in_err-flush_slot-clause-stands g c =
    let did = c.flush_slot.ensures in
    let passed = c.loop-slot.invariant.passed in
    (come_more (g.D.Disk.shown c.args.disk.now) c.args.pool.now c.args.volumes.now (g.D.Disk.shown c.loop-slot.disk) c.loop-slot.pool c.loop-slot.volumes passed.come c.loop-slot.slot
    (g.D.Disk.shown c.flush_slot.new.disk) c.flush_slot.new.pool c.flush_slot.new.volumes (passed.ahead c.loop-slot.slot (omega arith)) did.placed
    (λ none. let all = did.idle none in (all.0, (all.1.0, ap g.D.Disk.shown all.1.1)))).stands

pub returns-in_err-flush_slot-clause-ready : goal.returns-in_err-flush_slot-clause-ready
returns-in_err-flush_slot-clause-ready g c =
    let did = c.flush_slot.ensures in
    let passed = c.loop-slot.invariant.passed in
    (come_more (g.D.Disk.shown c.args.disk.now) c.args.pool.now c.args.volumes.now (g.D.Disk.shown c.loop-slot.disk) c.loop-slot.pool c.loop-slot.volumes passed.come c.loop-slot.slot
    (g.D.Disk.shown c.flush_slot.new.disk) c.flush_slot.new.pool c.flush_slot.new.volumes (passed.ahead c.loop-slot.slot (omega arith)) did.placed
    (λ none. let all = did.idle none in (all.0, (all.1.0, ap g.D.Disk.shown all.1.1)))).ready

pub returns-in_err-flush_slot-clause-idle : goal.returns-in_err-flush_slot-clause-idle
returns-in_err-flush_slot-clause-idle g c = λ none.
    absurd (filed_more (g.D.Disk.shown c.args.disk.now) c.args.pool.now c.args.volumes.now (g.D.Disk.shown c.loop-slot.disk) c.loop-slot.pool c.loop-slot.volumes c.loop-slot.invariant.passed.come c.loop-slot.slot
    (g.D.Disk.shown c.flush_slot.new.disk) c.flush_slot.new.pool c.flush_slot.new.volumes c.in_err-flush_slot.field-0.0 c.in_err-flush_slot.ensures.fails none)

pub returns-in_err-flush_slot-clause-enough : goal.returns-in_err-flush_slot-clause-enough
returns-in_err-flush_slot-clause-enough g c = λ tells before was room.
    let failed : c.from_residual.result ≡ Err c.in_err-flush_slot.field-0.0 = search rules in
    subst (λ (r : Result Unit VolumeFault). IfErr r IsNoDamage) (sym failed) (enough_more (g.D.Disk.shown c.args.disk.now) c.args.pool.now c.args.volumes.now (g.D.Disk.shown c.loop-slot.disk) c.loop-slot.pool c.loop-slot.volumes c.loop-slot.invariant.passed.come c.loop-slot.slot
    (g.D.Disk.shown c.flush_slot.new.disk) c.flush_slot.new.pool c.flush_slot.new.volumes before was room c.in_err-flush_slot.field-0.0 c.in_err-flush_slot.ensures.fails)

pub returns-in_err-flush_slot-clause-cause : goal.returns-in_err-flush_slot-clause-cause
returns-in_err-flush_slot-clause-cause g c =
    let failed : c.from_residual.result ≡ Err c.in_err-flush_slot.field-0.0 = search rules in
    cause_on (g.D.Disk.shown c.args.disk.now) (g.D.Disk.shown c.loop-slot.disk) (g.D.Disk.shown c.flush_slot.new.disk) c.from_residual.result c.loop-slot.invariant.calm
    (subst (HasPlaceCause (g.D.Disk.shown c.loop-slot.disk) (g.D.Disk.shown c.flush_slot.new.disk)) (sym failed) c.in_err-flush_slot.ensures.cause)

pub returns-in_err-flush_slot-clause-filed : goal.returns-in_err-flush_slot-clause-filed
returns-in_err-flush_slot-clause-filed g c =
    let failed : c.from_residual.result ≡ Err c.in_err-flush_slot.field-0.0 = search rules in
    subst (λ (r : Result Unit VolumeFault). IfErr r (λ e. HaveNoFiles c.args.volumes.now → ⊥)) (sym failed) (filed_more (g.D.Disk.shown c.args.disk.now) c.args.pool.now c.args.volumes.now (g.D.Disk.shown c.loop-slot.disk) c.loop-slot.pool c.loop-slot.volumes c.loop-slot.invariant.passed.come c.loop-slot.slot
    (g.D.Disk.shown c.flush_slot.new.disk) c.flush_slot.new.pool c.flush_slot.new.volumes c.in_err-flush_slot.field-0.0 c.in_err-flush_slot.ensures.fails)

pub loop-slot-preserved : goal.loop-slot-preserved
loop-slot-preserved g c =
    let did = c.in_ok-flush_slot.ensures in
    let passed = c.loop-slot.invariant.passed in
    record {
      passed = passed_more (g.D.Disk.shown c.args.disk.now) c.args.pool.now c.args.volumes.now (g.D.Disk.shown c.loop-slot.disk) c.loop-slot.pool c.loop-slot.volumes passed.come c.loop-slot.slot
          (g.D.Disk.shown c.flush_slot.new.disk) c.flush_slot.new.pool c.flush_slot.new.volumes passed.ahead passed.waits passed.first passed.done passed.whole did.none did.whole did.placed
          (λ none. let all = did.idle none in (all.0, (all.1.0, ap g.D.Disk.shown all.1.1)));
      still = λ none. did.still (subst HasNoFiles (sym (passed.waits c.loop-slot.slot (omega arith))) (none c.loop-slot.slot (omega arith))) ∙ c.loop-slot.invariant.still (λ s low. none s (omega (arith, low)));
      calm = did.cause ∙ c.loop-slot.invariant.calm;
    }

pub returns-in_err-flush_slot-clause-lacks : goal.returns-in_err-flush_slot-clause-lacks
returns-in_err-flush_slot-clause-lacks g c =
    let d = g.D.Disk.shown c.args.disk.now in
    let passed = c.loop-slot.invariant.passed in
    let failed : c.from_residual.result ≡ Err c.in_err-flush_slot.field-0.0 = search rules in
    subst (λ (r : Result Unit VolumeFault). IfErr r (FailsToPlace d c.args.pool.now c.args.volumes.now (g.D.Disk.shown c.flush_slot.new.disk))) (sym failed)
    (lacks_place d c.args.pool.now c.args.volumes.now (g.D.Disk.shown c.loop-slot.disk) c.loop-slot.pool c.loop-slot.volumes passed.come c.loop-slot.slot passed.ahead passed.waits passed.first passed.done (g.D.Disk.shown c.flush_slot.new.disk)
    (slot_reads (g.D.Disk.shown c.loop-slot.disk) c.loop-slot.pool c.loop-slot.volumes c.loop-slot.slot (g.D.Disk.shown c.flush_slot.new.disk) c.flush_slot.new.pool c.flush_slot.new.volumes c.flush_slot.ensures.placed (λ none. ap g.D.Disk.shown (c.flush_slot.ensures.idle none).1.1))
    c.in_err-flush_slot.field-0.0 c.in_err-flush_slot.ensures.fails)

pub returns-clause-placed : goal.returns-clause-placed
returns-clause-placed g c = c.loop-slot.invariant.passed.come.placed

pub returns-clause-idle : goal.returns-clause-idle
returns-clause-idle g c = λ none. let all = c.loop-slot.invariant.passed.first (λ s low. none s) in (all.0, (all.1, c.loop-slot.invariant.still (λ s low. none s)))

pub returns-clause-none : goal.returns-clause-none
returns-clause-none g c = all_slots HasNoFiles tt c.loop-slot.volumes c.loop-slot.invariant.passed.come.placed.fit.housed.long c.loop-slot.slot (omega (arith, c.loop-slot-test.false)) c.loop-slot.invariant.passed.done

pub returns-clause-whole : goal.returns-clause-whole
returns-clause-whole g c = all_slots HasWholeMap tt c.loop-slot.volumes c.loop-slot.invariant.passed.come.placed.fit.housed.long c.loop-slot.slot (omega (arith, c.loop-slot-test.false)) c.loop-slot.invariant.passed.whole
