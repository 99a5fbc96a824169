use Rattle.std.proofs.Common.{◌≡◌, ◌<◌, Bool, true, false, refl, sym, subst, ◌∙◌, rules, arith}
use Rattle.std.specs.Prelude.{Err, IfErr}
use Rattle.fv_disk.proofs.Resting.{reads_then}
use Rattle.fv_container.proofs.Changing.{maps_same}
use Rattle.fv_pool.specs.BlocksOver.{IsHoldFault}
use Rattle.fv_volume.specs.States.{state_at}
use Rattle.fv_volumes.proofs.Staying.{only_itself}
use Rattle.fv_cp.specs.Planning.{IsSlotKnown, is_counted}
use Rattle.fv_cp.proofs.Planned.{any_default}
use Rattle.fv_cp.proofs.Prepared.{fault_back, known_more, loads_then, others_more}
use Rattle.fv_cp.proofs.preparing.learn_among.Goals as goal

pub loop-slot-init : goal.loop-slot-init
loop-slot-init g c = record {
  loads = record { map = refl; kept = refl; found = refl; version = refl; containers = maps_same (g.D.Disk.shown c.args.disk.now) c.args.pool.now.containers };
  known = λ s low. absurd (omega (arith, low));
  others = λ s other. refl;
  stands = c.requires.stands;
  only_reads = only_itself (g.D.Disk.shown c.args.disk.now);
  calm = refl;
}

pub loop-slot-preserved : goal.loop-slot-preserved
loop-slot-preserved g c =
    let disk = g.D.Disk.shown c.args.disk.now in
    let mid = g.D.Disk.shown c.loop-slot.disk in
    let s = c.loop-slot.slot in
    let states = c.args.volumes.now in
    let was = c.loop-slot.invariant in
    let did = c.in_ok-learn_slot.ensures in
    let inside : s < 64 = omega (arith, c.loop-slot-test.true) in
    let same : c.has_changed.result ≡ c.args.changed = search (c.if-has_changed-changed.false, rules) in
    let among : is_counted false (state_at states s) ≡ c.args.changed = sym c.has_changed.ensures ∙ same in
    record {
      loads = loads_then disk mid c.args.pool.now c.loop-slot.pool _ was.only_reads was.loads (record { map = refl; kept = refl; found = refl; version = refl; containers = did.maps });
      known = known_more c.args.changed c.loop-slot.pool.containers c.learn_slot.new.containers states c.args.delays.now s did.others was.known
          (λ is. subst (λ (b : Bool). IsSlotKnown c.learn_slot.new.containers states s b) (any_default c.args.delays.now s false true (omega (arith, inside, c.told-delays))) did.known);
      others = others_more c.args.changed c.args.pool.now.containers c.loop-slot.pool.containers c.learn_slot.new.containers states s among did.others was.others;
      stands = did.stands;
      only_reads = reads_then disk mid (g.D.Disk.shown c.learn_slot.new.disk) was.only_reads did.only_reads;
      calm = did.cause ∙ was.calm;
    }

pub returns-in_err-learn_slot-clause-loads : goal.returns-in_err-learn_slot-clause-loads
returns-in_err-learn_slot-clause-loads g c =
    let was = c.loop-slot.invariant in
    loads_then (g.D.Disk.shown c.args.disk.now) (g.D.Disk.shown c.loop-slot.disk) c.args.pool.now c.loop-slot.pool _ was.only_reads was.loads (record { map = refl; kept = refl; found = refl; version = refl; containers = c.learn_slot.ensures.maps })

pub returns-in_err-learn_slot-clause-fault : goal.returns-in_err-learn_slot-clause-fault
returns-in_err-learn_slot-clause-fault g c =
    let disk = g.D.Disk.shown c.args.disk.now in
    let fault = c.in_err-learn_slot.field-0.0 in
    let was = c.loop-slot.invariant in
    let failed : c.from_residual.result ≡ Err fault = search rules in
    subst (λ r. IfErr r (IsHoldFault disk c.args.pool.now.containers)) (sym failed)
    (fault_back disk (g.D.Disk.shown c.loop-slot.disk) c.args.pool.now.containers c.loop-slot.pool.containers was.only_reads was.loads.containers fault c.in_err-learn_slot.ensures.fault)

pub returns-in_err-learn_slot-clause-only_reads : goal.returns-in_err-learn_slot-clause-only_reads
returns-in_err-learn_slot-clause-only_reads g c = reads_then (g.D.Disk.shown c.args.disk.now) (g.D.Disk.shown c.loop-slot.disk) (g.D.Disk.shown c.learn_slot.new.disk) c.loop-slot.invariant.only_reads c.learn_slot.ensures.only_reads

pub returns-clause-known : goal.returns-clause-known
returns-clause-known g c = λ s inside. c.loop-slot.invariant.known s (omega (arith, inside, c.loop-slot-test.false))
