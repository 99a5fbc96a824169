use Rattle.std.proofs.Common.{◌≡◌, refl, sym, subst, ◌∙◌, rules, arith}
use Rattle.std.specs.Prelude.{Err, IfErr, IsTrue}
use Rattle.fv_disk.specs.Shown.{Image}
use Rattle.fv_disk.proofs.Resting.{reads_then}
use Rattle.fv_container.specs.Chains.{AreCleanOn}
use Rattle.fv_container.proofs.Changing.{maps_same}
use Rattle.fv_pool.specs.BlocksOver.{IsHoldFault}
use Rattle.fv_volume.specs.Loading.{Houses}
use Rattle.fv_volume.specs.States.{state_at}
use Rattle.fv_volumes.proofs.Staying.{only_itself}
use Rattle.fv_cp.proofs.Prepared.{fault_back, here_more, leaves_more, loads_then}
use Rattle.fv_cp.proofs.preparing.load.Goals as goal

pub loop-slot-init : goal.loop-slot-init
loop-slot-init g c = record {
  loads = record { map = refl; kept = refl; found = refl; version = refl; containers = maps_same (g.D.Disk.shown c.args.disk.now) c.args.pool.now.containers };
  leaves = λ s low. absurd (omega (arith, low));
  here = λ tells s low. absurd (omega (arith, low));
  stands = c.requires.stands;
  only_reads = only_itself (g.D.Disk.shown c.args.disk.now);
  calm = refl;
}

pub load_slot-requires-clause-labelled : goal.load_slot-requires-clause-labelled
load_slot-requires-clause-labelled g c = c.requires.housed.volumes c.loop-slot.slot

pub load_slot-requires-clause-housed : goal.load_slot-requires-clause-housed
load_slot-requires-clause-housed g c = subst (Houses (state_at c.args.volumes.now c.loop-slot.slot)) (sym (c.loop-slot.invariant.loads.containers.maps c.loop-slot.slot)) (c.requires.housed.each c.loop-slot.slot)

pub loop-slot-preserved : goal.loop-slot-preserved
loop-slot-preserved g c =
    let disk = g.D.Disk.shown c.args.disk.now in
    let mid = g.D.Disk.shown c.loop-slot.disk in
    let s = c.loop-slot.slot in
    let was = c.loop-slot.invariant in
    let did = c.in_ok-load_slot.ensures in
    record {
      loads = loads_then disk mid c.args.pool.now c.loop-slot.pool _ was.only_reads was.loads (record { map = refl; kept = refl; found = refl; version = refl; containers = did.maps });
      leaves = leaves_more c.args.plan.now c.loop-slot.pool.containers c.load_slot.new.containers c.args.volumes.now s did.others was.leaves did.leaves;
      here = λ tells. here_more c.args.plan.now c.loop-slot.pool.containers c.load_slot.new.containers c.args.volumes.now s did.others (was.here tells)
          (did.here (subst IsTrue (sym was.only_reads.stays.tells) tells.0, subst (λ (i : Image). AreCleanOn i c.loop-slot.pool.containers) (sym was.only_reads.stays.reads) (was.loads.containers.clean tells)));
      stands = did.stands;
      only_reads = reads_then disk mid (g.D.Disk.shown c.load_slot.new.disk) was.only_reads did.only_reads;
      calm = did.cause ∙ was.calm;
    }

pub returns-in_err-load_slot-clause-loads : goal.returns-in_err-load_slot-clause-loads
returns-in_err-load_slot-clause-loads g c =
    let was = c.loop-slot.invariant in
    loads_then (g.D.Disk.shown c.args.disk.now) (g.D.Disk.shown c.loop-slot.disk) c.args.pool.now c.loop-slot.pool _ was.only_reads was.loads (record { map = refl; kept = refl; found = refl; version = refl; containers = c.load_slot.ensures.maps })

pub returns-in_err-load_slot-clause-fault : goal.returns-in_err-load_slot-clause-fault
returns-in_err-load_slot-clause-fault g c =
    let disk = g.D.Disk.shown c.args.disk.now in
    let fault = c.in_err-load_slot.field-0.0 in
    let was = c.loop-slot.invariant in
    let failed : c.from_residual.result ≡ Err fault = search rules in
    subst (λ r. IfErr r (IsHoldFault disk c.args.pool.now.containers)) (sym failed)
    (fault_back disk (g.D.Disk.shown c.loop-slot.disk) c.args.pool.now.containers c.loop-slot.pool.containers was.only_reads was.loads.containers fault c.in_err-load_slot.ensures.fault)

pub returns-in_err-load_slot-clause-only_reads : goal.returns-in_err-load_slot-clause-only_reads
returns-in_err-load_slot-clause-only_reads g c = reads_then (g.D.Disk.shown c.args.disk.now) (g.D.Disk.shown c.loop-slot.disk) (g.D.Disk.shown c.load_slot.new.disk) c.loop-slot.invariant.only_reads c.load_slot.ensures.only_reads

pub returns-clause-leaves : goal.returns-clause-leaves
returns-clause-leaves g c = λ s inside. c.loop-slot.invariant.leaves s (omega (arith, inside, c.loop-slot-test.false))

pub returns-clause-here : goal.returns-clause-here
returns-clause-here g c = λ tells s inside. c.loop-slot.invariant.here tells s (omega (arith, inside, c.loop-slot-test.false))
