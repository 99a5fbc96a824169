use Rattle.std.proofs.Common.{◌≡◌, inl, sym, ap, subst, ◌∙◌, rules, arith}
use Rattle.std.specs.Prelude.{Err, IfErr, IsTrue}
use Rattle.fv_disk.specs.Shown.{Image}
use Rattle.fv_disk.proofs.Resting.{reads_then}
use Rattle.fv_root.specs.declared.find.Found.{Found}
use Rattle.fv_image.specs.Layout.{root_place}
use Rattle.fv_root.specs.Finding.{IsInRange}
use Rattle.fv_aggmap.specs.Space.{free_blocks}
use Rattle.fv_container.specs.Chains.{AreCleanOn}
use Rattle.fv_cp.specs.Planning.{AreSlotsSure, Plans}
use Rattle.fv_cp.specs.Points.{LacksPoint}
use Rattle.fv_cp.proofs.CameIn.{plans_still}
use Rattle.fv_cp.proofs.Prepared.{always, are_sure, cause_then, few_marked, housed_kept, lacks_back, lacks_hold, loads_then}
use Rattle.fv_cp.proofs.preparing.prepare.Goals as goal

-- ---- what was learned

pub returns-in_err-learn-clause-lacks : goal.returns-in_err-learn-clause-lacks
returns-in_err-learn-clause-lacks g c =
    let disk = g.D.Disk.shown c.args.disk.now in
    let fault = c.in_err-learn.field-0.0 in
    let failed : c.from_residual.result ≡ Err fault = search rules in
    subst (λ r. IfErr r (LacksPoint disk c.args.pool.now c.args.volumes.now)) (sym failed) (lacks_hold disk c.args.pool.now c.args.volumes.now fault c.in_err-learn.ensures.fault)

pub choose-requires-clause-range : goal.choose-requires-clause-range
choose-requires-clause-range g c = subst IsInRange (sym c.in_ok-learn.ensures.loads.found) c.requires.range

pub choose-requires-clause-housed : goal.choose-requires-clause-housed
choose-requires-clause-housed g c = housed_kept (g.D.Disk.shown c.args.disk.now) c.args.pool.now.containers c.learn.new.pool.containers c.args.volumes.now c.in_ok-learn.ensures.loads.containers c.requires.housed

pub load-requires-clause-housed : goal.load-requires-clause-housed
load-requires-clause-housed g c = housed_kept (g.D.Disk.shown c.args.disk.now) c.args.pool.now.containers c.learn.new.pool.containers c.args.volumes.now c.in_ok-learn.ensures.loads.containers c.requires.housed

-- ---- there isn't room

pub returns-then-free-asked-clause-lacks : goal.returns-then-free-asked-clause-lacks
returns-then-free-asked-clause-lacks g c =
    let counted = c.from-free.ensures ∙ c.free_count.ensures.value in
    inl (
      c.root_place.ensures ∙ ap (λ (f : Found). root_place f.slot) c.in_ok-learn.ensures.loads.found,
      (
        c.blocks_asked-asked.ensures ∙ c.choose.ensures.fits (few_marked _ _ _ _ c.if-free-asked.true c.blocks_asked-asked.ensures counted),
        (counted ∙ ap free_blocks c.in_ok-learn.ensures.loads.map, c.if-free-asked.true),
      ),
    )

-- ---- it is held

pub returns-clause-loads : goal.returns-clause-loads
returns-clause-loads g c = loads_then (g.D.Disk.shown c.args.disk.now) (g.D.Disk.shown c.learn.new.disk) c.args.pool.now c.learn.new.pool c.load.new.pool c.in_ok-learn.ensures.only_reads c.in_ok-learn.ensures.loads c.load.ensures.loads

pub returns-clause-plans : goal.returns-clause-plans
returns-clause-plans g c = λ told.
    let did = c.in_ok-learn.ensures in
    let mid = c.learn.new.pool in
    let states = c.args.volumes.now in
    let sure : AreSlotsSure mid.containers states c.args.delays.now = are_sure (g.D.Disk.shown c.args.disk.now) c.args.pool.now.containers mid.containers states c.args.delays.now did.loads.containers told did.known in
    let over : Plans mid states c.args.want c.args.delays.now c.choose.new.plan = record { planned = c.choose.ensures.planned sure; flags = c.choose.ensures.flags sure; none = c.choose.ensures.none sure } in
    always c.load.result (plans_still mid c.args.pool.now states (λ s. sym (did.loads.containers.maps s)) (sym did.loads.found) (sym did.loads.map) c.args.want c.args.delays.now c.choose.new.plan over)

pub returns-clause-room : goal.returns-clause-room
returns-clause-room g c =
    let free : free_blocks c.learn.new.pool.map ≡ free_blocks c.args.pool.now.map = ap free_blocks c.in_ok-learn.ensures.loads.map in
    always c.load.result (omega (arith, c.if-free-asked.false, free, c.blocks_asked-asked.ensures, (c.from-free.ensures ∙ c.free_count.ensures.value)))

pub returns-clause-here : goal.returns-clause-here
returns-clause-here g c = λ told.
    let did = c.in_ok-learn.ensures in
    c.load.ensures.here (subst IsTrue (sym did.only_reads.stays.tells) told.0, subst (λ (i : Image). AreCleanOn i c.learn.new.pool.containers) (sym did.only_reads.stays.reads) (did.loads.containers.clean told))

pub returns-clause-lacks : goal.returns-clause-lacks
returns-clause-lacks g c = lacks_back (g.D.Disk.shown c.args.disk.now) (g.D.Disk.shown c.learn.new.disk) c.args.pool.now c.learn.new.pool c.args.volumes.now c.in_ok-learn.ensures.only_reads c.in_ok-learn.ensures.loads.containers c.load.result c.load.ensures.fault

pub returns-clause-only_reads : goal.returns-clause-only_reads
returns-clause-only_reads g c = reads_then (g.D.Disk.shown c.args.disk.now) (g.D.Disk.shown c.learn.new.disk) (g.D.Disk.shown c.load.new.disk) c.in_ok-learn.ensures.only_reads c.load.ensures.only_reads

pub returns-clause-cause : goal.returns-clause-cause
returns-clause-cause g c = cause_then _ _ _ c.load.result c.in_ok-learn.ensures.cause c.load.ensures.cause
