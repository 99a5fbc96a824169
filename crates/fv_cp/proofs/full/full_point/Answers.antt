use Rattle.std.proofs.Common.{◌≡◌, ◌≤◌, ℕ, length, inl, Err, Result, rules, sym, subst, ◌∙◌, arith}
use Rattle.std.specs.Prelude.{IsTrue, IfErr}
use Rattle.fv_aggmap.specs.Space.{Space, free_blocks}
use Rattle.fv_disk.specs.Shown.{Rose}
use Rattle.fv_disk.specs.declared.fault.BlockFault.{BlockFault}
use Rattle.fv_pool.specs.declared.fault.VolumeFault.{VolumeFault}
use Rattle.fv_pool.specs.declared.fault.VolumeFault.TheVariants.{DiskFault}
use Rattle.fv_pool.specs.Causes.{of_block}
use Rattle.fv_cp.specs.Choosing.{asked_marked}
use Rattle.fv_container.specs.Chains.{TellsEntries}
use Rattle.fv_cp.specs.Points.{Counts}
use Rattle.fv_cp.specs.Planning.{is_set}
use Rattle.fv_cp.specs.Settling.{IsNoDamage, IsStill, WholeCounts, WholeFails}
use Rattle.fv_cp.proofs.CameIn.{are_ready, lent_clean, placed_loaded, plans_still}
use Rattle.fv_cp.proofs.Whole.{block_cause, counts_done, counts_failed, counts_placed, counts_unprepared, enough_left, failed_cause, fails_left, fails_placed, found_mid, goes_whole, placing, point_held, pointing, some_room, still_placing, still_unprepared}
use Rattle.fv_cp.proofs.full.full_point.Goals as goal

-- ---- the files weren't placed

pub returns-in_err-flush-clause-any_moment : goal.returns-in_err-flush-clause-any_moment
returns-in_err-flush-clause-any_moment g c = λ tells before was known room.
    placing (g.D.Disk.shown c.args.disk.now) c.args.pool.now c.args.volumes.now (g.D.Disk.shown c.flush.new.disk) c.flush.new.pool c.flush.new.volumes c.flush.ensures.placed (g.met.D.Disk.laws c.args.disk.now) before was

pub returns-in_err-flush-clause-still : goal.returns-in_err-flush-clause-still
returns-in_err-flush-clause-still g c =
    let failed : c.from_residual.result ≡ Err c.in_err-flush.field-0.0 = search rules in
    subst (λ (r : Result Unit VolumeFault). IfErr r (IsStill (g.D.Disk.shown c.args.disk.now) c.args.pool.now c.args.volumes.now (g.D.Disk.shown c.flush.new.disk) c.flush.new.pool c.flush.new.volumes)) (sym failed)
    (still_placing (g.D.Disk.shown c.args.disk.now) c.args.pool.now c.args.volumes.now (g.D.Disk.shown c.flush.new.disk) c.flush.new.pool c.flush.new.volumes c.in_err-flush.field-0.0 c.in_err-flush.ensures.cause
    (record { placed = c.flush.ensures.placed; stands = c.flush.ensures.stands; ready = c.flush.ensures.ready }))

pub returns-in_err-flush-clause-counts : goal.returns-in_err-flush-clause-counts
returns-in_err-flush-clause-counts g c =
    let failed : c.from_residual.result ≡ Err c.in_err-flush.field-0.0 = search rules in
    subst (WholeCounts (g.D.Disk.shown c.args.disk.now) (g.D.Disk.shown c.flush.new.disk)) (sym failed)
    (counts_placed (g.D.Disk.shown c.args.disk.now) (g.D.Disk.shown c.flush.new.disk) c.in_err-flush.field-0.0 c.flush.ensures.placed.only_reads c.in_err-flush.ensures.cause)

pub returns-in_err-flush-clause-enough : goal.returns-in_err-flush-clause-enough
returns-in_err-flush-clause-enough g c = λ tells before was room.
    let failed : c.from_residual.result ≡ Err c.in_err-flush.field-0.0 = search rules in
    subst (λ (r : Result Unit VolumeFault). IfErr r IsNoDamage) (sym failed) (c.in_err-flush.ensures.enough tells before was (some_room c.args.pool.now c.args.volumes.now room))

pub returns-in_err-flush-clause-fails : goal.returns-in_err-flush-clause-fails
returns-in_err-flush-clause-fails g c =
    let failed : c.from_residual.result ≡ Err c.in_err-flush.field-0.0 = search rules in
    subst (λ (r : Result Unit VolumeFault). IfErr r (WholeFails (g.D.Disk.shown c.args.disk.now) c.args.pool.now c.args.volumes.now (g.D.Disk.shown c.flush.new.disk) c.flush.new.pool c.flush.new.volumes)) (sym failed)
    (fails_placed (g.D.Disk.shown c.args.disk.now) c.args.pool.now c.args.volumes.now (g.D.Disk.shown c.flush.new.disk) c.flush.new.pool c.flush.new.volumes c.in_err-flush.field-0.0 c.in_err-flush.ensures.cause c.in_err-flush.ensures.lacks)

-- ---- it wasn't prepared

pub returns-in_err-prepare-clause-any_moment : goal.returns-in_err-prepare-clause-any_moment
returns-in_err-prepare-clause-any_moment g c = λ tells before was known room.
    let placed = placed_loaded (g.D.Disk.shown c.args.disk.now) (g.D.Disk.shown c.flush.new.disk) (g.D.Disk.shown c.prepare.new.disk) c.args.pool.now c.flush.new.pool c.prepare.new.pool c.args.volumes.now c.flush.new.volumes c.flush.ensures.placed c.prepare.ensures.loads c.prepare.ensures.only_reads c.prepare.ensures.stands in
    placing (g.D.Disk.shown c.args.disk.now) c.args.pool.now c.args.volumes.now (g.D.Disk.shown c.prepare.new.disk) c.prepare.new.pool c.flush.new.volumes placed (g.met.D.Disk.laws c.args.disk.now) before was

pub returns-in_err-prepare-clause-still : goal.returns-in_err-prepare-clause-still
returns-in_err-prepare-clause-still g c =
    let placed = placed_loaded (g.D.Disk.shown c.args.disk.now) (g.D.Disk.shown c.flush.new.disk) (g.D.Disk.shown c.prepare.new.disk) c.args.pool.now c.flush.new.pool c.prepare.new.pool c.args.volumes.now c.flush.new.volumes c.flush.ensures.placed c.prepare.ensures.loads c.prepare.ensures.only_reads c.prepare.ensures.stands in
    let failed : c.from_residual-in_err-prepare.result ≡ Err (of_block c.in_err-prepare.field-0.0) = search rules in
    subst (λ (r : Result Unit VolumeFault). IfErr r (IsStill (g.D.Disk.shown c.args.disk.now) c.args.pool.now c.args.volumes.now (g.D.Disk.shown c.prepare.new.disk) c.prepare.new.pool c.flush.new.volumes)) (sym failed)
    (still_unprepared (g.D.Disk.shown c.args.disk.now) c.args.pool.now c.args.volumes.now (g.D.Disk.shown c.prepare.new.disk) c.prepare.new.pool c.flush.new.volumes placed
    (record {
      placed = placed;
      stands = c.prepare.ensures.stands;
      ready = are_ready (g.D.Disk.shown c.flush.new.disk) (g.D.Disk.shown c.prepare.new.disk) c.flush.new.pool c.prepare.new.pool c.flush.new.volumes c.prepare.ensures.loads c.prepare.ensures.only_reads c.prepare.ensures.stands c.flush.ensures.placed.fit c.flush.ensures.ready;
    })
    c.in_err-prepare.field-0.0)

pub returns-in_err-prepare-clause-counts : goal.returns-in_err-prepare-clause-counts
returns-in_err-prepare-clause-counts g c =
    let placed = placed_loaded (g.D.Disk.shown c.args.disk.now) (g.D.Disk.shown c.flush.new.disk) (g.D.Disk.shown c.prepare.new.disk) c.args.pool.now c.flush.new.pool c.prepare.new.pool c.args.volumes.now c.flush.new.volumes c.flush.ensures.placed c.prepare.ensures.loads c.prepare.ensures.only_reads c.prepare.ensures.stands in
    let failed : c.from_residual-in_err-prepare.result ≡ Err (of_block c.in_err-prepare.field-0.0) = search rules in
    subst (WholeCounts (g.D.Disk.shown c.args.disk.now) (g.D.Disk.shown c.prepare.new.disk)) (sym failed)
    (counts_unprepared (g.D.Disk.shown c.args.disk.now) c.args.pool.now c.args.volumes.now (g.D.Disk.shown c.prepare.new.disk) c.prepare.new.pool c.flush.new.volumes placed c.in_err-prepare.field-0.0
    (block_cause _ _ _ c.in_err-prepare.field-0.0 c.in_ok-flush.ensures.cause c.in_err-prepare.ensures.cause))

pub returns-in_err-prepare-clause-enough : goal.returns-in_err-prepare-clause-enough
returns-in_err-prepare-clause-enough g c = λ tells before was room.
    let failed : c.from_residual-in_err-prepare.result ≡ Err (of_block c.in_err-prepare.field-0.0) = search rules in
    subst (λ (r : Result Unit VolumeFault). IfErr r IsNoDamage) (sym failed)
    (enough_left (g.D.Disk.shown c.args.disk.now) c.args.pool.now c.args.volumes.now (g.D.Disk.shown c.flush.new.disk) c.flush.new.pool c.flush.new.volumes c.flush.ensures.placed c.known_slots.ensures before was room
    (subst IsTrue (sym c.flush.ensures.placed.only_reads.stays.tells) tells) c.in_err-prepare.field-0.0 c.in_err-prepare.ensures.lacks)

pub returns-in_err-prepare-clause-fails : goal.returns-in_err-prepare-clause-fails
returns-in_err-prepare-clause-fails g c =
    let failed : c.from_residual-in_err-prepare.result ≡ Err (of_block c.in_err-prepare.field-0.0) = search rules in
    subst (λ (r : Result Unit VolumeFault). IfErr r (WholeFails (g.D.Disk.shown c.args.disk.now) c.args.pool.now c.args.volumes.now (g.D.Disk.shown c.prepare.new.disk) c.prepare.new.pool c.flush.new.volumes)) (sym failed)
    (fails_left (g.D.Disk.shown c.args.disk.now) c.args.pool.now c.args.volumes.now (g.D.Disk.shown c.flush.new.disk) c.flush.new.pool c.flush.new.volumes c.flush.ensures.placed (g.D.Disk.shown c.prepare.new.disk) c.prepare.new.pool
    c.prepare.ensures.loads c.prepare.ensures.only_reads c.in_err-prepare.field-0.0 c.in_err-prepare.ensures.lacks)

-- ---- the point

pub consistency_point-requires-clause-found : goal.consistency_point-requires-clause-found
consistency_point-requires-clause-found g c =
    let placed = placed_loaded (g.D.Disk.shown c.args.disk.now) (g.D.Disk.shown c.flush.new.disk) (g.D.Disk.shown c.prepare.new.disk) c.args.pool.now c.flush.new.pool c.prepare.new.pool c.args.volumes.now c.flush.new.volumes c.flush.ensures.placed c.prepare.ensures.loads c.prepare.ensures.only_reads c.prepare.ensures.stands in
    found_mid (g.D.Disk.shown c.args.disk.now) c.args.pool.now c.args.volumes.now (g.D.Disk.shown c.prepare.new.disk) c.prepare.new.pool c.flush.new.volumes placed c.requires.found

pub consistency_point-requires-clause-fit : goal.consistency_point-requires-clause-fit
consistency_point-requires-clause-fit g c =
    let placed = placed_loaded (g.D.Disk.shown c.args.disk.now) (g.D.Disk.shown c.flush.new.disk) (g.D.Disk.shown c.prepare.new.disk) c.args.pool.now c.flush.new.pool c.prepare.new.pool c.args.volumes.now c.flush.new.volumes c.flush.ensures.placed c.prepare.ensures.loads c.prepare.ensures.only_reads c.prepare.ensures.stands in
    placed.fit

pub consistency_point-requires-clause-room : goal.consistency_point-requires-clause-room
consistency_point-requires-clause-room g c = subst (λ (m : Space). asked_marked (is_set c.prepare.new.plan.due) c.flush.new.volumes ≤ free_blocks m) (sym c.prepare.ensures.loads.map) c.in_ok-prepare.ensures.room

pub returns-in_err-consistency_point-clause-any_moment : goal.returns-in_err-consistency_point-clause-any_moment
returns-in_err-consistency_point-clause-any_moment g c = λ tells before was known room.
    let placed = placed_loaded (g.D.Disk.shown c.args.disk.now) (g.D.Disk.shown c.flush.new.disk) (g.D.Disk.shown c.prepare.new.disk) c.args.pool.now c.flush.new.pool c.prepare.new.pool c.args.volumes.now c.flush.new.volumes c.flush.ensures.placed c.prepare.ensures.loads c.prepare.ensures.only_reads c.prepare.ensures.stands in
    let did = c.in_ok-flush.ensures in
    let sure : TellsEntries (g.D.Disk.shown c.flush.new.disk) c.flush.new.pool.containers = (
      subst IsTrue (sym did.placed.only_reads.stays.tells) tells,
      lent_clean (g.D.Disk.shown c.flush.new.disk).reads c.flush.new.pool.found c.flush.new.volumes c.flush.new.pool.containers c.known_slots.ensures did.placed.fit.housed (did.placed.held before was).slots,
    ) in
    let plans = plans_still c.flush.new.pool c.prepare.new.pool c.flush.new.volumes c.prepare.ensures.loads.containers.maps c.prepare.ensures.loads.found c.prepare.ensures.loads.map c.args.want c.args.delays.now c.prepare.new.plan (c.in_ok-prepare.ensures.plans sure) in
    let here = c.in_ok-prepare.ensures.here sure in
    pointing (g.D.Disk.shown c.args.disk.now) c.args.pool.now c.args.volumes.now (g.D.Disk.shown c.prepare.new.disk) c.prepare.new.pool c.flush.new.volumes placed did.none did.whole (g.met.D.Disk.laws c.args.disk.now)
    (g.D.Disk.shown c.consistency_point.new.disk) before was c.args.want c.args.delays.now known room
    (λ again lent can. c.consistency_point.ensures.any_moment (subst IsTrue (sym placed.only_reads.stays.tells) tells) again lent c.args.want c.args.delays.now can plans here)

pub returns-in_err-consistency_point-clause-still : goal.returns-in_err-consistency_point-clause-still
returns-in_err-consistency_point-clause-still g c =
    let placed = placed_loaded (g.D.Disk.shown c.args.disk.now) (g.D.Disk.shown c.flush.new.disk) (g.D.Disk.shown c.prepare.new.disk) c.args.pool.now c.flush.new.pool c.prepare.new.pool c.args.volumes.now c.flush.new.volumes c.flush.ensures.placed c.prepare.ensures.loads c.prepare.ensures.only_reads c.prepare.ensures.stands in
    let failed : c.from_residual-in_err-consistency_point.result ≡ Err DiskFault = search rules in
    subst (λ (r : Result Unit VolumeFault). IfErr r (IsStill (g.D.Disk.shown c.args.disk.now) c.args.pool.now c.args.volumes.now (g.D.Disk.shown c.consistency_point.new.disk) c.consistency_point.new.pool c.consistency_point.new.volumes)) (sym failed)
    (inl (subst (λ (n : ℕ). Rose n (g.D.Disk.shown c.consistency_point.new.disk).write_faults) placed.only_reads.write_faults (failed_cause _ _ c.in_err-consistency_point.field-0.0 c.in_err-consistency_point.ensures.fault c.in_err-consistency_point.ensures.counts.write_cause)))

pub returns-in_err-consistency_point-clause-counts : goal.returns-in_err-consistency_point-clause-counts
returns-in_err-consistency_point-clause-counts g c =
    let placed = placed_loaded (g.D.Disk.shown c.args.disk.now) (g.D.Disk.shown c.flush.new.disk) (g.D.Disk.shown c.prepare.new.disk) c.args.pool.now c.flush.new.pool c.prepare.new.pool c.args.volumes.now c.flush.new.volumes c.flush.ensures.placed c.prepare.ensures.loads c.prepare.ensures.only_reads c.prepare.ensures.stands in
    let failed : c.from_residual-in_err-consistency_point.result ≡ Err DiskFault = search rules in
    subst (WholeCounts (g.D.Disk.shown c.args.disk.now) (g.D.Disk.shown c.consistency_point.new.disk)) (sym failed)
    (counts_failed (g.D.Disk.shown c.args.disk.now) c.args.pool.now c.args.volumes.now (g.D.Disk.shown c.prepare.new.disk) c.prepare.new.pool c.flush.new.volumes placed (c.in_ok-prepare.ensures.cause ∙ c.in_ok-flush.ensures.cause) (g.D.Disk.shown c.consistency_point.new.disk)
    (subst (λ (e : BlockFault). Counts (g.D.Disk.shown c.prepare.new.disk) (g.D.Disk.shown c.consistency_point.new.disk) (Err e)) c.in_err-consistency_point.ensures.fault c.in_err-consistency_point.ensures.counts))

pub returns-in_err-consistency_point-clause-enough : goal.returns-in_err-consistency_point-clause-enough
returns-in_err-consistency_point-clause-enough g c = λ tells before was room.
    let failed : c.from_residual-in_err-consistency_point.result ≡ Err DiskFault = search rules in
    subst (λ (r : Result Unit VolumeFault). IfErr r IsNoDamage) (sym failed) tt

pub returns-in_err-consistency_point-clause-fails : goal.returns-in_err-consistency_point-clause-fails
returns-in_err-consistency_point-clause-fails g c =
    let failed : c.from_residual-in_err-consistency_point.result ≡ Err DiskFault = search rules in
    subst (λ (r : Result Unit VolumeFault). IfErr r (WholeFails (g.D.Disk.shown c.args.disk.now) c.args.pool.now c.args.volumes.now (g.D.Disk.shown c.consistency_point.new.disk) c.consistency_point.new.pool c.consistency_point.new.volumes)) (sym failed) tt

pub returns-clause-any_moment : goal.returns-clause-any_moment
returns-clause-any_moment g c = λ tells before was known room.
    let placed = placed_loaded (g.D.Disk.shown c.args.disk.now) (g.D.Disk.shown c.flush.new.disk) (g.D.Disk.shown c.prepare.new.disk) c.args.pool.now c.flush.new.pool c.prepare.new.pool c.args.volumes.now c.flush.new.volumes c.flush.ensures.placed c.prepare.ensures.loads c.prepare.ensures.only_reads c.prepare.ensures.stands in
    let did = c.in_ok-flush.ensures in
    let sure : TellsEntries (g.D.Disk.shown c.flush.new.disk) c.flush.new.pool.containers = (
      subst IsTrue (sym did.placed.only_reads.stays.tells) tells,
      lent_clean (g.D.Disk.shown c.flush.new.disk).reads c.flush.new.pool.found c.flush.new.volumes c.flush.new.pool.containers c.known_slots.ensures did.placed.fit.housed (did.placed.held before was).slots,
    ) in
    let plans = plans_still c.flush.new.pool c.prepare.new.pool c.flush.new.volumes c.prepare.ensures.loads.containers.maps c.prepare.ensures.loads.found c.prepare.ensures.loads.map c.args.want c.args.delays.now c.prepare.new.plan (c.in_ok-prepare.ensures.plans sure) in
    let here = c.in_ok-prepare.ensures.here sure in
    pointing (g.D.Disk.shown c.args.disk.now) c.args.pool.now c.args.volumes.now (g.D.Disk.shown c.prepare.new.disk) c.prepare.new.pool c.flush.new.volumes placed did.none did.whole (g.met.D.Disk.laws c.args.disk.now)
    (g.D.Disk.shown c.consistency_point.new.disk) before was c.args.want c.args.delays.now known room
    (λ again lent can. c.consistency_point.ensures.any_moment (subst IsTrue (sym placed.only_reads.stays.tells) tells) again lent c.args.want c.args.delays.now can plans here)

pub returns-clause-goes_on : goal.returns-clause-goes_on
returns-clause-goes_on g c =
    let placed = placed_loaded (g.D.Disk.shown c.args.disk.now) (g.D.Disk.shown c.flush.new.disk) (g.D.Disk.shown c.prepare.new.disk) c.args.pool.now c.flush.new.pool c.prepare.new.pool c.args.volumes.now c.flush.new.volumes c.flush.ensures.placed c.prepare.ensures.loads c.prepare.ensures.only_reads c.prepare.ensures.stands in
    let did = c.in_ok-flush.ensures in
    goes_whole (g.D.Disk.shown c.args.disk.now) c.args.pool.now c.args.volumes.now (g.D.Disk.shown c.prepare.new.disk) c.prepare.new.pool c.flush.new.volumes placed did.none did.whole c.requires.fit
    (are_ready (g.D.Disk.shown c.flush.new.disk) (g.D.Disk.shown c.prepare.new.disk) c.flush.new.pool c.prepare.new.pool c.flush.new.volumes c.prepare.ensures.loads c.prepare.ensures.only_reads c.prepare.ensures.stands did.placed.fit did.ready)
    (g.D.Disk.shown c.consistency_point.new.disk) c.consistency_point.new.pool c.consistency_point.new.volumes c.in_ok-consistency_point.ensures.goes_on

pub returns-clause-point : goal.returns-clause-point
returns-clause-point g c = λ tells before was known room.
    let placed = placed_loaded (g.D.Disk.shown c.args.disk.now) (g.D.Disk.shown c.flush.new.disk) (g.D.Disk.shown c.prepare.new.disk) c.args.pool.now c.flush.new.pool c.prepare.new.pool c.args.volumes.now c.flush.new.volumes c.flush.ensures.placed c.prepare.ensures.loads c.prepare.ensures.only_reads c.prepare.ensures.stands in
    let did = c.in_ok-flush.ensures in
    let sure : TellsEntries (g.D.Disk.shown c.flush.new.disk) c.flush.new.pool.containers = (
      subst IsTrue (sym did.placed.only_reads.stays.tells) tells,
      lent_clean (g.D.Disk.shown c.flush.new.disk).reads c.flush.new.pool.found c.flush.new.volumes c.flush.new.pool.containers c.known_slots.ensures did.placed.fit.housed (did.placed.held before was).slots,
    ) in
    let plans = plans_still c.flush.new.pool c.prepare.new.pool c.flush.new.volumes c.prepare.ensures.loads.containers.maps c.prepare.ensures.loads.found c.prepare.ensures.loads.map c.args.want c.args.delays.now c.prepare.new.plan (c.in_ok-prepare.ensures.plans sure) in
    let here = c.in_ok-prepare.ensures.here sure in
    let disk = g.D.Disk.shown c.consistency_point.new.disk in
    let laws = g.met.D.Disk.laws c.consistency_point.new.disk in
    let told : IsTrue disk.tells = subst IsTrue (sym (c.consistency_point.ensures.counts.tells ∙ placed.only_reads.stays.tells)) tells in
    let whole : (b : ℕ) → length (disk.reads b) ≡ 4096 = λ b. (laws.blocks disk.moment disk.reads disk.given (laws.counts_now disk.moment disk.reads (omega arith) (laws.read_is_image told)) b).long in
    point_held (g.D.Disk.shown c.args.disk.now) c.args.pool.now c.args.volumes.now (g.D.Disk.shown c.prepare.new.disk) c.prepare.new.pool c.flush.new.volumes placed did.none did.whole c.requires.fit
    (are_ready (g.D.Disk.shown c.flush.new.disk) (g.D.Disk.shown c.prepare.new.disk) c.flush.new.pool c.prepare.new.pool c.flush.new.volumes c.prepare.ensures.loads c.prepare.ensures.only_reads c.prepare.ensures.stands did.placed.fit did.ready)
    disk c.consistency_point.new.pool c.consistency_point.new.volumes c.in_ok-consistency_point.ensures.goes_on before was c.known_slots-2.ensures.containers tells c.consistency_point.ensures.counts.tells whole c.args.want c.args.delays.now c.consistency_point.new.delays known room
    (λ again lent can. c.in_ok-consistency_point.ensures.point (subst IsTrue (sym placed.only_reads.stays.tells) tells) again lent c.args.want c.args.delays.now can plans here)

pub returns-clause-counts : goal.returns-clause-counts
returns-clause-counts g c =
    let placed = placed_loaded (g.D.Disk.shown c.args.disk.now) (g.D.Disk.shown c.flush.new.disk) (g.D.Disk.shown c.prepare.new.disk) c.args.pool.now c.flush.new.pool c.prepare.new.pool c.args.volumes.now c.flush.new.volumes c.flush.ensures.placed c.prepare.ensures.loads c.prepare.ensures.only_reads c.prepare.ensures.stands in
    counts_done (g.D.Disk.shown c.args.disk.now) c.args.pool.now c.args.volumes.now (g.D.Disk.shown c.prepare.new.disk) c.prepare.new.pool c.flush.new.volumes placed (c.in_ok-prepare.ensures.cause ∙ c.in_ok-flush.ensures.cause) (g.D.Disk.shown c.consistency_point.new.disk) c.in_ok-consistency_point.ensures.counts
