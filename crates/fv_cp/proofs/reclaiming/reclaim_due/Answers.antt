use Rattle.std.proofs.Common.{◌&&◌, Bool, false, ap, arith}
use Rattle.std.specs.Prelude.{Some}
use Rattle.fv_delay.specs.Holding.{Holding, held_by}
use Rattle.fv_delay.specs.ByThreshold.{taken_in}
use Rattle.fv_delay.proofs.Reclaimed.{reclaimed_none, reclaimed_same, some_none}
use Rattle.fv_cp.specs.Planning.{start_at, takes_of}
use Rattle.fv_cp.proofs.Plans.{delays_set, delays_stay}
use Rattle.fv_cp.proofs.reclaiming.reclaim_due.Goals as goal

pub returns-then-plan-at-clause-reclaimed : goal.returns-then-plan-at-clause-reclaimed
returns-then-plan-at-clause-reclaimed c =
    λ can.
    let old = c.args.container.now in
    let x : Holding = held_by c.args.map.now old.map in
    let start = start_at c.args.plan.now c.args.slot in
    reclaimed_same c.args.map.now (taken_in start x) (takes_of c.args.plan.now c.args.slot (Some x)) old c.reclaim_taken.new.container c.args.pool_map.now c.reclaim_taken.new.pool_map
    (λ r within. ap (λ (t : Bool). t && taken_in start x r) c.if-plan-at.true) (c.reclaim_taken.ensures.reclaimed (can.sure c.if-plan-at.true) (can.taken c.if-plan-at.true))

pub returns-then-plan-at-clause-delays : goal.returns-then-plan-at-clause-delays
returns-then-plan-at-clause-delays c =
    λ can. delays_set c.args.plan.now c.args.slot (held_by c.args.map.now c.args.container.now.map) c.args.delays.now c.reclaim_taken.result (omega (arith, c.requires.slot, c.told-delays)) c.if-plan-at.true (c.reclaim_taken.ensures.rest (can.sure c.if-plan-at.true) (can.taken c.if-plan-at.true))

pub returns-else-plan-at-clause-reclaimed : goal.returns-else-plan-at-clause-reclaimed
returns-else-plan-at-clause-reclaimed c = λ can.
    let old = c.args.container.now in
    let x : Holding = held_by c.args.map.now old.map in
    reclaimed_same c.args.map.now (λ r. false) (takes_of c.args.plan.now c.args.slot (Some x)) old old c.args.pool_map.now c.args.pool_map.now
    (λ r within. ap (λ (t : Bool). t && taken_in (start_at c.args.plan.now c.args.slot) x r) c.if-plan-at.false) (reclaimed_none c.args.map.now old c.args.pool_map.now)

pub returns-else-plan-at-clause-delays : goal.returns-else-plan-at-clause-delays
returns-else-plan-at-clause-delays c = λ can. delays_stay c.args.plan.now c.args.slot (Some (held_by c.args.map.now c.args.container.now.map)) c.args.delays.now

pub returns-else-plan-at-clause-given : goal.returns-else-plan-at-clause-given
returns-else-plan-at-clause-given c = some_none c.args.pool_map.now
