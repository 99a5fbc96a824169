use Rattle.std.proofs.Common.{◌≡◌, ◌/◌, ℕ, true, false, ◌||◌, Bool, List, get_or, length, refl, sym, ap, subst, ◌∙◌, arith}
use Rattle.std.specs.Prelude.{IfSome, Option, Some}
use Rattle.fv_container.specs.Chains.{map_in}
use Rattle.fv_aggmap.specs.Space.{blocks_of}
use Rattle.fv_container.specs.Clean.{IsCleanOn}
use Rattle.fv_container.specs.Paged.{Paged}
use Rattle.fv_delay.specs.Holding.{Holding, held_by}
use Rattle.fv_delay.specs.Reclaims.{HasReclaimed}
use Rattle.fv_volume.specs.declared.state.VolumeState.{VolumeState}
use Rattle.fv_cp.specs.Choosing.{holding_with, holdings}
use Rattle.fv_cp.specs.Course.{AreHereIn}
use Rattle.fv_cp.specs.Planning.{HasLeaves, LeavesDelays, is_set, taken, takes_of}
use Rattle.fv_cp.proofs.Plans.{reclaimable}
use Rattle.fv_cp.proofs.Stepping.{past_written}
use Rattle.fv_cp.proofs.point.write_slot.Goals as goal

-- what the writing needs is in memory
leaves_here : (plan_slot : ℕ → VolumeState → Paged → Type 0) (slot : ℕ) (o : Option VolumeState) (c : Option Paged) (x : VolumeState) (paged : Paged) → Some x ≡ o → Some paged ≡ c → IfSome o (λ y. IfSome c (plan_slot slot y)) → plan_slot slot x paged
leaves_here P slot o c x paged there lies is = subst (λ (d : Option Paged). IfSome d (P slot x)) (sym lies) (subst (λ (p : Option VolumeState). IfSome p (λ y. IfSome c (P slot y))) (sym there) is)

either : (due changed : Bool) → changed ≡ true → (due || changed) ≡ true
either true changed is = refl
either false changed is = is

pub reclaim_due-requires-clause-known : goal.reclaim_due-requires-clause-known
reclaim_due-requires-clause-known g c = (leaves_here (HasLeaves c.args.plan.now) c.args.slot _ _ c.in-Some.state.now c.in-Some-get_mut.container.now c.in-Some.ensures c.in-Some-get_mut.ensures.container c.requires.leaves).known

pub write_volume-requires-clause-loaded : goal.write_volume-requires-clause-loaded
write_volume-requires-clause-loaded g c = λ v written.
    let leaves = leaves_here (HasLeaves c.args.plan.now) c.args.slot _ _ c.in-Some.state.now c.in-Some-get_mut.container.now c.in-Some.ensures c.in-Some-get_mut.ensures.container c.requires.leaves in
    subst (λ (bits : List Bool). get_or bits (v / 256) false ≡ true) (sym c.reclaim_due.ensures.stayed.here) (leaves.maps (either (is_set c.args.plan.now.due c.args.slot) _ (sym c.is_changed.ensures ∙ c.if-not-is_changed.false)) v written)

pub returns-clause-past : goal.returns-clause-past
returns-clause-past g c =
    let wrote = c.in_ok-label.ensures in
    let size : blocks_of c.reclaim_due.new.pool_map ≡ blocks_of c.args.pool.now.map = ap length c.reclaim_due.ensures.given.given.committed in
    let x = c.in-Some.state.now in
    let old = c.in-Some-get_mut.container.now in
    let here : holdings c.args.pool.now.containers c.args.volumes.now c.args.slot ≡ Some (held_by x.map old.map) = λ k. holding_with (sym c.in-Some.ensures k) (map_in (sym c.in-Some-get_mut.ensures.container k)) in
    past_written (taken c.args.plan.now (holdings c.args.pool.now.containers c.args.volumes.now)) _ x c.args.slot c.args.labels.now c.args.pool.now (g.D.Disk.shown c.args.disk.now) _ _ (g.D.Disk.shown c.write_volume.new.disk) (sym c.in-Some.ensures) (sym c.is_changed.ensures ∙ c.if-not-is_changed.false) (record {
      old = old;
      there = sym c.in-Some-get_mut.ensures.container;
      few = c.get_mut.ensures.valid.containers;
      mid = c.reclaim_due.new.container;
      space = c.reclaim_due.new.pool_map;
      stayed = c.reclaim_due.ensures.stayed;
      given = c.reclaim_due.ensures.given;
      reclaimed = λ tells clean leaves. subst (λ (o : Option Holding). HasReclaimed x.map (takes_of c.args.plan.now c.args.slot o) old c.args.pool.now.map c.reclaim_due.new.container c.reclaim_due.new.pool_map) (sym here) (c.reclaim_due.ensures.reclaimed (reclaimable c.args.plan.now c.args.slot c.in-Some.state.now c.in-Some-get_mut.container.now (g.D.Disk.shown c.args.disk.now).reads clean
          (leaves_here (HasLeaves c.args.plan.now) c.args.slot _ _ c.in-Some.state.now c.in-Some-get_mut.container.now c.in-Some.ensures c.in-Some-get_mut.ensures.container c.requires.leaves) (subst (λ (o : Option Holding). AreHereIn (takes_of c.args.plan.now c.args.slot o) old) here leaves)));
      new = c.write_volume.new.container;
      long = wrote.entries;
      valid = wrote.valid;
      label = c.in_ok-label.label;
      within = omega (arith, wrote.label, size);
      named = refl;
      containers = refl;
      written = wrote.written;
      memory = wrote.memory;
    })

pub returns-clause-delays : goal.returns-clause-delays
returns-clause-delays g c = λ tells clean_slot leaves_slot.
    let x = c.in-Some.state.now in
    let old = c.in-Some-get_mut.container.now in
    let here : holdings c.args.pool.now.containers c.args.volumes.now c.args.slot ≡ Some (held_by x.map old.map) = λ k. holding_with (sym c.in-Some.ensures k) (map_in (sym c.in-Some-get_mut.ensures.container k)) in
    let clean : IsCleanOn (g.D.Disk.shown c.args.disk.now).reads old = subst (λ (held : Option Paged). IfSome held (IsCleanOn (g.D.Disk.shown c.args.disk.now).reads)) (sym c.in-Some-get_mut.ensures.container) clean_slot in
    subst (λ (o : Option Holding). LeavesDelays c.args.plan.now c.args.slot o c.args.delays.now c.reclaim_due.new.delays) (sym here) (c.reclaim_due.ensures.delays (reclaimable c.args.plan.now c.args.slot c.in-Some.state.now c.in-Some-get_mut.container.now (g.D.Disk.shown c.args.disk.now).reads clean
    (leaves_here (HasLeaves c.args.plan.now) c.args.slot _ _ c.in-Some.state.now c.in-Some-get_mut.container.now c.in-Some.ensures c.in-Some-get_mut.ensures.container c.requires.leaves) (subst (λ (o : Option Holding). AreHereIn (takes_of c.args.plan.now c.args.slot o) old) here
    (subst (λ (held : Option Paged). IfSome held (AreHereIn (taken c.args.plan.now (holdings c.args.pool.now.containers c.args.volumes.now) c.args.slot))) (sym c.in-Some-get_mut.ensures.container) leaves_slot))))
