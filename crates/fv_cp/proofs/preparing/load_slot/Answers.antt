use Rattle.std.proofs.Common.{ℕ, sym, subst}
use Rattle.std.specs.Prelude.{Option, Some, IfSome}
use Rattle.fv_container.specs.Chains.{map_in, paged_at}
use Rattle.fv_container.specs.Clean.{IsCleanOn}
use Rattle.fv_container.specs.Paged.{Paged}
use Rattle.fv_container.proofs.Changing.{maps_same, paged_beside}
use Rattle.fv_volume.specs.declared.state.VolumeState.{VolumeState}
use Rattle.fv_volume.specs.Files.{IsLabelled}
use Rattle.fv_volume.specs.Loading.{Houses}
use Rattle.fv_volume.specs.States.{state_at}
use Rattle.fv_volumes.proofs.Staying.{only_itself}
use Rattle.fv_cp.proofs.Prepared.{here_none, leaves_none, slot_fault, slot_here, slot_kept, slot_leaves}
use Rattle.fv_cp.proofs.preparing.load_slot.Goals as goal

-- no volume, or no container

pub returns-in_default-clause-maps : goal.returns-in_default-clause-maps
returns-in_default-clause-maps g c = maps_same (g.D.Disk.shown c.args.disk.now) c.args.containers.now

pub returns-in_default-clause-leaves : goal.returns-in_default-clause-leaves
returns-in_default-clause-leaves g c =
    leaves_none c.args.plan.now c.args.slot (state_at c.args.volumes.now c.args.slot) (paged_at c.args.containers.now c.args.slot) (sym (rw c.in_default.is at c.get.ensures))

pub returns-in_default-clause-here : goal.returns-in_default-clause-here
returns-in_default-clause-here g c = λ tells. here_none c.args.plan.now c.args.slot (state_at c.args.volumes.now c.args.slot) (paged_at c.args.containers.now c.args.slot) (sym (rw c.in_default.is at c.get.ensures))

pub returns-in_default-clause-only_reads : goal.returns-in_default-clause-only_reads
returns-in_default-clause-only_reads g c = only_itself (g.D.Disk.shown c.args.disk.now)

-- the container

pub load_volume-requires-clause-state : goal.load_volume-requires-clause-state
load_volume-requires-clause-state g c =
    let labelled = subst (λ (o : Option VolumeState). IfSome o (IsLabelled c.args.slot)) (sym c.in-Some.ensures) c.requires.labelled in
    subst (λ (s : ℕ). IsLabelled s c.in-Some.state.now) (sym labelled.slot_is) labelled

pub load_volume-requires-clause-entries : goal.load_volume-requires-clause-entries
load_volume-requires-clause-entries g c =
    subst (λ (o : Option VolumeState). Houses o (Some c.in-Some-get_mut.container.now.map)) (sym c.in-Some.ensures)
    (subst (λ (p : Option Paged). Houses (state_at c.args.volumes.now c.args.slot) (map_in p)) (sym c.in-Some-get_mut.ensures.container) c.requires.housed)

pub returns-clause-maps : goal.returns-clause-maps
returns-clause-maps g c = slot_kept (g.D.Disk.shown c.args.disk.now) c.args.containers.now c.args.slot c.in-Some-get_mut.container.now c.load_volume.new.container (sym c.in-Some-get_mut.ensures.container) c.load_volume.ensures.kept

pub returns-clause-others : goal.returns-clause-others
returns-clause-others g c = λ s other. paged_beside c.args.containers.now c.args.slot c.in-Some-get_mut.container.now c.load_volume.new.container (sym c.in-Some-get_mut.ensures.container) s other

pub returns-clause-leaves : goal.returns-clause-leaves
returns-clause-leaves g c = slot_leaves (g.D.Disk.shown c.args.disk.now) c.args.containers.now c.args.slot c.in-Some-get_mut.container.now c.load_volume.new.container (sym c.in-Some-get_mut.ensures.container)
    c.args.plan.now (state_at c.args.volumes.now c.args.slot) c.in-Some.state.now c.in-Some.ensures c.load_volume.result c.load_volume.ensures.known c.load_volume.ensures.maps

pub returns-clause-here : goal.returns-clause-here
returns-clause-here g c = λ tells.
    let clean = subst (λ (p : Option Paged). IfSome p (IsCleanOn (g.D.Disk.shown c.args.disk.now).reads)) (sym c.in-Some-get_mut.ensures.container) (tells.1 c.args.slot) in
    slot_here (g.D.Disk.shown c.args.disk.now) c.args.containers.now c.args.slot c.in-Some-get_mut.container.now c.load_volume.new.container (sym c.in-Some-get_mut.ensures.container)
    c.args.plan.now c.args.volumes.now c.in-Some.state.now c.in-Some.ensures c.load_volume.result (c.load_volume.ensures.taken tells.0 clean)

pub returns-clause-fault : goal.returns-clause-fault
returns-clause-fault g c = slot_fault (g.D.Disk.shown c.args.disk.now) c.args.containers.now c.args.slot c.in-Some-get_mut.container.now c.load_volume.new.container (sym c.in-Some-get_mut.ensures.container) c.load_volume.result c.load_volume.ensures.fault
