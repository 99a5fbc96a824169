use Rattle.std.proofs.Common.{◌≡◌, ◌∙◌, ◌||◌, Bool, true, false, rules, sym, ap, subst}
use Rattle.std.specs.Prelude.{Option, None}
use Rattle.fv_container.proofs.Changing.{maps_same, paged_beside}
use Rattle.fv_volume.specs.declared.state.VolumeState.{VolumeState}
use Rattle.fv_volume.specs.States.{state_at}
use Rattle.fv_volumes.proofs.Staying.{only_itself}
use Rattle.fv_cp.specs.Planning.{is_counted}
use Rattle.fv_cp.proofs.Prepared.{slot_fault, slot_kept, slot_learned}
use Rattle.fv_cp.proofs.preparing.learn_slot.Goals as goal

-- a volume that isn't there isn't counted, and one that hasn't changed and has no delayed entry isn't, either
none_counted : (may : Bool) (o : Option VolumeState) → o ≡ None → is_counted may o ≡ true → ⊥
none_counted may o none counted = let wrong : false ≡ true = sym (ap (is_counted may) none) ∙ counted in cc

pub returns-in_default-clause-maps : goal.returns-in_default-clause-maps
returns-in_default-clause-maps g c = maps_same (g.D.Disk.shown c.args.disk.now) c.args.containers.now

pub returns-in_default-clause-known : goal.returns-in_default-clause-known
returns-in_default-clause-known g c = λ counted.
    let none : state_at c.args.volumes.now c.args.slot ≡ None = sym (rw c.in_default.is at c.get.ensures) in
    absurd (none_counted c.args.may_delay (state_at c.args.volumes.now c.args.slot) none counted)

pub returns-in_default-clause-only_reads : goal.returns-in_default-clause-only_reads
returns-in_default-clause-only_reads g c = only_itself (g.D.Disk.shown c.args.disk.now)

pub returns-then-not-is_changed-clause-maps : goal.returns-then-not-is_changed-clause-maps
returns-then-not-is_changed-clause-maps g c = maps_same (g.D.Disk.shown c.args.disk.now) c.args.containers.now

pub returns-then-not-is_changed-clause-known : goal.returns-then-not-is_changed-clause-known
returns-then-not-is_changed-clause-known g c = λ counted.
    let asked : (c.args.may_delay || c.in-Some.state.now.changed) ≡ true = subst (λ (o : Option VolumeState). is_counted c.args.may_delay o ≡ true) (sym c.in-Some.ensures) counted in
    absurd (search (asked, rules))

pub returns-then-not-is_changed-clause-only_reads : goal.returns-then-not-is_changed-clause-only_reads
returns-then-not-is_changed-clause-only_reads g c = only_itself (g.D.Disk.shown c.args.disk.now)

pub returns-clause-maps : goal.returns-clause-maps
returns-clause-maps g c = slot_kept (g.D.Disk.shown c.args.disk.now) c.args.containers.now c.args.slot c.in-Some-get_mut.container.now c.learn_all.new.self (sym c.in-Some-get_mut.ensures.container) c.learn_all.ensures.kept

pub returns-clause-others : goal.returns-clause-others
returns-clause-others g c = λ s other. paged_beside c.args.containers.now c.args.slot c.in-Some-get_mut.container.now c.learn_all.new.self (sym c.in-Some-get_mut.ensures.container) s other

pub returns-clause-known : goal.returns-clause-known
returns-clause-known g c = slot_learned (g.D.Disk.shown c.args.disk.now) c.args.containers.now c.args.slot c.in-Some-get_mut.container.now c.learn_all.new.self (sym c.in-Some-get_mut.ensures.container)
    c.args.volumes.now c.args.may_delay c.learn_all.result c.learn_all.ensures.learned

pub returns-clause-fault : goal.returns-clause-fault
returns-clause-fault g c = slot_fault (g.D.Disk.shown c.args.disk.now) c.args.containers.now c.args.slot c.in-Some-get_mut.container.now c.learn_all.new.self (sym c.in-Some-get_mut.ensures.container) c.learn_all.result c.learn_all.ensures.fault
