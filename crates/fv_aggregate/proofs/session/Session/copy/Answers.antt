use Rattle.std.proofs.Common.{ℕ, sym, subst}
use Rattle.std.specs.Prelude.{IfSome, IsNone}
use Rattle.fv_volume.specs.Files.{IsLabelled}
use Rattle.fv_volume.specs.States.{state_at}
use Rattle.fv_mirror.proofs.Made.{inside_slots}
use Rattle.fv_disk.specs.Shown.{Rose}
use Rattle.fv_mirror.specs.Making.{CanCopy}
use Rattle.fv_aggregate.specs.declared.session.Session.{Session}
use Rattle.fv_aggregate.specs.declared.fault.Fault.TheVariants.{DiskFault, Damaged, Memory}
use Rattle.fv_aggregate.proofs.MirroredCopy.{leaves_copied, mirror_added, none_added, rose_by}
use Rattle.fv_aggregate.proofs.MirroredVolume.{fit_now, fit_unmade, set_now, set_unmade}
use Rattle.fv_aggregate.proofs.session.Session.copy.Goals as goal

pub invariant_of-self : goal.invariant_of-self
invariant_of-self g c =
    let d = g.D.Disk.shown c.args.disk.now in let e = g.D.Disk.shown c.make.new.disk in
    let p = c.self.inside.pool in let xs = c.self.inside.volumes in let q = c.make.new.pool in let ys = c.make.new.volumes in (
      λ fresh. let was = c.self.invariant.0 fresh in
          fit_now d xs p c.args.name.now c.args.size c.args.kind c.args.admitted e ys q c.in-Ok.ensures.mirrored was.housed c.known_slots.ensures c.make.ensures.leaves was,
      λ fresh. c.make.ensures.sum,
      λ fresh. let was = c.self.invariant.0 fresh in
          set_now d xs p c.args.name.now c.args.size c.args.kind c.args.admitted e ys q c.in-Ok.ensures.mirrored was.housed c.known_slots.ensures c.make.ensures.leaves was.range.size (c.self.invariant.2 fresh),
    )

pub invariant_of-self-in-Err-DiskFault : goal.invariant_of-self-in-Err-DiskFault
invariant_of-self-in-Err-DiskFault g c =
    let d = g.D.Disk.shown c.args.disk.now in let e = g.D.Disk.shown c.make.new.disk in
    let p = c.self.inside.pool in let xs = c.self.inside.volumes in let q = c.make.new.pool in let ys = c.make.new.volumes in
    let fresh = subst (λ (k : Session). IsNone k.failed) (sym c.self.view_is) c.requires.fresh in (
      λ none. fit_unmade d p e q c.make.ensures.leaves xs ys c.in-Err-DiskFault.ensures.same (c.self.invariant.0 fresh) (c.self.invariant.2 fresh),
      λ none. c.make.ensures.sum,
      λ none. set_unmade d p e q c.make.ensures.leaves xs ys c.in-Err-DiskFault.ensures.same (c.self.invariant.0 fresh) (c.self.invariant.2 fresh),
    )

pub invariant_of-self-in-Err-Damaged : goal.invariant_of-self-in-Err-Damaged
invariant_of-self-in-Err-Damaged g c =
    let d = g.D.Disk.shown c.args.disk.now in let e = g.D.Disk.shown c.make.new.disk in
    let p = c.self.inside.pool in let xs = c.self.inside.volumes in let q = c.make.new.pool in let ys = c.make.new.volumes in
    let fresh = subst (λ (k : Session). IsNone k.failed) (sym c.self.view_is) c.requires.fresh in (
      λ none. fit_unmade d p e q c.make.ensures.leaves xs ys c.in-Err-Damaged.ensures.same (c.self.invariant.0 fresh) (c.self.invariant.2 fresh),
      λ none. c.make.ensures.sum,
      λ none. set_unmade d p e q c.make.ensures.leaves xs ys c.in-Err-Damaged.ensures.same (c.self.invariant.0 fresh) (c.self.invariant.2 fresh),
    )

pub invariant_of-self-in-Err-Memory : goal.invariant_of-self-in-Err-Memory
invariant_of-self-in-Err-Memory g c =
    let d = g.D.Disk.shown c.args.disk.now in let e = g.D.Disk.shown c.make.new.disk in
    let p = c.self.inside.pool in let xs = c.self.inside.volumes in let q = c.make.new.pool in let ys = c.make.new.volumes in
    let fresh = subst (λ (k : Session). IsNone k.failed) (sym c.self.view_is) c.requires.fresh in (
      λ none. fit_unmade d p e q c.make.ensures.leaves xs ys c.in-Err-Memory.ensures.same (c.self.invariant.0 fresh) (c.self.invariant.2 fresh),
      λ none. c.make.ensures.sum,
      λ none. set_unmade d p e q c.make.ensures.leaves xs ys c.in-Err-Memory.ensures.same (c.self.invariant.0 fresh) (c.self.invariant.2 fresh),
    )

pub returns-in-Ok : goal.returns-in-Ok
returns-in-Ok g c =
    let d = g.D.Disk.shown c.args.disk.now in let e = g.D.Disk.shown c.make.new.disk in
    let fresh = subst (λ (k : Session). IsNone k.failed) (sym c.self.view_is) c.requires.fresh in
    let was = c.self.invariant.0 fresh in
    record {
      added = mirror_added d _ c.args.self.now c.self.view_is e c.make.new.pool c.make.new.volumes c.make.ensures.leaves c.make.ensures.stands c.args.name.now c.args.size c.args.kind c.args.admitted c.args.room
          c.in-Ok.ensures.mirrored c.requires.room fresh was (c.self.invariant.2 fresh) c.known_slots.ensures c.known_map.ensures (record { faults = c.in-Ok.ensures.cause; write_faults = c.in-Ok.ensures.write_cause });
      leaves = leaves_copied d _ c.args.self.now c.self.view_is e c.make.new.pool c.make.new.volumes c.make.ensures.leaves c.make.ensures.stands _ _;
    }

pub returns-in-Err-DiskFault : goal.returns-in-Err-DiskFault
returns-in-Err-DiskFault g c =
    let d = g.D.Disk.shown c.args.disk.now in let e = g.D.Disk.shown c.make.new.disk in
    let fresh = subst (λ (k : Session). IsNone k.failed) (sym c.self.view_is) c.requires.fresh in
    record {
      added = none_added d _ c.args.self.now c.self.view_is e c.make.new.pool c.make.new.volumes c.make.ensures.leaves c.make.ensures.stands c.args.admitted c.args.room
          c.in-Err-DiskFault.ensures.same c.failure-self-inside.result DiskFault (c.self.invariant.0 fresh) (c.self.invariant.2 fresh) c.known_slots.ensures c.known_map.ensures (
            rose_by d e (rw c.in-Err-DiskFault.field-0-is at c.in-Err-DiskFault.ensures.cause) (rw c.in-Err-DiskFault.field-0-is at c.in-Err-DiskFault.ensures.write_cause),
            record {
              by_write = λ rose. c.failure-self-inside.ensures.failed (subst (λ (n : ℕ). Rose n e.write_faults) (sym c.write_faults-before.ensures) rose);
              by_read = λ calm. c.failure-self-inside.ensures.goes_on (λ rose. calm (subst (λ (n : ℕ). Rose n e.write_faults) c.write_faults-before.ensures rose));
            },
          );
      leaves = leaves_copied d _ c.args.self.now c.self.view_is e c.make.new.pool c.make.new.volumes c.make.ensures.leaves c.make.ensures.stands _ _;
    }

pub returns-in-Err-Damaged : goal.returns-in-Err-Damaged
returns-in-Err-Damaged g c =
    let d = g.D.Disk.shown c.args.disk.now in let e = g.D.Disk.shown c.make.new.disk in let arm = c.in-Err-Damaged in
    let fresh = subst (λ (k : Session). IsNone k.failed) (sym c.self.view_is) c.requires.fresh in
    record {
      added = none_added d _ c.args.self.now c.self.view_is e c.make.new.pool c.make.new.volumes c.make.ensures.leaves c.make.ensures.stands c.args.admitted c.args.room
          arm.ensures.same c.self.inside.failed (Damaged arm.at arm.want arm.found) (c.self.invariant.0 fresh) (c.self.invariant.2 fresh) c.known_slots.ensures c.known_map.ensures (
            (λ can. rw arm.field-0-is at (arm.ensures.enough (subst (λ (s : Session). CanCopy d s.volumes s.pool c.args.admitted) (sym c.self.view_is) can))),
            (record { faults = rw arm.field-0-is at arm.ensures.cause; write_faults = rw arm.field-0-is at arm.ensures.write_cause }, fresh),
          );
      leaves = leaves_copied d _ c.args.self.now c.self.view_is e c.make.new.pool c.make.new.volumes c.make.ensures.leaves c.make.ensures.stands _ _;
    }

pub returns-in-Err-Memory : goal.returns-in-Err-Memory
returns-in-Err-Memory g c =
    let d = g.D.Disk.shown c.args.disk.now in let e = g.D.Disk.shown c.make.new.disk in let arm = c.in-Err-Memory in
    let fresh = subst (λ (k : Session). IsNone k.failed) (sym c.self.view_is) c.requires.fresh in
    record {
      added = none_added d _ c.args.self.now c.self.view_is e c.make.new.pool c.make.new.volumes c.make.ensures.leaves c.make.ensures.stands c.args.admitted c.args.room
          arm.ensures.same c.self.inside.failed Memory (c.self.invariant.0 fresh) (c.self.invariant.2 fresh) c.known_slots.ensures c.known_map.ensures
          (record { faults = rw arm.field-0-is at arm.ensures.cause; write_faults = rw arm.field-0-is at arm.ensures.write_cause }, fresh);
      leaves = leaves_copied d _ c.args.self.now c.self.view_is e c.make.new.pool c.make.new.volumes c.make.ensures.leaves c.make.ensures.stands _ _;
    }

pub known_map-requires : goal.known_map-requires
known_map-requires g c =
    let fresh = subst (λ (k : Session). IsNone k.failed) (sym c.self.view_is) c.requires.fresh in
    let was = c.self.invariant.0 fresh in
    inside_slots c.args.self.now.volumes c.args.self.now.pool c.args.name.now c.args.size c.args.kind c.args.admitted c.requires.admitted
    (subst (λ (k : Session). (s : ℕ) → IfSome (state_at k.volumes s) (IsLabelled s)) c.self.view_is was.housed.volumes)
