use Rattle.std.proofs.Common.{◌∙◌, ℕ, length, Err, inl, inr, refl, sym, ap, subst}
use Rattle.std.specs.Prelude.{IsNone}
use Rattle.fv_disk.specs.Shown.{Rose}
use Rattle.fv_pool.specs.declared.fault.VolumeFault.TheVariants.{DiskFault}
use Rattle.fv_volume.specs.Slots.{sum_of}
use Rattle.fv_volume.specs.States.{States}
use Rattle.fv_cp.specs.Points.{IsNextRoot}
use Rattle.fv_cp.specs.Settling.{IsNoDamage, WholeCounts}
use Rattle.fv_aggregate.specs.declared.session.Session.{Session}
use Rattle.fv_aggregate.specs.Standing.{StandsFor}
use Rattle.fv_aggregate.proofs.Commits.{commits_kept}
use Rattle.fv_aggregate.proofs.Keeping.{keeps_core}
use Rattle.fv_aggregate.proofs.PointEnds.{done_asks, fails_as, has_full_room, point_done, point_is, point_lacks, point_moments, point_sides, point_wanting, pointed_left, room_pointed, stands_pointed, stayed, still_as, still_asks, still_for, still_unpointed, still_wants}
use Rattle.fv_aggregate.proofs.LeftShown.{todo_at_rest}
use Rattle.fv_aggregate.proofs.PathShown.{tables_pointed}
use Rattle.fv_aggregate.proofs.PointLeft.{left_pointed}
use Rattle.fv_aggregate.proofs.PointFaults.{broken_asks, broken_for, broken_goes, broken_kept, broken_numbers, broken_stays, broken_unpointed}
use Rattle.fv_aggregate.proofs.Pointed.{entries_behind}
use Rattle.fv_aggregate.proofs.Ready.{ready_set}
use Rattle.fv_aggregate.proofs.session.Session.point.Goals as goal

pub returns-in-Ok-clause-goes : goal.returns-in-Ok-clause-goes
returns-in-Ok-clause-goes g c =
    let e = c.in-Ok.ensures in
    point_done (g.D.Disk.shown c.args.disk.now) c.args.self.now (g.D.Disk.shown c.full_point.new.disk) _ c.requires.fresh (subst (λ (s : Session). IsNone s.failed) (sym c.self.view_is) c.requires.fresh)
    refl e.counts c.self.inside.pool c.self.inside.volumes (ap (λ (s : Session). s.pool) c.self.view_is) e.goes_on

pub returns-in-Ok-clause-asks : goal.returns-in-Ok-clause-asks
returns-in-Ok-clause-asks g c =
    done_asks (g.D.Disk.shown c.args.disk.now) c.args.self.now (g.D.Disk.shown c.full_point.new.disk) (record { volumes = c.full_point.new.volumes; pool = c.full_point.new.pool; delays = c.full_point.new.delays; pending = 0; failed = c.self.inside.failed })
    c.self.inside.pool c.self.inside.volumes refl c.in-Ok.ensures.goes_on

pub returns-in-Ok-clause-goes_for : goal.returns-in-Ok-clause-goes_for
returns-in-Ok-clause-goes_for g c = λ tells last m stands.
    let e = c.in-Ok.ensures in
    record {
      any_moment = point_moments (g.D.Disk.shown c.args.disk.now) (g.D.Disk.shown c.full_point.new.disk) _ _ c.self.view_is (e.any_moment tells) last m stands;
      done = record {
        point = m;
        one = inr refl;
        stands = stands_pointed (g.D.Disk.shown c.args.disk.now) (g.D.Disk.shown c.full_point.new.disk) _ _ c.self.view_is c.args.want c.full_point.new.pool c.full_point.new.volumes c.full_point.new.delays
            (e.point tells) (e.goes_on.loaded tells) last m stands e.goes_on.fit.housed.long e.goes_on.none;
      };
      still = λ none. tt;
      whole = tt;
    }

pub returns-in-Ok-clause-room : goal.returns-in-Ok-clause-room
returns-in-Ok-clause-room g c = λ tells last m stands fits.
    room_pointed (g.D.Disk.shown c.args.disk.now) (g.D.Disk.shown c.full_point.new.disk) _ _ c.self.view_is c.args.want c.full_point.new.pool c.full_point.new.volumes c.full_point.new.delays
    (c.in-Ok.ensures.point tells) (c.in-Ok.ensures.goes_on.loaded tells) last m stands fits

-- what is left to do is what there was
pub returns-in-Ok-clause-left : goal.returns-in-Ok-clause-left
returns-in-Ok-clause-left g c = λ tells last m stands bare.
    let e = c.in-Ok.ensures in
    let fresh = subst (λ (s : Session). IsNone s.failed) (sym c.self.view_is) c.requires.fresh in
    let point = point_is (g.D.Disk.shown c.args.disk.now) (g.D.Disk.shown c.full_point.new.disk) _ _ c.self.view_is c.args.want c.full_point.new.pool c.full_point.new.volumes c.full_point.new.delays
    (e.point tells) (e.goes_on.loaded tells) last m stands in
    left_pointed (g.D.Disk.shown c.args.disk.now) (g.D.Disk.shown c.full_point.new.disk) _ _ c.self.view_is c.args.want c.full_point.new.pool c.full_point.new.volumes c.full_point.new.delays
    point e.goes_on (c.self.invariant.0 fresh) last m stands bare

-- the active tables stay
pub returns-in-Ok-clause-tables : goal.returns-in-Ok-clause-tables
returns-in-Ok-clause-tables g c = λ tells last m stands bare.
    let e = c.in-Ok.ensures in
    let fresh = subst (λ (s : Session). IsNone s.failed) (sym c.self.view_is) c.requires.fresh in
    let point = point_is (g.D.Disk.shown c.args.disk.now) (g.D.Disk.shown c.full_point.new.disk) _ _ c.self.view_is c.args.want c.full_point.new.pool c.full_point.new.volumes c.full_point.new.delays
    (e.point tells) (e.goes_on.loaded tells) last m stands in
    tables_pointed (g.D.Disk.shown c.args.disk.now) (g.D.Disk.shown c.full_point.new.disk) _ _ c.self.view_is c.args.want c.full_point.new.pool c.full_point.new.volumes c.full_point.new.delays
    point e.goes_on (c.self.invariant.0 fresh) last m stands bare

-- and what the image shows
pub returns-in-Ok-clause-shown : goal.returns-in-Ok-clause-shown
returns-in-Ok-clause-shown g c = λ tells last m stands.
    let e = c.in-Ok.ensures in
    let stood = stands_pointed (g.D.Disk.shown c.args.disk.now) (g.D.Disk.shown c.full_point.new.disk) _ _ c.self.view_is c.args.want c.full_point.new.pool c.full_point.new.volumes c.full_point.new.delays
    (e.point tells) (e.goes_on.loaded tells) last m stands e.goes_on.fit.housed.long e.goes_on.none in
    todo_at_rest (g.D.Disk.shown c.full_point.new.disk) _ m m stood e.goes_on.fit e.goes_on.unchanged e.goes_on.free e.goes_on.unkept e.goes_on.none

pub returns-in-Err-DiskFault : goal.returns-in-Err-DiskFault
returns-in-Err-DiskFault g c =
    let d = g.D.Disk.shown c.args.disk.now in
    let e = g.D.Disk.shown c.full_point.new.disk in
    let s = c.args.self.now in
    let fresh = subst (λ (k : Session). IsNone k.failed) (sym c.self.view_is) c.requires.fresh in
    let long = ap (λ (k : Session). length k.volumes) (sym c.self.view_is) ∙ (c.self.invariant.0 fresh).housed.long in
    let counts : WholeCounts d e (Err DiskFault) = rw c.in-Err-DiskFault.field-0-is at c.in-Err-DiskFault.ensures.counts in
    let stays = broken_stays d _ s c.self.view_is e c.full_point.new.pool c.full_point.new.volumes c.full_point.new.delays c.in-Err-DiskFault.ensures.delays c.failure-self-inside.result c.requires.fresh
    (λ rose. c.failure-self-inside.ensures.failed (subst (λ (n : ℕ). Rose n e.write_faults) (sym c.write_faults-before.ensures) rose))
    (still_as d c.self.inside.pool c.self.inside.volumes e c.full_point.new.pool c.full_point.new.volumes _ DiskFault c.in-Err-DiskFault.field-0-is c.in-Err-DiskFault.ensures.still) in
    record {
      goes = broken_goes d s e _ stays c.requires.fresh c.requires.stands counts
          (record {
            by_write = λ rose. c.failure-self-inside.ensures.failed (subst (λ (n : ℕ). Rose n e.write_faults) (sym c.write_faults-before.ensures) rose);
            by_read = λ calm. c.failure-self-inside.ensures.goes_on (λ rose. calm (subst (λ (n : ℕ). Rose n e.write_faults) c.write_faults-before.ensures rose));
          })
          (ap (λ (k : Session). k.pending) c.self.view_is);
      asks = broken_asks d s e _ stays;
      damage = tt;
      goes_for = λ tells last m stands. broken_for d s e _ stays last m long stands (point_moments d e _ _ c.self.view_is (c.in-Err-DiskFault.ensures.any_moment tells) last m stands);
      numbers = broken_numbers d s e _ stays;
      points = record {
        point = λ tells last m stands. tt;
        sides = λ tells. point_sides d e _ _ c.self.view_is (c.in-Err-DiskFault.ensures.any_moment tells);
        left = tt;
        undone = broken_unpointed d s e _ stays;
      };
      kept = λ tells last m stands. broken_kept d s e _ stays last m long stands;
      room = λ tells last m stands fits. tt;
      left = λ tells last m stands bare. tt;
      tables = λ tells last m stands bare. tt;
      shown = λ tells last m stands. tt;
    }

pub invariant_of-self-in-Err-DiskFault : goal.invariant_of-self-in-Err-DiskFault
invariant_of-self-in-Err-DiskFault g c =
    let d = g.D.Disk.shown c.args.disk.now in
    let e = g.D.Disk.shown c.full_point.new.disk in
    let s = c.args.self.now in
    let fresh = subst (λ (k : Session). IsNone k.failed) (sym c.self.view_is) c.requires.fresh in
    let stays = broken_stays d _ s c.self.view_is e c.full_point.new.pool c.full_point.new.volumes c.full_point.new.delays c.in-Err-DiskFault.ensures.delays c.failure-self-inside.result c.requires.fresh
    (λ rose. c.failure-self-inside.ensures.failed (subst (λ (n : ℕ). Rose n e.write_faults) (sym c.write_faults-before.ensures) rose))
    (still_as d c.self.inside.pool c.self.inside.volumes e c.full_point.new.pool c.full_point.new.volumes _ DiskFault c.in-Err-DiskFault.field-0-is c.in-Err-DiskFault.ensures.still) in (
      λ none. (stays none).still.placed.fit,
      λ none. c.self.invariant.1 fresh ∙ ap (λ (k : Session). sum_of k.volumes) c.self.view_is ∙ sym (commits_kept s.volumes c.full_point.new.volumes (stays none).still.placed.cores),
      λ none. ready_set e c.full_point.new.pool c.full_point.new.volumes (stays none).still.ready,
    )

pub invariant_of-self : goal.invariant_of-self
invariant_of-self g c = (
  λ fresh. c.in-Ok.ensures.goes_on.fit,
  λ fresh. c.self.invariant.1 fresh ∙ sym (commits_kept c.self.inside.volumes c.full_point.new.volumes c.in-Ok.ensures.goes_on.cores),
  λ fresh. ready_set (g.D.Disk.shown c.full_point.new.disk) c.full_point.new.pool c.full_point.new.volumes c.in-Ok.ensures.goes_on.ready,
)

pub invariant_of-self-in-Err-Damaged : goal.invariant_of-self-in-Err-Damaged
invariant_of-self-in-Err-Damaged g c = (
  λ fresh.
      let e = c.in-Err-Damaged in
      (still_as (g.D.Disk.shown c.args.disk.now) c.self.inside.pool c.self.inside.volumes (g.D.Disk.shown c.full_point.new.disk) c.full_point.new.pool c.full_point.new.volumes _ _ e.field-0-is e.ensures.still).placed.fit,
  λ fresh. c.self.invariant.1 fresh ∙ sym (commits_kept c.self.inside.volumes c.full_point.new.volumes (still_as (g.D.Disk.shown c.args.disk.now) c.self.inside.pool c.self.inside.volumes (g.D.Disk.shown c.full_point.new.disk) c.full_point.new.pool c.full_point.new.volumes _ _ c.in-Err-Damaged.field-0-is c.in-Err-Damaged.ensures.still).placed.cores),
  λ fresh.
      let e = c.in-Err-Damaged in
      ready_set (g.D.Disk.shown c.full_point.new.disk) c.full_point.new.pool c.full_point.new.volumes
      (still_as (g.D.Disk.shown c.args.disk.now) c.self.inside.pool c.self.inside.volumes (g.D.Disk.shown c.full_point.new.disk) c.full_point.new.pool c.full_point.new.volumes _ _ e.field-0-is e.ensures.still).ready,
)

pub invariant_of-self-in-Err-Memory : goal.invariant_of-self-in-Err-Memory
invariant_of-self-in-Err-Memory g c = (
  λ fresh.
      let e = c.in-Err-Memory in
      (still_as (g.D.Disk.shown c.args.disk.now) c.self.inside.pool c.self.inside.volumes (g.D.Disk.shown c.full_point.new.disk) c.full_point.new.pool c.full_point.new.volumes _ _ e.field-0-is e.ensures.still).placed.fit,
  λ fresh. c.self.invariant.1 fresh ∙ sym (commits_kept c.self.inside.volumes c.full_point.new.volumes (still_as (g.D.Disk.shown c.args.disk.now) c.self.inside.pool c.self.inside.volumes (g.D.Disk.shown c.full_point.new.disk) c.full_point.new.pool c.full_point.new.volumes _ _ c.in-Err-Memory.field-0-is c.in-Err-Memory.ensures.still).placed.cores),
  λ fresh.
      let e = c.in-Err-Memory in
      ready_set (g.D.Disk.shown c.full_point.new.disk) c.full_point.new.pool c.full_point.new.volumes
      (still_as (g.D.Disk.shown c.args.disk.now) c.self.inside.pool c.self.inside.volumes (g.D.Disk.shown c.full_point.new.disk) c.full_point.new.pool c.full_point.new.volumes _ _ e.field-0-is e.ensures.still).ready,
)

pub returns-in-Err-Damaged-clause-goes : goal.returns-in-Err-Damaged-clause-goes
returns-in-Err-Damaged-clause-goes g c =
    let e = c.in-Err-Damaged in
    point_lacks (g.D.Disk.shown c.args.disk.now) c.args.self.now (g.D.Disk.shown c.full_point.new.disk) _
    (stayed (g.D.Disk.shown c.args.disk.now) _ c.args.self.now c.self.view_is (g.D.Disk.shown c.full_point.new.disk) c.full_point.new.pool c.full_point.new.volumes c.full_point.new.delays e.ensures.delays _ _ e.field-0-is e.ensures.still (λ is. is))
    e.at e.want e.found c.requires.fresh c.requires.stands (rw e.field-0-is at e.ensures.counts) (fails_as (g.D.Disk.shown c.args.disk.now) _ _ c.self.view_is (g.D.Disk.shown c.full_point.new.disk) c.full_point.new.pool c.full_point.new.volumes _ _ e.field-0-is e.ensures.fails)

pub returns-in-Err-Damaged-clause-damage : goal.returns-in-Err-Damaged-clause-damage
returns-in-Err-Damaged-clause-damage g c =
    let e = c.in-Err-Damaged in
    still_wants (g.D.Disk.shown c.args.disk.now) c.args.self.now (g.D.Disk.shown c.full_point.new.disk) _
    (stayed (g.D.Disk.shown c.args.disk.now) _ c.args.self.now c.self.view_is (g.D.Disk.shown c.full_point.new.disk) c.full_point.new.pool c.full_point.new.volumes c.full_point.new.delays e.ensures.delays _ _ e.field-0-is e.ensures.still (λ is. is))
    e.at e.want e.found c.requires.fresh c.requires.stands (fails_as (g.D.Disk.shown c.args.disk.now) _ _ c.self.view_is (g.D.Disk.shown c.full_point.new.disk) c.full_point.new.pool c.full_point.new.volumes _ _ e.field-0-is e.ensures.fails)

pub returns-in-Err-Damaged-clause-asks : goal.returns-in-Err-Damaged-clause-asks
returns-in-Err-Damaged-clause-asks g c = let e = c.in-Err-Damaged in
    still_asks (g.D.Disk.shown c.args.disk.now) c.args.self.now (g.D.Disk.shown c.full_point.new.disk) _
    (stayed (g.D.Disk.shown c.args.disk.now) _ c.args.self.now c.self.view_is (g.D.Disk.shown c.full_point.new.disk) c.full_point.new.pool c.full_point.new.volumes c.full_point.new.delays e.ensures.delays _ _ e.field-0-is e.ensures.still (λ is. is))

pub returns-in-Err-Damaged-clause-goes_for : goal.returns-in-Err-Damaged-clause-goes_for
returns-in-Err-Damaged-clause-goes_for g c = λ tells last m stands.
    let e = c.in-Err-Damaged in
    let old = g.D.Disk.shown c.args.disk.now in
    let stood = subst (λ (s : Session). StandsFor old s last m) (sym c.self.view_is) stands in
    let damage : ⊥ = subst IsNoDamage e.field-0-is (e.ensures.enough tells last stood.held (has_full_room old _ last m stood)) in
    absurd damage

pub returns-in-Err-Damaged-clause-kept : goal.returns-in-Err-Damaged-clause-kept
returns-in-Err-Damaged-clause-kept g c = λ tells last m stands. absurd (returns-in-Err-Damaged-clause-goes_for g c tells last m stands).whole

pub returns-in-Err-Memory-clause-goes : goal.returns-in-Err-Memory-clause-goes
returns-in-Err-Memory-clause-goes g c =
    let e = c.in-Err-Memory in
    point_wanting (g.D.Disk.shown c.args.disk.now) c.args.self.now (g.D.Disk.shown c.full_point.new.disk) _
    (stayed (g.D.Disk.shown c.args.disk.now) _ c.args.self.now c.self.view_is (g.D.Disk.shown c.full_point.new.disk) c.full_point.new.pool c.full_point.new.volumes c.full_point.new.delays e.ensures.delays _ _ e.field-0-is e.ensures.still (λ is. is))
    c.requires.fresh c.requires.stands (rw e.field-0-is at e.ensures.counts)

pub returns-in-Err-Memory-clause-asks : goal.returns-in-Err-Memory-clause-asks
returns-in-Err-Memory-clause-asks g c = let e = c.in-Err-Memory in
    still_asks (g.D.Disk.shown c.args.disk.now) c.args.self.now (g.D.Disk.shown c.full_point.new.disk) _
    (stayed (g.D.Disk.shown c.args.disk.now) _ c.args.self.now c.self.view_is (g.D.Disk.shown c.full_point.new.disk) c.full_point.new.pool c.full_point.new.volumes c.full_point.new.delays e.ensures.delays _ _ e.field-0-is e.ensures.still (λ is. is))

pub returns-in-Err-Memory-clause-kept : goal.returns-in-Err-Memory-clause-kept
returns-in-Err-Memory-clause-kept g c = λ tells last m stands fresh.
    let e = c.in-Err-Memory in
    let long = ap (λ (s : Session). length s.volumes) (sym c.self.view_is) ∙ (c.self.invariant.0 (subst (λ (s : Session). IsNone s.failed) (sym c.self.view_is) c.requires.fresh)).housed.long in
    still_for (g.D.Disk.shown c.args.disk.now) c.args.self.now (g.D.Disk.shown c.full_point.new.disk) _
    (stayed (g.D.Disk.shown c.args.disk.now) _ c.args.self.now c.self.view_is (g.D.Disk.shown c.full_point.new.disk) c.full_point.new.pool c.full_point.new.volumes c.full_point.new.delays e.ensures.delays _ _ e.field-0-is e.ensures.still (λ is. is))
    last m long stands

pub returns-in-Err-Memory-clause-goes_for : goal.returns-in-Err-Memory-clause-goes_for
returns-in-Err-Memory-clause-goes_for g c = λ tells last m stands.
    record {
      any_moment = point_moments (g.D.Disk.shown c.args.disk.now) (g.D.Disk.shown c.full_point.new.disk) _ _ c.self.view_is (c.in-Err-Memory.ensures.any_moment tells) last m stands;
      done = tt;
      still = λ fresh. record { point = last; one = inl refl; stands = returns-in-Err-Memory-clause-kept g c tells last m stands fresh };
      whole = tt;
    }

pub returns-in-Err-Damaged-clause-numbers : goal.returns-in-Err-Damaged-clause-numbers
returns-in-Err-Damaged-clause-numbers g c = λ fresh.
    let e = c.in-Err-Damaged in
    keeps_core c.args.self.now.volumes c.full_point.new.volumes (stayed (g.D.Disk.shown c.args.disk.now) _ c.args.self.now c.self.view_is (g.D.Disk.shown c.full_point.new.disk) c.full_point.new.pool c.full_point.new.volumes c.full_point.new.delays e.ensures.delays _ _ e.field-0-is e.ensures.still (λ is. is)).still.placed.cores

pub returns-in-Err-Memory-clause-numbers : goal.returns-in-Err-Memory-clause-numbers
returns-in-Err-Memory-clause-numbers g c = λ fresh.
    let e = c.in-Err-Memory in
    keeps_core c.args.self.now.volumes c.full_point.new.volumes (stayed (g.D.Disk.shown c.args.disk.now) _ c.args.self.now c.self.view_is (g.D.Disk.shown c.full_point.new.disk) c.full_point.new.pool c.full_point.new.volumes c.full_point.new.delays e.ensures.delays _ _ e.field-0-is e.ensures.still (λ is. is)).still.placed.cores

pub returns-in-Ok-clause-points : goal.returns-in-Ok-clause-points
returns-in-Ok-clause-points g c =
    let e = c.in-Ok.ensures in
    record {
      point = λ tells last m stands.
          let point = point_is (g.D.Disk.shown c.args.disk.now) (g.D.Disk.shown c.full_point.new.disk) _ _ c.self.view_is c.args.want c.full_point.new.pool c.full_point.new.volumes c.full_point.new.delays
          (e.point tells) (e.goes_on.loaded tells) last m stands in
          record {
            next = subst (λ (s : Session). IsNextRoot s.pool.found c.full_point.new.pool.found) c.self.view_is e.goes_on.next;
            stands = stands_pointed (g.D.Disk.shown c.args.disk.now) (g.D.Disk.shown c.full_point.new.disk) _ _ c.self.view_is c.args.want c.full_point.new.pool c.full_point.new.volumes c.full_point.new.delays
                (e.point tells) (e.goes_on.loaded tells) last m stands e.goes_on.fit.housed.long e.goes_on.none;
            room = point.room;
            entries = entries_behind (g.D.Disk.shown c.args.disk.now) _ _ c.self.view_is c.args.want (g.D.Disk.shown c.full_point.new.disk)
                (record { volumes = c.full_point.new.volumes; pool = c.full_point.new.pool; delays = c.full_point.new.delays; pending = 0; failed = c.self.inside.failed }) point (e.goes_on.loaded tells);
          };
      sides = λ tells. point_sides (g.D.Disk.shown c.args.disk.now) (g.D.Disk.shown c.full_point.new.disk) _ _ c.self.view_is (e.any_moment tells);
      undone = λ none. tt;
      left =
          let fresh = subst (λ (s : Session). IsNone s.failed) (sym c.self.view_is) c.requires.fresh in
          let was = ap (λ (s : Session). s.volumes) c.self.view_is in
          pointed_left (g.D.Disk.shown c.args.disk.now) c.args.self.now (g.D.Disk.shown c.full_point.new.disk) (record { volumes = c.full_point.new.volumes; pool = c.full_point.new.pool; delays = c.full_point.new.delays; pending = 0; failed = c.self.inside.failed })
          c.self.inside.pool c.self.inside.volumes refl (ap (λ (s : Session). s.pool) c.self.view_is) was (sym (ap (λ (v : States). length v) was) ∙ (c.self.invariant.0 fresh).housed.long) e.goes_on;
    }

pub returns-in-Err-Damaged-clause-points : goal.returns-in-Err-Damaged-clause-points
returns-in-Err-Damaged-clause-points g c = record {
  point = λ tells last m stands. tt;
  left = tt;
  sides = λ tells. point_sides (g.D.Disk.shown c.args.disk.now) (g.D.Disk.shown c.full_point.new.disk) _ _ c.self.view_is (c.in-Err-Damaged.ensures.any_moment tells);
  undone = λ none.
      still_unpointed (g.D.Disk.shown c.args.disk.now) c.args.self.now (g.D.Disk.shown c.full_point.new.disk) _
      (stayed (g.D.Disk.shown c.args.disk.now) _ c.args.self.now c.self.view_is (g.D.Disk.shown c.full_point.new.disk) c.full_point.new.pool c.full_point.new.volumes c.full_point.new.delays c.in-Err-Damaged.ensures.delays _ _ c.in-Err-Damaged.field-0-is c.in-Err-Damaged.ensures.still (λ is. is));
}

pub returns-in-Err-Memory-clause-points : goal.returns-in-Err-Memory-clause-points
returns-in-Err-Memory-clause-points g c = record {
  point = λ tells last m stands. tt;
  left = tt;
  sides = λ tells. point_sides (g.D.Disk.shown c.args.disk.now) (g.D.Disk.shown c.full_point.new.disk) _ _ c.self.view_is (c.in-Err-Memory.ensures.any_moment tells);
  undone = λ none.
      still_unpointed (g.D.Disk.shown c.args.disk.now) c.args.self.now (g.D.Disk.shown c.full_point.new.disk) _
      (stayed (g.D.Disk.shown c.args.disk.now) _ c.args.self.now c.self.view_is (g.D.Disk.shown c.full_point.new.disk) c.full_point.new.pool c.full_point.new.volumes c.full_point.new.delays c.in-Err-Memory.ensures.delays _ _ c.in-Err-Memory.field-0-is c.in-Err-Memory.ensures.still (λ is. is));
}
