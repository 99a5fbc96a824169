-- The copying of a mirror, as the session has it behind it: the mirror was added, or none was, and nothing but free blocks was written.
use Rattle.std.proofs.Common.{◌≡◌, ◌<◌, ◌≤◌, ◌+◌, ℕ, List, Option, ap, subst, inl, ⊎_elim, arith}
use Rattle.std.specs.Prelude.{IfSome, IsNone}
use Rattle.std.proofs.lemmas.Bool.{cases_lt}
use Rattle.fv_disk.specs.Shown.{Rose, Shown}
use Rattle.fv_model.specs.declared.commands.Kind.{Kind}
use Rattle.fv_model.specs.Space.{overhead}
use Rattle.fv_container.specs.Chains.{IsSlots, Slots, container_at, own_entry}
use Rattle.fv_store.specs.Held.{StandsOn}
use Rattle.fv_pool.specs.declared.pool.Pool.{Pool}
use Rattle.fv_volmap.specs.Slots.{IsVolume}
use Rattle.fv_volume.specs.States.{States, state_at}
use Rattle.fv_mirror.specs.declared.admitting.Admitted.{Admitted}
use Rattle.fv_mirror.specs.Making.{IsMirrored, IsUnmade, LeavesOthers}
use Rattle.fv_cp.specs.Lent.{FitTogether}
use Rattle.fv_aggregate.specs.declared.fault.Fault.{Fault}
use Rattle.fv_aggregate.specs.declared.session.Session.{Session}
use Rattle.fv_aggregate.specs.Calls.{RoseOnDisk, SameCounts}
use Rattle.fv_aggregate.specs.Mirroring.{HasNoMirrorCause, IsMirrorAdded, IsNoneAdded, LeavesCopies}
use Rattle.fv_aggregate.specs.Parts.{AreSet}
use Rattle.fv_aggregate.proofs.MirroredVolume.{fit_now, set_now, set_unmade}

-- a call of the disk failed
pub rose_by : (before after : Shown) → Rose before.faults after.faults → before.write_faults ≤ after.write_faults → RoseOnDisk before after
rose_by before after rose never = record {
  faults = rose;
  write_faults = λ calm. ⊎_elim
      (λ (up : before.write_faults < after.write_faults). absurd (calm (inl up)))
      (λ (no_more : after.write_faults ≤ before.write_faults). omega (arith, no_more, never))
      (cases_lt before.write_faults after.write_faults);
}

module _ (disk : Shown) (was old : Session) (same : was ≡ old) (after : Shown) (pool : Pool) (volumes : States) (leaves : LeavesOthers disk was.pool after pool) (cache : StandsOn after pool.store.pairs) where
  pub leaves_copied : (n : ℕ) (o : Option ℕ) → LeavesCopies disk old after (record was { volumes = volumes; pool = pool; pending = n; failed = o })
  leaves_copied n o = record {
    others = subst (λ (s : Session). LeavesOthers disk s.pool after pool) same leaves;
    cache = cache;
    delays = ap (λ (s : Session). s.delays) same;
  }

  -- none was added
  pub none_added : (a : Admitted) (room : ℕ) (unmade : IsUnmade was.volumes was.pool volumes pool) (o : Option ℕ) (e : Fault) → FitTogether was.pool was.volumes → AreSet was.pool was.volumes → IsSlots was.pool.containers → IfSome (state_at was.volumes a.source.parent) (λ y. IsVolume y.map)
      → HasNoMirrorCause disk old a after (record was { volumes = volumes; pool = pool; failed = o }) e → IsNoneAdded disk old a room after (record was { volumes = volumes; pool = pool; failed = o }) e
  none_added a room unmade o e fit set few maps cause =
      let there : IsUnmade old.volumes old.pool volumes pool = subst (λ (s : Session). IsUnmade s.volumes s.pool volumes pool) same unmade in
      let pending : was.pending ≡ old.pending = ap (λ (s : Session). s.pending) same in
      record {
        cause = cause;
        fit = subst (λ (s : Session). FitTogether s.pool s.volumes) same fit;
        few = subst (λ (s : Session). IsSlots s.pool.containers) same few;
        maps = subst (λ (s : Session). IfSome (state_at s.volumes a.source.parent) (λ y. IsVolume y.map)) same maps;
        same = λ alive. there;
        set_now = λ alive. set_unmade disk was.pool after pool leaves was.volumes volumes unmade fit set;
        pending = λ alive. pending;
        entries = λ s some v. inl (ap (λ (c : Slots). own_entry (container_at c s) v) there.containers);
        most = omega (arith, pending);
      }

  -- the mirror was added
  pub mirror_added : (name : List ℕ) (size : ℕ) (kind : Kind) (a : Admitted) (room : ℕ) → IsMirrored disk was.volumes was.pool name size kind a after volumes pool → room ≡ overhead a.span + a.count
      → IsNone was.failed → FitTogether was.pool was.volumes → AreSet was.pool was.volumes → IsSlots was.pool.containers → IfSome (state_at was.volumes a.source.parent) (λ y. IsVolume y.map) → SameCounts disk after
      → IsMirrorAdded disk old name size kind a room after (record was { volumes = volumes; pool = pool; pending = was.pending + room })
  mirror_added name size kind a room made room_is fresh fit set few maps counts = record {
    mirrored = subst (λ (s : Session). IsMirrored disk s.volumes s.pool name size kind a after volumes pool) same made;
    room_is = room_is;
    fit = subst (λ (s : Session). FitTogether s.pool s.volumes) same fit;
    few = subst (λ (s : Session). IsSlots s.pool.containers) same few;
    maps = subst (λ (s : Session). IfSome (state_at s.volumes a.source.parent) (λ y. IsVolume y.map)) same maps;
    fit_now = fit_now disk was.volumes was.pool name size kind a after volumes pool made fit.housed few leaves fit;
    set_now = set_now disk was.volumes was.pool name size kind a after volumes pool made fit.housed few leaves fit.range.size set;
    counts = counts;
    goes_on = fresh;
    pending = ap (λ (s : Session). s.pending + room) same;
  }
