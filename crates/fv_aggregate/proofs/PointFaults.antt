-- A consistency point in which a call of the disk failed. Where that was a write or a barrier the session has failed; where it was a read nothing was
-- written, and the session goes on.
use Rattle.std.proofs.Common.{◌≡◌, ◌⊎◌, ℕ, Bool, List, length, Option, Some, None, Err, inl, ⊎_elim, refl, ap, subst, ◌∙◌, arith}
use Rattle.std.specs.Prelude.{IsNone}
use Rattle.fv_disk.specs.Shown.{Rose, Shown}
use Rattle.fv_disk.specs.Crash.{Leaves}
use Rattle.fv_model.specs.Machines.{Machine}
use Rattle.fv_pool.specs.declared.fault.VolumeFault.TheVariants as cp
use Rattle.fv_pool.specs.declared.pool.Pool.{Pool}
use Rattle.fv_volume.specs.States.{States}
use Rattle.fv_cp.specs.Settling.{StillHeld, WholeCounts}
use Rattle.fv_aggregate.specs.declared.session.Session.{Session}
use Rattle.fv_aggregate.specs.declared.fault.Fault.TheVariants.{DiskFault}
use Rattle.fv_aggregate.specs.Calls.{FailsByWrite, Goes, GoesFor, IsUnpointed, KeepsAsking}
use Rattle.fv_aggregate.specs.Commands.{AsksPoint}
use Rattle.fv_aggregate.specs.Known.{KeepsNumbers}
use Rattle.fv_aggregate.specs.Standing.{OneOf, StandsFor, StandsReady}
use Rattle.fv_aggregate.proofs.Keeping.{keeps_core}
use Rattle.fv_aggregate.proofs.PointEnds.{both, still_asks, still_for, still_stands, still_unpointed, HasStayed}

both_none : (a b : Option ℕ) → IsNone a → IsNone b → a ≡ b
both_none None None x y = refl
both_none None (Some n) x y = cc
both_none (Some n) b x y = cc

-- Where the session goes on some files may have been placed, and its other parts stayed.
pub broken_stays : (before : Shown) (was old : Session) → was ≡ old → (after : Shown) (left : Pool) (stay : States) (delays : List Bool) → delays ≡ was.delays → (o : Option ℕ) → IsNone old.failed
    → (Rose before.write_faults after.write_faults → o ≡ Some after.faults) → Rose before.write_faults after.write_faults ⊎ StillHeld before was.pool was.volumes after left stay
    → IsNone o → HasStayed before old after (record was { pool = left; volumes = stay; delays = delays; failed = o })
broken_stays before was old same after left stay delays flags o fresh written still none = record {
  still = subst (λ (s : Session). StillHeld before s.pool s.volumes after left stay) same held;
  parts = λ j. record (same j) { pool = left; volumes = stay; delays = (flags ∙ ap (λ (s : Session). s.delays) same) j; failed = both_none o old.failed none fresh j };
}
  where
    held : StillHeld before was.pool was.volumes after left stay
    held = ⊎_elim (λ (rose : Rose before.write_faults after.write_faults). absurd (both o after.faults none (written rose))) (λ (is : StillHeld before was.pool was.volumes after left stay). is) still

module _ (before : Shown) (old : Session) (after : Shown) (new : Session) (stays : IsNone new.failed → HasStayed before old after new) where
  pub broken_goes : IsNone old.failed → StandsReady before old → WholeCounts before after (Err cp.DiskFault) → FailsByWrite before after new → new.pending ≡ old.pending → Goes {T = Unit {0}} 0 AsksPoint before old after new (Err DiskFault)
  broken_goes fresh stands counts fails same = record {
    ends = record { tells = counts.tells; given = counts.given; ends = counts.ends };
    stands = λ none. still_stands before old after new (stays none) stands;
    done = tt;
    fault = record {
      reason = fresh;
      counts = record { faults = counts.cause.0; write_faults = λ calm. ⊎_elim (λ (stayed : after.write_faults ≡ before.write_faults). stayed) (λ (rose : Rose before.write_faults after.write_faults). absurd (calm rose)) counts.cause.1 };
      session = fails;
      disk = tt;
    };
    pending = omega (arith, same);
  }

  pub broken_asks : KeepsAsking 0 before old after new
  broken_asks = λ tells kept asks none. still_asks before old after new (stays none) tells kept asks none

  pub broken_kept : (last m : Machine) → length old.volumes ≡ 64 → StandsFor before old last m → IsNone new.failed → StandsFor after new last m
  broken_kept last m long stands none = still_for before old after new (stays none) last m long stands

  pub broken_for : (last m : Machine) → length old.volumes ≡ 64 → StandsFor before old last m → Leaves before after (λ c g. OneOf last m m c × (g ≡ before.given)) → GoesFor {T = Unit {0}} before last m m after new (Err DiskFault)
  broken_for last m long stands moments = record {
    any_moment = moments;
    done = tt;
    still = λ none. record { point = last; one = inl refl; stands = broken_kept last m long stands none };
    whole = tt;
  }

  pub broken_numbers : IsNone new.failed → KeepsNumbers old.volumes new.volumes
  broken_numbers none = keeps_core old.volumes new.volumes (stays none).still.placed.cores

  pub broken_unpointed : IsNone new.failed → IsUnpointed before old after new
  broken_unpointed none = still_unpointed before old after new (stays none)
