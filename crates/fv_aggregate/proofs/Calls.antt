-- What a call of a session does, from its parts.
use Rattle.std.proofs.Common.{◌≡◌, ◌≤◌, ℕ, Option, Some, Result, Ok, Err, refl, sym, subst, inl, inr, arith}
use Rattle.std.specs.Prelude.{IsNone}
use Rattle.fv_disk.specs.Shown.{Shown}
use Rattle.fv_disk.specs.DiskCalls.{OnlyReads}
use Rattle.fv_model.specs.Machines.{Machine}
use Rattle.fv_volumes.proofs.Staying.{only_itself}
use Rattle.fv_aggregate.specs.declared.fault.Fault.{Fault}
use Rattle.fv_aggregate.specs.declared.fault.Fault.TheVariants.{DiskFault, Damaged, Memory, Failed}
use Rattle.fv_aggregate.specs.declared.session.Session.{Session}
use Rattle.fv_aggregate.specs.Calls.{Goes, GoesFor, HasDamage, HasFault, HasWritten, KeepsAsking, SameCounts}
use Rattle.fv_aggregate.specs.Causes.{KeepsEnds}
use Rattle.fv_aggregate.specs.Commands.{Asked, AsksCopy, AsksPoint}
use Rattle.fv_aggregate.specs.Damages.{PassesLimit}
use Rattle.fv_aggregate.specs.Standing.{StandsReady}
use Rattle.fv_aggregate.proofs.Asking.{asks_more}
use Rattle.fv_aggregate.proofs.Damages.{damage_point}

-- ---- a call that leaves the disk and the session

pub same_ends : (disk : Shown) → KeepsEnds disk disk
same_ends disk = record { tells = refl; given = refl; ends = refl }

pub same_counts : (disk : Shown) → SameCounts disk disk
same_counts disk = record { faults = refl; write_faults = refl }

pub reads_itself : (disk : Shown) → OnlyReads disk disk
reads_itself disk = only_itself disk

pub rests_done : {T : Type 0} {asked : Asked} (x : T) (room : ℕ) (disk : Shown) (session : Session) → IsNone session.failed → StandsReady disk session → Goes room asked disk session disk session (Ok x)
rests_done x room disk session fresh stands = record {
  ends = same_ends disk;
  stands = λ none. stands;
  done = record { was = fresh; goes_on = fresh; counts = same_counts disk; root = λ tells. inl refl };
  fault = tt;
  pending = omega arith;
}

pub rests_wanting : {T : Type 0} {asked : Asked} (room : ℕ) (disk : Shown) (session : Session) → IsNone session.failed → StandsReady disk session → Goes {T = T} room asked disk session disk session (Err Memory)
rests_wanting room disk session fresh stands = record {
  ends = same_ends disk;
  stands = λ none. stands;
  done = tt;
  fault = record { reason = fresh; counts = same_counts disk; session = fresh; disk = inl (reads_itself disk) };
  pending = omega arith;
}

pub rests_asks : (room : ℕ) (disk : Shown) (session : Session) → KeepsAsking room disk session disk session
rests_asks room disk session = λ tells kept asks none. asks_more disk session kept room asks

-- a session that failed before
pub stays_failed : {T : Type 0} {asked : Asked} (faults room : ℕ) (disk : Shown) (session : Session) → session.failed ≡ Some faults → Goes {T = T} room asked disk session disk session (Err (Failed faults))
stays_failed faults room disk session failed = record {
  ends = same_ends disk;
  stands = λ none. absurd (both session.failed none failed);
  done = tt;
  fault = record { reason = failed; counts = same_counts disk; session = refl; disk = reads_itself disk };
  pending = omega arith;
}
  where
    both : (o : Option ℕ) → IsNone o → o ≡ Some faults → ⊥
    both o none some = cc

-- ---- a call whose answer is that of another

-- the two aren't done by the same fault, or both are done
abbrev pub EndsAs : {T U : Type 0} → Result T Fault → Result U Fault → Type 0
EndsAs (Ok x) (Ok y) = Unit {0}
EndsAs (Err e) (Err f) = f ≡ e
EndsAs (Ok x) (Err f) = ⊥
EndsAs (Err e) (Ok y) = ⊥

-- what is damaged in the one is damaged in the other
abbrev pub DamagesAs : ℕ → Asked → ℕ → Asked → Shown → Session → Shown → Session → Type 0
DamagesAs least part room asked before old after new = (at want found : ℕ) → HasDamage least part before old after new at want found → HasDamage room asked before old after new at want found

-- what may be written with less room, may be with more
more_written : (least room : ℕ) (part asked : Asked) → least ≤ room → (AsksCopy part → AsksCopy asked) → (before : Shown) (old : Session) (after : Shown) → HasWritten least part before old after → HasWritten room asked before old after
more_written least room part asked le copies before old after (inl reads) = inl reads
more_written least room part asked le copies before old after (inr (inl past)) = inr (inl (omega (arith, past, le)))
more_written least room part asked le copies before old after (inr (inr written)) = inr (inr (copies written.0, written.1))

more_room : (least room : ℕ) (part asked : Asked) → least ≤ room → (AsksCopy part → AsksCopy asked) → (before : Shown) (old : Session) (after : Shown) (new : Session) (e : Fault) → DamagesAs least part room asked before old after new → HasFault least part before old after new e → HasFault room asked before old after new e
more_room least room part asked le copies before old after new DiskFault damage row = row
more_room least room part asked le copies before old after new (Damaged at want found) damage row = record {
  reason = damage at want found row.reason;
  counts = row.counts;
  session = row.session;
  disk = more_written least room part asked le copies before old after row.disk;
}
more_room least room part asked le copies before old after new (Failed faults) damage row = row
more_room least room part asked le copies before old after new Memory damage row = record {
  reason = row.reason;
  counts = row.counts;
  session = row.session;
  disk = more_written least room part asked le copies before old after row.disk;
}

pub goes_as : {T U : Type 0} (least room : ℕ) (part asked : Asked) → least ≤ room → (AsksCopy part → AsksCopy asked) → (before : Shown) (old : Session) (after : Shown) (new : Session) (r : Result T Fault) (s : Result U Fault) → EndsAs r s → DamagesAs least part room asked before old after new
    → Goes least part before old after new r → Goes room asked before old after new s
goes_as least room part asked le copies before old after new (Ok x) (Ok y) same damage goes = record {
  ends = goes.ends;
  stands = goes.stands;
  done = goes.done;
  fault = tt;
  pending = omega (arith, le, goes.pending);
}
goes_as least room part asked le copies before old after new (Err e) (Err f) same damage goes = record {
  ends = goes.ends;
  stands = goes.stands;
  done = tt;
  fault = subst (HasFault room asked before old after new) (sym same) (more_room least room part asked le copies before old after new e damage goes.fault);
  pending = omega (arith, le, goes.pending);
}
goes_as least room part asked le copies before old after new (Ok x) (Err f) same damage goes = absurd same
goes_as least room part asked le copies before old after new (Err e) (Ok y) same damage goes = absurd same

-- ---- with more room

pub asks_within : (least room : ℕ) → least ≤ room → (before : Shown) (old : Session) (after : Shown) (new : Session) → KeepsAsking least before old after new → KeepsAsking room before old after new
asks_within least room le before old after new keeps = λ tells kept asks none. let is = keeps tells kept asks none in record { asked = is.asked; pending = omega (arith, is.pending, le) }

-- a point that makes room for a call
pub goes_more : (asked : Asked) (room : ℕ) (before : Shown) (old : Session) (after : Shown) (new : Session) (r : Result (Unit {0}) Fault) → PassesLimit old.pending room → Goes 0 AsksPoint before old after new r → Goes room asked before old after new r
goes_more asked room before old after new (Ok x) past goes = goes_as 0 room AsksPoint asked (omega arith) (λ none. absurd none) before old after new (Ok x) (Ok x) tt (damage_point asked room old past before after new) goes
goes_more asked room before old after new (Err e) past goes = goes_as 0 room AsksPoint asked (omega arith) (λ none. absurd none) before old after new (Err e) (Err e) refl (damage_point asked room old past before after new) goes

-- ---- answered otherwise

-- a call that has a reply where this one was done
pub replies_done : {T : Type 0} (x : T) (room : ℕ) (asked : Asked) (before : Shown) (old : Session) (after : Shown) (new : Session) → Goes {T = Unit {0}} room asked before old after new (Ok tt) → Goes room asked before old after new (Ok x)
replies_done x room asked before old after new goes = goes_as room room asked asked (omega arith) (λ copies. copies) before old after new (Ok tt) (Ok x) tt (λ at want found is. is) goes

pub fails_alike : {T : Type 0} (e : Fault) (room : ℕ) (asked : Asked) (before : Shown) (old : Session) (after : Shown) (new : Session) → Goes {T = Unit {0}} room asked before old after new (Err e) → Goes {T = T} room asked before old after new (Err e)
fails_alike e room asked before old after new goes = goes_as room room asked asked (omega arith) (λ copies. copies) before old after new (Err e) (Err e) refl (λ at want found is. is) goes

pub replies_for : {T : Type 0} (x : T) (before : Shown) (last m next : Machine) (after : Shown) (new : Session) → GoesFor {T = Unit {0}} before last m next after new (Ok tt) → GoesFor before last m next after new (Ok x)
replies_for x before last m next after new goes = record { any_moment = goes.any_moment; done = goes.done; still = λ none. tt; whole = tt }

pub fails_for : {T : Type 0} (e : Fault) (before : Shown) (last m next : Machine) (after : Shown) (new : Session) → GoesFor {T = Unit {0}} before last m next after new (Err e) → GoesFor {T = T} before last m next after new (Err e)
fails_for e before last m next after new goes = record { any_moment = goes.any_moment; done = tt; still = goes.still; whole = goes.whole }
