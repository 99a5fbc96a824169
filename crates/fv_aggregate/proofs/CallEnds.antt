-- How a call of a session ends that only read the disk, whatever it changed in memory, and one that goes on from another.
use Rattle.std.proofs.Common.{◌≡◌, ◌<◌, ◌≤◌, ◌+◌, ◌⊎◌, ℕ, List, Option, Some, None, Result, Ok, Err, refl, sym, ap, subst, ◌∙◌, inl, inr, ⊎_elim, arith, false, Bool}
use Rattle.std.specs.Prelude.{IsNone, IsTrue, OnOk}
use Rattle.fv_disk.specs.Shown.{Image, Shown, IsDisk, Rose}
use Rattle.fv_disk.specs.Crash.{Leaves}
use Rattle.fv_disk.specs.DiskCalls.{OnlyReads}
use Rattle.fv_disk.proofs.Moments.{goes_on, then, weaken}
use Rattle.fv_disk.proofs.Resting.{reads_then}
use Rattle.fv_model.specs.Machines.{Machine}
use Rattle.fv_image.specs.WholeMachine.{machine_of}
use Rattle.fv_aggregate.specs.declared.fault.Fault.{Fault}
use Rattle.fv_aggregate.specs.declared.fault.Fault.TheVariants.{DiskFault, Damaged, Memory, Failed}
use Rattle.fv_aggregate.specs.declared.session.Session.{Session}
use Rattle.fv_aggregate.specs.Calls.{Goes, GoesFor, HasDamage, HasFault, HasWritten, IsNoDamage, KeepsRoot, SameCounts}
use Rattle.fv_aggregate.specs.Causes.{KeepsEnds}
use Rattle.fv_aggregate.specs.Commands.{dirty_limit, Asked, AsksCopy, AsksTable}
use Rattle.fv_aggregate.specs.Standing.{OneOf, StandsAfter, StandsFor, StandsReady}
use Rattle.fv_aggregate.proofs.Damages.{damage_cell, damage_more}
use Rattle.fv_aggregate.proofs.Roots.{keeps_later}
use Rattle.fv_aggregate.proofs.Standing.{earlier_moments, rests_for_last, stands_for_last, stays_for}

-- ---- the disk was only read

module _ (d e : Shown) (laws : IsDisk d) (s left : Session) (room : ℕ) (reads : OnlyReads d e) (fresh : IsNone s.failed) (still : IsNone left.failed) (stands : StandsReady e left) where
  ends : KeepsEnds d e
  ends = record { tells = reads.stays.tells; given = reads.given; ends = reads.ends }

  pub goes_done : {T : Type 0} {asked : Asked} (x : T) → e.faults ≡ d.faults → left.pending ≤ s.pending + room → (IsTrue d.tells → left.pool.found ≡ s.pool.found) → Goes room asked d s e left (Ok x)
  goes_done x calm few same = record {
    ends = ends;
    stands = λ none. stands;
    done = record { was = fresh; goes_on = still; counts = record { faults = calm; write_faults = reads.write_faults }; root = λ tells. inl (same tells) };
    fault = tt;
    pending = few;
  }

  pub goes_wanting : {T : Type 0} {asked : Asked} → e.faults ≡ d.faults → left.pending ≤ s.pending + room → Goes {T = T} room asked d s e left (Err Memory)
  goes_wanting calm few = record {
    ends = ends;
    stands = λ none. stands;
    done = tt;
    fault = record { reason = fresh; counts = record { faults = calm; write_faults = reads.write_faults }; session = still; disk = inl reads };
    pending = few;
  }

  pub goes_damaged : {T : Type 0} {asked : Asked} (at want found : ℕ) → e.faults ≡ d.faults → HasDamage room asked d s e left at want found → left.pending ≤ s.pending + room → Goes {T = T} room asked d s e left (Err (Damaged at want found))
  goes_damaged at want found calm damage few = record {
    ends = ends;
    stands = λ none. stands;
    done = tt;
    fault = record { reason = damage; counts = record { faults = calm; write_faults = reads.write_faults }; session = still; disk = inl reads };
    pending = few;
  }

  -- what a crash leaves at each moment of it
  moments : (last m next : Machine) → StandsFor d s last m → Leaves d e (λ c g. OneOf last m next c × (g ≡ d.given))
  moments last m next is = goes_on d d e (λ c g. OneOf last m next c × (g ≡ d.given)) (rests_for_last d s last m next laws is) reads.time
      (λ c now. (inl (stands_for_last d s.pool s.volumes last is.held c (reads.stays.no_more c now)), reads.given))

  pub goes_for_done : {T : Type 0} (x : T) (last m next : Machine) → StandsFor d s last m → StandsFor e left last next → GoesFor d last m next e left (Ok x)
  goes_for_done x last m next was is = record {
    any_moment = moments last m next was;
    done = record { point = last; one = inl refl; stands = is };
    still = λ none. tt;
    whole = tt;
  }

  pub goes_for_fault : {T : Type 0} (fault : Fault) (last m next : Machine) → IsNoDamage fault → StandsFor d s last m → StandsFor e left last m → GoesFor {T = T} d last m next e left (Err fault)
  goes_for_fault fault last m next whole was is = record {
    any_moment = moments last m next was;
    done = tt;
    still = λ none. stays_for e left last m is;
    whole = whole;
  }

  -- a read failed: the session goes on, but where the count of failed writes stands at its greatest value
  module _ (o : Option ℕ) where
    abbrev pub broken : Session
    broken = record left { failed = o }

    same_none : (a b : Option ℕ) → IsNone a → IsNone b → a ≡ b
    same_none None None x y = refl
    same_none None (Some n) x y = cc
    same_none (Some n) b x y = cc

    as_left : IsNone o → left ≡ broken
    as_left none = ap (λ (f : Option ℕ). record left { failed = f }) (same_none left.failed o still none)

    pub goes_broken : {T : Type 0} {asked : Asked} → Rose d.faults e.faults → (Rose e.write_faults e.write_faults → o ≡ Some e.faults) → (¬ Rose e.write_faults e.write_faults → IsNone o) → left.pending ≤ s.pending + room → Goes {T = T} room asked d s e broken (Err DiskFault)
    goes_broken rose written unwritten few = record {
      ends = ends;
      stands = λ none. subst (StandsReady e) (as_left none) stands;
      done = tt;
      fault = record {
        reason = fresh;
        counts = record { faults = rose; write_faults = λ calm. reads.write_faults };
        session = record {
          by_write = λ is. written (subst (λ (n : ℕ). Rose n e.write_faults) (sym reads.write_faults) is);
          by_read = λ isnt. unwritten (λ is. isnt (subst (λ (n : ℕ). Rose n e.write_faults) reads.write_faults is));
        };
        disk = tt;
      };
      pending = few;
    }

    pub goes_for_broken : {T : Type 0} (last m next : Machine) → StandsFor d s last m → StandsFor e left last m → GoesFor {T = T} d last m next e broken (Err DiskFault)
    goes_for_broken last m next was is = record {
      any_moment = moments last m next was;
      done = tt;
      still = λ none. subst (λ (x : Session). StandsAfter e x last m m) (as_left none) (stays_for e left last m is);
      whole = tt;
    }

-- ---- one call after another

-- a call may add more
wider_written : (asked : Asked) (room : ℕ) (d : Shown) (s : Session) (e : Shown) → HasWritten 0 asked d s e → HasWritten room asked d s e
wider_written asked room d s e (inl read) = inl read
wider_written asked room d s e (inr (inl past)) = inr (inl (omega (arith, past)))
wider_written asked room d s e (inr (inr copies)) = inr (inr copies)

wider : (asked : Asked) (room : ℕ) (d : Shown) (s : Session) (e : Shown) (n : Session) (f : Fault) → HasFault 0 asked d s e n f → HasFault room asked d s e n f
wider asked room d s e n DiskFault row = row
wider asked room d s e n (Damaged at want found) row = record {
  reason = damage_more asked 0 room (omega arith) d s e n at want found row.reason;
  counts = row.counts;
  session = row.session;
  disk = wider_written asked room d s e row.disk;
}
wider asked room d s e n Memory row = record {
  reason = row.reason;
  counts = row.counts;
  session = row.session;
  disk = wider_written asked room d s e row.disk;
}
wider asked room d s e n (Failed faults) row = row

pub goes_wider : {T U : Type 0} (asked : Asked) (room : ℕ) (d : Shown) (s : Session) (e : Shown) (n : Session) (f : Fault) → Goes {T = T} 0 asked d s e n (Err f) → Goes {T = U} room asked d s e n (Err f)
goes_wider asked room d s e n f goes = record { ends = goes.ends; stands = goes.stands; done = tt; fault = wider asked room d s e n f goes.fault; pending = omega (arith, goes.pending) }

-- a call that asks for a table may read a cell in it too
cell_written : (slot : ℕ) (snapshot : Option (List ℕ)) (room : ℕ) (cell : Bool) (d : Shown) (s : Session) (e : Shown) → HasWritten room (AsksTable slot snapshot false) d s e → HasWritten room (AsksTable slot snapshot cell) d s e
cell_written slot snapshot room cell d s e (inl read) = inl read
cell_written slot snapshot room cell d s e (inr (inl past)) = inr (inl past)
cell_written slot snapshot room cell d s e (inr (inr copies)) = absurd copies.0

cell_fault : (slot : ℕ) (snapshot : Option (List ℕ)) (room : ℕ) (cell : Bool) (d : Shown) (s : Session) (e : Shown) (n : Session) (f : Fault) → HasFault room (AsksTable slot snapshot false) d s e n f → HasFault room (AsksTable slot snapshot cell) d s e n f
cell_fault slot snapshot room cell d s e n DiskFault row = row
cell_fault slot snapshot room cell d s e n (Damaged at want found) row = record {
  reason = damage_cell slot snapshot room cell d s e n at want found row.reason;
  counts = row.counts;
  session = row.session;
  disk = cell_written slot snapshot room cell d s e row.disk;
}
cell_fault slot snapshot room cell d s e n Memory row = record {
  reason = row.reason;
  counts = row.counts;
  session = row.session;
  disk = cell_written slot snapshot room cell d s e row.disk;
}
cell_fault slot snapshot room cell d s e n (Failed faults) row = row

pub goes_cell : {T U : Type 0} (slot : ℕ) (snapshot : Option (List ℕ)) (room : ℕ) (cell : Bool) (d : Shown) (s : Session) (e : Shown) (n : Session) (f : Fault) → Goes {T = T} room (AsksTable slot snapshot false) d s e n (Err f) → Goes {T = U} room (AsksTable slot snapshot cell) d s e n (Err f)
goes_cell slot snapshot room cell d s e n f goes = record { ends = goes.ends; stands = goes.stands; done = tt; fault = cell_fault slot snapshot room cell d s e n f goes.fault; pending = goes.pending }

pub replies_wider : {T U : Type 0} {asked : Asked} (x : T) (y : U) (room : ℕ) (d : Shown) (s : Session) (e : Shown) (n : Session) → Goes 0 asked d s e n (Ok x) → Goes room asked d s e n (Ok y)
replies_wider x y room d s e n goes = record { ends = goes.ends; stands = goes.stands; done = goes.done; fault = tt; pending = omega (arith, goes.pending) }

module _ {T : Type 0} {earlier : Asked} (x : T) (first second : ℕ) (d : Shown) (s : Session) (e : Shown) (n : Session) (goes : Goes first earlier d s e n (Ok x)) (less : n.pending ≤ s.pending) where
  counts_on : (g : Shown) → SameCounts e g → SameCounts d g
  counts_on g counts = record { faults = counts.faults ∙ goes.done.counts.faults; write_faults = counts.write_faults ∙ goes.done.counts.write_faults }

  -- nothing was written in either, or room was made
  abbrev CanWrite : Asked → Shown → Session → Shown → Type 0
  CanWrite asked before old after = HasWritten second asked before old after

  -- what is damaged in a call that comes after, where it ends so, is damaged for both
  abbrev pub DamagesBoth : {U : Type 0} → Asked → Asked → Shown → Session → Result U Fault → Type 0
  DamagesBoth part asked g new r = (at want found : ℕ) → r ≡ Err (Damaged at want found) → HasDamage second part e n g new at want found → HasDamage second asked d s g new at want found

  faults_on : (U : Type 0) (part asked : Asked) (g : Shown) (new : Session) (f : Fault) → (CanWrite part e n g → CanWrite asked d s g) → DamagesBoth {U = U} part asked g new (Err f) → HasFault second part e n g new f → HasFault second asked d s g new f
  faults_on U part asked g new DiskFault written damage row =
      let same = goes.done.counts in
      record {
        reason = goes.done.was;
        counts = record {
          faults = subst (λ (k : ℕ). Rose k g.faults) same.faults row.counts.faults;
          write_faults = λ calm. row.counts.write_faults (λ rose. calm (subst (λ (k : ℕ). Rose k g.write_faults) same.write_faults rose)) ∙ same.write_faults;
        };
        session = record {
          by_write = λ rose. row.session.by_write (subst (λ (k : ℕ). Rose k g.write_faults) (sym same.write_faults) rose);
          by_read = λ calm. row.session.by_read (λ rose. calm (subst (λ (k : ℕ). Rose k g.write_faults) same.write_faults rose));
        };
        disk = tt;
      }
  faults_on U part asked g new (Damaged at want found) written damage row = record { reason = damage at want found refl row.reason; counts = counts_on g row.counts; session = row.session; disk = written row.disk }
  faults_on U part asked g new Memory written damage row = record { reason = goes.done.was; counts = counts_on g row.counts; session = row.session; disk = written row.disk }
  faults_on U part asked g new (Failed faults) written damage row = absurd (both n.failed goes.done.goes_on row.reason)
    where
      both : (o : Option ℕ) → IsNone o → o ≡ Some faults → ⊥
      both o none some = cc

  ends_on : (g : Shown) → KeepsEnds e g → KeepsEnds d g
  ends_on g ends = record { tells = ends.tells ∙ goes.ends.tells; given = ends.given ∙ goes.ends.given; ends = ends.ends ∙ goes.ends.ends }

  -- at most one point was made in both
  abbrev pub KeepsRootBoth : {U : Type 0} → Session → Result U Fault → Type 0
  KeepsRootBoth new r = OnOk r (IsTrue d.tells → KeepsRoot s new)

  -- none in the first
  root_later : {U : Type 0} (part : Asked) (g : Shown) (new : Session) (r : Result U Fault) → n.pool.found ≡ s.pool.found → Goes second part e n g new r → KeepsRootBoth new r
  root_later part g new (Ok y) same next = λ tells. keeps_later s n new same (next.done.root (subst IsTrue (sym goes.ends.tells) tells))
  root_later part g new (Err f) same next = tt

  -- A call that comes after one that added nothing.
  goes_both : {U : Type 0} (part asked : Asked) (g : Shown) (new : Session) (r : Result U Fault) → (CanWrite part e n g → CanWrite asked d s g) → DamagesBoth part asked g new r → KeepsRootBoth new r → Goes second part e n g new r → Goes second asked d s g new r
  goes_both part asked g new (Ok y) written damage root next = record {
    ends = ends_on g next.ends;
    stands = next.stands;
    done = record { was = goes.done.was; goes_on = next.done.goes_on; counts = counts_on g next.done.counts; root = root };
    fault = tt;
    pending = omega (arith, less, next.pending);
  }
  goes_both part asked g new (Err f) written damage root next = record {
    ends = ends_on g next.ends;
    stands = next.stands;
    done = tt;
    fault = faults_on _ part asked g new f written damage next.fault;
    pending = omega (arith, less, next.pending);
  }

  -- so it is with room that passes the dirty limit
  pub goes_after : {U : Type 0} (part asked : Asked) (g : Shown) (new : Session) (r : Result U Fault) → dirty_limit < s.pending + second → DamagesBoth part asked g new r → KeepsRootBoth new r → Goes second part e n g new r → Goes second asked d s g new r
  goes_after part asked g new r past damage root next = goes_both part asked g new r (λ _. inr (inl past)) damage root next

  -- and after one that only read
  pub goes_on_read : {U : Type 0} (part asked : Asked) (g : Shown) (new : Session) (r : Result U Fault) → (AsksCopy part → ⊥) → OnlyReads d e → n.pending ≡ s.pending → n.pool.found ≡ s.pool.found → DamagesBoth part asked g new r → Goes second part e n g new r → Goes second asked d s g new r
  goes_on_read part asked g new r never reads same found damage next = goes_both part asked g new r written damage (root_later part g new r found next) next
    where
      written : CanWrite part e n g → CanWrite asked d s g
      written (inl read) = inl (reads_then d e g reads read)
      written (inr (inl past)) = inr (inl (omega (arith, past, same)))
      written (inr (inr copies)) = absurd (never copies.0)

-- ---- for the machines that the session stands for

pub fails_early : {T U : Type 0} (d : Shown) (last m next : Machine) (e : Shown) (n : Session) (f : Fault) → GoesFor {T = T} d last m m e n (Err f) → GoesFor {T = U} d last m next e n (Err f)
fails_early d last m next e n f goes = record {
  any_moment = earlier_moments d e last m next d.given goes.any_moment;
  done = tt;
  still = goes.still;
  whole = goes.whole;
}

-- a call after one that left the machine, from the point that this one left
module _ {T : Type 0} (x : T) (d e g : Shown) (n new : Session) (last m next : Machine) (first : GoesFor d last m m e n (Ok x)) (given : e.given ≡ d.given) where
  abbrev point : Machine
  point = first.done.point

  later : (c : Image) (b : List ℕ) → OneOf point m next c × (b ≡ e.given) → OneOf last m next c × (b ≡ d.given)
  later c b one = (⊎_elim (λ old. at_point first.done.one old) (λ rest. inr rest) one.0, one.1 ∙ given)
    where
      at_point : (point ≡ last) ⊎ (point ≡ m) → machine_of c ≡ Some point → OneOf last m next c
      at_point (inl same) is = inl (is ∙ ap (λ (k : Machine). Some k) same)
      at_point (inr same) is = inr (inl (is ∙ ap (λ (k : Machine). Some k) same))

  both_moments : Leaves e g (λ c b. OneOf point m next c × (b ≡ e.given)) → Leaves d g (λ c b. OneOf last m next c × (b ≡ d.given))
  both_moments second = then d e g (λ c b. OneOf last m next c × (b ≡ d.given)) (earlier_moments d e last m next d.given first.any_moment)
      (weaken e g (λ c b. OneOf point m next c × (b ≡ e.given)) (λ c b. OneOf last m next c × (b ≡ d.given)) later second)

  after_both : (now : Machine) → StandsAfter g new point m now → StandsAfter g new last m now
  after_both now is = record { point = is.point; one = ⊎_elim (λ same. at same first.done.one) (λ same. inr same) is.one; stands = is.stands }
    where
      at : is.point ≡ point → (point ≡ last) ⊎ (point ≡ m) → (is.point ≡ last) ⊎ (is.point ≡ m)
      at same (inl old) = inl (same ∙ old)
      at same (inr now) = inr (same ∙ now)

  pub goes_for_after : {U : Type 0} (r : Result U Fault) → GoesFor e point m next g new r → GoesFor d last m next g new r
  goes_for_after (Ok y) second = record {
    any_moment = both_moments second.any_moment;
    done = after_both next second.done;
    still = λ none. tt;
    whole = tt;
  }
  goes_for_after (Err f) second = record {
    any_moment = both_moments second.any_moment;
    done = tt;
    still = λ none. after_both m (second.still none);
    whole = second.whole;
  }
