-- The steps of a call that makes a mirror: it makes room, copies, and makes the disk settled. At the end of each step it does what a maker of a
-- mirror may do.
use Rattle.std.proofs.Common.{◌≡◌, ◌≢◌, ◌≤◌, ◌<◌, ◌+◌, ◌⊎◌, inl, inr, ⊎_elim, ℕ, List, Option, Some, None, Result, Ok, Err, true≢false, refl, sym, ap, subst, ◌∙◌, arith}
use Rattle.std.specs.Prelude.{IfSome, IsNone, IsSome, IsTrue}
use Rattle.std.proofs.lemmas.Bool.{cases_eq, cases_lt}
use Rattle.fv_disk.specs.Shown.{Image, IsDisk, Rose, Shown}
use Rattle.fv_disk.specs.Crash.{Leaves}
use Rattle.fv_disk.specs.Sparing.{LeftBefore}
use Rattle.fv_disk.proofs.Moments.{started, then, weaken}
use Rattle.fv_aggmap.specs.Space.{Space}
use Rattle.fv_container.specs.Chains.{own_entry}
use Rattle.fv_container.specs.Mapped.{Mapped}
use Rattle.fv_model.specs.declared.answers.Reply.{Reply}
use Rattle.fv_model.specs.declared.answers.Reply.TheVariants.{Done}
use Rattle.fv_model.specs.declared.commands.Kind.{Kind}
use Rattle.fv_model.specs.Machines.{Machine}
use Rattle.fv_root.specs.declared.find.Found.{Found}
use Rattle.fv_root.specs.Commits.{IsFoundOn}
use Rattle.fv_volume.specs.declared.state.VolumeState.{VolumeState}
use Rattle.fv_volume.specs.States.{States, state_at}
use Rattle.fv_volume.specs.Writing.{IsTaken}
use Rattle.fv_volumes.specs.UnderRoot.{IsMapOf}
use Rattle.fv_mirror.specs.declared.admitting.Admitted.{Admitted}
use Rattle.fv_mirror.specs.Making.{CanCopy, IsUnmade}
use Rattle.fv_cp.specs.Placing.{HaveNoFiles}
use Rattle.fv_aggregate.specs.declared.fault.Fault.{Fault}
use Rattle.fv_aggregate.specs.declared.fault.Fault.TheVariants.{DiskFault, Damaged, Memory, Failed}
use Rattle.fv_aggregate.specs.declared.session.Session.{Session}
use Rattle.fv_aggregate.specs.Adding.{IsPointed}
use Rattle.fv_aggregate.specs.Calls.{GoesFor, HasFault, HasWritten, IsNoDamage, MakesNoHoles, Runs}
use Rattle.fv_aggregate.specs.Causes.{KeepsEnds}
use Rattle.fv_aggregate.specs.Commands.{AsksNothing}
use Rattle.fv_aggregate.specs.Known.{KeepsNumbers, KnowsNumbers}
use Rattle.fv_aggregate.specs.Mirroring.{HasMirrorFault, HasNoMirrorCause, IsMirrorAdded, IsNoneAdded, LeavesCopies, MakesMirror, WritesFree, WritesLittle}
use Rattle.fv_aggregate.specs.Parts.{AreSet}
use Rattle.fv_aggregate.specs.Reclaiming.{HasMadeRoom}
use Rattle.fv_aggregate.specs.Standing.{OneOf, StandsFor, StandsReady}
use Rattle.fv_aggregate.proofs.Added.{unmade_for}
use Rattle.fv_aggregate.proofs.Holes.{kept_entries, no_holes}
use Rattle.fv_aggregate.proofs.Keeping.{keeps_none, keeps_with}
use Rattle.fv_aggregate.proofs.MirroredBehind.{could_copy, pointed_behind}
use Rattle.fv_aggregate.proofs.MirroredDisk.{found_free, free_moments, map_over, writes_free}
use Rattle.fv_aggregate.proofs.MirroredVolume.{container_elsewhere, others_stay, row_long, there_now}
use Rattle.fv_aggregate.proofs.Ready.{set_ready}
use Rattle.fv_aggregate.proofs.Roots.{keeps_earlier}
use Rattle.fv_aggregate.proofs.Standing.{earlier_moments}

-- nothing was written
pub writes_none : (disk : Shown) → IsDisk disk → (map : Space) → WritesFree map disk disk
writes_none disk laws map = record {
  ends = record { tells = refl; given = refl; ends = refl };
  reads = λ tells b taken. refl;
  images = λ c now. (c, now, λ b taken. refl);
  any_moment = started disk (λ c g. LeftBefore (IsTaken map) disk c × (g ≡ disk.given)) laws (λ c now. ((c, now, λ b taken. refl), refl));
}

never_failed : (o : Option ℕ) (n : ℕ) → IsNone o → o ≡ Some n → ⊥
never_failed o n none some = cc

-- ---- what was added beside the others

module _ (disk : Shown) (session : Session) (name : List ℕ) (size : ℕ) (kind : Kind) (a : Admitted) (room : ℕ) (after : Shown) (new : Session) (added : IsMirrorAdded disk session name size kind a room after new) where
  other_slot : (s : ℕ) → IsSome (state_at session.volumes s) → s ≢ a.slot
  other_slot s some e = none (state_at session.volumes a.slot) added.mirrored.admits.free.free (subst (λ (n : ℕ). IsSome (state_at session.volumes n)) e some)
    where
      none : (o : Option VolumeState) → o ≡ None → IsSome o → ⊥
      none o is some = true≢false (sym (subst IsSome is some))

  pub mirror_entries : MakesNoHoles session new
  mirror_entries s some v = inl (ap (λ (c : Option Mapped). own_entry c v)
      (container_elsewhere disk session.volumes session.pool name size kind a after new.volumes new.pool added.mirrored added.fit.housed added.few s (other_slot s some)))

  pub mirror_numbers : KeepsNumbers session.volumes new.volumes
  mirror_numbers = subst (KeepsNumbers session.volumes) (sym added.mirrored.row)
      (keeps_none session.volumes _ (keeps_with (λ s. ⊥) session.volumes a.slot (Some added.mirrored.state)
      (row_long disk session.volumes session.pool name size kind a after new.volumes new.pool added.mirrored added.fit.housed added.few)
      (λ known stays. absurd (subst KnowsNumbers added.mirrored.admits.free.free known))))

  pub mirror_files : HaveNoFiles session.volumes → HaveNoFiles new.volumes
  mirror_files none s = ⊎_elim
      (λ (e : s ≡ a.slot). subst (λ (k : ℕ). IfSome (state_at new.volumes k) (λ x. x.files ≡ None)) (sym e)
      (subst (λ (o : Option VolumeState). IfSome o (λ x. x.files ≡ None)) (sym (there_now disk session.volumes session.pool name size kind a after new.volumes new.pool added.mirrored added.fit.housed added.few)) added.mirrored.is.rests.files))
      (λ (other : s ≢ a.slot). subst (λ (o : Option VolumeState). IfSome o (λ x. x.files ≡ None))
      (sym (others_stay disk session.volumes session.pool name size kind a after new.volumes new.pool added.mirrored added.fit.housed added.few s other)) (none s))
      (cases_eq s a.slot)

-- ---- the steps

-- the answer, and the room, as a call says them
pub said : {D : Type 0} (shown : D → Shown) (before : D) (old : Session) (after : D) (new : Session) (room want : ℕ) (a : Admitted) (next : Machine → Machine) (result r : Result Reply Fault) → room ≡ want → result ≡ r
    → MakesMirror shown room a next before old after new r → MakesMirror shown want a next before old after new result
said shown before old after new room want a next result r same answers makes =
    subst (λ (k : ℕ). MakesMirror shown k a next before old after new result) same (subst (λ (x : Result Reply Fault). MakesMirror shown room a next before old after new x) (sym answers) makes)

module _ {D : Type 0} (shown : D → Shown) (before : D) (laws : IsDisk (shown before)) (old : Session) (fresh : IsNone old.failed) (mid : D) (session : Session) (room : ℕ) (a : Admitted) (next : Machine → Machine)
    (calm : old.pending + room ≤ 256 → (mid ≡ before) × (session ≡ old)) where
  -- no room could be made
  little : (after : Shown) → HasWritten room AsksNothing (shown before) old after → WritesLittle room (shown before) old after
  little after (inl reads) = inl reads
  little after (inr (inl past)) = inr (inl past)
  little after (inr (inr copies)) = absurd copies.0

  room_fault : (f : Fault) → HasFault room AsksNothing (shown before) old (shown mid) session f → HasMirrorFault room a (shown before) old (shown mid) session f
  room_fault DiskFault row = row
  room_fault (Damaged at wanted found) row = record { reason = inl row.reason; counts = row.counts; session = row.session; disk = little (shown mid) row.disk }
  room_fault Memory row = record { reason = row.reason; counts = row.counts; session = row.session; disk = little (shown mid) row.disk }
  room_fault (Failed faults) row = absurd (never_failed old.failed faults fresh row.reason)

  pub unroomed : (f : Fault) → Runs {T = Unit {0}} room AsksNothing (λ m. m) (shown before) old (shown mid) session (Err f) → MakesMirror shown room a next before old mid session (Err f)
  unroomed f made = record {
    ends = made.goes.ends;
    stands = made.goes.stands;
    done = tt;
    fault = room_fault f made.goes.fault;
    pending = made.goes.pending;
    numbers = made.numbers;
    goes_for = λ tells last m stands. unmade_for (shown before) old (shown mid) session room last m (next m) f (made.goes_for tells last m stands);
    pointed = λ past. tt;
    roomy = λ tells last m stands some past. tt;
    free = λ few. subst (λ (d : D). WritesFree old.pool.map (shown before) (shown d)) (sym (calm few).0) (writes_none (shown before) laws old.pool.map);
    entries = λ few. subst (λ (s : Session). MakesNoHoles old s) (sym (calm few).1) (no_holes old old (kept_entries old old refl));
    unmade = λ few alive. subst (λ (s : Session). IsUnmade old.volumes old.pool s.volumes s.pool) (sym (calm few).1) (record { states = refl; map = refl; containers = refl });
    files = λ none. tt;
  }

  module _ (made : Runs {T = Unit {0}} room AsksNothing (λ m. m) (shown before) old (shown mid) session (Ok tt)) (less : session.pending ≤ old.pending) (after : D) (new : Session) (leaves : LeavesCopies (shown mid) session (shown after) new) where
    ends : KeepsEnds (shown before) (shown after)
    ends = record {
      tells = leaves.others.tells ∙ made.goes.ends.tells;
      given = leaves.others.given tt ∙ made.goes.ends.given;
      ends = leaves.others.ends tt ∙ made.goes.ends.ends;
    }

    stood : StandsReady (shown mid) session
    stood = made.goes.stands made.goes.done.goes_on

    free : WritesFree session.pool.map (shown mid) (shown after)
    free = writes_free (shown mid) session.pool (shown after) new.pool leaves.others

    first_free : old.pending + room ≤ 256 → WritesFree old.pool.map (shown before) (shown after)
    first_free few = subst (λ (s : Session). WritesFree s.pool.map (shown before) (shown after)) (calm few).1 (subst (λ (x : D). WritesFree session.pool.map (shown x) (shown after)) (calm few).0 free)

    stands_on : AreSet new.pool new.volumes → StandsReady (shown after) new
    stands_on set = record {
      stands = record {
        found = λ tells. let told = subst IsTrue leaves.others.tells tells in
            subst (IsFoundOn (shown after)) (sym leaves.others.found) (found_free (shown mid) (shown after) session.pool.map session.pool.found free told (stood.stands.found told));
        map = λ tells. let told = subst IsTrue leaves.others.tells tells in
            subst (λ (f : Found). IsMapOf (shown after).reads f new.pool.map) (sym leaves.others.found)
            (map_over (shown mid) (shown after) session.pool.map session.pool.found free told (stood.stands.found told) (stood.stands.map told) new.pool.map leaves.others.committed);
        cache = leaves.cache;
      };
      ready = set_ready (shown after) new.pool new.volumes leaves.cache set;
    }

    -- at each moment
    from_point : (last point m n : Machine) (c : Image) → (point ≡ last) ⊎ (point ≡ m) → OneOf point m n c → OneOf last m n c
    from_point last point m n c one (inl is) = ⊎_elim (λ (e : point ≡ last). inl (is ∙ ap (λ (k : Machine). Some k) e)) (λ (e : point ≡ m). inr (inl (is ∙ ap (λ (k : Machine). Some k) e))) one
    from_point last point m n c one (inr rest) = inr rest

    moments : (last m : Machine) → GoesFor {T = Unit {0}} (shown before) last m m (shown mid) session (Ok tt) → Leaves (shown before) (shown after) (λ c g. OneOf last m (next m) c × (g ≡ (shown before).given))
    moments last m goes =
        let stands = goes.done in
        (then) (shown before) (shown mid) (shown after) (λ c g. OneOf last m (next m) c × (g ≡ (shown before).given))
        (earlier_moments (shown before) (shown mid) last m (next m) (shown before).given goes.any_moment)
        (weaken (shown mid) (shown after) (λ c g. OneOf stands.point m (next m) c × (g ≡ (shown mid).given)) (λ c g. OneOf last m (next m) c × (g ≡ (shown before).given))
        (λ c g is. (from_point last stands.point m (next m) c stands.one is.0, is.1 ∙ made.goes.ends.given))
        (free_moments (shown mid) session.pool session.volumes stands.point stands.stands.held (shown after) free m (next m)))

    -- ---- none was added

    wrote : WritesLittle room (shown before) old (shown after)
    wrote = ⊎_elim (λ (past : 256 < old.pending + room). inr (inl past)) (λ (low : old.pending + room ≤ 256). inr (inr (first_free low))) (cases_lt 256 (old.pending + room))

    none_fault : (f : Fault) → IsNoneAdded (shown mid) session a room (shown after) new f → (256 < old.pending + room → IsPointed (shown before) old session) → HasMirrorFault room a (shown before) old (shown after) new f
    none_fault DiskFault none left =
        let cause = none.cause in
        let counts = made.goes.done.counts in
        record {
          reason = fresh;
          counts = record {
            faults = subst (λ (n : ℕ). Rose n (shown after).faults) counts.faults cause.0.faults;
            write_faults = λ few. cause.0.write_faults (λ rose. few (subst (λ (n : ℕ). Rose n (shown after).write_faults) counts.write_faults rose)) ∙ counts.write_faults;
          };
          session = record {
            by_write = λ rose. cause.1.by_write (subst (λ (n : ℕ). Rose n (shown after).write_faults) (sym counts.write_faults) rose);
            by_read = λ few. cause.1.by_read (λ rose. few (subst (λ (n : ℕ). Rose n (shown after).write_faults) counts.write_faults rose));
          };
          disk = tt;
        }
    none_fault (Damaged at want found) none left =
        let cause = none.cause in
        let counts = made.goes.done.counts in
        let unmade = none.same cause.1.1 in
        record {
          reason = inr (⊎_elim
              (λ (past : 256 < old.pending + room). inr (record {
                past = past;
                left = pointed_behind (shown before) old (shown mid) session (shown after) new ends.tells leaves unmade (none.pending cause.1.1) (left past);
                not = λ can. cause.0 (could_copy (shown mid) session.pool (shown after) new.pool leaves.others session.volumes new.volumes unmade a can);
              }))
              (λ (low : old.pending + room ≤ 256). inl (λ can. cause.0 (subst (λ (s : Session). CanCopy (shown mid) s.volumes s.pool a) (sym (calm low).1) (subst (λ (x : D). CanCopy (shown x) old.volumes old.pool a) (sym (calm low).0) can))))
              (cases_lt 256 (old.pending + room)));
          counts = record { faults = cause.1.0.faults ∙ counts.faults; write_faults = cause.1.0.write_faults ∙ counts.write_faults };
          session = cause.1.1;
          disk = wrote;
        }
    none_fault Memory none left =
        let cause = none.cause in
        let counts = made.goes.done.counts in
        record {
          reason = fresh;
          counts = record { faults = cause.0.faults ∙ counts.faults; write_faults = cause.0.write_faults ∙ counts.write_faults };
          session = cause.1;
          disk = wrote;
        }
    none_fault (Failed faults) none left = absurd none.cause

    none_whole : (f : Fault) → CanCopy (shown mid) session.volumes session.pool a → HasNoMirrorCause (shown mid) session a (shown after) new f → IsNoDamage f
    none_whole DiskFault can cause = tt
    none_whole (Damaged at want found) can cause = absurd (cause.0 can)
    none_whole Memory can cause = tt
    none_whole (Failed faults) can cause = tt

    -- What is asked of the copying where the session stands for a machine: what is copied is whole, and where none was added it stands for that still.
    pub unmirrored : (f : Fault) → IsNoneAdded (shown mid) session a room (shown after) new f
        → ((point m : Machine) → IsTrue (shown before).tells → (last : Machine) → StandsFor (shown before) old last m → StandsFor (shown mid) session point m → CanCopy (shown mid) session.volumes session.pool a)
        → ((point m : Machine) → IsTrue (shown before).tells → StandsFor (shown mid) session point m → IsNone new.failed → StandsFor (shown after) new point m)
        → (256 < old.pending + room → IsPointed (shown before) old session)
        → MakesMirror shown room a next before old after new (Err f)
    unmirrored f none can still left = record {
      ends = ends;
      stands = λ alive. stands_on (none.set_now alive);
      done = tt;
      fault = none_fault f none left;
      pending = omega (arith, none.most, less);
      numbers = λ alive s known. subst (λ (xs : States). KnowsNumbers (state_at xs s)) (sym (none.same alive).states) (made.numbers made.goes.done.goes_on s known);
      goes_for = λ tells last m stands.
          let goes = made.goes_for tells last m stands in record {
            any_moment = moments last m goes;
            done = tt;
            still = λ alive. record { point = goes.done.point; one = goes.done.one; stands = still goes.done.point m tells goes.done.stands alive };
            whole = none_whole f (can goes.done.point m tells last stands goes.done.stands) none.cause;
          };
      pointed = λ past. tt;
      roomy = λ tells last m stands some past. tt;
      free = first_free;
      entries = λ few. subst (λ (s : Session). MakesNoHoles s new) (calm few).1 none.entries;
      unmade = λ few alive. subst (λ (s : Session). IsUnmade s.volumes s.pool new.volumes new.pool) (calm few).1 (none.same alive);
      files = λ nothing. tt;
    }

    -- ---- the mirror was added

    module _ (name : List ℕ) (size : ℕ) (kind : Kind) (added : IsMirrorAdded (shown mid) session name size kind a room (shown after) new) (left : 256 < old.pending + room → IsPointed (shown before) old session) where
      no_files : HaveNoFiles old.volumes → HaveNoFiles session.volumes
      no_files none = ⊎_elim
          (λ (past : 256 < old.pending + room). (left past).none)
          (λ (low : old.pending + room ≤ 256). subst (λ (s : Session). HaveNoFiles s.volumes) (sym (calm low).1) none)
          (cases_lt 256 (old.pending + room))

      pub mirrored : (IsTrue (shown before).tells → (last m : Machine) → StandsFor (shown before) old last m → (point : Machine) → StandsFor (shown mid) session point m → StandsFor (shown after) new point (next m))
          → (IsTrue (shown before).tells → (last m : Machine) → StandsFor (shown before) old last m → 256 < old.pending + room → HasMadeRoom room old (shown after) m)
          → MakesMirror shown room a next before old after new (Ok Done)
      mirrored becomes behind = record {
        ends = ends;
        stands = λ alive. stands_on added.set_now;
        done = record {
          was = made.goes.done.was;
          goes_on = added.goes_on;
          counts = record { faults = added.counts.faults ∙ made.goes.done.counts.faults; write_faults = added.counts.write_faults ∙ made.goes.done.counts.write_faults };
          root = λ tells. keeps_earlier old session new (made.goes.done.root tells) leaves.others.found;
        };
        fault = tt;
        pending = omega (arith, added.pending, less);
        numbers = λ alive s known. mirror_numbers (shown mid) session name size kind a room (shown after) new added s (made.numbers made.goes.done.goes_on s known);
        goes_for = λ tells last m stands.
            let goes = made.goes_for tells last m stands in record {
              any_moment = moments last m goes;
              done = record { point = goes.done.point; one = goes.done.one; stands = becomes tells last m stands goes.done.point goes.done.stands };
              still = λ alive. tt;
              whole = tt;
            };
        pointed = λ past. record { mid = session; pointed = left past; found = leaves.others.found };
        roomy = λ tells last m stands some past accepted. behind tells last m stands past;
        free = first_free;
        entries = λ few. subst (λ (s : Session). MakesNoHoles s new) (calm few).1 (mirror_entries (shown mid) session name size kind a room (shown after) new added);
        unmade = λ few alive. tt;
        files = λ none. mirror_files (shown mid) session name size kind a room (shown after) new added (no_files none);
      }
