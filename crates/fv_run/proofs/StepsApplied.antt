-- A line is applied that may take background steps.
use Rattle.std.proofs.Common.{◌≡◌, ◌≢◌, ◌⊎◌, ◌≤◌, ◌+◌, ℕ, List, inl, inr, Bool, true, false, true≢false, refl, sym, subst, ap, ◌∙◌, arith}
use Rattle.std.specs.Prelude.{None, Ok, Err, IsTrue, IsSome}
use Rattle.fv_disk.specs.Shown.{Shown, Ends}
use Rattle.fv_disk.specs.Crash.{Leaves}
use Rattle.fv_model.specs.declared.answers.Reply.{Reply}
use Rattle.fv_model.specs.declared.commands.Command.{Command}
use Rattle.fv_model.specs.declared.commands.Command.TheVariants.{Clean, Cp, Work}
use Rattle.fv_model.specs.Machines.{Machine}
use Rattle.fv_model.specs.Runs.{Line, Says, AllowsAt, is_cp}
use Rattle.fv_aggregate.specs.declared.fault.Fault.{Fault as SessionFault}
use Rattle.fv_aggregate.specs.declared.fault.Fault.TheVariants as session_fault
use Rattle.fv_aggregate.specs.declared.session.Session.{Session}
use Rattle.fv_aggregate.specs.Calls.{GoesFor, KeepsAsking}
use Rattle.fv_aggregate.specs.Calls as calls
use Rattle.fv_aggregate.specs.Cleaning.{GoesAs, GoesInSteps}
use Rattle.fv_aggregate.specs.Commands.{asked_by, changed_by, changes_volume, dirty_limit, is_built, machine_after, reaches_disk, reads_files, room_by, takes_steps, volume_asked, Replies}
use Rattle.fv_aggregate.specs.Reading.{IsAsRead}
use Rattle.fv_aggregate.specs.Standing.{IsWithoutFiles, OneOf, StandsAfter, StandsFor}
use Rattle.fv_run.specs.Endings.{of_session}
use Rattle.fv_run.specs.Built.{built}
use Rattle.fv_run.specs.Left.{LessByLine}
use Rattle.fv_run.specs.Probes.{PathsByLine}
use Rattle.fv_run.specs.Running.{asks_point, changes_volumes, left_by, only_asks, reads_blocks, takes, UndergoesCommand, UndergoesSaid}
use Rattle.fv_run.specs.Answering.{Applies, IsReady}
use Rattle.fv_run.proofs.Applied.{applied, unapplied}
use Rattle.fv_run.proofs.Built.{after_said, allowed_built}
use Rattle.fv_run.proofs.Courses.{stands_on}
use Rattle.fv_run.proofs.EndsKept.{counts_kept, counts_rose}
use Rattle.fv_run.proofs.Sessions.{never_failed}
use Rattle.fv_run.proofs.Unapplied.{stopped_by}

-- what holds of each command that takes steps
steps_cases : (P : Command → Type 0) → ((v : List ℕ) → P (Clean v)) → ((n : ℕ) → P (Work n)) → (c : Command) → takes_steps c ≡ true → P c
steps_cases P clean work (Clean v) is = clean v
steps_cases P clean work (Work n) is = work n
steps_cases P clean work c is = absurd cc

module _ (c : Command) (is : takes_steps c ≡ true) where
  -- it is built
  said_so : built (Says c) ≡ Says c
  unfolding is_built
  said_so = steps_cases (λ (k : Command). built (Says k) ≡ Says k) (λ v. refl) (λ n. refl) c is

  said_takes : takes (built (Says c)) ≡ true
  said_takes = ap takes said_so ∙ is

  said_other : is_cp (built (Says c)) ≡ false
  said_other = ap is_cp said_so ∙ steps_cases (λ (k : Command). is_cp (Says k) ≡ false) (λ v. refl) (λ n. refl) c is

  -- and counts as one that asks for a point, changes a volume and reads blocks
  said_point : (rooms : Command → ℕ) (pending : ℕ) → asks_point rooms pending (built (Says c)) ≡ true
  said_point rooms pending = ap (asks_point rooms pending) said_so ∙ steps_cases (λ (k : Command). asks_point rooms pending (Says k) ≡ true) (λ v. refl) (λ n. refl) c is

  said_changes : changes_volumes (built (Says c)) ≡ true
  said_changes = ap changes_volumes said_so ∙ steps_cases (λ (k : Command). changes_volumes (Says k) ≡ true) (λ v. refl) (λ n. refl) c is

  said_reads : reads_blocks (built (Says c)) ≡ true
  unfolding reads_files
  said_reads = ap reads_blocks said_so ∙ steps_cases (λ (k : Command). reads_blocks (Says k) ≡ true) (λ v. refl) (λ n. refl) c is

  said_looks : only_asks (built (Says c)) ≡ false
  said_looks = ap only_asks said_so ∙ steps_cases (λ (k : Command). only_asks (Says k) ≡ false) (λ v. refl) (λ n. refl) c is

never : (X : Type 0) (b : Bool) → b ≡ true → b ≡ false → X
never X b holds none = absurd (true≢false (sym holds ∙ none))

module _ (session new_session : Session) (line : Line) (command : Command) (old new : Shown) (says : line ≡ Says command) (ready : IsReady old session) (is : takes_steps command ≡ true) where
  -- what holds of the command's line holds of this one
  as_line : (P : Line → Type 0) → P (built (Says command)) → P (built line)
  as_line P holds = subst (λ (l : Line). P (built l)) (sym says) holds

  pending_steps : new_session.pending ≤ session.pending + dirty_limit → new_session.pending ≤ left_by (room_by session.volumes) session.pending (built line)
  pending_steps few = as_line (λ (l : Line). new_session.pending ≤ left_by (room_by session.volumes) session.pending l)
      (subst (λ (l : Line). new_session.pending ≤ left_by (room_by session.volumes) session.pending l) (sym (said_so command is)) (few_of command is))
    where
      few_of : (k : Command) → takes_steps k ≡ true → new_session.pending ≤ left_by (room_by session.volumes) session.pending (Says k)
      few_of k steps = steps_cases (λ (k : Command). new_session.pending ≤ left_by (room_by session.volumes) session.pending (Says k)) (λ v. few) (λ n. few) k steps

  -- its line asks for a point, whatever is pending
  asks : (X : Type 0) (pending : ℕ) → asks_point (room_by session.volumes) pending (built line) ≡ false → X
  asks X pending none = never X (asks_point (room_by session.volumes) pending (built line))
      (as_line (λ (l : Line). asks_point (room_by session.volumes) pending l ≡ true) (said_point command is (room_by session.volumes) pending)) none

  -- the steps were taken, or the command is refused
  pub steps_applied : (reply : Reply) → GoesInSteps {T = Reply} old session new new_session (Ok reply)
      → (IsTrue old.tells → (last m : Machine) → StandsFor old session last m → GoesFor {T = Reply} old last m (machine_after m command) new new_session (Ok reply))
      → (IsTrue old.tells → (last m : Machine) → StandsFor old session last m → Replies m command reply)
      → (IsTrue old.tells → UndergoesCommand command old.reads session new.reads new_session reply)
      → LessByLine session (built line) old new_session new (Ok reply)
      → PathsByLine session (built line) old new_session new (Ok reply)
      → Applies session (built line) old new_session new (Ok reply)
  steps_applied reply goes goes_for replies undergoes less paths = record {
    done = λ tells last m so_far. (
      as_line (λ (l : Line). AllowsAt m l reply) (allowed_built m command reply (replies tells last m so_far)),
      record {
        after = subst (λ (x : Machine). StandsAfter new new_session last m x) (after_said line command says m)
            (goes_for tells last m so_far).done;
        point = λ cp. never _ (is_cp (built line)) cp (as_line (λ (l : Line). is_cp l ≡ false) (said_other command is));
      },
    );
    any_moment = λ tells last m so_far.
        subst (λ (x : Machine). Leaves old new (λ c g. OneOf last m x c × (g ≡ old.given))) (after_said line command says m)
        (goes_for tells last m so_far).any_moment;
    still = λ tells last m so_far calm. tt;
    no_damage = λ tells last m so_far. tt;
    ready = record { unfailed = goes.done.1.0; stands = goes.stands goes.done.1.0 };
    ends = tt;
    read = looks _;
    led = λ tells. record {
      stands = stands_on new new_session (rw goes.ends.tells tells) (goes.stands goes.done.1.0);
      reply = reply;
      said = as_line (λ (l : Line). UndergoesSaid l old.reads session new.reads new_session reply)
          (subst (λ (l : Line). UndergoesSaid l old.reads session new.reads new_session reply) (sym (said_so command is)) (undergoes tells));
      root = λ once. never _ (takes (built line)) (as_line (λ (l : Line). takes l ≡ true) (said_takes command is)) once;
      read = looks _;
      files = λ same none. changes _ same;
      calm = λ none. asks _ session.pending none;
      pending = pending_steps (let within = goes.within in omega (arith, within));
    };
    asks = λ tells same room asks. changes _ same;
    given = goes.ends.given;
    left = ap (λ (e : Ends). e.left) goes.ends.ends;
    counts = counts_kept goes.ends goes.done.1.1.faults;
    writes = goes.done.1.1.write_faults;
    less = less;
    paths = paths;
    calm = λ pending few none. asks _ pending none;
  }
    where
      looks : (X : Type 0) → only_asks (built line) ≡ true → X
      looks X asks = never X (only_asks (built line)) asks (as_line (λ (l : Line). only_asks l ≡ false) (said_looks command is))

      changes : (X : Type 0) → changes_volumes (built line) ≡ false → X
      changes X none = never X (changes_volumes (built line)) (as_line (λ (l : Line). changes_volumes l ≡ true) (said_changes command is)) none

  -- they weren't, or not all of them
  pub steps_unapplied : (fault : SessionFault) → GoesInSteps {T = Reply} old session new new_session (Err fault)
      → (IsTrue old.tells → (last m : Machine) → StandsFor old session last m → GoesFor {T = Reply} old last m (machine_after m command) new new_session (Err fault))
      → Applies session (built line) old new_session new (Err (of_session fault))
  steps_unapplied session_fault.DiskFault goes goes_for =
      stopped_by session new_session line command old new says goes.ends (λ pending few none. asks _ pending none) session_fault.DiskFault goes_for
      (counts_rose goes.ends goes.fault.counts.faults) goes.fault.session.by_read tt
  steps_unapplied session_fault.Memory goes goes_for =
      stopped_by session new_session line command old new says goes.ends (λ pending few none. asks _ pending none) session_fault.Memory goes_for
      (counts_kept goes.ends goes.fault.counts.faults) (λ calm. goes.fault.session) tt
  steps_unapplied (session_fault.Damaged at want found) goes goes_for =
      stopped_by session new_session line command old new says goes.ends (λ pending few none. asks _ pending none) (session_fault.Damaged at want found)
      goes_for (counts_kept goes.ends goes.fault.counts.faults) (λ calm. goes.fault.session) (
        (new_session, (goes.stands goes.fault.session, inr (as_line (λ (l : Line). takes l ≡ true) (said_takes command is), (at, want, found, goes.fault.reason)))),
        inl (as_line (λ (l : Line). reads_blocks l ≡ true) (said_reads command is)),
      )
  steps_unapplied (session_fault.Failed faults) goes goes_for = absurd (never_failed session.failed faults ready.unfailed goes.fault.reason)

-- ---- whether it takes steps or not

module _ (session new_session : Session) (line : Line) (command : Command) (old new : Shown) (says : line ≡ Says command) (ready : IsReady old session) where
  abbrev Calm : Type 0
  Calm = command ≢ Cp → reaches_disk command ≡ false → (room_by session.volumes command ≡ 0) ⊎ (session.pending + room_by session.volumes command ≤ dirty_limit) → new.reads ≡ old.reads

  pub applied_as : (reply : Reply) → Calm → GoesAs {T = Reply} (takes_steps command) (room_by session.volumes command) (asked_by session.volumes command) old session new new_session (Ok reply)
      → (changes_volume command ≡ false → reaches_disk command ≡ false → KeepsAsking (room_by session.volumes command) old session new new_session)
      → (IsTrue old.tells → changed_by command ≡ None → reaches_disk command ≡ false → IsWithoutFiles session → IsWithoutFiles new_session)
      → (IsTrue old.tells → (last m : Machine) → StandsFor old session last m → GoesFor {T = Reply} old last m (machine_after m command) new new_session (Ok reply))
      → (IsTrue old.tells → (last m : Machine) → StandsFor old session last m → Replies m command reply)
      → (IsTrue old.tells → (last m : Machine) → StandsFor old session last m → command ≡ Cp → StandsFor new new_session m m)
      → (command ≡ Cp → new_session.pending ≡ 0)
      → (reads_files command ≡ true → IsSome (volume_asked command) → IsAsRead session new_session)
      → (IsTrue old.tells → UndergoesCommand command old.reads session new.reads new_session reply)
      → LessByLine session (built line) old new_session new (Ok reply)
      → PathsByLine session (built line) old new_session new (Ok reply)
      → Applies session (built line) old new_session new (Ok reply)
  applied_as reply calm goes keeps files goes_for replies point pointed read undergoes less paths = by (takes_steps command) refl goes
    where
      by : (steps : Bool) → takes_steps command ≡ steps → GoesAs {T = Reply} steps (room_by session.volumes command) (asked_by session.volumes command) old session new new_session (Ok reply)
          → Applies session (built line) old new_session new (Ok reply)
      by true is goes = steps_applied session new_session line command old new says ready is reply goes goes_for replies undergoes less paths
      by false is goes = applied session new_session line command old new says ready is reply calm goes keeps files goes_for replies point pointed read undergoes less paths

  pub unapplied_as : Calm → (fault : SessionFault) → GoesAs {T = Reply} (takes_steps command) (room_by session.volumes command) (asked_by session.volumes command) old session new new_session (Err fault)
      → (reads_files command ≡ false → reaches_disk command ≡ false → calls.IsForWant old session new new_session fault)
      → (IsTrue old.tells → (last m : Machine) → StandsFor old session last m → GoesFor {T = Reply} old last m (machine_after m command) new new_session (Err fault))
      → Applies session (built line) old new_session new (Err (of_session fault))
  unapplied_as calm fault goes plain goes_for = by (takes_steps command) refl goes
    where
      by : (steps : Bool) → takes_steps command ≡ steps → GoesAs {T = Reply} steps (room_by session.volumes command) (asked_by session.volumes command) old session new new_session (Err fault)
          → Applies session (built line) old new_session new (Err (of_session fault))
      by true is goes = steps_unapplied session new_session line command old new says ready is fault goes goes_for
      by false is goes = unapplied session new_session line command old new says ready calm fault goes plain goes_for
