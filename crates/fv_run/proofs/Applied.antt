-- A line is applied.
use Rattle.std.proofs.Common.{◌≡◌, ◌≢◌, ◌⊎◌, ◌≤◌, ◌+◌, ℕ, max, inl, inr, ⊎_elim, Bool, true, false, cond, [], ◌∷◌, refl, sym, subst, ap, ◌∙◌, arith}
use Rattle.std.specs.Prelude.{if◌then◌else◌, None, Result, Ok, Err, IsTrue, IsSome}
use Rattle.fv_disk.specs.Shown.{Shown, IsDisk, Ends}
use Rattle.fv_disk.specs.Crash.{Leaves}
use Rattle.fv_disk.proofs.Moments.{started}
use Rattle.fv_model.specs.declared.answers.Refusal.TheVariants.{Syntax, Range}
use Rattle.fv_model.specs.declared.answers.Reply.{Reply}
use Rattle.fv_model.specs.declared.answers.Reply.TheVariants.{Refused}
use Rattle.fv_model.specs.declared.commands.Command.{Command}
use Rattle.fv_model.specs.declared.commands.Command.TheVariants.{Cp}
use Rattle.fv_model.specs.Machines.{Machine}
use Rattle.fv_model.specs.Runs.{Line, Says, NoCommand, OutOfRange, after_line, AllowsAt, is_cp}
use Rattle.fv_script.specs.declared.fault.LineFault.TheVariants as fault
use Rattle.fv_script.specs.Reading.{reading}
use Rattle.fv_lines.proofs.Counting.{counts_none}
use Rattle.fv_aggregate.specs.declared.fault.Fault.{Fault as SessionFault}
use Rattle.fv_aggregate.specs.declared.fault.Fault.TheVariants as session_fault
use Rattle.fv_aggregate.specs.declared.session.Session.{Session}
use Rattle.fv_aggregate.specs.Calls.{Goes, GoesFor, KeepsAsking}
use Rattle.fv_aggregate.specs.Calls as calls
use Rattle.fv_aggregate.specs.Commands.{asked_by, Asked, changed_by, changes_volume, dirty_limit, is_built, machine_after, reaches_disk, reads_files, most_room, Replies, room_by, takes_steps, volume_asked, is_refusal}
use Rattle.fv_aggregate.specs.Asking.{AsksWithin}
use Rattle.fv_aggregate.specs.Damages.{HasDamage}
use Rattle.fv_aggregate.specs.Reading.{IsAsRead}
use Rattle.fv_aggregate.specs.Standing.{IsWithoutFiles, OneOf, StandsAfter, StandsFor, StandsReady}
use Rattle.fv_aggregate.proofs.Rooms.{fixed_room}
use Rattle.fv_run.specs.declared.ending.Fault.TheVariants.{Damaged}
use Rattle.fv_run.specs.Endings.{of_session}
use Rattle.fv_run.specs.Built.{built}
use Rattle.fv_run.specs.Left.{steps_of, LessByLine}
use Rattle.fv_run.specs.Probes.{PathsByLine}
use Rattle.fv_run.specs.Running.{added_by, asked_in, asks_point, changes_volumes, left_by, room_in, IsHurt, IsRoomIn, only_asks, reads_blocks, takes, UndergoesCommand, UndergoesSaid}
use Rattle.fv_run.specs.Answering.{Applies, IsReady, IsSessionFault, LacksSpace}
use Rattle.fv_run.proofs.Built.{after_cp, after_said, allowed_built, asked_built, asked_said, changes_none, changes_once, changes_said, cp_by, quiet, reaches_read, reads_said, room_built, room_said, steps_said, unbuilt_reads}
use Rattle.fv_run.proofs.EndsKept.{counts_kept, counts_rose}
use Rattle.fv_run.proofs.Rooms.{left_other}
use Rattle.fv_run.proofs.Courses.{stands_on}
use Rattle.fv_run.proofs.LeftAlong.{less_unsaid}
use Rattle.fv_run.proofs.ProbesAlong.{paths_unsaid}
use Rattle.fv_run.proofs.Sessions.{as_read_itself, hurt_by, images_stand, lacks, never_failed}
use Rattle.fv_run.proofs.Unapplied.{stopped_by}

-- ---- what a line says

pub said : (line : Line) (c : Command) → Ok c ≡ reading line → line ≡ Says c
said (Says d) c e = ap Says (same d c e)
  where
    same : (d c : Command) → Ok c ≡ reading (Says d) → d ≡ c
    same d c e = cc
said NoCommand c e = absurd cc
said OutOfRange c e = absurd cc

pub said_none : (line : Line) → Err fault.Syntax ≡ reading line → line ≡ NoCommand
said_none (Says d) e = absurd cc
said_none NoCommand e = refl
said_none OutOfRange e = absurd cc

pub said_range : (line : Line) → Err fault.Range ≡ reading line → line ≡ OutOfRange
said_range (Says d) e = absurd cc
said_range NoCommand e = absurd cc
said_range OutOfRange e = refl

-- ---- lines that say no command

no_change : (session : Session) (line : Line) (reply : Reply) (host : Shown) → IsDisk host → IsReady host session → is_cp line ≡ false
    → UndergoesSaid line host.reads session host.reads session reply → ((m : Machine) → AllowsAt m line reply) → ((m : Machine) → after_line m line ≡ m) → steps_of line ≡ 0 → ((c : Command) → line ≡ Says c → ⊥) → Applies session line host session host (Ok reply)
no_change session line reply host laws ready no_point said allowed stays no_steps none_said = record {
  done = λ tells last m stands. (
    allowed m,
    record {
      after = record { point = last; one = inl refl; stands = subst (λ (x : Machine). StandsFor host session last x) (sym (stays m)) stands };
      point = λ is. absurd (never no_point is);
    },
  );
  any_moment = λ tells last m stands. started host (λ c g. OneOf last m (after_line m line) c × (g ≡ host.given)) laws (λ c now. (inl (images_stand host session last m stands c now), refl));
  still = λ tells last m stands calm. tt;
  no_damage = λ tells last m stands. tt;
  ready = ready;
  ends = tt;
  read = λ asks. as_read_itself session;
  led = λ tells. record {
    stands = stands_on host session tells ready.stands;
    reply = reply;
    said = said;
    root = λ once. inl refl;
    read = λ asks. as_read_itself session;
    files = λ same none. none;
    calm = λ none. refl;
    pending = left_other (room_by session.volumes) line session.pending no_point;
  };
  asks = λ tells same room asks. (0, inl refl, record { asked = asks.asked; pending = omega (arith, asks.pending) });
  given = refl;
  left = refl;
  counts = counts_none host;
  writes = refl;
  less = less_unsaid session line host reply no_steps;
  paths = paths_unsaid session line host reply none_said;
  calm = λ pending few none. refl;
}
  where
    never : is_cp line ≡ false → is_cp line ≡ true → ⊥
    never other is = differ (sym other ∙ is)
      where
        differ : false ≡ true → ⊥
        differ e = cc

pub applied_none : (session : Session) (line : Line) (host : Shown) → IsDisk host → IsReady host session → line ≡ NoCommand → Applies session (built line) host session host (Ok (Refused Syntax))
applied_none session line host laws ready is = subst (λ (l : Line). Applies session (built l) host session host (Ok (Refused Syntax))) (sym is) (no_change session NoCommand (Refused Syntax) host laws ready refl (refl, refl) (λ m. refl) (λ m. refl) refl (λ c says. absurd cc))

pub applied_range : (session : Session) (line : Line) (host : Shown) → IsDisk host → IsReady host session → line ≡ OutOfRange → Applies session (built line) host session host (Ok (Refused Range))
applied_range session line host laws ready is = subst (λ (l : Line). Applies session (built l) host session host (Ok (Refused Range))) (sym is) (no_change session OutOfRange (Refused Range) host laws ready refl (refl, refl) (λ m. refl) (λ m. refl) refl (λ c says. absurd cc))

-- ---- commands

-- a point of a session that may ask within one room asks within a wider one
asks_wider : (disk : Shown) (session : Session) (room : ℕ) {a b : ℕ} → a ≤ b → AsksWithin disk session (max room a) → AsksWithin disk session (max room b)
asks_wider disk session room less asks = record { asked = asks.asked; pending = (let few = asks.pending in omega (arith, less, few)) }

module _ (session new_session : Session) (line : Line) (command : Command) (old new : Shown) (says : line ≡ Says command) (ready : IsReady old session) where
  calm_by : (command ≢ Cp → reaches_disk command ≡ false → (room_by session.volumes command ≡ 0) ⊎ (session.pending + room_by session.volumes command ≤ dirty_limit) → new.reads ≡ old.reads) → (pending : ℕ) → session.pending ≤ pending → asks_point (room_by session.volumes) pending (built line) ≡ false → new.reads ≡ old.reads
  calm_by calm pending few none =
      let is = quiet session command pending (subst (λ (l : Line). asks_point (room_by session.volumes) pending (built l) ≡ false) says none) in
      calm is.0 is.1.0 (⊎_elim (λ (nothing : room_by session.volumes command ≡ 0). inl nothing) (λ (low : pending + room_by session.volumes command ≤ dirty_limit). inr (omega (arith, low, few))) is.1.1)

  -- a point leaves nothing pending, and each other command adds its room at most, but one that takes background steps
  pending_by : takes_steps command ≡ false → (command ≡ Cp → new_session.pending ≡ 0) → new_session.pending ≤ session.pending + room_by session.volumes command → new_session.pending ≤ left_by (room_by session.volumes) session.pending (built line)
  pending_by at_once pointed most = by (is_cp (built line)) refl
    where
      by : (cp : Bool) → is_cp (built line) ≡ cp → new_session.pending ≤ left_by (room_by session.volumes) session.pending (built line)
      by true e =
          let none : new_session.pending ≡ 0 = pointed (cp_by (is_built command) command (subst (λ (l : Line). is_cp (built l) ≡ true) says e)) in
          omega (arith, none)
      by false e =
          let room : room_in (room_by session.volumes) (built line) ≡ room_by session.volumes command = ap (λ (l : Line). room_in (room_by session.volumes) (built l)) says ∙ room_built session command in
          let once : takes (built line) ≡ false = ap (λ (l : Line). takes (built l)) says ∙ steps_said command at_once in
          let added : added_by (room_by session.volumes) (built line) ≡ room_in (room_by session.volumes) (built line) = ap (λ (steps : Bool). if steps then dirty_limit else room_in (room_by session.volumes) (built line)) once in
          let left : left_by (room_by session.volumes) session.pending (built line) ≡ session.pending + added_by (room_by session.volumes) (built line) = ap (λ (cp : Bool). if cp then 0 else session.pending + added_by (room_by session.volumes) (built line)) e in
          omega (arith, left, added, room, most)

  same_by : changes_volumes (built line) ≡ false → changes_volume command ≡ false
  same_by none = changes_said command (subst (λ (l : Line). changes_volumes (built l) ≡ false) says none)

  once_by : changes_volumes (built line) ≡ false → reaches_disk command ≡ false
  once_by none = changes_once command (subst (λ (l : Line). changes_volumes (built l) ≡ false) says none)

  -- the command was carried out, or refused
  pub applied : takes_steps command ≡ false → (reply : Reply) → (command ≢ Cp → reaches_disk command ≡ false → (room_by session.volumes command ≡ 0) ⊎ (session.pending + room_by session.volumes command ≤ dirty_limit) → new.reads ≡ old.reads) → Goes (room_by session.volumes command) (asked_by session.volumes command) old session new new_session (Ok reply)
      → (changes_volume command ≡ false → reaches_disk command ≡ false → KeepsAsking (room_by session.volumes command) old session new new_session)
      → (IsTrue old.tells → changed_by command ≡ None → reaches_disk command ≡ false → IsWithoutFiles session → IsWithoutFiles new_session)
      → (IsTrue old.tells → (last m : Machine) → StandsFor old session last m → GoesFor {T = Reply} old last m (machine_after m command) new new_session (Ok reply))
      → (IsTrue old.tells → (last m : Machine) → StandsFor old session last m → Replies m command reply)
      → (IsTrue old.tells → (last m : Machine) → StandsFor old session last m → command ≡ Cp → StandsFor new new_session m m)
      → (command ≡ Cp → new_session.pending ≡ 0)
      → (reads_files command ≡ true → IsSome (volume_asked command) → IsAsRead session new_session)
      → (IsTrue old.tells → UndergoesCommand command old.reads session new.reads new_session reply)
      → LessByLine session (built line) old new_session new (Ok reply)
      → PathsByLine session (built line) old new_session new (Ok reply)
      → Applies session (built line) old new_session new (Ok reply)
  applied at_once reply calm goes keeps files goes_for replies point pointed read undergoes less paths = record {
    done = λ tells last m so_far. (
      subst (λ (l : Line). AllowsAt m (built l) reply) (sym says) (allowed_built m command reply (replies tells last m so_far)),
      record {
        after = subst (λ (x : Machine). StandsAfter new new_session last m x) (after_said line command says m)
            (goes_for tells last m so_far).done;
        point = λ cp. at_point m (cp_by (is_built command) command (subst (λ (l : Line). is_cp (built l) ≡ true) says cp)) (point tells last m so_far);
      },
    );
    any_moment = λ tells last m so_far.
        subst (λ (x : Machine). Leaves old new (λ c g. OneOf last m x c × (g ≡ old.given))) (after_said line command says m)
        (goes_for tells last m so_far).any_moment;
    still = λ tells last m so_far calm. tt;
    no_damage = λ tells last m so_far. tt;
    ready = record { unfailed = goes.done.goes_on; stands = goes.stands goes.done.goes_on };
    ends = tt;
    read = read_by;
    led = λ tells. record {
      stands = stands_on new new_session (rw goes.ends.tells tells) (goes.stands goes.done.goes_on);
      reply = reply;
      said = said_by tells;
      root = λ once. goes.done.root tells;
      read = read_by;
      files = λ same none. files tells (changes_none command (same_by same)) (once_by same) none;
      calm = λ none. calm_by calm session.pending (omega arith) none;
      pending = pending_by at_once pointed goes.pending;
    };
    asks = λ tells same room asks. (
      most_room command,
      subst (λ (l : Line). IsRoomIn (built l ∷ []) (most_room command)) (sym says) (room_said command),
      asks_wider new new_session room (fixed_room session command (same_by same)) (keeps (same_by same) (once_by same) tells room asks goes.done.goes_on),
    );
    given = goes.ends.given;
    left = ap (λ (e : Ends). e.left) goes.ends.ends;
    counts = counts_kept goes.ends goes.done.counts.faults;
    writes = goes.done.counts.write_faults;
    less = less;
    paths = paths;
    calm = calm_by calm;
  }
    where
      read_by : only_asks (built line) ≡ true → IsAsRead session new_session
      read_by asks = let asked = asked_said command (subst (λ (l : Line). only_asks (built l) ≡ true) says asks) in read asked.0 asked.1

      answered : (r : Reply) → ◌≡◌ {A = Result Reply SessionFault} (Ok r) (Ok (Refused Syntax)) → r ≡ Refused Syntax
      answered r e = cc

      -- a command that isn't built is refused as none, which leaves all as it was
      said_as : IsTrue old.tells → (is : Bool) → is_built command ≡ is → UndergoesSaid (cond is (Says command) NoCommand) old.reads session new.reads new_session reply
      said_as tells true e = undergoes tells
      said_as tells false e =
          let plain = (undergoes tells).plain (unbuilt_reads command e) in
          plain.refused (subst (λ (r : Reply). IsTrue (is_refusal r)) (sym (answered reply (plain.unbuilt ready.unfailed e))) refl)

      said_by : IsTrue old.tells → UndergoesSaid (built line) old.reads session new.reads new_session reply
      said_by tells = subst (λ (l : Line). UndergoesSaid (built l) old.reads session new.reads new_session reply) (sym says) (said_as tells (is_built command) refl)

      at_point : (m : Machine) → command ≡ Cp → (command ≡ Cp → StandsFor new new_session m m) → StandsFor new new_session (after_line m (built line)) (after_line m (built line))
      at_point m is stands =
          subst (λ (x : Machine). StandsFor new new_session x x) (sym (ap (machine_after m) is ∙ after_cp m) ∙ after_said line command says m) (stands is)

  -- damage in a line
  damaged : (at want found : ℕ) → new.tells ≡ old.tells → StandsReady new new_session → HasDamage (room_by session.volumes command) (asked_by session.volumes command) old session new new_session at want found → (reads_files command ≡ false → reaches_disk command ≡ false → calls.IsForWant old session new new_session (session_fault.Damaged at want found)) → IsSessionFault (built line) old session new Damaged
  damaged at want found same stands damage plain = (
    (
      new_session,
      (
        stands,
        inl (subst (λ (asked : Asked). IsHurt (room_in (room_by session.volumes) (built line)) asked old.reads session new new_session) asks
            (subst (λ (n : ℕ). IsHurt n (asked_by session.volumes command) old.reads session new new_session) room (hurt_by (room_by session.volumes command) (asked_by session.volumes command) old session new new_session at want found same damage))),
      ),
    ),
    so (reads_files command) refl,
  )
    where
      room : room_by session.volumes command ≡ room_in (room_by session.volumes) (built line)
      room = sym (ap (λ (l : Line). room_in (room_by session.volumes) (built l)) says ∙ room_built session command)

      asks : asked_by session.volumes command ≡ asked_in (asked_by session.volumes) (built line)
      asks = sym (ap (λ (l : Line). asked_in (asked_by session.volumes) (built l)) says ∙ asked_built session command)

      so : (reads : Bool) → reads_files command ≡ reads → (reads_blocks (built line) ≡ true) ⊎ LacksSpace old session new
      so true e = inl (ap (λ (l : Line). reads_blocks (built l)) says ∙ reads_said command e)
      so false e = other (reaches_disk command) refl
        where
          other : (reaches : Bool) → reaches_disk command ≡ reaches → (reads_blocks (built line) ≡ true) ⊎ LacksSpace old session new
          other true reached = inl (ap (λ (l : Line). reads_blocks (built l)) says ∙ reaches_read command reached)
          other false once = inr (lacks old new session new_session at want found (plain e once))

  -- it wasn't
  pub unapplied : (command ≢ Cp → reaches_disk command ≡ false → (room_by session.volumes command ≡ 0) ⊎ (session.pending + room_by session.volumes command ≤ dirty_limit) → new.reads ≡ old.reads) → (fault : SessionFault) → Goes {T = Reply} (room_by session.volumes command) (asked_by session.volumes command) old session new new_session (Err fault)
      → (reads_files command ≡ false → reaches_disk command ≡ false → calls.IsForWant old session new new_session fault)
      → (IsTrue old.tells → (last m : Machine) → StandsFor old session last m → GoesFor {T = Reply} old last m (machine_after m command) new new_session (Err fault))
      → Applies session (built line) old new_session new (Err (of_session fault))
  unapplied calm session_fault.DiskFault goes plain goes_for =
      stopped_by session new_session line command old new says goes.ends (calm_by calm) session_fault.DiskFault goes_for
      (counts_rose goes.ends goes.fault.counts.faults) goes.fault.session.by_read tt
  unapplied calm session_fault.Memory goes plain goes_for =
      stopped_by session new_session line command old new says goes.ends (calm_by calm) session_fault.Memory goes_for
      (counts_kept goes.ends goes.fault.counts.faults) (λ calm. goes.fault.session) tt
  unapplied calm (session_fault.Damaged at want found) goes plain goes_for =
      stopped_by session new_session line command old new says goes.ends (calm_by calm) (session_fault.Damaged at want found) goes_for
      (counts_kept goes.ends goes.fault.counts.faults) (λ calm. goes.fault.session)
      (damaged at want found goes.ends.tells (goes.stands goes.fault.session) goes.fault.reason plain)
  unapplied calm (session_fault.Failed faults) goes plain goes_for = absurd (never_failed session.failed faults ready.unfailed goes.fault.reason)
