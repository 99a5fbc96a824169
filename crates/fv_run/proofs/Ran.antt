-- A run of a session that was opened, as one from its beginning.
use Rattle.std.proofs.Common.{◌≡◌, ◌⊎◌, inl, inr, ⊎_elim, true, false, ℕ, ◌+◌, ◌%◌, ◌^◌, ◌<◌, ◌≤◌, ◌++◌, List, length, take, sym, ap, subst, ◌∙◌}
use Rattle.std.specs.Prelude.{Some, None, Result, Ok, Err, IsTrue, IfErr, OnOk}
use Rattle.fv_disk.specs.Shown.{Ends, Image, Shown, IsDisk, IsSettled, Rose}
use Rattle.fv_disk.specs.Crash.{Leaves}
use Rattle.fv_disk.proofs.Moments.{then, weaken}
use Rattle.fv_model.specs.declared.commands.Command.{Command}
use Rattle.fv_model.specs.Machines.{Machine}
use Rattle.fv_model.specs.Runs.{after, acked, Full, Follows, Line, whole}
use Rattle.fv_image.specs.WholeMachine.{machine_of}
use Rattle.fv_root.specs.Finding.{IsFound}
use Rattle.fv_cp.specs.Placing.{HaveNoFiles}
use Rattle.fv_lines.specs.Counts.{Counts}
use Rattle.fv_lines.proofs.Counting.{counts_then}
use Rattle.fv_aggregate.specs.declared.session.Session.{Session}
use Rattle.fv_aggregate.specs.Adding.{IsPointed}
use Rattle.fv_aggregate.specs.Asking.{AsksWithin}
use Rattle.fv_aggregate.specs.Calls.{SameCounts}
use Rattle.fv_aggregate.specs.LeftOver.{todo_under}
use Rattle.fv_aggregate.specs.Opening.{IsOpened}
use Rattle.fv_aggregate.specs.PathShown.{HasPathsOf}
use Rattle.fv_aggregate.specs.Causes.{IsUnwritten}
use Rattle.fv_aggregate.specs.Standing.{IsWithoutFiles, StandsFor, StandsReady}
use Rattle.fv_aggregate.specs.Working.{todo}
use Rattle.fv_run.specs.declared.ending.Fault.{Fault}
use Rattle.fv_run.specs.declared.ending.Fault.TheVariants.{Usage, Unsound, NotAggregate, Source, Sink, Disk, Memory, Damaged, Limit}
use Rattle.fv_run.specs.Built.{lines_built}
use Rattle.fv_run.specs.Left.{works_of, AllKeepTodo, FallsBy, FallsByWorks}
use Rattle.fv_run.specs.Endings.{IsWholeFault, raised_by}
use Rattle.fv_run.specs.Promises.{line_at}
use Rattle.fv_run.specs.Probes.{AnswersProbes}
use Rattle.fv_run.specs.Running.{asks_behind, cps_behind, takes, CountsPoints, EndsInPoint, HasAnsweredAll, HasChanged, HasFollowed, HasReason, Holds, IsAskedFor, IsAtRest, IsFileDamage, IsHurtBehind, IsLacking, IsLeafLost, IsLastFor, IsOverLimit, IsPastLimit, KeepsUp, MeetsDamage, most_rooms, rooms_along, IsSessionDamage, Ran, reads_blocks, StandsOnImage, Survives, SurvivesFrom, AsksNone, IsQuiet, UndergoesLines}
use Rattle.fv_run.specs.Answering.{IsEndOf, Stopped, BeginsFor}
use Rattle.fv_run.proofs.EndsKept.{counts_kept}
use Rattle.fv_run.proofs.Admitted.{image_is_admitted}
use Rattle.fv_run.proofs.KeepingUp.{keeps_up_since}
use Rattle.fv_run.proofs.LeftAlong.{lower_in_run}
use Rattle.fv_run.proofs.Sessions.{not_opened}
use Rattle.fv_run.proofs.Opening.{crash_opened, crash_unsettled}
use Rattle.fv_run.proofs.Promises.{are_guaranteed, are_isolated}

-- of a session that was opened at `mid`
pub record RanOpen (limit : ℕ) (session : Session) (mid new : Shown) (result : Result Unit Fault) : Type 0 where
  pub holds : IsTrue mid.tells → (m : Machine) → BeginsFor mid session m → Holds m result mid new
  pub done : IsTrue mid.tells → (m : Machine) → BeginsFor mid session m → OnOk result (HasAnsweredAll m (lines_built mid.ends.left) mid new)
  pub no_damage : IsTrue mid.tells → (m : Machine) → BeginsFor mid session m → IfErr result IsWholeFault
  pub counts : Counts mid new (raised_by result)
  pub reason : IfErr result (IsEndOf limit session mid new)
  pub cut_off : IsTrue mid.tells → IsOverLimit limit mid new → result ≡ Err Limit
  pub keeps_up : IsTrue mid.tells → KeepsUp limit mid new result
  pub quiet : IsTrue mid.tells → session.pending ≡ 0 → IsQuiet most_rooms (lines_built mid.ends.left) mid new

-- so many points were made from its root to the last one
pub record CountsOpen (lines : List Line) (session next : Session) : Type 0 where
  pub points : ℕ
  pub least : cps_behind lines (length lines) < points
  pub most : points ≤ length lines + 1
  pub generation : next.pool.found.root.generation ≡ (session.pool.found.root.generation + points) % 2 ^ 64

-- the last point of such a run
pub record PointedOpen (session : Session) (mid new : Shown) : Type 0 where
  pub before : Image
  pub last : Session
  pub next : Session
  pub over : StandsOnImage before last
  pub quiet : ((line : ℕ) → asks_behind most_rooms (lines_built mid.ends.left) line ≡ false) → before ≡ mid.reads
  pub counted : ((line : ℕ) → takes (line_at (lines_built mid.ends.left) line) ≡ false) → CountsOpen (lines_built mid.ends.left) session next
  pub counts : IsFound new.reads next.pool.found
  pub left : IsPointed new last next
  pub stands : StandsReady new next
  pub machine : (m : Machine) → BeginsFor mid session m → IsLastFor m (lines_built mid.ends.left) mid.reads before last new next
  pub lowered : (m : Machine) → BeginsFor mid session m → HaveNoFiles session.volumes → AllKeepTodo m (lines_built mid.ends.left)
      → FallsBy (works_of (lines_built mid.ends.left)) (todo mid session) (todo_under next.pool.found new.reads)

pub stopped_open : (limit : ℕ) (session : Session) (mid new : Shown) (fault : Fault) → Stopped limit session mid new fault → RanOpen limit session mid new (Err fault)
stopped_open limit session mid new fault stopped = record {
  holds = λ tells m stands. (stopped.holds tells m stands).0;
  done = λ tells m stands. tt;
  no_damage = λ tells m stands. (stopped.holds tells m stands).1;
  counts = stopped.counts;
  reason = stopped.reason;
  cut_off = λ tells past. ap Err (stopped.cut_off tells past);
  keeps_up = stopped.keeps_up;
  quiet = stopped.quiet;
}

module _ (limit : ℕ) (session : Session) (old mid new : Shown) (laws : IsDisk old) (unwritten : IsUnwritten old mid) (stands : StandsReady mid session)
    (stood : IsTrue old.tells → (m : Machine) → machine_of old.reads ≡ Some m → StandsFor mid session m m) (within : IsTrue old.tells → AsksWithin mid session 0) (none : IsTrue old.tells → IsWithoutFiles session) (calm : SameCounts old mid) (loaded : IsTrue old.tells → IsOpened old.reads session) (begins : session.pending ≡ 0)
    (opened_left : IsTrue old.tells → (m : Machine) → machine_of old.reads ≡ Some m → todo mid session ≡ todo_under session.pool.found old.reads)
    (opened_paths : IsTrue old.tells → (m : Machine) → machine_of old.reads ≡ Some m → HasPathsOf old.reads mid.reads session) where
  machine : IsTrue old.tells → (m : Machine) → machine_of old.reads ≡ Some m → BeginsFor mid session m
  machine tells m is = record {
    stands = stood tells m is;
    pending = begins;
    paths = subst (λ (i : Image). HasPathsOf i mid.reads session) (sym unwritten.reads) (opened_paths tells m is);
  }

  mid_told : IsTrue old.tells → IsTrue mid.tells
  mid_told tells = rw unwritten.kept.tells tells

  same_left : mid.ends.left ≡ old.ends.left
  same_left = ap (λ (e : Ends). e.left) unwritten.kept.ends

  since_given : (output : List ℕ) → new.given ≡ mid.given ++ output → new.given ≡ old.given ++ output
  since_given output is = is ∙ ap (λ (l : List ℕ). l ++ output) unwritten.kept.given

  followed_since : (m : Machine) → HasFollowed m (lines_built mid.ends.left) mid new → HasFollowed m (lines_built old.ends.left) old new
  followed_since m f = record {
    output = f.output;
    given = since_given f.output f.given;
    follows = subst (λ (l : List ℕ). Follows m (lines_built l) f.output) same_left f.follows;
    probes = subst (λ (i : Image). AnswersProbes m (lines_built old.ends.left) i f.output) unwritten.reads
        (subst (λ (l : List ℕ). AnswersProbes m (lines_built l) mid.reads f.output) same_left f.probes);
  }

  answered_since : (m : Machine) → HasAnsweredAll m (lines_built mid.ends.left) mid new → HasAnsweredAll m (lines_built old.ends.left) old new
  answered_since m a = record {
    output = a.output;
    given = since_given a.output a.given;
    full = subst (λ (l : List ℕ). Full m (lines_built l) a.output) same_left a.full;
    stands = subst (λ (l : List ℕ). machine_of new.reads ≡ Some (after m (lines_built l) (length (lines_built l)))) same_left a.stands;
    settled = a.settled;
  }

  rested_since : (m : Machine) (result : Result Unit Fault) → IsAtRest m (lines_built mid.ends.left) result mid new → IsAtRest m (lines_built old.ends.left) result old new
  rested_since m result r = record {
    output = r.output;
    given = since_given r.output r.given;
    count = r.count;
    acknowledged = subst (λ (l : List ℕ). acked (lines_built l) r.output ≤ r.count) same_left r.acknowledged;
    all = subst (λ (l : List ℕ). r.count ≤ length (lines_built l)) same_left r.all;
    answered = r.answered;
    asked = subst (λ (l : List ℕ). IsAskedFor m (lines_built l) r.output result r.count) same_left r.asked;
    machine = subst (λ (l : List ℕ). machine_of new.reads ≡ Some (after m (lines_built l) r.count)) same_left r.machine;
    settled = r.settled;
  }

  calm_since : ¬ Rose old.write_faults new.write_faults → ¬ Rose mid.write_faults new.write_faults
  calm_since none rose = none (subst (λ (n : ℕ). Rose n new.write_faults) calm.write_faults rose)

  past_before : IsOverLimit limit old new → IsOverLimit limit mid new
  past_before past = record {
    output = past.output;
    given = past.given ∙ ap (λ (l : List ℕ). l ++ past.output) (sym unwritten.kept.given);
    taken = subst (λ (l : List ℕ). limit + length new.ends.left < length l) (sym same_left) past.taken;
    answered = subst (λ (l : List ℕ). whole (take limit l) ≤ whole past.output) (sym same_left) past.answered;
  }

  past_since : IsPastLimit limit mid new → IsPastLimit limit old new
  past_since past = record {
    output = past.output;
    given = since_given past.output past.given;
    taken = subst (λ (l : List ℕ). limit + length new.ends.left < length l) same_left past.taken;
    answered = past.answered ∙ ap (λ (l : List ℕ). whole (take limit l)) same_left;
  }

  meanwhile : (m : Machine) → Leaves mid new (Survives m (lines_built mid.ends.left) mid.given) → Leaves mid new (Survives m (lines_built old.ends.left) old.given)
  meanwhile m crash = subst (λ (l : List ℕ). Leaves mid new (Survives m (lines_built l) old.given)) same_left (subst (λ (g : List ℕ). Leaves mid new (Survives m (lines_built mid.ends.left) g)) unwritten.kept.given crash)

  crash_since : (m : Machine) → machine_of old.reads ≡ Some m → IsSettled old → Leaves mid new (Survives m (lines_built mid.ends.left) mid.given) → Leaves old new (Survives m (lines_built old.ends.left) old.given)
  crash_since m is settled crash = then old mid new (Survives m (lines_built old.ends.left) old.given) (crash_opened limit old mid laws unwritten m is settled) (meanwhile m crash)

  crash_from : (m : Machine) → Leaves mid new (Survives m (lines_built mid.ends.left) mid.given) → Leaves old new (SurvivesFrom m (lines_built old.ends.left) old)
  crash_from m crash = then old mid new (SurvivesFrom m (lines_built old.ends.left) old) (crash_unsettled limit old mid laws unwritten m)
      (weaken mid new (Survives m (lines_built old.ends.left) old.given) (SurvivesFrom m (lines_built old.ends.left) old) (λ (c : Image) (g : List ℕ) s. inr s) (meanwhile m crash))

  open_counts : Counts old mid None
  open_counts = counts_kept unwritten.kept calm.faults

  damage_since : IsSessionDamage (lines_built mid.ends.left) session mid new → IsSessionDamage (lines_built old.ends.left) session old new
  damage_since is = ⊎_elim
      (λ (lacking : IsLacking (lines_built mid.ends.left) new.reads). inl (subst (λ (l : List ℕ). IsLacking (lines_built l) new.reads) same_left lacking))
      (λ (other : IsFileDamage (lines_built mid.ends.left) mid new ⊎ IsLeafLost (lines_built mid.ends.left) session mid new). ⊎_elim
      (λ (file : IsFileDamage (lines_built mid.ends.left) mid new). inr (inl (record {
        output = file.output;
        given = since_given file.output file.given;
        line = subst (λ (l : List ℕ). (reads_blocks (line_at (lines_built l) (whole file.output)) ≡ true) ⊎ HasChanged (lines_built l) (whole file.output)) same_left file.line;
      })))
      (λ (leaf : IsLeafLost (lines_built mid.ends.left) session mid new). inr (inr (subst (λ (l : List ℕ). IsLeafLost (lines_built l) session old new) same_left (record {
        output = leaf.output;
        given = since_given leaf.output leaf.given;
        session = leaf.session;
        course = subst (λ (i : Image). UndergoesLines (lines_built mid.ends.left) (whole leaf.output) i session new.reads leaf.session) unwritten.reads leaf.course;
        none = leaf.none;
        at = leaf.at;
        want = leaf.want;
        found = leaf.found;
        leaf = leaf.leaf;
      }))))
      other)
      is

  meets_since : MeetsDamage (lines_built mid.ends.left) session mid new → MeetsDamage (lines_built old.ends.left) session old new
  meets_since is = subst (λ (l : List ℕ). MeetsDamage (lines_built l) session old new) same_left (record {
    output = is.output;
    given = since_given is.output is.given;
    call = subst (λ (i : Image). IsHurtBehind (lines_built mid.ends.left) (whole is.output) i session new) unwritten.reads is.call;
  })

  reason_since : (fault : Fault) → IsEndOf limit session mid new fault → HasReason limit old new fault
  reason_since Usage is = is
  reason_since Unsound is = is
  reason_since NotAggregate is = absurd is
  reason_since Source is = tt
  reason_since Sink is = tt
  reason_since Disk is = tt
  reason_since Memory is = tt
  reason_since Damaged is = λ tells. inr (record {
    first = session;
    opened = loaded tells;
    meets = meets_since (is (mid_told tells)).0;
    why = damage_since ((is (mid_told tells)).1 (within tells) (none tells));
  })
  reason_since Limit is = λ tells. past_since (is (mid_told tells))

  reasons_since : (result : Result Unit Fault) → IfErr result (IsEndOf limit session mid new) → IfErr result (HasReason limit old new)
  reasons_since (Ok done) is = tt
  reasons_since (Err fault) is = reason_since fault is

  dones_since : (m : Machine) (result : Result Unit Fault) → OnOk result (HasAnsweredAll m (lines_built mid.ends.left) mid new) → OnOk result (HasAnsweredAll m (lines_built old.ends.left) old new)
  dones_since m (Ok done) is = answered_since m is
  dones_since m (Err fault) is = tt

  quiet_since : (rooms : List ℕ → ℕ → Command → ℕ) → IsQuiet (rooms mid.ends.left) (lines_built mid.ends.left) mid new → IsQuiet (rooms old.ends.left) (lines_built old.ends.left) old new
  quiet_since rooms quiet output given asks =
      quiet output (given ∙ ap (λ (l : List ℕ). l ++ output) (sym unwritten.kept.given)) (subst (λ (l : List ℕ). AsksNone (rooms l) (lines_built l) output) (sym same_left) asks) ∙ unwritten.reads

  counted_lines : (lines : List Line) → IsTrue old.tells → {next : Session} → IsFound new.reads next.pool.found → CountsOpen lines session next → CountsPoints lines old new
  counted_lines lines tells {next} counts counted = record {
    points = counted.points;
    least = counted.least;
    most = counted.most;
    on = record {
      old = session.pool.found;
      new = next.pool.found;
      counted = subst (λ (i : Image). IsFound i session.pool.found) unwritten.reads (stands.stands.found (mid_told tells)).reads;
      counts = counts;
      generation = counted.generation;
    };
  }

  lowered_lines : (lines : List Line) (next : Session) (m : Machine) → IsTrue old.tells → machine_of old.reads ≡ Some m
      → IsFound new.reads next.pool.found → FallsBy (works_of lines) (todo mid session) (todo_under next.pool.found new.reads) → FallsByWorks lines old.reads new.reads
  lowered_lines lines next m tells is counts falls =
      lower_in_run lines old.reads session.pool.found (todo mid session) new.reads next.pool.found (loaded tells).found counts
      (opened_left tells m is) falls

  pointed_lines : (lines : List Line) → IsTrue old.tells → PointedOpen session mid new → lines_built mid.ends.left ≡ lines → EndsInPoint lines old new
  pointed_lines lines tells p same = record {
    before = p.before;
    last = p.last;
    next = p.next;
    over = p.over;
    counted = λ once. counted_lines lines tells p.counts (subst (λ (l : List Line). CountsOpen l session p.next) same
        (p.counted (subst (λ (l : List Line). (line : ℕ) → takes (line_at l line) ≡ false) (sym same) once)));
    quiet = λ none. p.quiet (λ line. ap (λ (l : List Line). asks_behind most_rooms l line) same ∙ none line) ∙ unwritten.reads;
    left = p.left;
    stands = p.stands;
    machine = λ m is. subst (λ (i : Image). IsLastFor m lines i p.before p.last new p.next) unwritten.reads
        (subst (λ (l : List Line). IsLastFor m l mid.reads p.before p.last new p.next) same (p.machine m (machine tells m is)));
    lowered = λ m is keep. lowered_lines lines p.next m tells is p.counts
        (subst (λ (l : List Line). AllKeepTodo m l → FallsBy (works_of l) (todo mid session) (todo_under p.next.pool.found new.reads)) same
        (p.lowered m (machine tells m is) (none tells).none) keep);
  }

  pointed_since : (result : Result Unit Fault) → IsTrue old.tells → OnOk result (PointedOpen session mid new) → OnOk result (EndsInPoint (lines_built old.ends.left) old new)
  pointed_since (Ok done) tells p = pointed_lines (lines_built old.ends.left) tells p (ap lines_built same_left)
  pointed_since (Err fault) tells p = tt

  pub ran : (result : Result Unit Fault) → RanOpen limit session mid new result → (IsTrue mid.tells → session.pending ≡ 0 → OnOk result (PointedOpen session mid new)) → Ran limit old new result
  ran result r last = record {
    replies = λ tells m is. followed_since m (r.holds (mid_told tells) m (machine tells m is)).replies;
    done = λ tells m is. dones_since m result (r.done (mid_told tells) m (machine tells m is));
    crash = λ tells m is settled. crash_since m is settled (r.holds (mid_told tells) m (machine tells m is)).crash;
    crash_from = λ tells m is. crash_from m (r.holds (mid_told tells) m (machine tells m is)).crash;
    at_rest = λ tells m is none. rested_since m result ((r.holds (mid_told tells) m (machine tells m is)).at_rest (calm_since none));
    pointed = λ tells. pointed_since result tells (last (mid_told tells) begins);
    no_damage = λ tells m is. r.no_damage (mid_told tells) m (machine tells m is);
    isolated = λ tells m is. are_isolated m (lines_built old.ends.left) (image_is_admitted old.reads m is);
    guaranteed = λ tells m is. are_guaranteed m (lines_built old.ends.left) (image_is_admitted old.reads m is);
    counts = counts_then old mid new (raised_by result) open_counts r.counts;
    reason = reasons_since result r.reason;
    unopened = λ tells none. absurd (not_opened mid session (mid_told tells) stands (rw unwritten.reads none));
    quiet_for = λ tells m is. quiet_since (λ l. rooms_along m (lines_built l)) (r.holds (mid_told tells) m (machine tells m is)).quiet;
    quiet = λ tells. quiet_since (λ l. most_rooms) (r.quiet (mid_told tells) begins);
    opened = λ tells. inl (session, loaded tells);
    cut_off = λ tells past. r.cut_off (mid_told tells) (past_before past);
    keeps_up = λ tells. keeps_up_since limit old mid new result unwritten.kept.given same_left (r.keeps_up (mid_told tells));
  }
