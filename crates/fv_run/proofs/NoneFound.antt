-- The loop over the lines of a script where it finds no further one: the script ends, or the source or the limit ends the run.
use Rattle.std.proofs.Common.{◌≡◌, inr, ⊎_elim, ℕ, ◌+◌, ◌<◌, ◌++◌, Bool, List, [], ◌∷◌, length, refl, sym, ap, subst, ◌∙◌, true≢false, arith, append_assoc}
use Rattle.std.specs.Prelude.{Contains, Ok, Err, None, IsTrue}
use Rattle.std.proofs.lemmas.List.{length-append}
use Rattle.fv_disk.specs.declared.Failed.{Failed}
use Rattle.fv_disk.specs.Shown.{Shown}
use Rattle.fv_disk.specs.HostCalls.{Rests}
use Rattle.fv_disk.specs.Crash.{Leaves}
use Rattle.fv_model.specs.declared.commands.Command.{Command}
use Rattle.fv_model.specs.Machines.{Machine}
use Rattle.fv_model.specs.Runs.{Line, whole}
use Rattle.fv_lines.specs.declared.reading.Found.TheVariants as found
use Rattle.fv_lines.specs.Held.{Held}
use Rattle.fv_lines.specs.Reading.{to_come, unread, Finds, IsStill}
use Rattle.fv_lines.proofs.Counting.{counts_then}
use Rattle.fv_lines.proofs.Counting as counting
use Rattle.fv_aggregate.specs.declared.session.Session.{Session}
use Rattle.fv_run.specs.declared.ending.Fault.{Fault}
use Rattle.fv_run.specs.declared.ending.Fault.TheVariants.{Source, Limit}
use Rattle.fv_run.specs.Built.{lines_built}
use Rattle.fv_run.specs.Endings.{count_of, IsWholeFault}
use Rattle.fv_run.specs.Running.{Holds, IsOverLimit, IsPastLimit, most_rooms, rooms_along, IsQuiet}
use Rattle.fv_run.specs.Answering.{BeginsFor, HasRead, IsAtEnd, IsCounted, StandsAt, Stopped}
use Rattle.fv_run.proofs.KeepingUp.{keeps_up_source, keeps_up_limit, end_most}
use Rattle.fv_run.proofs.Limits.{all_read, ends_all, past_limit, none_behind, to_come_most}
use Rattle.fv_run.proofs.Counted.{counted_still, quiet_still}
use Rattle.fv_run.proofs.LeftAlong.{along_still}
use Rattle.fv_run.proofs.Courses.{undergoes_still}
use Rattle.fv_run.proofs.Sessions.{rests_standing}
use Rattle.fv_run.proofs.Answered.{followed, rested_here, asked, crash_asked, left_as}
use Rattle.fv_run.proofs.SoFar.{answered_by, asks_still, told}

module _ (limit : ℕ) (first : Session) (old : Shown) (held : Held) (session : Session) (now : Shown) (count : ℕ) (so_far : StandsAt limit first old held session now count)
    (new_held : Held) (mid : Shown) (bytes : List ℕ) where
  abbrev script : List Line
  script = lines_built old.ends.left

  -- while no line is applied
  quiet_so_far : (rooms : ℕ → Command → ℕ) → IsCounted rooms script old session now count → IsTrue old.tells → (new : Shown) → new.given ≡ now.given → new.reads ≡ now.reads → IsQuiet rooms script old new
  quiet_so_far rooms counted tells new same reads output given asks = reads ∙ quiet_still rooms script old session now count counted output asks (answered_by so_far new tells output same given)

  -- so a run holds what it has to that ends there
  asked_holds : Rests now mid → mid.given ≡ now.given → Leaves now mid (IsStill now) → (fault : Fault) → IsTrue old.tells → (m : Machine) → BeginsFor old first m → Holds m (Err fault) old mid
  asked_holds rests given still fault tells m stands =
      let answers = so_far.answers tells m stands in
      record {
        replies = followed m _ _ old session now count answers mid given;
        crash = crash_asked m _ _ old session now count answers mid still;
        at_rest = λ calm. rested_here m _ _ old session now count answers mid rests given (Err fault);
        quiet = quiet_so_far (rooms_along m script) answers.applied.counted tells mid given rests.stays.reads;
      }

  -- the source failed
  module _ (e : Failed) (finds : Finds held now new_held mid bytes (Err e)) where
    source_holds : IsTrue old.tells → (m : Machine) → BeginsFor old first m → Holds m (Err Source) old mid × IsWholeFault Source
    source_holds tells m stands = (asked_holds finds.asks.rests finds.asks.given finds.asks.any_moment Source tells m stands, tt)

    source_limit : IsTrue old.tells → IsOverLimit limit old mid → ⊥
    source_limit tells past =
        let read = so_far.reads tells in
        let more = finds.reads (told so_far tells) in
        let come : List ℕ = to_come new_held.ended mid.ends.left in
        let is : old.ends.left ≡ read.read ++ (more.read ++ come) = read.front ∙ ap (λ (l : List ℕ). read.read ++ l) (more.front ∙ ap (λ (l : List ℕ). more.read ++ (l ++ come)) finds.none) in
        all_read limit new_held.room old.ends.left read.read more.read come mid.ends.left is (read.room ∙ ap (λ (n : ℕ). length read.read + n) more.room) (to_come_most new_held.ended mid.ends.left) past.taken

    pub source_failed : Stopped limit first old mid Source
    source_failed = record {
      holds = source_holds;
      counts = counts_then old now mid (count_of Source) so_far.counts (counting.asked_failed now mid e finds.asks);
      reason = tt;
      cut_off = λ tells past. absurd (source_limit tells past);
      keeps_up = λ tells. keeps_up_source limit old held now count (so_far.reads tells) new_held mid bytes e finds (told so_far tells);
      quiet = λ tells none. quiet_so_far most_rooms (so_far.counted tells none) tells mid finds.asks.given finds.asks.rests.stays.reads;
    }

  -- a byte past the limit was found
  module _ (finds : Finds held now new_held mid bytes (Ok found.PastLimit)) where
    limit_holds : IsTrue old.tells → (m : Machine) → BeginsFor old first m → Holds m (Err Limit) old mid × IsWholeFault Limit
    limit_holds tells m stands = (asked_holds finds.asks.rests finds.asks.given finds.asks.any_moment Limit tells m stands, tt)

    some_held : (held : List ℕ) → 0 < length held → (left : List ℕ) → held ++ left ≡ [] → ⊥
    some_held [] some left none = omega arith
    some_held (b ∷ held) some left none = cc

    is_past : IsTrue old.tells → IsPastLimit limit old mid
    is_past tells =
        let read = so_far.reads tells in
        let more = finds.reads (told so_far tells) in
        let room_is : limit ≡ length read.read + (length more.read + 0) = read.room ∙ ap (λ (n : ℕ). length read.read + n) (more.room ∙ ap (λ (n : ℕ). length more.read + n) finds.room.1) in
        let is : old.ends.left ≡ read.read ++ (more.read ++ unread new_held mid) = read.front ∙ ap (λ (l : List ℕ). read.read ++ l) more.front in
        let counted : whole read.read ≡ count = ⊎_elim (λ (same : whole read.read ≡ count). same)
        (λ (none : unread held now ≡ []). absurd (some_held new_held.bytes finds.room.0 (to_come new_held.ended mid.ends.left) (none_behind more.read (unread new_held mid) (sym more.front ∙ none)))) read.ended in
        let still : unread new_held mid ≡ new_held.bytes ++ mid.ends.left = ap (λ (e : Bool). new_held.bytes ++ to_come e mid.ends.left) finds.room.2 in
        record {
          output = read.output;
          given = finds.asks.given ∙ read.given;
          taken = past_limit limit old.ends.left read.read more.read new_held.bytes mid.ends.left (is ∙ ap (λ (l : List ℕ). read.read ++ (more.read ++ l)) still) room_is finds.room.0;
          answered = read.answered ∙ sym (ends_all limit old.ends.left read.read more.read (unread new_held mid) is room_is ∙ rw (more.found, counted) (omega arith));
        }

    pub limit_passed : Stopped limit first old mid Limit
    limit_passed = record {
      holds = limit_holds;
      counts = counts_then old now mid None so_far.counts (counting.asked now mid found.PastLimit finds.asks);
      reason = is_past;
      cut_off = λ tells past. refl;
      keeps_up = λ tells. keeps_up_limit limit old held now count (so_far.reads tells) new_held mid bytes finds (told so_far tells);
      quiet = λ tells none. quiet_so_far most_rooms (so_far.counted tells none) tells mid finds.asks.given finds.asks.rests.stays.reads;
    }

  -- no line is left
  module _ (finds : Finds held now new_held mid bytes (Ok found.End)) where
    end_reads : IsTrue old.tells → HasRead limit old new_held mid count
    end_reads tells =
        let read = so_far.reads tells in
        let more = finds.reads (told so_far tells) in record {
          output = read.output;
          given = finds.asks.given ∙ read.given;
          answered = read.answered;
          read = read.read ++ more.read;
          front = read.front ∙ ap (λ (l : List ℕ). read.read ++ l) more.front ∙ sym (append_assoc read.read more.read (unread new_held mid));
          room = omega (arith, read.room, more.room, length-append read.read more.read);
          ended = inr more.found.1;
          most = end_most limit old held now count read new_held mid bytes finds (told so_far tells);
          all = λ going. absurd (true≢false (sym finds.over ∙ going));
          piece = finds.few;
          knows = finds.knows (told so_far tells) read.knows;
        }

    pub at_end : IsAtEnd limit first old session mid count
    at_end = record {
      held = new_held;
      stands = record {
        ready = record { unfailed = so_far.ready.unfailed; stands = rests_standing now mid session finds.asks.rests so_far.ready.stands };
        counts = counts_then old now mid None so_far.counts (counting.asked now mid found.End finds.asks);
        writes = finds.asks.rests.write_faults ∙ so_far.writes;
        room = omega (arith, so_far.room, finds.room);
        reads = end_reads;
        lines = λ tells line is. let more = finds.reads (told so_far tells) in so_far.lines tells line (subst (λ (l : List Line). Contains l line) (ap lines_built (more.found.1 ∙ sym more.found.0)) is);
        behind = λ tells. let more = finds.reads (told so_far tells) in ap lines_built (more.found.1 ∙ sym more.found.0) ∙ so_far.behind tells;
        course = λ tells. undergoes_still script count old.reads first now.reads mid.reads session finds.asks.rests.stays.reads (so_far.course tells);
        counted = λ tells none. counted_still most_rooms script old session now count (so_far.counted tells none) mid finds.asks.rests.stays.reads;
        asks = λ tells within none. asks_still script session now mid count finds.asks.rests (so_far.asks tells within none);
        less = λ tells m stands. along_still m script old.reads first now.reads mid.reads session count finds.asks.rests.stays.reads (so_far.less tells m stands);
        answers = λ tells m stands.
            let more = finds.reads (told so_far tells) in
            left_as m (lines_built old.ends.left) (lines_built (unread held now)) (lines_built (unread new_held mid)) old session mid count (ap lines_built (more.found.0 ∙ sym more.found.1))
            (asked m (lines_built old.ends.left) (lines_built (unread held now)) old session now count (so_far.answers tells m stands) mid finds.asks.rests finds.asks.given finds.asks.any_moment);
      };
      none = λ tells. (finds.reads (told so_far tells)).found.1;
    }
