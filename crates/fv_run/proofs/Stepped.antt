-- The loop over the lines of a script where it finds a further one: how it goes on, and how the run ends in that line.
use Rattle.std.proofs.Common.{◌≡◌, ◌⊎◌, inl, inr, ⊎_elim, ℕ, ◌+◌, ◌≤◌, ◌++◌, Bool, true, false, List, [], ◌∷◌, length, map, max, take, drop, refl, sym, ap, subst, ◌∙◌, arith, append_assoc, append-nil}
use Rattle.std.specs.Prelude.{flat_map, Contains, Ok, Err, None, IsTrue, Result}
use Rattle.std.proofs.lemmas.List.{length-append}
use Rattle.fv_disk.specs.Shown.{Image, Shown, Rose}
use Rattle.fv_disk.specs.Crash.{Leaves}
use Rattle.fv_model.specs.declared.answers.Reply.{Reply}
use Rattle.fv_model.specs.declared.commands.Command.{Command}
use Rattle.fv_model.specs.Machines.{Machine}
use Rattle.fv_model.specs.Lines.{line_of}
use Rattle.fv_model.specs.Runs.{Line, after, whole}
use Rattle.fv_model.specs.Texts.{text}
use Rattle.fv_lines.specs.declared.reading.Found.TheVariants as found
use Rattle.fv_lines.specs.Counts.{Counts}
use Rattle.fv_lines.specs.Held.{Held}
use Rattle.fv_lines.specs.Reading.{to_come, unread, Finds}
use Rattle.fv_lines.proofs.Counting.{counts_then}
use Rattle.fv_lines.proofs.Counting as counting
use Rattle.fv_lines.proofs.Ends.{whole_append}
use Rattle.fv_aggregate.specs.declared.session.Session.{Session}
use Rattle.fv_aggregate.specs.Asking.{AsksWithin}
use Rattle.fv_aggregate.specs.Commands.{most_room, room_by}
use Rattle.fv_aggregate.specs.Standing.{IsWithoutFiles}
use Rattle.fv_run.specs.declared.ending.Fault.{Fault}
use Rattle.fv_run.specs.declared.ending.Fault.TheVariants.{Usage, Unsound, NotAggregate, Source, Sink, Disk, Memory, Damaged, Limit}
use Rattle.fv_run.specs.Built.{built, lines_built}
use Rattle.fv_run.specs.Endings.{count_of, IsWholeFault}
use Rattle.fv_run.specs.Promises.{line_at}
use Rattle.fv_run.specs.Running.{begun, changes_volumes, HasChanged, Holds, IsOverLimit, IsHurtBehind, IsSessionDamage, KeepsUp, MeetsDamage, most_rooms, reads_blocks, rooms_along, Survives, asks_point, pending_behind, IsQuiet}
use Rattle.fv_run.specs.Answering.{Applies, AsksFor, BeginsFor, HasAnswered, HasRead, IsCounted, IsEndOf, IsHurtLine, Lacks, LacksSpace, LosesLeaf, IsReady, IsSessionFault, StandsAt, Stopped, TellsLine}
use Rattle.fv_run.proofs.Following.{left_next, line_behind}
use Rattle.fv_run.proofs.KeepingUp.{keeps_up_line, next_most, next_all, knows_on}
use Rattle.fv_run.proofs.Lines.{no_end, one_end}
use Rattle.fv_run.proofs.Limits.{all_read, ends_before, same_behind, none_behind}
use Rattle.fv_run.proofs.Counted.{bound_for, bound_most, calm_next, counted_next, counted_still, quiet_next}
use Rattle.fv_run.proofs.Rooms.{first_in, later_in, greater_room, room_of_line}
use Rattle.fv_run.proofs.LeftAlong.{along_line}
use Rattle.fv_run.proofs.Courses.{undergoes_next, undergoes_read, undergoes_still}
use Rattle.fv_run.proofs.Sessions.{leaf_lost, hurt_behind, rests_asking, rests_standing}
use Rattle.fv_run.proofs.Answered.{followed, asked, left_as, crash_applied, rested_unapplied, crash_told, followed_part, rested_part, answered_one}
use Rattle.fv_run.proofs.SoFar.{answered_by, asks_still, told}

module _ (limit : ℕ) (first : Session) (old : Shown) (held : Held) (session : Session) (now : Shown) (count : ℕ) (so_far : StandsAt limit first old held session now count)
    (new_held : Held) (mid : Shown) (bytes : List ℕ) where
  abbrev script : List Line
  script = lines_built old.ends.left

  -- a line was found
  module _ (finds : Finds held now new_held mid bytes (Ok found.Line)) where
    pub mid_ready : IsReady mid session
    mid_ready = record { unfailed = so_far.ready.unfailed; stands = rests_standing now mid session finds.asks.rests so_far.ready.stands }

    mid_counts : Counts old mid None
    mid_counts = counts_then old now mid None so_far.counts (counting.asked now mid found.Line finds.asks)

    mid_writes : mid.write_faults ≡ old.write_faults
    mid_writes = finds.asks.rests.write_faults ∙ so_far.writes

    mid_asks : IsTrue old.tells → AsksWithin old first 0 → IsWithoutFiles first → AsksFor script mid session ⊎ HasChanged script count
    mid_asks tells within none = asks_still script session now mid count finds.asks.rests (so_far.asks tells within none)

    mid_told : IsTrue old.tells → IsTrue mid.tells
    mid_told tells = rw mid_counts.tells tells

    -- the line and those behind it are lines of the script
    all_lines : IsTrue old.tells → (line : Line) → Contains (built (line_of bytes) ∷ lines_built (unread new_held mid)) line → Contains (lines_built old.ends.left) line
    all_lines tells line is = so_far.lines tells line (subst (λ (l : List Line). Contains l line) (sym (ap (λ (l : List Line). map built l) (finds.reads (told so_far tells)).found.0)) is)

    mid_behind : IsTrue old.tells → built (line_of bytes) ∷ lines_built (unread new_held mid) ≡ drop count script
    mid_behind tells = sym (ap (λ (l : List Line). map built l) (finds.reads (told so_far tells)).found.0) ∙ so_far.behind tells

    line_is : IsTrue old.tells → line_at script count ≡ built (line_of bytes)
    line_is tells = line_behind count script (lines_built (unread new_held mid)) (built (line_of bytes)) (mid_behind tells)

    mid_counted : IsTrue old.tells → first.pending ≡ 0 → IsCounted most_rooms script old session mid count
    mid_counted tells none = counted_still most_rooms script old session now count (so_far.counted tells none) mid finds.asks.rests.stays.reads

    mid_bound : (c : Command) → room_by session.volumes c ≤ most_room c
    mid_bound c = bound_most mid session mid_ready.stands c

    found_next : IsTrue old.tells → (m : Machine) → BeginsFor old first m → HasAnswered m (lines_built old.ends.left) (built (line_of bytes) ∷ lines_built (unread new_held mid)) old session mid count
    found_next tells m stands =
        let more = finds.reads (told so_far tells) in
        left_as m (lines_built old.ends.left) (lines_built (unread held now)) (built (line_of bytes) ∷ lines_built (unread new_held mid)) old session mid count (ap (λ (l : List Line). map built l) more.found.0)
        (asked m (lines_built old.ends.left) (lines_built (unread held now)) old session now count (so_far.answers tells m stands) mid finds.asks.rests finds.asks.given finds.asks.any_moment)

    bound_along : (tells : IsTrue old.tells) (m : Machine) → BeginsFor old first m → (c : Command) → room_by session.volumes c ≤ rooms_along m script count c
    bound_along tells m stands c = let answers = found_next tells m stands in bound_for mid session (after m script answers.applied.point) (after m script count) answers.applied.stands c

    calm_since : (new : Shown) → ¬ Rose old.write_faults new.write_faults → ¬ Rose mid.write_faults new.write_faults
    calm_since new calm rose = calm (subst (λ (n : ℕ). Rose n new.write_faults) mid_writes rose)

    module _ (next_session : Session) (end : Shown) where
      -- a line that asks for no point writes nothing
      calm_along : (result : Result Reply Fault) → Applies session (built (line_of bytes)) mid next_session end result → (tells : IsTrue old.tells) (m : Machine) → BeginsFor old first m
          → asks_point (rooms_along m script count) (pending_behind (rooms_along m script) script count) (built (line_of bytes)) ≡ false → end.reads ≡ mid.reads
      calm_along result applies tells m stands =
          calm_next (rooms_along m script) script old session mid count (found_next tells m stands).applied.counted (built (line_of bytes)) (line_is tells) (bound_along tells m stands) end applies.calm

      -- so it is while its reply isn't given whole
      stays_quiet : (rooms : ℕ → Command → ℕ) → IsCounted rooms script old session mid count → ((c : Command) → room_by session.volumes c ≤ rooms count c) → (result : Result Reply Fault) → Applies session (built (line_of bytes)) mid next_session end result
          → IsTrue old.tells → (new : Shown) → new.reads ≡ end.reads → ((output : List ℕ) → new.given ≡ old.given ++ output → whole output ≡ count) → IsQuiet rooms script old new
      stays_quiet rooms counted bound result applies tells new same answered output given asks =
          same ∙ quiet_next rooms script old session mid count counted (built (line_of bytes)) (line_is tells) bound end applies.calm output asks (answered output given)

      crash_so_far : (result : Result Reply Fault) → Applies session (built (line_of bytes)) mid next_session end result → IsTrue old.tells → (m : Machine) → BeginsFor old first m → Leaves old end (Survives m (lines_built old.ends.left) old.given)
      crash_so_far result applies tells m stands =
          let answers = found_next tells m stands in
          crash_applied m (lines_built old.ends.left) (built (line_of bytes)) (lines_built (unread new_held mid)) old session mid count answers next_session end
          (applies.any_moment (mid_told tells) (after m (lines_built old.ends.left) answers.applied.point) (after m (lines_built old.ends.left) count) answers.applied.stands) (calm_along result applies tells m stands)

      none_past : (new : Shown) (tells : IsTrue old.tells) → IsOverLimit limit old new → unread new_held mid ≡ [] → ⊥
      none_past new tells past none =
          let read = so_far.reads tells in
          let more = finds.reads (told so_far tells) in
          let is : old.ends.left ≡ read.read ++ (more.read ++ []) = read.front ∙ ap (λ (l : List ℕ). read.read ++ l) (more.front ∙ ap (λ (l : List ℕ). more.read ++ l) none) in
          all_read limit new_held.room old.ends.left read.read more.read [] new.ends.left is (read.room ∙ ap (λ (n : ℕ). length read.read + n) more.room) (omega arith) past.taken

      -- the line that was found ends before the limit, and isn't answered
      one_past : (new : Shown) (tells : IsTrue old.tells) (past : IsOverLimit limit old new) → whole past.output ≡ count → whole (so_far.reads tells).read ≡ count → whole (finds.reads (told so_far tells)).read ≡ 1 → ⊥
      one_past new tells past answered counted one =
          let read = so_far.reads tells in
          let more = finds.reads (told so_far tells) in
          let is : old.ends.left ≡ read.read ++ (more.read ++ unread new_held mid) = read.front ∙ ap (λ (l : List ℕ). read.read ++ l) more.front in
          let before : whole read.read + whole more.read ≤ whole (take limit old.ends.left) = ends_before limit new_held.room old.ends.left read.read more.read (unread new_held mid) is (read.room ∙ ap (λ (n : ℕ). length read.read + n) more.room) in
          let all = past.answered in
          omega (arith, before, all, answered, counted, one)

      not_past : (new : Shown) (tells : IsTrue old.tells) (past : IsOverLimit limit old new) → whole past.output ≡ count → ⊥
      not_past new tells past answered =
          let read = so_far.reads tells in
          let more = finds.reads (told so_far tells) in
          ⊎_elim
          (λ (one : whole more.read ≡ 1). ⊎_elim
          (λ (counted : whole read.read ≡ count). one_past new tells past answered counted one)
          (λ (none : unread held now ≡ []). none_past new tells past (none_behind more.read (unread new_held mid) (sym more.front ∙ none)))
          read.ended)
          (λ (none : unread new_held mid ≡ []). none_past new tells past none)
          more.found.1

      -- what was given since the line was found
      output_since : (new : Shown) (tells : IsTrue old.tells) (bytes output : List ℕ) → new.given ≡ mid.given ++ bytes → new.given ≡ old.given ++ output → whole output ≡ count + whole bytes
      output_since new tells bytes output since is =
          let read = so_far.reads tells in
          let all : new.given ≡ old.given ++ (read.output ++ bytes) = since ∙ ap (λ (l : List ℕ). l ++ bytes) (finds.asks.given ∙ read.given) ∙ append_assoc old.given read.output bytes in
          ap whole (same_behind old.given output (read.output ++ bytes) (sym is ∙ all)) ∙ whole_append read.output bytes ∙ ap (λ (n : ℕ). n + whole bytes) read.answered

      file_damage : end.given ≡ mid.given → IsTrue old.tells → (reads_blocks (line_at script count) ≡ true) ⊎ HasChanged script count → IsSessionDamage script first old end
      file_damage same tells line =
          let read = so_far.reads tells in
          inr (inl (record {
            output = read.output;
            given = same ∙ finds.asks.given ∙ read.given;
            line = subst (λ (n : ℕ). (reads_blocks (line_at script n) ≡ true) ⊎ HasChanged script n) (sym read.answered) line;
          }))

      meets : end.given ≡ mid.given → IsTrue old.tells → IsHurtLine (built (line_of bytes)) mid.reads session end → MeetsDamage script first old end
      meets same tells hurt =
          let read = so_far.reads tells in
          record {
            output = read.output;
            given = same ∙ finds.asks.given ∙ read.given;
            call = subst (λ (n : ℕ). IsHurtBehind script n old.reads first end) (sym read.answered) (hurt_behind script count (built (line_of bytes)) old.reads first now.reads session end (line_is tells)
                (λ told. so_far.course tells) (undergoes_read script count old.reads first now.reads session (so_far.course tells))
                (subst (λ (over : Image). IsHurtLine (built (line_of bytes)) over session end) finds.asks.rests.stays.reads hurt));
          }

      ends_so : end.given ≡ mid.given → (fault : Fault) → IsSessionFault (built (line_of bytes)) mid session end fault → IsEndOf limit first old end fault
      ends_so same Usage is = is
      ends_so same Unsound is = is
      ends_so same NotAggregate is = is
      ends_so same Source is = absurd is
      ends_so same Sink is = absurd is
      ends_so same Disk is = is
      ends_so same Memory is = is
      ends_so same Damaged is = λ tells. (
        meets same tells is.0,
        λ within none. ⊎_elim
            (λ (reads : reads_blocks (built (line_of bytes)) ≡ true). file_damage same tells (inl (ap reads_blocks (line_is tells) ∙ reads)))
            (λ (wants : LacksSpace mid session end). ⊎_elim
            (λ (asks : AsksFor script mid session).
            ⊎_elim
            (λ (lacks : Lacks asks.room end.reads). inl (record { room = asks.room; asks = asks.line; at = lacks.0; want = lacks.1; found = lacks.2; short = lacks.3 }))
            (λ (loses : LosesLeaf mid session end). let read = so_far.reads tells in inr (inr (leaf_lost script count old first mid session end read.output (same ∙ finds.asks.given ∙ read.given) read.answered (undergoes_still script count old.reads first now.reads mid.reads session finds.asks.rests.stays.reads (so_far.course tells)) loses)))
            (wants (mid_told tells) asks.none asks.room asks.asks))
            (λ (changed : HasChanged script count). file_damage same tells (inr changed))
            (mid_asks tells within none))
            is.1,
      )
      ends_so same Limit is = absurd is

      -- a fault of a session's call comes in a line
      in_line : (fault : Fault) → IsSessionFault (built (line_of bytes)) mid session end fault → (output : List ℕ) → begun (Err fault) output ≡ whole output + 1
      in_line Source is output = absurd is
      in_line Limit is output = absurd is
      in_line fault is output = refl

      unanswered : IsTrue old.tells → end.given ≡ mid.given → (output : List ℕ) → end.given ≡ old.given ++ output → whole output ≡ count
      unanswered tells same output given = answered_by so_far end tells output (same ∙ finds.asks.given) given

      -- the line wasn't applied
      pub apply_failed : (fault : Fault) → Applies session (built (line_of bytes)) mid next_session end (Err fault) → Stopped limit first old end fault
      apply_failed fault applies = record {
        holds = λ tells m stands.
            let answers = found_next tells m stands in (
              record {
                replies = followed m (lines_built old.ends.left) (built (line_of bytes) ∷ lines_built (unread new_held mid)) old session mid count answers end applies.given;
                crash = crash_so_far (Err fault) applies tells m stands;
                at_rest = λ calm. rested_unapplied m (lines_built old.ends.left) (built (line_of bytes)) (lines_built (unread new_held mid)) old session mid count answers next_session end
                    (applies.any_moment (mid_told tells) (after m (lines_built old.ends.left) answers.applied.point) (after m (lines_built old.ends.left) count) answers.applied.stands) (calm_along (Err fault) applies tells m stands) applies.given (Err fault) (in_line fault applies.ends (flat_map text answers.replies))
                    (applies.still (mid_told tells) (after m (lines_built old.ends.left) answers.applied.point) (after m (lines_built old.ends.left) count) answers.applied.stands (calm_since end calm));
                quiet = stays_quiet (rooms_along m script) answers.applied.counted (bound_along tells m stands) (Err fault) applies tells end refl (unanswered tells applies.given);
              },
              applies.no_damage (mid_told tells) (after m (lines_built old.ends.left) answers.applied.point) (after m (lines_built old.ends.left) count) answers.applied.stands,
            );
        counts = counts_then old mid end (count_of fault) mid_counts applies.counts;
        reason = ends_so applies.given fault applies.ends;
        quiet = λ tells none. stays_quiet most_rooms (mid_counted tells none) mid_bound (Err fault) applies tells end refl (unanswered tells applies.given);
        cut_off = λ tells past. absurd (not_past end tells past (output_since end tells [] past.output (applies.given ∙ sym (append-nil mid.given)) past.given ∙ omega arith));
        keeps_up = λ tells. keeps_up_line limit old held now count (so_far.reads tells) new_held mid bytes finds (told so_far tells) end fault [] (applies.given ∙ sym (append-nil mid.given)) applies.left (in_line fault applies.ends);
      }

      -- it was applied
      module _ (reply : Reply) (applies : Applies session (built (line_of bytes)) mid next_session end (Ok reply)) (new : Shown) where
        end_told : IsTrue old.tells → IsTrue end.tells
        end_told tells = rw applies.counts.tells (mid_told tells)

        end_counts : Counts old end None
        end_counts = counts_then old mid end None mid_counts applies.counts

        -- a part of a reply answers no line
        part_answered : (fault : Fault) → TellsLine end (text reply) new (Err fault) → (tells : IsTrue old.tells) (output : List ℕ) → new.given ≡ old.given ++ output → whole output ≡ count
        part_answered fault tells_it tells output given =
            let part = tells_it.tells.gives.part (end_told tells) in
            let since : new.given ≡ mid.given ++ take part.0 (text reply) = part.2 ∙ ap (λ (l : List ℕ). l ++ take part.0 (text reply)) applies.given in
            let none : whole (take part.0 (text reply)) ≡ 0 = no_end (text reply) part.0 tells_it.line part.1 in
            output_since new tells (take part.0 (text reply)) output since given ∙ rw none (omega arith)

        told_holds : (fault : Fault) → TellsLine end (text reply) new (Err fault) → IsTrue old.tells → (m : Machine) → BeginsFor old first m → Holds m (Err fault) old new
        told_holds fault tells_it tells m stands =
            let L : List Line = lines_built old.ends.left in
            let answers = found_next tells m stands in
            let done = applies.done (mid_told tells) (after m L answers.applied.point) (after m L count) answers.applied.stands in
            let moments = applies.any_moment (mid_told tells) (after m L answers.applied.point) (after m L count) answers.applied.stands in
            let one : whole (text reply) ≡ 1 = one_end (text reply) tells_it.line in
            let part = tells_it.tells.gives.part (end_told tells) in
            record {
              replies = followed_part m L (built (line_of bytes)) (lines_built (unread new_held mid)) old session mid count answers next_session end moments (calm_along (Ok reply) applies tells m stands) (end_told tells) applies.given reply done.0 done.1 new tells_it.tells.any_moment one tells_it.line part;
              crash = crash_told m L (built (line_of bytes)) (lines_built (unread new_held mid)) old session mid count answers next_session end moments (calm_along (Ok reply) applies tells m stands) (end_told tells) applies.given reply done.0 done.1 new tells_it.tells.any_moment one;
              at_rest = λ calm. rested_part m L (built (line_of bytes)) (lines_built (unread new_held mid)) old session mid count answers next_session end moments (calm_along (Ok reply) applies tells m stands) (end_told tells) applies.given reply done.0 done.1 new tells_it.tells.any_moment one
                  tells_it.tells.gives.rests tells_it.line part fault tells_it.sink;
              quiet = stays_quiet (rooms_along m script) answers.applied.counted (bound_along tells m stands) (Ok reply) applies tells new tells_it.tells.gives.rests.stays.reads (part_answered fault tells_it tells);
            }

        part_past : (fault : Fault) → TellsLine end (text reply) new (Err fault) → IsTrue old.tells → IsOverLimit limit old new → ⊥
        part_past fault tells_it tells past = not_past new tells past (part_answered fault tells_it tells past.output past.given)

        keeps_up_part : (fault : Fault) → TellsLine end (text reply) new (Err fault) → IsTrue old.tells → KeepsUp limit old new (Err Sink)
        keeps_up_part fault tells_it tells =
            let part = tells_it.tells.gives.part (end_told tells) in
            keeps_up_line limit old held now count (so_far.reads tells) new_held mid bytes finds (told so_far tells) new Sink (take part.0 (text reply)) (part.2 ∙ ap (λ (l : List ℕ). l ++ take part.0 (text reply)) applies.given)
            (tells_it.tells.gives.left ∙ applies.left) (λ output. refl)

        -- the sink failed
        pub tell_failed : (fault : Fault) → TellsLine end (text reply) new (Err fault) → Stopped limit first old new fault
        tell_failed fault tells_it = record {
          holds = λ tells m stands. (told_holds fault tells_it tells m stands, subst IsWholeFault (sym tells_it.sink) tt);
          counts = counts_then old end new (count_of fault) end_counts (subst (λ (f : Fault). Counts end new (count_of f)) (sym tells_it.sink) (counting.untold end new (text reply) (record {}) tells_it.tells));
          reason = subst (λ (f : Fault). IsEndOf limit first old new f) (sym tells_it.sink) tt;
          cut_off = λ tells past. absurd (part_past fault tells_it tells past);
          keeps_up = λ tells. subst (λ (f : Fault). KeepsUp limit old new (Err f)) (sym tells_it.sink) (keeps_up_part fault tells_it tells);
          quiet = λ tells none. stays_quiet most_rooms (mid_counted tells none) mid_bound (Ok reply) applies tells new tells_it.tells.gives.rests.stays.reads (part_answered fault tells_it tells);
        }

        same_left : TellsLine end (text reply) new (Ok tt) → unread new_held new ≡ unread new_held mid
        same_left tells_it = ap (λ (l : List ℕ). new_held.bytes ++ to_come new_held.ended l) (tells_it.tells.gives.left ∙ applies.left)

        reads_next : TellsLine end (text reply) new (Ok tt) → IsTrue old.tells → HasRead limit old new_held new (count + 1)
        reads_next tells_it tells =
            let read = so_far.reads tells in
            let more = finds.reads (told so_far tells) in record {
              output = read.output ++ text reply;
              given = tells_it.tells.gives.all (end_told tells) ∙ ap (λ (l : List ℕ). l ++ text reply) (applies.given ∙ finds.asks.given ∙ read.given) ∙ append_assoc old.given read.output (text reply);
              answered = whole_append read.output (text reply) ∙ rw (read.answered, one_end (text reply) tells_it.line) refl;
              read = read.read ++ more.read;
              front = read.front ∙ ap (λ (l : List ℕ). read.read ++ l) (more.front ∙ ap (λ (l : List ℕ). more.read ++ l) (sym (same_left tells_it))) ∙ sym (append_assoc read.read more.read (unread new_held new));
              room = omega (arith, read.room, more.room, length-append read.read more.read);
              ended = ⊎_elim
                  (λ (one : whole more.read ≡ 1). ⊎_elim
                  (λ (counted : whole read.read ≡ count). inl (whole_append read.read more.read ∙ rw (counted, one) refl))
                  (λ (none : unread held now ≡ []). inr (same_left tells_it ∙ none_behind more.read (unread new_held mid) (sym more.front ∙ none)))
                  read.ended)
                  (λ (none : unread new_held mid ≡ []). inr (same_left tells_it ∙ none))
                  more.found.1;
              most = next_most limit old held now count read new_held mid bytes (Ok found.Line) finds (told so_far tells);
              all = next_all limit old held now count read new_held mid bytes finds (told so_far tells);
              piece = finds.few;
              knows = knows_on new_held mid new (tells_it.tells.gives.left ∙ applies.left) (finds.knows (told so_far tells) read.knows);
            }

        asks_next : TellsLine end (text reply) new (Ok tt) → IsTrue old.tells → AsksWithin old first 0 → IsWithoutFiles first → AsksFor script new next_session ⊎ HasChanged script (count + 1)
        asks_next tells_it tells within none = ⊎_elim
            (λ (asks : AsksFor script mid session). so asks (changes_volumes (built (line_of bytes))) refl)
            (λ (changed : HasChanged script count). let before = changed.before in inr (record { line = changed.line; before = omega (arith, before); changes = changed.changes }))
            (mid_asks tells within none)
          where
            so : AsksFor script mid session → (changes : Bool) → changes_volumes (built (line_of bytes)) ≡ changes → AsksFor script new next_session ⊎ HasChanged script (count + 1)
            so asks true e = inr (record { line = count; before = omega arith; changes = ap changes_volumes (line_is tells) ∙ e })
            so asks false e =
                let line : Line = built (line_of bytes) in
                let next = applies.asks (mid_told tells) e asks.room asks.asks in
                let more = room_of_line script line next.0 (all_lines tells line (first_in line (lines_built (unread new_held mid)))) next.1 in
                inl (record {
                  none = (applies.led (mid_told tells)).files e asks.none;
                  room = max asks.room next.0;
                  line = greater_room script asks.room next.0 asks.line more;
                  asks = rests_asking end new next_session (max asks.room next.0) tells_it.tells.gives.rests next.2;
                })

        -- its reply was given
        pub goes_on : TellsLine end (text reply) new (Ok tt) → StandsAt limit first old new_held next_session new (count + 1)
        goes_on tells_it = record {
          ready = record { unfailed = applies.ready.unfailed; stands = rests_standing end new next_session tells_it.tells.gives.rests applies.ready.stands };
          counts = counts_then old end new None end_counts (counting.told end new (text reply) tells_it.tells);
          writes = tells_it.tells.gives.rests.write_faults ∙ applies.writes ∙ mid_writes;
          room = omega (arith, so_far.room, finds.room);
          reads = reads_next tells_it;
          lines = λ tells line is. all_lines tells line (later_in (built (line_of bytes)) (lines_built (unread new_held mid)) line (subst (λ (l : List ℕ). Contains (lines_built l) line) (same_left tells_it) is));
          behind = λ tells. ap lines_built (same_left tells_it) ∙ left_next count script (lines_built (unread new_held mid)) (built (line_of bytes)) (mid_behind tells);
          course = λ tells. undergoes_still script (count + 1) old.reads first end.reads new.reads next_session tells_it.tells.gives.rests.stays.reads
              (undergoes_next script count (built (line_of bytes)) (line_is tells) old.reads first mid.reads session end.reads next_session
              (undergoes_still script count old.reads first now.reads mid.reads session finds.asks.rests.stays.reads (so_far.course tells)) (applies.led (mid_told tells)));
          counted = λ tells none. next_counted most_rooms (mid_counted tells none) mid_bound tells;
          asks = asks_next tells_it;
          less = λ tells m stands.
              let answers = found_next tells m stands in
              along_line m script count (built (line_of bytes)) (line_is tells) old.reads first now.reads mid.reads session end.reads new.reads next_session finds.asks.rests.stays.reads
              tells_it.tells.gives.rests.stays.reads (so_far.less tells m stands) (applies.less (mid_told tells) (after m script answers.applied.point) (after m script count) answers.applied.stands);
          answers = λ tells m stands.
              let L : List Line = lines_built old.ends.left in
              let answers = found_next tells m stands in
              let done = applies.done (mid_told tells) (after m L answers.applied.point) (after m L count) answers.applied.stands in
              let moments = applies.any_moment (mid_told tells) (after m L answers.applied.point) (after m L count) answers.applied.stands in
              left_as m L (lines_built (unread new_held mid)) (lines_built (unread new_held new)) old next_session new (count + 1) (ap lines_built (sym (same_left tells_it)))
              (answered_one m L (built (line_of bytes)) (lines_built (unread new_held mid)) old session mid count answers next_session end moments (calm_along (Ok reply) applies tells m stands) (end_told tells) applies.given reply done.0 done.1 new tells_it.tells.any_moment
              (one_end (text reply) tells_it.line) tells_it.tells.gives.rests (tells_it.tells.gives.all (end_told tells)) (next_counted (rooms_along m script) answers.applied.counted (bound_along tells m stands) tells)
              (applies.paths (mid_told tells) (after m L answers.applied.point) (after m L count) answers.applied.stands));
        }
          where
            next_counted : (rooms : ℕ → Command → ℕ) → IsCounted rooms script old session mid count → ((c : Command) → room_by session.volumes c ≤ rooms count c) → IsTrue old.tells → IsCounted rooms script old next_session new (count + 1)
            next_counted rooms counted bound tells =
                counted_next rooms script old session mid count counted (built (line_of bytes)) (line_is tells) bound end applies.calm next_session new tells_it.tells.gives.rests.stays.reads (applies.led (mid_told tells)).pending
