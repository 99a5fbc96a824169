-- All lines are answered; then come the last consistency point and the line of `done`.
use Rattle.std.proofs.Common.{◌≡◌, ◌⊎◌, inl, inr, ⊎_elim, ℕ, ◌+◌, ◌≤◌, ◌++◌, List, [], length, map, take, drop, refl, sym, ap, subst, ◌∙◌, arith, append_assoc, append-nil}
use Rattle.std.specs.Prelude.{flat_map, Some, None, Result, Ok, Err, IsNone, IsTrue}
use Rattle.std.proofs.lemmas.List.{length-drop}
use Rattle.fv_disk.specs.Shown.{Ends, Image, Shown, Rose}
use Rattle.fv_disk.specs.Crash.{Leaves}
use Rattle.fv_disk.specs.Partly.{PartlyGiven}
use Rattle.fv_disk.proofs.Moments.{then, weaken}
use Rattle.fv_model.specs.declared.commands.Command.{Command}
use Rattle.fv_model.specs.Machines.{Machine}
use Rattle.fv_model.specs.Runs.{Line, after, Full, whole}
use Rattle.fv_model.specs.Lines.{line_of}
use Rattle.fv_script.proofs.ScriptLines.{no_line}
use Rattle.fv_model.specs.Texts.{text, done_text}
use Rattle.fv_image.specs.WholeMachine.{machine_of}
use Rattle.fv_lines.specs.Counts.{Counts}
use Rattle.fv_lines.specs.Reading.{to_come, unread}
use Rattle.fv_lines.proofs.Counting.{counts_then}
use Rattle.fv_lines.proofs.Counting as counting
use Rattle.fv_lines.proofs.Ends.{whole_append}
use Rattle.fv_aggregate.specs.Commands.{AsksPoint}
use Rattle.fv_aggregate.specs.declared.fault.Fault.{Fault as SessionFault}
use Rattle.fv_aggregate.specs.declared.fault.Fault.TheVariants as session_fault
use Rattle.fv_aggregate.specs.declared.session.Session.{Session}
use Rattle.fv_aggregate.specs.Calls.{Goes, GoesFor}
use Rattle.fv_aggregate.specs.Calls as calls
use Rattle.fv_aggregate.specs.Causes.{KeepsEnds}
use Rattle.fv_aggregate.specs.Standing.{OneOf, StandsFor}
use Rattle.fv_run.specs.declared.ending.Fault.{Fault}
use Rattle.fv_run.specs.declared.ending.Fault.TheVariants.{Disk, Memory, Damaged}
use Rattle.fv_run.specs.Built.{built, lines_built}
use Rattle.fv_run.specs.Endings.{count_of, IsWholeFault, of_session}
use Rattle.fv_run.specs.Probes.{AnswersProbes}
use Rattle.fv_run.specs.Running.{HasChanged, IsAtRest, IsHurtBehind, IsOverLimit, KeepsUp, MeetsDamage, most_rooms, rooms_along, Survives, IsQuiet}
use Rattle.fv_run.specs.Answering.{AsksFor, HasAnswered, IsAtEnd, IsEndOf, IsHurtBy, Lacks, LacksSpace, LosesLeaf, IsLine, TellsLine, BeginsFor}
use Rattle.fv_run.proofs.EndsKept.{counts_kept, counts_rose}
use Rattle.fv_run.proofs.Acked.{acked_all, acked_whole, up_to_take}
use Rattle.fv_run.proofs.Courses.{undergoes_read}
use Rattle.fv_run.proofs.Following.{follows_part, follows_whole, full}
use Rattle.fv_run.proofs.KeepingUp.{keeps_up_between, none_before}
use Rattle.fv_run.proofs.Limits.{all_read, same_behind}
use Rattle.fv_run.proofs.ProbesAlong.{probes_answered}
use Rattle.fv_run.proofs.Lines.{no_end, one_end}
use Rattle.fv_run.proofs.Sessions.{leaf_lost, hurt_by, hurt_last, images_stand, lacks, never_failed, reads_stand, rests_standing_for}
use Rattle.fv_run.proofs.Surviving.{after_some, after_all, asked_for, part_of_one, rested}
use Rattle.fv_run.proofs.Answered.{survives, followed}
use Rattle.fv_run.proofs.Ran.{RanOpen}

no_lines : lines_built [] ≡ []
no_lines = ap (λ (ls : List (List ℕ)). map built (map line_of ls)) no_line

none_left : (L : List Line) (count : ℕ) → [] ≡ drop count L → length L ≤ count
none_left L count is = omega (arith, ap (λ (l : List Line). length l) is, length-drop count L)

module _ (limit : ℕ) (session : Session) (mid : Shown) (last : Session) (end : Shown) (count : ℕ) (at_end : IsAtEnd limit session mid last end count) where
  end_told : IsTrue mid.tells → IsTrue end.tells
  end_told tells = rw at_end.stands.counts.tells tells

  answers : IsTrue mid.tells → (m : Machine) → BeginsFor mid session m → HasAnswered m (lines_built mid.ends.left) (lines_built (unread at_end.held end)) mid last end count
  answers tells m stands = at_end.stands.answers tells m stands

  all_answered : (tells : IsTrue mid.tells) (m : Machine) → BeginsFor mid session m → length (lines_built mid.ends.left) ≤ count
  all_answered tells m stands = none_left (lines_built mid.ends.left) count (sym (ap lines_built (at_end.none tells) ∙ no_lines) ∙ (answers tells m stands).left_over)

  -- no line is left
  pub all_lines : IsTrue mid.tells → length (lines_built mid.ends.left) ≤ count
  all_lines tells = none_left (lines_built mid.ends.left) count (sym (ap lines_built (at_end.none tells) ∙ no_lines) ∙ at_end.stands.behind tells)

  never_quiet : (rooms : ℕ → Command → ℕ) (new : Shown) → IsTrue mid.tells → (more : List ℕ) → new.given ≡ end.given ++ more → IsQuiet rooms (lines_built mid.ends.left) mid new
  never_quiet rooms new tells more since output given asks =
      let read = at_end.stands.reads tells in
      let all : new.given ≡ mid.given ++ (read.output ++ more) = since ∙ ap (λ (l : List ℕ). l ++ more) read.given ∙ append_assoc mid.given read.output more in
      let answered : whole output ≡ count + whole more = ap whole (same_behind mid.given output (read.output ++ more) (sym given ∙ all)) ∙ whole_append read.output more ∙ ap (λ (n : ℕ). n + whole more) read.answered in
      absurd (omega (arith, answered, all_lines tells, asks.more))

  never_past : (new : Shown) → IsTrue mid.tells → IsOverLimit limit mid new → ⊥
  never_past new tells past =
      let read = at_end.stands.reads tells in
      all_read limit at_end.held.room mid.ends.left read.read [] [] new.ends.left (read.front ∙ ap (λ (l : List ℕ). read.read ++ l) (at_end.none tells)) (read.room ∙ omega arith) (omega arith) past.taken

  no_byte_held : IsTrue mid.tells → at_end.held.bytes ≡ []
  no_byte_held tells = none_before at_end.held.bytes (to_come at_end.held.ended end.ends.left) (at_end.none tells)

  -- all that was read is answered
  keeps_up_after : (new : Shown) (result : Result Unit Fault) → IsTrue mid.tells → (more : List ℕ) → new.given ≡ end.given ++ more → new.ends.left ≡ end.ends.left → KeepsUp limit mid new result
  keeps_up_after new result tells more given same = keeps_up_between limit mid at_end.held end count (at_end.stands.reads tells) new result more given same (λ is. no_byte_held tells)

  calm_since : (new : Shown) → ¬ Rose mid.write_faults new.write_faults → ¬ Rose end.write_faults new.write_faults
  calm_since new calm rose = calm (subst (λ (n : ℕ). Rose n new.write_faults) at_end.stands.writes rose)

  -- the consistency point
  module _ (next : Session) (point : Shown) (meanwhile : IsTrue end.tells → (before m : Machine) → StandsFor end last before m → Leaves end point (λ c g. OneOf before m m c × (g ≡ end.given))) (keeps : KeepsEnds end point) where
    point_image : (tells : IsTrue mid.tells) (m : Machine) (stands : BeginsFor mid session m) (c : Image) (g : List ℕ)
        → OneOf (after m (lines_built mid.ends.left) (answers tells m stands).applied.point) (after m (lines_built mid.ends.left) count) (after m (lines_built mid.ends.left) count) c × (g ≡ end.given) → Survives m (lines_built mid.ends.left) mid.given c g
    point_image tells m stands c g one =
        let L : List Line = lines_built mid.ends.left in
        let a = answers tells m stands in
        let within = a.applied.within in
        let most = a.applied.most in
        let now : machine_of c ≡ Some (after m L count) → Survives m L mid.given c g = λ is. survives m L mid.given c g (flat_map text a.replies) (one.1 ∙ a.given) (after_some m L count count (flat_map text a.replies) c a.answered within (up_to_take count L within) (omega arith) within is) in
        ⊎_elim
        (λ (is : machine_of c ≡ Some (after m L a.applied.point)). survives m L mid.given c g (flat_map text a.replies) (one.1 ∙ a.given) (after_some m L count a.applied.point (flat_map text a.replies) c a.answered within a.applied.least (omega (arith, most)) (omega (arith, most, within)) is))
        (λ (others : (machine_of c ≡ Some (after m L count)) ⊎ (machine_of c ≡ Some (after m L count))). ⊎_elim now now others)
        one.0

    crash_point : (tells : IsTrue mid.tells) (m : Machine) → BeginsFor mid session m → Leaves mid point (Survives m (lines_built mid.ends.left) mid.given)
    crash_point tells m stands =
        let L : List Line = lines_built mid.ends.left in
        let a = answers tells m stands in
        then mid end point (Survives m L mid.given) a.crash
        (weaken end point (λ c g. OneOf (after m L a.applied.point) (after m L count) (after m L count) c × (g ≡ end.given)) (Survives m L mid.given) (point_image tells m stands)
        (meanwhile (end_told tells) (after m L a.applied.point) (after m L count) a.applied.stands))

    point_stopped : (fault : Fault) → Counts end point (count_of fault) → (IsTrue end.tells → (before m : Machine) → StandsFor end last before m → ¬ Rose end.write_faults point.write_faults → StandsFor point next before m)
        → (IsTrue mid.tells → (m : Machine) → BeginsFor mid session m → IsWholeFault fault) → IsEndOf limit session mid point fault → RanOpen limit session mid point (Err fault)
    point_stopped fault counts still no_damage reason = record {
      holds = λ tells m stands.
          let L : List Line = lines_built mid.ends.left in
          let a = answers tells m stands in
          record {
            replies = followed m L (lines_built (unread at_end.held end)) mid last end count a point keeps.given;
            crash = crash_point tells m stands;
            at_rest = λ calm. rested m L mid point next (after m L count) count a.applied.point (flat_map text a.replies) (keeps.given ∙ a.given) a.answered a.applied.within a.applied.least a.applied.most (Err fault)
                (asked_for m L (flat_map text a.replies) (Err fault) count a.applied.point a.answered a.applied.within a.applied.asked) (still (end_told tells) (after m L a.applied.point) (after m L count) a.applied.stands (calm_since point calm));
            quiet = never_quiet (rooms_along m L) point tells [] (keeps.given ∙ sym (append-nil end.given));
          };
      done = λ tells m stands. tt;
      no_damage = no_damage;
      counts = counts_then mid end point (count_of fault) at_end.stands.counts counts;
      reason = reason;
      cut_off = λ tells past. absurd (never_past point tells past);
      keeps_up = λ tells. keeps_up_after point (Err fault) tells [] (keeps.given ∙ sym (append-nil end.given)) (ap (λ (e : Ends). e.left) keeps.ends);
      quiet = λ tells none. never_quiet most_rooms point tells [] (keeps.given ∙ sym (append-nil end.given));
    }

    -- it was done, and the last line was given, or not
    module _ (done : IsTrue end.tells → (before m : Machine) → StandsFor end last before m → StandsFor point next m m) (calm : point.faults ≡ end.faults) (new : Shown) where
      point_told : IsTrue mid.tells → IsTrue point.tells
      point_told tells = rw keeps.tells (end_told tells)

      stands_point : (tells : IsTrue mid.tells) (m : Machine) → BeginsFor mid session m → StandsFor point next (after m (lines_built mid.ends.left) count) (after m (lines_built mid.ends.left) count)
      stands_point tells m stands = let a = answers tells m stands in done (end_told tells) (after m (lines_built mid.ends.left) a.applied.point) (after m (lines_built mid.ends.left) count) a.applied.stands

      all_is : (tells : IsTrue mid.tells) (m : Machine) → BeginsFor mid session m → count ≡ length (lines_built mid.ends.left)
      all_is tells m stands = let within = (answers tells m stands).applied.within in omega (arith, within, all_answered tells m stands)

      point_counts : Counts mid point None
      point_counts = counts_then mid end point None at_end.stands.counts
          (counts_kept keeps calm)

      given_at : (tells : IsTrue mid.tells) (m : Machine) (stands : BeginsFor mid session m) (g bytes : List ℕ) → g ≡ point.given ++ bytes → g ≡ mid.given ++ (flat_map text (answers tells m stands).replies ++ bytes)
      given_at tells m stands g bytes is = let a = answers tells m stands in
          is ∙ ap (λ (l : List ℕ). l ++ bytes) (keeps.given ∙ a.given) ∙ append_assoc mid.given (flat_map text a.replies) bytes

      told_image : (tells : IsTrue mid.tells) (m : Machine) (stands : BeginsFor mid session m) (one : whole (done_text count) ≡ 1) (c : Image) (g : List ℕ) → PartlyGiven point (done_text count) c g → Survives m (lines_built mid.ends.left) mid.given c g
      told_image tells m stands one c g part =
          let L : List Line = lines_built mid.ends.left in
          let a = answers tells m stands in
          let all = all_is tells m stands in
          let k = part.1 (point_told tells) in
          let stand : machine_of c ≡ Some (after m L (length L)) = images_stand point next (after m L count) (after m L count) (stands_point tells m stands) c part.0 ∙ ap (λ (n : ℕ). Some (after m L n)) all in
          let bytes : List ℕ = flat_map text a.replies ++ take k.0 (done_text count) in
          survives m L mid.given c g bytes (given_at tells m stands g (take k.0 (done_text count)) k.1)
          (⊎_elim
          (λ (none : whole bytes ≡ count). after_all m L bytes c (omega (arith, none, all)) (omega (arith, none, all)) stand)
          (λ (some : whole bytes ≡ count + 1). after_all m L bytes c (omega (arith, some, all)) (omega (arith, some, all)) stand)
          (part_of_one (flat_map text a.replies) (done_text count) k.0 count a.answered one))

      crash_done : (tells : IsTrue mid.tells) (m : Machine) → BeginsFor mid session m → whole (done_text count) ≡ 1 → Leaves point new (PartlyGiven point (done_text count)) → Leaves mid new (Survives m (lines_built mid.ends.left) mid.given)
      crash_done tells m stands one part = then mid point new (Survives m (lines_built mid.ends.left) mid.given) (crash_point tells m stands)
          (weaken point new (PartlyGiven point (done_text count)) (Survives m (lines_built mid.ends.left) mid.given) (told_image tells m stands one) part)

      full_output : (tells : IsTrue mid.tells) (m : Machine) (stands : BeginsFor mid session m) → Full m (lines_built mid.ends.left) (flat_map text (answers tells m stands).replies ++ done_text count)
      full_output tells m stands =
          let L : List Line = lines_built mid.ends.left in
          let a = answers tells m stands in
          subst (λ (n : ℕ). Full m L (flat_map text a.replies ++ done_text n)) (sym (all_is tells m stands)) (full m L count a.replies (all_answered tells m stands) a.allowed)

      probes_told : (tells : IsTrue mid.tells) (m : Machine) (stands : BeginsFor mid session m) (bytes : List ℕ)
          → AnswersProbes m (lines_built mid.ends.left) mid.reads (flat_map text (answers tells m stands).replies ++ bytes)
      probes_told tells m stands bytes =
          let a = answers tells m stands in
          let all = all_is tells m stands in
          probes_answered m (lines_built mid.ends.left) mid.reads (flat_map text a.replies ++ bytes) a.replies bytes count refl a.applied.within a.allowed
          (λ k low in_lines. omega (arith, in_lines, all)) a.probes

      done_whole : (tells : IsTrue mid.tells) (m : Machine) (stands : BeginsFor mid session m) → IsLine (done_text count) → whole (flat_map text (answers tells m stands).replies ++ done_text count) ≡ length (lines_built mid.ends.left) + 1
      done_whole tells m stands line =
          let a = answers tells m stands in
          let all = all_is tells m stands in
          whole_append (flat_map text a.replies) (done_text count) ∙ rw (a.answered, one_end (done_text count) line) (omega (arith, all))

      -- it was given whole
      rested_whole : (tells : IsTrue mid.tells) (m : Machine) (stands : BeginsFor mid session m) → TellsLine point (done_text count) new (Ok tt) → IsAtRest m (lines_built mid.ends.left) (Ok tt) mid new
      rested_whole tells m stands told =
          let L : List Line = lines_built mid.ends.left in
          let output : List ℕ = flat_map text (answers tells m stands).replies ++ done_text count in
          let counted : whole output ≡ length L + 1 = done_whole tells m stands told.line in
          let last_stands = rests_standing_for point new next (after m L count) (after m L count) told.tells.gives.rests (stands_point tells m stands) in
          record {
            output = output;
            given = given_at tells m stands new.given (done_text count) (told.tells.gives.all (point_told tells));
            count = length L;
            acknowledged = acked_all L output (omega (arith, counted));
            all = omega arith;
            answered = omega (arith, counted);
            asked = inl (sym (acked_whole L output counted));
            machine = reads_stand new next (after m L count) (after m L count) last_stands ∙ ap (λ (n : ℕ). Some (after m L n)) (all_is tells m stands);
            settled = last_stands.settled;
          }

      -- a part of it was given
      rested_part : (tells : IsTrue mid.tells) (m : Machine) (stands : BeginsFor mid session m) (fault : Fault) → TellsLine point (done_text count) new (Err fault) → IsAtRest m (lines_built mid.ends.left) (Err fault) mid new
      rested_part tells m stands fault told =
          let L : List Line = lines_built mid.ends.left in
          let a = answers tells m stands in
          let part = told.tells.gives.part (point_told tells) in
          let bytes : List ℕ = take part.0 (done_text count) in
          let counted : whole (flat_map text a.replies ++ bytes) ≡ count = whole_append (flat_map text a.replies) bytes ∙ rw (a.answered, no_end (done_text count) part.0 told.line part.1) (omega arith) in
          rested m L mid new next (after m L count) count count (flat_map text a.replies ++ bytes) (given_at tells m stands new.given bytes part.2) counted a.applied.within (up_to_take count L a.applied.within) (omega arith) (Err fault)
          (inr (inr (record { sink = ap Err told.sink; answered = counted ∙ all_is tells m stands; all = all_is tells m stands }))) (rests_standing_for point new next (after m L count) (after m L count) told.tells.gives.rests (stands_point tells m stands))

      told_whole : (result : Result Unit Fault) → TellsLine point (done_text count) new result → RanOpen limit session mid new result
      told_whole (Ok nothing) told = record {
        holds = λ tells m stands. record {
          replies = record {
            output = flat_map text (answers tells m stands).replies ++ done_text count;
            given = given_at tells m stands new.given (done_text count) (told.tells.gives.all (point_told tells));
            follows = follows_whole m (lines_built mid.ends.left) (flat_map text (answers tells m stands).replies ++ done_text count) (full_output tells m stands);
            probes = probes_told tells m stands (done_text count);
          };
          crash = crash_done tells m stands (one_end (done_text count) told.line) told.tells.any_moment;
          at_rest = λ none. rested_whole tells m stands told;
          quiet = never_quiet (rooms_along m (lines_built mid.ends.left)) new tells (done_text count) (told.tells.gives.all (point_told tells) ∙ ap (λ (l : List ℕ). l ++ done_text count) keeps.given);
        };
        done = λ tells m stands.
            let last_stands = rests_standing_for point new next (after m (lines_built mid.ends.left) count) (after m (lines_built mid.ends.left) count) told.tells.gives.rests (stands_point tells m stands) in
            record {
              output = flat_map text (answers tells m stands).replies ++ done_text count;
              given = given_at tells m stands new.given (done_text count) (told.tells.gives.all (point_told tells));
              full = full_output tells m stands;
              stands = reads_stand new next (after m (lines_built mid.ends.left) count) (after m (lines_built mid.ends.left) count) last_stands ∙ ap (λ (n : ℕ). Some (after m (lines_built mid.ends.left) n)) (all_is tells m stands);
              settled = last_stands.settled;
            };
        no_damage = λ tells m stands. tt;
        counts = counts_then mid point new None point_counts (counting.told point new (done_text count) told.tells);
        reason = tt;
        cut_off = λ tells past. absurd (never_past new tells past);
        keeps_up = λ tells. keeps_up_after new (Ok tt) tells (done_text count) (told.tells.gives.all (point_told tells) ∙ ap (λ (l : List ℕ). l ++ done_text count) keeps.given) (told.tells.gives.left ∙ ap (λ (e : Ends). e.left) keeps.ends);
        quiet = λ tells none. never_quiet most_rooms new tells (done_text count) (told.tells.gives.all (point_told tells) ∙ ap (λ (l : List ℕ). l ++ done_text count) keeps.given);
      }
      told_whole (Err fault) told = record {
        holds = λ tells m stands.
            let part = told.tells.gives.part (point_told tells) in
            record {
              replies = record {
                output = flat_map text (answers tells m stands).replies ++ take part.0 (done_text count);
                given = given_at tells m stands new.given (take part.0 (done_text count)) part.2;
                follows = follows_part m (lines_built mid.ends.left) (flat_map text (answers tells m stands).replies) (done_text count) part.0
                    (follows_whole m (lines_built mid.ends.left) (flat_map text (answers tells m stands).replies ++ done_text count) (full_output tells m stands));
                probes = probes_told tells m stands (take part.0 (done_text count));
              };
              crash = crash_done tells m stands (one_end (done_text count) told.line) told.tells.any_moment;
              at_rest = λ none. rested_part tells m stands fault told;
              quiet = never_quiet (rooms_along m (lines_built mid.ends.left)) new tells (take part.0 (done_text count)) (part.2 ∙ ap (λ (l : List ℕ). l ++ take part.0 (done_text count)) keeps.given);
            };
        done = λ tells m stands. tt;
        no_damage = λ tells m stands. subst IsWholeFault (sym told.sink) tt;
        counts = counts_then mid point new (count_of fault) point_counts (subst (λ (f : Fault). Counts point new (count_of f)) (sym told.sink) (counting.untold point new (done_text count) (record {}) told.tells));
        reason = subst (λ (f : Fault). IsEndOf limit session mid new f) (sym told.sink) tt;
        cut_off = λ tells past. absurd (never_past new tells past);
        keeps_up = λ tells. let part = told.tells.gives.part (point_told tells) in
            keeps_up_after new (Err fault) tells (take part.0 (done_text count)) (part.2 ∙ ap (λ (l : List ℕ). l ++ take part.0 (done_text count)) keeps.given) (told.tells.gives.left ∙ ap (λ (e : Ends). e.left) keeps.ends);
        quiet = λ tells none. let part = told.tells.gives.part (point_told tells) in never_quiet most_rooms new tells (take part.0 (done_text count)) (part.2 ∙ ap (λ (l : List ℕ). l ++ take part.0 (done_text count)) keeps.given);
      }

  -- the point was made, and the last line was given, or not
  pub ran_whole : (next : Session) (point : Shown) → Goes {T = Unit {0}} 0 AsksPoint end last point next (Ok tt)
      → (IsTrue end.tells → (before m : Machine) → StandsFor end last before m → GoesFor {T = Unit {0}} end before m m point next (Ok tt))
      → (IsTrue end.tells → (before m : Machine) → StandsFor end last before m → StandsFor point next m m)
      → (new : Shown) (result : Result Unit Fault) → TellsLine point (done_text count) new result → RanOpen limit session mid new result
  ran_whole next point goes goes_for done new result told = told_whole next point (λ tells before m stands. (goes_for tells before m stands).any_moment) goes.ends done goes.done.counts.faults new result told

  -- what was damaged at the end
  meets : (point : Shown) → KeepsEnds end point → IsHurtBy 0 AsksPoint end.reads last point → IsTrue mid.tells → MeetsDamage (lines_built mid.ends.left) session mid point
  meets point keeps hurt tells =
      let read = at_end.stands.reads tells in
      record {
        output = read.output;
        given = keeps.given ∙ read.given;
        call = subst (λ (n : ℕ). IsHurtBehind (lines_built mid.ends.left) n mid.reads session point) (sym read.answered) (hurt_last (lines_built mid.ends.left) count mid.reads session end.reads last point (all_lines tells)
            (λ told. at_end.stands.course tells) (undergoes_read (lines_built mid.ends.left) count mid.reads session end.reads last (at_end.stands.course tells)) hurt);
      }

  -- a point that lacks blocks lacks them in the image, or for files that a line changed
  damaged : (point : Shown) → KeepsEnds end point → IsHurtBy 0 AsksPoint end.reads last point → LacksSpace end last point → IsEndOf limit session mid point Damaged
  damaged point keeps hurt wants = λ tells. (
    meets point keeps hurt tells,
    λ within none. ⊎_elim
        (λ (asks : AsksFor (lines_built mid.ends.left) end last).
        ⊎_elim
        (λ (short : Lacks asks.room point.reads). inl (record { room = asks.room; asks = asks.line; at = short.0; want = short.1; found = short.2; short = short.3 }))
        (λ (loses : LosesLeaf end last point).
        let read = at_end.stands.reads tells in
        inr (inr (leaf_lost (lines_built mid.ends.left) count mid session end last point read.output (keeps.given ∙ read.given) read.answered (at_end.stands.course tells) loses)))
        (wants (end_told tells) asks.none asks.room asks.asks))
        (λ (changed : HasChanged (lines_built mid.ends.left) count).
        let read = at_end.stands.reads tells in
        inr (inl (record { output = read.output; given = keeps.given ∙ read.given; line = inr (subst (λ (n : ℕ). HasChanged (lines_built mid.ends.left) n) (sym read.answered) changed) })))
        (at_end.stands.asks tells within none),
  )

  -- it wasn't made
  pub point_failed : (next : Session) (point : Shown) (fault : SessionFault) → Goes {T = Unit {0}} 0 AsksPoint end last point next (Err fault)
      → (IsTrue end.tells → (before m : Machine) → StandsFor end last before m → GoesFor {T = Unit {0}} end before m m point next (Err fault))
      → (IsTrue end.tells → (before m : Machine) → StandsFor end last before m → IsNone next.failed → StandsFor point next before m)
      → calls.IsForWant end last point next fault → RanOpen limit session mid point (Err (of_session fault))
  point_failed next point session_fault.DiskFault goes goes_for kept wants = point_stopped next point (λ tells before m stands. (goes_for tells before m stands).any_moment) goes.ends Disk
      (counts_rose goes.ends goes.fault.counts.faults)
      (λ tells before m stands calm. kept tells before m stands (goes.fault.session.by_read calm)) (λ tells m stands. tt) tt
  point_failed next point session_fault.Memory goes goes_for kept wants = point_stopped next point (λ tells before m stands. (goes_for tells before m stands).any_moment) goes.ends Memory
      (counts_kept goes.ends goes.fault.counts.faults)
      (λ tells before m stands calm. kept tells before m stands goes.fault.session) (λ tells m stands. tt) tt
  point_failed next point (session_fault.Damaged at want found) goes goes_for kept wants = point_stopped next point (λ tells before m stands. (goes_for tells before m stands).any_moment) goes.ends Damaged
      (counts_kept goes.ends goes.fault.counts.faults)
      (λ tells before m stands calm. absurd (goes_for tells before m stands).whole)
      (λ tells m stands. let a = answers tells m stands in absurd (goes_for (end_told tells) (after m (lines_built mid.ends.left) a.applied.point) (after m (lines_built mid.ends.left) count) a.applied.stands).whole)
      (damaged point goes.ends (next, (goes.stands goes.fault.session, hurt_by 0 AsksPoint end last point next at want found goes.ends.tells goes.fault.reason)) (lacks end point last next at want found wants))
  point_failed next point (session_fault.Failed faults) goes goes_for kept wants = absurd (never_failed last.failed faults at_end.stands.ready.unfailed goes.fault.reason)
