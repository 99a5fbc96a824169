-- The lines of a script are applied and counted, and nothing is given.
use Rattle.std.proofs.Common.{◌≡◌, ⊎_elim, ◌⊎◌, ℕ, ◌+◌, ◌<◌, ◌≤◌, Bool, true, false, cond, List, [], ◌∷◌, length, take, drop, refl, sym, ap, ap₂, subst, ◌∙◌, arith}
use Rattle.std.specs.Prelude.{Some, None, IsTrue, Result, Ok, Err}
use Rattle.std.proofs.lemmas.List.{length-drop}
use Rattle.fv_disk.specs.Shown.{Image, Shown, IsDisk, Rose}
use Rattle.fv_disk.specs.Crash.{Leaves}
use Rattle.fv_disk.proofs.Moments.{started, then, weaken}
use Rattle.fv_disk.proofs.Resting.{rests_itself}
use Rattle.fv_model.specs.declared.answers.Reply.{Reply}
use Rattle.fv_model.specs.declared.commands.Command.{Command}
use Rattle.fv_model.specs.Machines.{Machine}
use Rattle.fv_model.specs.Runs.{Line, Says, after, after_line}
use Rattle.fv_image.specs.WholeMachine.{machine_of}
use Rattle.fv_lines.proofs.Counting.{counts_none, counts_then}
use Rattle.fv_aggregate.specs.declared.session.Session.{Session}
use Rattle.fv_aggregate.specs.Standing.{OneOf, StandsAfter}
use Rattle.fv_aggregate.proofs.Damages.{as_read_then}
use Rattle.fv_run.specs.declared.ending.Fault.{Fault}
use Rattle.fv_run.specs.declared.ending.Fault.TheVariants.{Usage, Unsound, NotAggregate, Source, Sink, Disk, Memory, Damaged, Limit}
use Rattle.fv_run.specs.declared.generating.Tally.{Tally}
use Rattle.fv_run.specs.Answering.{Applies, BeginsFor, HasApplied, IsReady, IsSessionFault}
use Rattle.fv_run.specs.Built.{built}
use Rattle.fv_run.specs.Endings.{count_of}
use Rattle.fv_run.specs.Generating.{accepted, AppliedAt, AppliesAll, is_accepted, IsAfterFirst, IsAtRestAfter, IsCallFault, lines_said, Silent, WasCut}
use Rattle.fv_run.specs.Promises.{line_at}
use Rattle.fv_run.specs.Running.{only_asks, rooms_along}
use Rattle.fv_run.proofs.Accepted.{accepted_more, as_accepted}
use Rattle.fv_run.proofs.Applying.{applied_one, none_applied}
use Rattle.fv_run.proofs.Counted.{bound_for, calm_next, counted_next}
use Rattle.fv_run.proofs.Courses.{undergoes_next, undergoes_none}
use Rattle.fv_run.proofs.Following.{after_next, left_below, left_next, line_behind, taken_next}
use Rattle.fv_run.proofs.Sessions.{as_read_itself, hurt_behind, images_stand, reads_stand}

-- before the first line
pub starts : (lines : List Line) (first : Session) (old : Shown) → IsDisk old → IsReady old first → AppliedAt lines lines first old first old 0 0
unfolding accepted
starts lines first old laws ready = record {
  rest_is = refl;
  within = omega arith;
  few = omega arith;
  ready = ready;
  counts = counts_none old;
  writes = refl;
  given = refl;
  left = refl;
  opened = λ only. as_read_itself first;
  course = λ tells. undergoes_none lines old.reads first;
  applied = λ tells m begins. none_applied m lines old first begins;
  accepted = λ tells m begins. refl;
  crash = λ tells m begins. started old (Silent m lines old.given) laws (λ c now. (record { count = 0; all = omega arith; machine = images_stand old first m m begins.stands c now }, refl));
}

most_one : (b : Bool) → cond b 1 0 ≤ 1
most_one true = omega arith
most_one false = omega arith

module _ (lines rest : List Line) (line : Line) (first : Session) (old : Shown) (session : Session) (mid : Shown) (count good : ℕ)
    (so_far : AppliedAt lines (line ∷ rest) first old session mid count good) (next : Session) (end : Shown) where
  below : count < length lines
  below = left_below count lines rest line so_far.rest_is

  told : IsTrue old.tells → IsTrue mid.tells
  told tells = rw so_far.counts.tells tells

  line_is : line_at lines count ≡ line
  line_is = line_behind count lines rest line so_far.rest_is

  one_of : (m : Machine) (a : HasApplied m lines old session mid count) (c : Image) → OneOf (after m lines a.point) (after m lines count) (after_line (after m lines count) line) c → IsAfterFirst m lines c
  one_of m a c one = ⊎_elim
      (λ (e : machine_of c ≡ Some (after m lines a.point)). record { count = a.point; all = let lt = below in let most = a.most in omega (arith, lt, most); machine = e })
      (λ (others : (machine_of c ≡ Some (after m lines count)) ⊎ (machine_of c ≡ Some (after_line (after m lines count) line))). ⊎_elim
      (λ (e : machine_of c ≡ Some (after m lines count)). record { count = count; all = let lt = below in omega (arith, lt); machine = e })
      (λ (e : machine_of c ≡ Some (after_line (after m lines count) line)). record { count = count + 1; all = let lt = below in omega (arith, lt); machine = e ∙ ap Some (sym (after_next m count lines rest line so_far.rest_is)) })
      others)
      one

  crash_on : (result : Result Reply Fault) → Applies session line mid next end result → IsTrue old.tells → (m : Machine) → BeginsFor old first m → Leaves old end (Silent m lines old.given)
  crash_on result applies tells m begins =
      let a = so_far.applied tells m begins in
      then old mid end (Silent m lines old.given) (so_far.crash tells m begins)
      (weaken mid end (λ c g. OneOf (after m lines a.point) (after m lines count) (after_line (after m lines count) line) c × (g ≡ mid.given)) (Silent m lines old.given)
      (λ (c : Image) (g : List ℕ) one. (one_of m a c one.0, one.1 ∙ so_far.given)) (applies.any_moment (told tells) (after m lines a.point) (after m lines count) a.stands))

  calm_since : ¬ Rose old.write_faults end.write_faults → ¬ Rose mid.write_faults end.write_faults
  calm_since calm rose = calm (subst (λ (n : ℕ). Rose n end.write_faults) so_far.writes rose)

  at_rest : (m : Machine) (a : HasApplied m lines old session mid count) → StandsAfter end next (after m lines a.point) (after m lines count) (after m lines count) → IsAtRestAfter m lines end
  at_rest m a stands = record {
    settled = stands.stands.settled;
    first = ⊎_elim
        (λ (e : stands.point ≡ after m lines a.point). record { count = a.point; all = let lt = below in let most = a.most in omega (arith, lt, most); machine = reads_stand end next stands.point (after m lines count) stands.stands ∙ ap Some e })
        (λ (e : stands.point ≡ after m lines count). record { count = count; all = let lt = below in omega (arith, lt); machine = reads_stand end next stands.point (after m lines count) stands.stands ∙ ap Some e })
        stands.one;
  }

  -- of the line at work
  call_fault : end.tells ≡ old.tells → (fault : Fault) → IsSessionFault line mid session end fault → IsCallFault lines old.reads first end fault
  call_fault same Usage is = is
  call_fault same Unsound is = is
  call_fault same NotAggregate is = is
  call_fault same Source is = is
  call_fault same Sink is = is
  call_fault same Disk is = tt
  call_fault same Memory is = tt
  call_fault same Damaged is = record { count = count; all = let lt = below in omega (arith, lt); call = hurt_behind lines count line old.reads first mid.reads session end line_is (λ told. so_far.course (subst IsTrue same told)) so_far.opened is.0 }
  call_fault same Limit is = is

  -- the next line wasn't applied
  pub cut : (fault : Fault) → Applies session line mid next end (Err fault) → WasCut lines first old end fault
  cut fault applies = record {
    crash = crash_on (Err fault) applies;
    at_rest = λ tells m begins calm. let a = so_far.applied tells m begins in at_rest m a (applies.still (told tells) (after m lines a.point) (after m lines count) a.stands (calm_since calm));
    no_damage = λ tells m begins. let a = so_far.applied tells m begins in applies.no_damage (told tells) (after m lines a.point) (after m lines count) a.stands;
    counts = counts_then old mid end (count_of fault) so_far.counts applies.counts;
    reason = call_fault (applies.counts.tells ∙ so_far.counts.tells) fault applies.ends;
    given = applies.given ∙ so_far.given;
    left = applies.left ∙ so_far.left;
  }

  -- it was
  module _ (reply : Reply) (applies : Applies session line mid next end (Ok reply)) where
    applied_next : IsTrue old.tells → (m : Machine) → BeginsFor old first m → HasApplied m lines old next end (count + 1)
    applied_next tells m begins =
        let a = so_far.applied tells m begins in
        let done = applies.done (told tells) (after m lines a.point) (after m lines count) a.stands in
        applied_one m lines line rest old session mid count so_far.rest_is a next end
        (calm_next (rooms_along m lines) lines old session mid count a.counted line line_is (λ c. bound_for mid session (after m lines a.point) (after m lines count) a.stands c) end applies.calm)
        done.1 end (rests_itself end)
        (counted_next (rooms_along m lines) lines old session mid count a.counted line line_is (λ c. bound_for mid session (after m lines a.point) (after m lines count) a.stands c) end applies.calm next end refl (applies.led (told tells)).pending)

    accepted_next : IsTrue old.tells → (m : Machine) → BeginsFor old first m → good + cond (is_accepted reply) 1 0 ≡ accepted m (take (count + 1) lines)
    accepted_next tells m begins =
        let a = so_far.applied tells m begins in
        let done = applies.done (told tells) (after m lines a.point) (after m lines count) a.stands in
        ap₂ (λ (n : ℕ) (b : Bool). n + cond b 1 0) (so_far.accepted tells m begins) (as_accepted (after m lines count) line reply done.0)
        ∙ sym (accepted_more m (take count lines) line) ∙ ap (accepted m) (sym (taken_next count lines rest line so_far.rest_is))

    pub goes : AppliedAt lines rest first old next end (count + 1) (good + cond (is_accepted reply) 1 0)
    goes = record {
      rest_is = left_next count lines rest line so_far.rest_is;
      within = let lt = below in omega (arith, lt);
      few = let few = so_far.few in let one = most_one (is_accepted reply) in omega (arith, few, one);
      ready = applies.ready;
      counts = counts_then old mid end None so_far.counts applies.counts;
      writes = applies.writes ∙ so_far.writes;
      given = applies.given ∙ so_far.given;
      left = applies.left ∙ so_far.left;
      opened = λ only. as_read_then first session next (so_far.opened (λ j low. only j (omega (arith, low)))) (applies.read (sym (ap only_asks line_is) ∙ only count (omega arith)));
      course = λ tells. undergoes_next lines count line line_is old.reads first mid.reads session end.reads next (so_far.course tells) (applies.led (told tells));
      applied = applied_next;
      accepted = accepted_next;
      crash = crash_on (Ok reply) applies;
    }

-- ---- as the loop has them

pub cut_out : (lines : List Line) (commands others : List Command) (command : Command) (first : Session) (old : Shown) (session : Session) (mid : Shown) (count good : ℕ)
    → AppliedAt lines (lines_said commands) first old session mid count good → commands ≡ command ∷ others
    → (next : Session) (end : Shown) (fault : Fault) → Applies session (built (Says command)) mid next end (Err fault) → WasCut lines first old end fault
cut_out lines commands others command first old session mid count good so_far takes next end fault applies =
    cut lines (lines_said others) (built (Says command)) first old session mid count good (subst (λ (l : List Command). AppliedAt lines (lines_said l) first old session mid count good) takes so_far) next end fault applies

pub goes_out : (lines : List Line) (commands others : List Command) (command : Command) (first : Session) (old : Shown) (session : Session) (mid : Shown) (count good : ℕ)
    → AppliedAt lines (lines_said commands) first old session mid count good → commands ≡ command ∷ others
    → (next : Session) (end : Shown) (reply : Reply) → Applies session (built (Says command)) mid next end (Ok reply)
    → (more better : ℕ) → more ≡ count + 1 → better ≡ good + cond (is_accepted reply) 1 0
    → AppliedAt lines (lines_said others) first old next end more better
goes_out lines commands others command first old session mid count good so_far takes next end reply applies more better is_more is_better =
    let before : AppliedAt lines (built (Says command) ∷ lines_said others) first old session mid count good = subst (λ (l : List Command). AppliedAt lines (lines_said l) first old session mid count good) takes so_far in
    rw (is_more, is_better) (goes lines (lines_said others) (built (Says command)) first old session mid count good before next end reply applies)

all_left : (count : ℕ) (lines : List Line) → [] ≡ drop count lines → count ≤ length lines → count ≡ length lines
all_left count lines is within = let e : 0 ≡ length (drop count lines) = ap (λ (l : List Line). length l) is in omega (arith, e, length-drop count lines, within)

-- no command is left
pub at_end : (lines : List Line) (commands : List Command) (first : Session) (old : Shown) (session : Session) (now : Shown) (tally : Tally)
    → commands ≡ [] → AppliedAt lines (lines_said commands) first old session now tally.lines tally.accepted → AppliesAll lines first old session now (Ok tally)
at_end lines commands first old session now tally none s =
    let last : AppliedAt lines [] first old session now tally.lines tally.accepted = subst (λ (l : List Command). AppliedAt lines (lines_said l) first old session now tally.lines tally.accepted) none s in
    (all_left tally.lines lines last.rest_is last.within, last)
