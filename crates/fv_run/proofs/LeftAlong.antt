-- What is left to do along the lines of a run, and behind its last consistency point.
use Rattle.std.proofs.Common.{◌≡◌, ◌⊎◌, ◌<◌, ◌≤◌, ◌+◌, ◌∙◌, inl, inr, ⊎_elim, ℕ, suc, Bool, true, false, cond, List, length, refl, sym, subst, ap, arith}
use Rattle.std.specs.Prelude.{◌||◌, if◌then◌else◌, is_some, Option, Some, None, Ok, IsNone, IsTrue}
use Rattle.std.proofs.lemmas.Bool.{cases_lt}
use Rattle.fv_disk.specs.Shown.{Image, Shown}
use Rattle.fv_model.specs.declared.answers.Refusal.{Refusal}
use Rattle.fv_model.specs.declared.answers.Refusal.TheVariants.{Syntax}
use Rattle.fv_model.specs.declared.answers.Reply.{Reply}
use Rattle.fv_model.specs.declared.answers.Reply.TheVariants.{Refused}
use Rattle.fv_model.specs.declared.commands.Command.{Command}
use Rattle.fv_model.specs.declared.commands.Command.TheVariants.{Work}
use Rattle.fv_model.specs.Machines.{Machine}
use Rattle.fv_model.specs.Numbers.{is_step_count}
use Rattle.fv_model.specs.Refusals.{refusal}
use Rattle.fv_model.specs.Replies.{AllowsBy}
use Rattle.fv_model.specs.Runs.{Line, Says, NoCommand, after}
use Rattle.fv_root.specs.declared.find.Found.{Found}
use Rattle.fv_root.specs.Finding.{IsFound}
use Rattle.fv_cp.specs.Placing.{HaveNoFiles}
use Rattle.fv_aggregate.specs.declared.session.Session.{Session}
use Rattle.fv_aggregate.specs.Applying.{HasApplied}
use Rattle.fv_aggregate.specs.Commands.{is_built, is_refusal, keeps_todo, RepliesBy}
use Rattle.fv_aggregate.specs.LeftOver.{todo_under}
use Rattle.fv_aggregate.specs.Standing.{StandsFor}
use Rattle.fv_aggregate.specs.Working.{HasWorked, todo, todo_in}
use Rattle.fv_run.specs.Built.{built}
use Rattle.fv_run.specs.Promises.{line_at}
use Rattle.fv_run.specs.Left.{steps_of, works_behind, works_of, is_work, keeps_left, AllKeepTodo, FallsBy, FallsByWorks, LeavesLess, LessAlong, LessByLine}

-- ---- amounts

-- what fell by some steps and then by others fell by all of them
pub falls_then : (some more first mid last : ℕ) → FallsBy some first mid → FallsBy more mid last → FallsBy (some + more) first last
falls_then some more first mid last fell (inl none) = inl none
falls_then some more first mid last (inl none) (inr falls) = inl (omega (arith, none, falls))
falls_then some more first mid last (inr fell) (inr falls) = inr (omega (arith, fell, falls))

falls_still : (first last : ℕ) → last ≡ first → FallsBy 0 first last
falls_still first last same = inr (omega (arith, same))

-- so many steps were taken, or as many as were left
falls_taken : (asked taken first last : ℕ) → taken ≤ asked → (taken < asked → last ≡ 0) → last + taken ≤ first → FallsBy asked first last
falls_taken asked taken first last most fewer falls = ⊎_elim
    (λ (less : taken < asked). inl (fewer less))
    (λ (all : asked ≤ taken). inr (omega (arith, all, falls)))
    (cases_lt taken asked)

-- ---- sessions

less_itself : (i : Image) (session : Session) → HaveNoFiles session.volumes → LeavesLess 0 i session i session
less_itself i session none = record {
  none = none;
  falls = falls_still (todo_in i session.pool session.volumes) (todo_in i session.pool session.volumes) refl;
}

less_then : (some more : ℕ) (i : Image) (first : Session) (j : Image) (mid : Session) (k : Image) (last : Session)
    → LeavesLess some i first j mid → LeavesLess more j mid k last → LeavesLess (some + more) i first k last
less_then some more i first j mid k last so_far by = record {
  none = by.none;
  falls = falls_then some more (todo_in i first.pool first.volumes) (todo_in j mid.pool mid.volumes) (todo_in k last.pool last.volumes)
      so_far.falls by.falls;
}

-- ---- one line

-- a command is a `work`, or asks for no steps
work_or_none : (c : Command) → ((n : ℕ) × (c ≡ Work n)) ⊎ ((is_work (Says c) ≡ false) × (steps_of (Says c) ≡ 0))
work_or_none (Work n) = inl (n, refl)
work_or_none c = inr (refl, refl)

-- what is refused is answered so
refused_so : (o : Option Refusal) (m : Machine) (c : Command) (reply : Reply) → is_some o ≡ true → AllowsBy o m c reply
    → IsTrue (is_refusal reply)
refused_so None m c reply some is = absurd cc
refused_so (Some r) m c reply some is = subst (λ (x : Reply). IsTrue (is_refusal x)) (sym is) refl

-- a command that leaves what is left to do and isn't a `work` keeps it, or is refused
keeps_so : (keeps : Bool) (o : Option Refusal) (m : Machine) (c : Command) (reply : Reply) (work : Bool) → work ≡ false
    → (keeps || (is_some o || work)) ≡ true → AllowsBy o m c reply → (keeps ≡ true) ⊎ IsTrue (is_refusal reply)
keeps_so true o m c reply work other some is = inl refl
keeps_so false None m c reply true other some is = absurd cc
keeps_so false None m c reply false other some is = absurd cc
keeps_so false (Some r) m c reply work other some is = inr (refused_so (Some r) m c reply refl is)

module _ {D : Type 0} (show : D → Shown) (before : D) (session : Session) (start : ℕ) (after : D) (next : Session) (stop : ℕ)
    (reply : Reply) where
  abbrev Did : Command → Type 0
  Did command = HasApplied command (show before) before session start (show after) after next stop (Ok reply)

  abbrev Less : ℕ → Type 0
  Less steps = LeavesLess steps (show before).reads session (show after).reads next

  untouched : HaveNoFiles session.volumes → after ≡ before → next ≡ session → Less 0
  untouched none disk same =
      subst (λ (s : Session). LeavesLess 0 (show before).reads session (show after).reads s) (sym same)
      (subst (λ (d : D). LeavesLess 0 (show before).reads session (show d).reads session) (sym disk)
      (less_itself (show before).reads session none))

  taken_steps : (n taken : ℕ) → HasWorked n (show before) session (show after) next taken → IsTrue (show before).tells → (last m : Machine)
      → StandsFor (show before) session last m → HaveNoFiles session.volumes → Less n
  taken_steps n taken worked tells last m stands none = record {
    none = worked.none none;
    falls = falls_taken n taken (todo (show before) session) (todo (show after) next) worked.most (worked.fewer tells last m stands)
        (worked.falls tells last m stands none);
  }

  -- a `work` takes its steps, or is out of range
  works : (n : ℕ) → Did (Work n) → IsNone session.failed → IsTrue (show before).tells → (last m : Machine)
      → StandsFor (show before) session last m → HaveNoFiles session.volumes → Less (steps_of (Says (Work n)))
  works n done lives tells last m stands none = by (is_step_count n) refl
    where
      by : (few : Bool) → is_step_count n ≡ few → Less (if few then n else 0)
      by true is = let took = (done.stepped refl lives).taken is in taken_steps n took.1.0 took.1.1 tells last m stands none
      by false is = let far = ((done.stepped refl lives).far is).1 in untouched none far.0 far.1

  kept : (c : Command) → Did c → IsTrue (show before).tells → (last m : Machine) → StandsFor (show before) session last m
      → HaveNoFiles session.volumes → (keeps_todo c ≡ true) ⊎ IsTrue (is_refusal reply) → Less 0
  kept c done tells last m stands none keeps =
      let left = done.left tells last m stands none keeps in
      record { none = left.none; falls = falls_still (todo (show before) session) (todo (show after) next) left.same }

  -- a command that is built
  said : (c : Command) → Did c → IsNone session.failed → is_built c ≡ true → IsTrue (show before).tells → (last m : Machine)
      → StandsFor (show before) session last m → HaveNoFiles session.volumes → keeps_left m (Says c) ≡ true → Less (steps_of (Says c))
  said c done lives is tells last m stands none keeps = ⊎_elim
      (λ (work : (n : ℕ) × (c ≡ Work n)). subst (λ (k : Command). Less (steps_of (Says k))) (sym work.1)
      (works work.0 (subst Did work.1 done) lives tells last m stands none))
      (λ (other : (is_work (Says c) ≡ false) × (steps_of (Says c) ≡ 0)). subst Less (sym other.1)
      (kept c done tells last m stands none
      (keeps_so (keeps_todo c) (refusal m c) m c reply (is_work (Says c)) other.0 keeps
      (subst (λ (b : Bool). RepliesBy b m c reply) is (done.reply tells last m stands)))))
      (work_or_none c)

  -- one that isn't is refused as none
  unsaid : (c : Command) → Did c → is_built c ≡ false → IsTrue (show before).tells → (last m : Machine)
      → StandsFor (show before) session last m → HaveNoFiles session.volumes → Less 0
  unsaid c done is tells last m stands none =
      let refused : reply ≡ Refused Syntax = subst (λ (b : Bool). RepliesBy b m c reply) is (done.reply tells last m stands) in
      kept c done tells last m stands none (inr (subst (λ (r : Reply). IsTrue (is_refusal r)) (sym refused) refl))

  -- the line of a command was applied
  pub less_said : (line : Line) (c : Command) → line ≡ Says c → IsNone session.failed → Did c
      → LessByLine session (built line) (show before) next (show after) (Ok reply)
  less_said line c says lives done tells last m stands none =
      subst (λ (l : Line). keeps_left m (built l) ≡ true → Less (steps_of (built l))) (sym says) (by (is_built c) refl)
    where
      by : (is : Bool) → is_built c ≡ is → keeps_left m (cond is (Says c) NoCommand) ≡ true → Less (steps_of (cond is (Says c) NoCommand))
      by true is keeps = said c done lives is tells last m stands none keeps
      by false is keeps = unsaid c done is tells last m stands none

-- a line that says no command, or one with a number out of range
pub less_unsaid : (session : Session) (line : Line) (host : Shown) (reply : Reply) → steps_of line ≡ 0
    → LessByLine session line host session host (Ok reply)
less_unsaid session line host reply no_steps tells last m stands none keeps =
    subst (λ (n : ℕ). LeavesLess n host.reads session host.reads session) (sym no_steps) (less_itself host.reads session none)

-- ---- line by line

works_none : (lines : List Line) → works_behind lines 0 ≡ 0
unfolding works_behind
works_none lines = refl

works_next : (lines : List Line) (count : ℕ) (line : Line) → line_at lines count ≡ line
    → works_behind lines (count + 1) ≡ works_behind lines count + steps_of line
unfolding works_behind
works_next lines count line is =
    let more : count + 1 ≡ suc count = omega arith in
    ap (works_behind lines) more ∙ ap (λ (l : Line). works_behind lines count + steps_of l) is

-- before the first line
pub along_none : (m : Machine) (lines : List Line) (i : Image) (first : Session) → LessAlong m lines i first i first 0
along_none m lines i first none keep = subst (λ (n : ℕ). LeavesLess n i first i first) (sym (works_none lines)) (less_itself i first none)

-- while the disk reads what it read
pub along_still : (m : Machine) (lines : List Line) (i : Image) (first : Session) (j k : Image) (session : Session) (count : ℕ) → k ≡ j
    → LessAlong m lines i first j session count → LessAlong m lines i first k session count
along_still m lines i first j k session count same so_far =
    subst (λ (x : Image). LessAlong m lines i first x session count) (sym same) so_far

-- the next line is applied, which `LessByLine` tells of where the session stands for the machine
along_next : (m : Machine) (lines : List Line) (count : ℕ) (line : Line) → line_at lines count ≡ line
    → (i : Image) (first : Session) (j : Image) (session : Session) (k : Image) (next : Session)
    → LessAlong m lines i first j session count
    → (HaveNoFiles session.volumes → keeps_left (after m lines count) line ≡ true → LeavesLess (steps_of line) j session k next)
    → LessAlong m lines i first k next (count + 1)
along_next m lines count line is i first j session k next so_far by none keep =
    let before : LeavesLess (works_behind lines count) i first j session = so_far none (λ at low. keep at (omega (arith, low))) in
    let here : keeps_left (after m lines count) line ≡ true =
    subst (λ (l : Line). keeps_left (after m lines count) l ≡ true) is (keep count (omega arith)) in
    subst (λ (n : ℕ). LeavesLess n i first k next) (sym (works_next lines count line is))
    (less_then (works_behind lines count) (steps_of line) i first j session k next before (by before.none here))

-- so it is where the disk rests before the line and behind it
pub along_line : (m : Machine) (lines : List Line) (count : ℕ) (line : Line) → line_at lines count ≡ line
    → (i : Image) (first : Session) (now mid : Image) (session : Session) (done new : Image) (next : Session) → mid ≡ now → new ≡ done
    → LessAlong m lines i first now session count
    → (HaveNoFiles session.volumes → keeps_left (after m lines count) line ≡ true → LeavesLess (steps_of line) mid session done next)
    → LessAlong m lines i first new next (count + 1)
along_line m lines count line is i first now mid session done new next before behind so_far by =
    along_still m lines i first done new next (count + 1) behind
    (along_next m lines count line is i first mid session done next (along_still m lines i first now mid session count before so_far) by)

-- ---- from the beginning to the end

-- All lines were applied, and the last point was made: what is left by the image behind it fell since the session began.
pub lower_behind : (m : Machine) (lines : List Line) (i : Image) (first : Session) (j : Image) (last : Session) (count : ℕ)
    (point end : Image) (next : Session) → count ≡ length lines → HaveNoFiles first.volumes → LessAlong m lines i first j last count
    → (HaveNoFiles last.volumes → todo_in point next.pool next.volumes ≡ todo_in j last.pool last.volumes)
    → todo_in point next.pool next.volumes ≡ todo_under next.pool.found point → end ≡ point
    → AllKeepTodo m lines → FallsBy (works_of lines) (todo_in i first.pool first.volumes) (todo_under next.pool.found end)
lower_behind m lines i first j last count point end next all none along stays shown same keep =
    let less : LeavesLess (works_of lines) i first j last = subst (λ (n : ℕ). LessAlong m lines i first j last n) all along none keep in
    let left : todo_in j last.pool last.volumes ≡ todo_under next.pool.found end =
    sym (stays less.none) ∙ shown ∙ ap (todo_under next.pool.found) (sym same) in
    subst (λ (n : ℕ). FallsBy (works_of lines) (todo_in i first.pool first.volumes) n) left less.falls

-- so it is told by the images at both ends
pub lower_in_run : (lines : List Line) (i : Image) (old : Found) (start : ℕ) (j : Image) (new : Found) → IsFound i old → IsFound j new
    → start ≡ todo_under old i → FallsBy (works_of lines) start (todo_under new j) → FallsByWorks lines i j
lower_in_run lines i old start j new counted counts opened falls = record {
  old = old;
  new = new;
  counted = counted;
  counts = counts;
  falls = subst (λ (n : ℕ). FallsBy (works_of lines) n (todo_under new j)) opened falls;
}
