-- The paths to cells along the lines of a run, and the replies to those that probe.
use Rattle.std.proofs.Common.{◌≡◌, ◌⊎◌, ◌<◌, ◌≤◌, ◌+◌, ◌∙◌, ◌++◌, inl, inr, ⊎_elim, ℕ, zero, suc, Bool, true, false, cond, List, [], ◌∷◌, length, take, get_or, refl, sym, subst, ap, arith}
use Rattle.std.specs.Prelude.{◌||◌, is_some, flat_map, Option, Some, None, Ok, IsTrue}
use Rattle.std.proofs.lemmas.Bool.{cases_lt}
use Rattle.std.proofs.lemmas.List.{length-take-le}
use Rattle.fv_disk.specs.Shown.{Image, Shown}
use Rattle.fv_model.specs.declared.answers.Refusal.{Refusal}
use Rattle.fv_model.specs.declared.answers.Refusal.TheVariants.{Syntax}
use Rattle.fv_model.specs.declared.answers.Reply.{Reply}
use Rattle.fv_model.specs.declared.answers.Reply.TheVariants.{Done, Number, Refused}
use Rattle.fv_model.specs.declared.commands.Command.{Command}
use Rattle.fv_model.specs.declared.commands.Command.TheVariants.{Probe}
use Rattle.fv_model.specs.Machines.{Machine}
use Rattle.fv_model.specs.Refusals.{refusal}
use Rattle.fv_model.specs.Replies.{AllowsBy}
use Rattle.fv_model.specs.Runs.{Line, Says, NoCommand, after, after_line, whole, AnswersAll}
use Rattle.fv_model.specs.Texts.{text}
use Rattle.fv_cp.specs.Placing.{HaveNoFiles}
use Rattle.fv_aggregate.specs.declared.session.Session.{Session}
use Rattle.fv_aggregate.specs.Applying.{HasApplied}
use Rattle.fv_aggregate.specs.Commands.{is_built, is_refusal, keeps_todo, RepliesBy}
use Rattle.fv_aggregate.specs.PathShown.{HasPathsOf, ShowsPath}
use Rattle.fv_aggregate.specs.Standing.{StandsFor}
use Rattle.fv_aggregate.proofs.PathAnswered.{path_applied}
use Rattle.fv_aggregate.proofs.PathShown.{paths_kept}
use Rattle.fv_run.specs.Built.{built}
use Rattle.fv_run.specs.Probes.{keeps_places, AnswersPath, AnswersProbes, HasPathsBehind, KeepPlaces, PathsAfter, PathsByLine, StayTables, TellPaths}
use Rattle.fv_run.specs.Promises.{line_at}

-- ---- one line

-- what is refused is answered so
refused_so : (o : Option Refusal) (m : Machine) (c : Command) (reply : Reply) → is_some o ≡ true → AllowsBy o m c reply → IsTrue (is_refusal reply)
refused_so None m c reply some is = absurd cc
refused_so (Some r) m c reply some is = subst (λ (x : Reply). IsTrue (is_refusal x)) (sym is) refl

-- a command that keeps the places only asks, is a `cp`, or is refused
keeps_so : (keeps : Bool) (o : Option Refusal) (m : Machine) (c : Command) (reply : Reply) → (keeps || is_some o) ≡ true → AllowsBy o m c reply
    → (keeps ≡ true) ⊎ IsTrue (is_refusal reply)
keeps_so true o m c reply some is = inl refl
keeps_so false o m c reply some is = inr (refused_so o m c reply some is)

module _ {D : Type 0} (show : D → Shown) (before : D) (session : Session) (start : ℕ) (after : D) (next : Session) (stop : ℕ)
    (reply : Reply) where
  abbrev Did : Command → Type 0
  Did command = HasApplied command (show before) before session start (show after) after next stop (Ok reply)

  abbrev After : Machine → Line → Type 0
  After m line = PathsAfter m line reply (show before).reads session (show after).reads next

  stays : (c : Command) → Did c → IsTrue (show before).tells → (last m : Machine) → StandsFor (show before) session last m
      → HaveNoFiles session.volumes → (keeps_todo c ≡ true) ⊎ IsTrue (is_refusal reply) → StayTables (show before).reads session (show after).reads next
  stays c done tells last m stands none keeps =
      let left = done.left tells last m stands none keeps in record { none = left.none; tables = left.tables }

  -- a command that is built
  said : (c : Command) → Did c → is_built c ≡ true → IsTrue (show before).tells → (last m : Machine) → StandsFor (show before) session last m
      → After m (Says c)
  said c done is tells last m stands none = (
    λ keeps. stays c done tells last m stands none
        (keeps_so (keeps_todo c) (refusal m c) m c reply keeps (subst (λ (b : Bool). RepliesBy b m c reply) is (done.reply tells last m stands))),
    answers,
  )
    where
      same_command : (a b : Command) → ◌≡◌ {A = Line} (Says a) (Says b) → a ≡ b
      same_command a b e = cc

      answers : AnswersPath m (Says c) reply (show before).reads session
      answers volume file index says accepted =
          path_applied volume file index (show before) before session start (show after) after next stop reply
          (subst Did (same_command c (Probe volume file index) says) done) tells last m stands none accepted

  -- one that isn't is refused as none
  unsaid : (c : Command) → Did c → is_built c ≡ false → IsTrue (show before).tells → (last m : Machine) → StandsFor (show before) session last m
      → After m NoCommand
  unsaid c done is tells last m stands none =
      let refused : reply ≡ Refused Syntax = subst (λ (b : Bool). RepliesBy b m c reply) is (done.reply tells last m stands) in (
        λ keeps. stays c done tells last m stands none (inr (subst (λ (r : Reply). IsTrue (is_refusal r)) (sym refused) refl)),
        λ volume file index says accepted. absurd cc,
      )

  -- the line of a command was applied
  pub paths_said : (line : Line) (c : Command) → line ≡ Says c → Did c → PathsByLine session (built line) (show before) next (show after) (Ok reply)
  paths_said line c says done tells last m stands = subst (λ (l : Line). After m (built l)) (sym says) (by (is_built c) refl)
    where
      by : (is : Bool) → is_built c ≡ is → After m (cond is (Says c) NoCommand)
      by true is = said c done is tells last m stands
      by false is = unsaid c done is tells last m stands

-- a line that says no command, or one with a number out of range
pub paths_unsaid : (session : Session) (line : Line) (host : Shown) (reply : Reply) → ((c : Command) → line ≡ Says c → ⊥)
    → PathsByLine session line host session host (Ok reply)
paths_unsaid session line host reply none_said tells last m stands none =
    (λ keeps. record { none = none; tables = λ slot. refl }, λ volume file index says accepted. absurd (none_said (Probe volume file index) says))

-- ---- line by line

-- while the disk reads what it read
pub paths_still : (m : Machine) (lines : List Line) (count : ℕ) (i j k : Image) (session : Session) → k ≡ j → HasPathsBehind m lines count i j session
    → HasPathsBehind m lines count i k session
paths_still m lines count i j k session same so_far = subst (λ (x : Image). HasPathsBehind m lines count i x session) (sym same) so_far

-- the next line is applied
module _ (m : Machine) (lines : List Line) (count : ℕ) (line : Line) (is : line_at lines count ≡ line) (i : Image) (j : Image) (session : Session)
    (k : Image) (next : Session) (reply : Reply) (so_far : HasPathsBehind m lines count i j session)
    (by : PathsAfter (after m lines count) line reply j session k next) where
  before : KeepPlaces m lines (count + 1) → HasPathsOf i j session
  before keep = so_far (λ at low. keep at (omega (arith, low)))

  pub paths_next : HasPathsBehind m lines (count + 1) i k next
  paths_next keep =
      let was = before keep in
      let here : keeps_places (after m lines count) line ≡ true =
      subst (λ (l : Line). keeps_places (after m lines count) l ≡ true) is (keep count (omega arith)) in
      let stay = (by was.none).0 here in
      paths_kept i j k session next stay.tables stay.none was

  -- so its answer is the path that the image shows
  path_here : (volume file : List ℕ) (index : ℕ) → line ≡ Says (Probe volume file index) → refusal (after m lines count) (Probe volume file index) ≡ None
      → KeepPlaces m lines count → (n : ℕ) × (reply ≡ Number n) × ShowsPath i volume file index n
  path_here volume file index says accepted keep =
      let was = so_far keep in
      let told = (by was.none).1 volume file index says accepted in
      (told.0, told.1, was.paths volume file index told.0 told.2)

  pub tells_next : (replies : List Reply) → length replies ≡ count → TellPaths m lines i replies → TellPaths m lines i (replies ++ reply ∷ [])
  tells_next replies long told at within volume file index says accepted keep = ⊎_elim
      (λ (less : at < length replies).
      let one = told at less volume file index says accepted keep in
      (one.0, front replies at less ∙ one.1, one.2))
      (λ (past : length replies ≤ at).
      let last : at < length replies + 1 = (let more = longer replies in omega (arith, within, more)) in
      let here : at ≡ count = omega (arith, last, past, long) in
      let one = path_here volume file index (sym is ∙ ap (λ (n : ℕ). line_at lines n) (sym here) ∙ says)
      (subst (λ (n : ℕ). refusal (after m lines n) (Probe volume file index) ≡ None) here accepted) (subst (λ (n : ℕ). KeepPlaces m lines n) here keep) in
      let end : at ≡ length replies = omega (arith, here, long) in
      (one.0, ap (λ (n : ℕ). get_or (replies ++ reply ∷ []) n Done) end ∙ behind replies ∙ one.1, one.2))
      (cases_lt at (length replies))
    where
      longer : (rs : List Reply) → length (rs ++ reply ∷ []) ≡ length rs + 1
      longer [] = refl
      longer (r ∷ rs) = let rest = longer rs in omega (arith, rest)

      front : (rs : List Reply) (n : ℕ) → n < length rs → get_or (rs ++ reply ∷ []) n Done ≡ get_or rs n Done
      front [] n less = absurd (omega (arith, less))
      front (r ∷ rs) zero less = refl
      front (r ∷ rs) (suc n) less = front rs n (omega (arith, less))

      behind : (rs : List Reply) → get_or (rs ++ reply ∷ []) (length rs) Done ≡ reply
      behind [] = refl
      behind (r ∷ rs) = behind rs

-- ---- what was given

-- there are as many replies as lines
as_many : (m : Machine) (lines : List Line) (replies : List Reply) → AnswersAll m lines replies → length replies ≡ length lines
as_many m [] [] all = refl
as_many m [] (r ∷ rs) all = absurd all
as_many m (l ∷ ls) [] all = absurd all
as_many m (l ∷ ls) (r ∷ rs) all = let rest = as_many (after_line m l) ls rs all.1 in omega (arith, rest)

pub replies_long : (m : Machine) (lines : List Line) (count : ℕ) (replies : List Reply) → count ≤ length lines → AnswersAll m (take count lines) replies
    → length replies ≡ count
replies_long m lines count replies within all = as_many m (take count lines) replies all ∙ length-take-le count lines within

pub probes_answered : (m : Machine) (lines : List Line) (i : Image) (output : List ℕ) (replies : List Reply) (rest : List ℕ) (count : ℕ)
    → output ≡ flat_map text replies ++ rest → count ≤ length lines → AnswersAll m (take count lines) replies
    → ((k : ℕ) → k < whole output → k < length lines → k < count) → TellPaths m lines i replies → AnswersProbes m lines i output
probes_answered m lines i output replies rest count is within all each told =
    let long : length replies ≡ count = replies_long m lines count replies within all in
    record {
      replies = replies;
      allowed = subst (λ (n : ℕ). AnswersAll m (take n lines) replies) (sym long) all;
      rest = rest;
      output_is = is;
      all = λ k answered in_lines. let low = each k answered in_lines in omega (arith, low, long);
      paths = told;
    }
