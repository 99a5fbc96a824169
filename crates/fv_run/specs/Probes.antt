-- What a run answers to probes, by the image at entry: while each line before a probe only asks, is a `cp`, or is refused, its number is that
-- of the unknown pointers on the path to the cell in that image.
--
-- An example: in an image the place of no block of a mirror is known, whose file has one cell. Behind `ls w` and `cp` a probe of that cell
-- answers 2, as it would as the first line: one pointer stands in the label, and one in the file's record.
use Rattle.std.specs.Prelude.{◌≡◌, ◌<◌, ℕ, Bool, true, ◌||◌, List, ◌++◌, flat_map, get_or, length, take, is_some, None, IsTrue, Result, IfOk}
use Rattle.fv_disk.specs.Shown.{Image, Shown}
use Rattle.fv_model.specs.declared.answers.Reply.{Reply}
use Rattle.fv_model.specs.declared.answers.Reply.TheVariants.{Done, Number}
use Rattle.fv_model.specs.declared.commands.Command.TheVariants.{Probe}
use Rattle.fv_model.specs.Machines.{Machine}
use Rattle.fv_model.specs.Refusals.{refusal}
use Rattle.fv_model.specs.Runs.{Line, Says, NoCommand, OutOfRange, after, whole, AnswersAll}
use Rattle.fv_model.specs.Texts.{text}
use Rattle.fv_cp.specs.Placing.{HaveNoFiles}
use Rattle.fv_aggregate.specs.declared.session.Session.{Session}
use Rattle.fv_aggregate.specs.Commands.{keeps_todo}
use Rattle.fv_aggregate.specs.PathShown.{HasPath, HasPathsOf, KeepsTables, ShowsPath}
use Rattle.fv_aggregate.specs.Standing.{StandsFor}
use Rattle.fv_run.specs.declared.ending.Fault.{Fault}
use Rattle.fv_run.specs.Promises.{line_at}

-- ---- lines

-- Whether a line leaves each active table as it is: it only asks, is a `cp`, or the machine behind the lines before it refuses it.
abbrev pub keeps_places : Machine → Line → Bool
keeps_places m (Says command) = keeps_todo command || is_some (refusal m command)
keeps_places m NoCommand = true
keeps_places m OutOfRange = true

-- each of the first `count` lines does
abbrev pub KeepPlaces : Machine → List Line → ℕ → Type 0
KeepPlaces m lines count = (k : ℕ) → k < count → keeps_places (after m lines k) (line_at lines k) ≡ true

-- ---- one line

-- each active table stays, and no file is in memory
pub record StayTables (i : Image) (session : Session) (j : Image) (next : Session) : Type 0 where
  pub none : HaveNoFiles next.volumes
  pub tables : KeepsTables i session j next

-- a line that probes a cell, and is accepted, is answered by the path in a session
abbrev pub AnswersPath : Machine → Line → Reply → Image → Session → Type 0
AnswersPath m line reply i session =
    (volume file : List ℕ) (index : ℕ) → line ≡ Says (Probe volume file index) → refusal m (Probe volume file index) ≡ None
    → (count : ℕ) × (reply ≡ Number count) × HasPath i session volume file index count

-- what a line makes of the tables, and what it answers
abbrev pub PathsAfter : Machine → Line → Reply → Image → Session → Image → Session → Type 0
PathsAfter m line reply i session j next =
    HaveNoFiles session.volumes → (keeps_places m line ≡ true → StayTables i session j next) × AnswersPath m line reply i session

-- A line is applied to a session that stands for a machine.
abbrev pub PathsByLine : Session → Line → Shown → Session → Shown → Result Reply Fault → Type 0
PathsByLine session line old new_session new result =
    IsTrue old.tells → (last m : Machine) → StandsFor old session last m
    → IfOk result (λ reply. PathsAfter m line reply old.reads session new.reads new_session)

-- ---- all lines

-- Behind lines that keep the places a session has the paths of an image.
abbrev pub HasPathsBehind : Machine → List Line → ℕ → Image → Image → Session → Type 0
HasPathsBehind m lines count i now session = KeepPlaces m lines count → HasPathsOf i now session

-- Of these replies to the first lines each one to an accepted probe, before which each line keeps the places, is the number of unknown
-- pointers on its path as an image shows it.
abbrev pub TellPaths : Machine → List Line → Image → List Reply → Type 0
TellPaths m lines i replies =
    (k : ℕ) → k < length replies → (volume file : List ℕ) (index : ℕ) → line_at lines k ≡ Says (Probe volume file index)
    → refusal (after m lines k) (Probe volume file index) ≡ None → KeepPlaces m lines k
    → (count : ℕ) × (get_or replies k Done ≡ Number count) × ShowsPath i volume file index count

-- An output begins with the texts of such replies. Each line that it answers whole has one of them.
pub record AnswersProbes (m : Machine) (lines : List Line) (i : Image) (output : List ℕ) : Type 0 where
  pub replies : List Reply
  pub allowed : AnswersAll m (take (length replies) lines) replies
  pub rest : List ℕ
  pub output_is : output ≡ flat_map text replies ++ rest
  pub all : (k : ℕ) → k < whole output → k < length lines → k < length replies
  pub paths : TellPaths m lines i replies
