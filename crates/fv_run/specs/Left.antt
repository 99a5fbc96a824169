-- What a run leaves background steps to do: the lines that say an accepted `work` bring it down by as many steps as they ask for, where each
-- other line leaves it.
--
-- An example: in an image three pointers of a mirror are unknown. Behind a script of `work 1`, `ls w` and `cp` two are left at most: a step
-- may fill in more than one. Behind one of `work 10` none is.
use Rattle.std.specs.Prelude.{◌≡◌, ◌⊎◌, ◌<◌, ◌≤◌, ◌+◌, ℕ, zero, suc, if◌then◌else◌, Bool, true, false, ◌||◌, List, length, is_some, IsTrue, Result, OnOk}
use Rattle.fv_disk.specs.Shown.{Image, Shown}
use Rattle.fv_model.specs.declared.answers.Reply.{Reply}
use Rattle.fv_model.specs.declared.commands.Command.TheVariants.{Work}
use Rattle.fv_model.specs.Machines.{Machine}
use Rattle.fv_model.specs.Numbers.{is_step_count}
use Rattle.fv_model.specs.Refusals.{refusal}
use Rattle.fv_model.specs.Runs.{Line, Says, NoCommand, OutOfRange, after}
use Rattle.fv_root.specs.declared.find.Found.{Found}
use Rattle.fv_root.specs.Finding.{IsFound}
use Rattle.fv_cp.specs.Placing.{HaveNoFiles}
use Rattle.fv_aggregate.specs.declared.session.Session.{Session}
use Rattle.fv_aggregate.specs.Commands.{keeps_todo}
use Rattle.fv_aggregate.specs.LeftOver.{todo_under}
use Rattle.fv_aggregate.specs.Standing.{StandsFor}
use Rattle.fv_aggregate.specs.Working.{todo_in}
use Rattle.fv_run.specs.declared.ending.Fault.{Fault}
use Rattle.fv_run.specs.Promises.{line_at}

-- ---- lines

-- so many steps a line asks for: the number of an accepted `work`
abbrev pub steps_of : Line → ℕ
steps_of (Says (Work steps)) = if is_step_count steps then steps else 0
steps_of line = 0

-- how many the first `count` lines ask for
unfoldable pub works_behind : List Line → ℕ → ℕ
works_behind lines zero = 0
works_behind lines (suc count) = works_behind lines count + steps_of (line_at lines count)

-- how many all lines do
abbrev pub works_of : List Line → ℕ
works_of lines = works_behind lines (length lines)

-- whether a line is a `work`
abbrev pub is_work : Line → Bool
is_work (Says (Work steps)) = true
is_work line = false

-- Whether a line leaves what is left to do but for the steps that it asks for: it only asks, is a `cp` or a `work`, or the machine behind
-- the lines before it refuses it.
abbrev pub keeps_left : Machine → Line → Bool
keeps_left m (Says command) = keeps_todo command || (is_some (refusal m command) || is_work (Says command))
keeps_left m NoCommand = true
keeps_left m OutOfRange = true

-- each of the first `count` lines does
abbrev pub KeepLeft : Machine → List Line → ℕ → Type 0
KeepLeft m lines count = (k : ℕ) → k < count → keeps_left (after m lines k) (line_at lines k) ≡ true

-- each of all lines does
abbrev pub AllKeepTodo : Machine → List Line → Type 0
AllKeepTodo m lines = KeepLeft m lines (length lines)

-- ---- what is left

-- what was left to do fell by so many steps at least, or nothing is left
abbrev pub FallsBy : ℕ → ℕ → ℕ → Type 0
FallsBy steps before after = (after ≡ 0) ⊎ (after + steps ≤ before)

-- So it did from a session over an image to another one, which has no file in memory.
pub record LeavesLess (steps : ℕ) (i : Image) (session : Session) (j : Image) (next : Session) : Type 0 where
  pub none : HaveNoFiles next.volumes
  pub falls : FallsBy steps (todo_in i session.pool session.volumes) (todo_in j next.pool next.volumes)

-- A line is applied to a session that stands for a machine, without a file in memory.
abbrev pub LessByLine : Session → Line → Shown → Session → Shown → Result Reply Fault → Type 0
LessByLine session line old new_session new result =
    IsTrue old.tells → (last m : Machine) → StandsFor old session last m → HaveNoFiles session.volumes
    → OnOk result (keeps_left m line ≡ true → LeavesLess (steps_of line) old.reads session new.reads new_session)

-- The first `count` lines were applied to a session that began without a file in memory.
abbrev pub LessAlong : Machine → List Line → Image → Session → Image → Session → ℕ → Type 0
LessAlong m lines i first j session count =
    HaveNoFiles first.volumes → KeepLeft m lines count → LeavesLess (works_behind lines count) i first j session

-- ---- a run

-- By the roots that count in two images what is left to do fell by the steps that all lines ask for, or nothing is left.
pub record FallsByWorks (lines : List Line) (i j : Image) : Type 0 where
  pub old : Found
  pub new : Found
  pub counted : IsFound i old
  pub counts : IsFound j new
  pub falls : FallsBy (works_of lines) (todo_under old i) (todo_under new j)
