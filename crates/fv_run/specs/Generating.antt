-- Running the script of a seed: its lines are applied, nothing is given meanwhile, and then one line tells of them. All but the script itself is
-- said of any list of lines.
use Rattle.std.specs.Prelude.{◌≡◌, ◌⊎◌, ◌<◌, ◌≤◌, ◌+◌, ◌-◌, ℕ, Bool, true, false, cond, not, List, [], ◌∷◌, ◌++◌, length, take, drop, map, Some, None, IsTrue, Result, Ok, Err, IsErr, IfErr, OnOk}
use Rattle.std.specs.Option.{is_some}
use Rattle.fv_disk.specs.Shown.{Image, Shown, IsSettled, Rose}
use Rattle.fv_disk.specs.Crash.{Leaves}
use Rattle.fv_model.specs.declared.answers.Reply.{Reply}
use Rattle.fv_model.specs.declared.answers.Reply.TheVariants.{Refused}
use Rattle.fv_model.specs.declared.commands.Command.{Command}
use Rattle.fv_model.specs.Machines.{Machine}
use Rattle.fv_model.specs.Refusals.{refusal}
use Rattle.fv_model.specs.Runs.{Line, Says, NoCommand, OutOfRange, after, after_line}
use Rattle.fv_image.specs.WholeMachine.{machine_of}
use Rattle.fv_root.specs.Finding.{IsNoAggregate}
use Rattle.fv_script.specs.Generated.{generated}
use Rattle.fv_script.specs.Summary.{summary}
use Rattle.fv_script.specs.Telling.{Tells, unnamed}
use Rattle.fv_lines.specs.Counts.{Counts}
use Rattle.fv_aggregate.specs.declared.fault.OpenFault.TheVariants as opening
use Rattle.fv_aggregate.specs.declared.session.Session.{Session}
use Rattle.fv_aggregate.specs.Causes.{IsOpenFault, IsUnwritten}
use Rattle.fv_aggregate.specs.Opening.{IsOpened}
use Rattle.fv_aggregate.specs.Reading.{IsAsRead}
use Rattle.fv_aggregate.specs.Standing.{charged_in}
use Rattle.fv_run.specs.declared.ending.Fault.{Fault}
use Rattle.fv_run.specs.declared.ending.Fault.TheVariants.{Usage, Unsound, NotAggregate, Source, Sink, Disk, Memory, Damaged, Limit}
use Rattle.fv_run.specs.declared.generating.Tally.{Tally}
use Rattle.fv_run.specs.Built.{built}
use Rattle.fv_run.specs.Endings.{EndsWith, IsWholeFault, count_of, raised_by}
use Rattle.fv_run.specs.Promises.{line_at}
use Rattle.fv_run.specs.Running.{IsHurtBehind, IsUnopened, only_asks, Opens, UndergoesLines}
use Rattle.fv_run.specs.Answering.{BeginsFor, HasApplied, IsReady}

-- ---- lines

-- the lines of the script that a seed makes
abbrev pub lines_drawn : ℕ → ℕ → List Line
lines_drawn seed count = map Says (generated seed count)

-- the lines of commands, as far as those are built
abbrev pub lines_said : List Command → List Line
lines_said commands = map (λ command. built (Says command)) commands

-- ---- how many are accepted

-- whether a reply is no refusal
abbrev pub is_accepted : Reply → Bool
is_accepted (Refused r) = false
is_accepted reply = true

-- whether the machine accepts a line
abbrev pub accepts : Machine → Line → Bool
accepts m (Says c) = not (is_some (refusal m c))
accepts m NoCommand = false
accepts m OutOfRange = false

-- how many of the lines the machine accepts, one after another
unfoldable pub accepted : Machine → List Line → ℕ
accepted m [] = 0
accepted m (line ∷ lines) = cond (accepts m line) 1 0 + accepted (after_line m line) lines

-- the line that tells of these lines: their number, how many were accepted and how many refused, and the sum of the charges behind them
abbrev pub summary_of : Machine → List Line → List ℕ
summary_of m lines = summary (length lines) (accepted m lines) (length lines - accepted m lines) (charged_in (after m lines (length lines)))

-- ---- crashes

-- an image stands for the machine after the first `count` lines
pub record IsAfterFirst (m : Machine) (lines : List Line) (c : Image) : Type 0 where
  pub count : ℕ
  pub all : count ≤ length lines
  pub machine : machine_of c ≡ Some (after m lines count)

-- what a crash leaves before the last line, when nothing has been given
abbrev pub Silent : Machine → List Line → List ℕ → Image → List ℕ → Type 0
Silent m lines before c g = IsAfterFirst m lines c × (g ≡ before)

-- What a crash leaves, with what had been given by then beside what was given before: a first part of the line. It is the machine after some first
-- lines, and after all of them once a byte of the line was given. So no line is acknowledged before, and all are then.
pub record Outlasts (m : Machine) (lines : List Line) (before : List ℕ) (c : Image) (g : List ℕ) : Type 0 where
  pub part : ℕ
  pub given : g ≡ before ++ take part (summary_of m lines)
  pub count : ℕ
  pub all : count ≤ length lines
  pub acknowledged : 0 < part → count ≡ length lines
  pub machine : machine_of c ≡ Some (after m lines count)

-- the same of a run from a disk with writes in flight: with nothing given yet, also what a crash might have left before it
abbrev pub OutlastsFrom : Machine → List Line → Shown → Image → List ℕ → Type 0
OutlastsFrom m lines old c g = (old.images c × (g ≡ old.given)) ⊎ Outlasts m lines old.given c g

-- ---- exits

-- The disk is settled, and stands for the machine after all lines, and exactly the line that tells of them was given.
pub record HasGenerated (m : Machine) (lines : List Line) (old new : Shown) : Type 0 where
  pub settled : IsSettled new
  pub stands : machine_of new.reads ≡ Some (after m lines (length lines))
  pub given : new.given ≡ old.given ++ summary_of m lines

-- nothing is in flight, and the disk stands for the machine after some first lines
pub record IsAtRestAfter (m : Machine) (lines : List Line) (new : Shown) : Type 0 where
  pub settled : IsSettled new
  pub first : IsAfterFirst m lines new.reads

-- what was given at a fault: a first part of the line, and never all of it, where the sink failed, and else nothing
abbrev pub GaveUpTo : List ℕ → Shown → Shown → Fault → Type 0
GaveUpTo line old new Sink = (k : ℕ) × (k < length line) × (new.given ≡ old.given ++ take k line)
GaveUpTo line old new fault = new.given ≡ old.given

-- nothing was given, but where the sink failed
abbrev pub GaveNone : Shown → Shown → Fault → Type 0
GaveNone old new Sink = Unit {0}
GaveNone old new fault = new.given ≡ old.given

-- Opening found a block without the shape of its kind, or a number past its bound, and nothing was written or given.
abbrev pub IsOpeningDamage : Shown → Shown → Type 0
IsOpeningDamage old new = IsUnwritten old new × ((at want found : ℕ) × IsOpenFault old.reads (opening.Damaged at want found))

-- the call at work behind some first lines met damage
pub record IsHurtWithin (lines : List Line) (i : Image) (first : Session) (end : Shown) : Type 0 where
  pub count : ℕ
  pub all : count ≤ length lines
  pub call : IsHurtBehind lines count i first end

-- a session was opened, and then met damage
pub record IsDamagedWithin (lines : List Line) (old end : Shown) : Type 0 where
  pub first : Session
  pub opened : IsOpened old.reads first
  pub meets : IsHurtWithin lines old.reads first end

-- Why a run ended, with its status: 2, 4, 5, 6 or 8. A fault of the sink or the disk has its count, and want of memory has no cause.
abbrev pub HasReasonFor : List Line → Shown → Shown → Fault → Type 0
-- 1
HasReasonFor lines old new Unsound = ⊥
-- 2
HasReasonFor lines old new NotAggregate = IsUnwritten old new × (IsTrue old.tells → IsNoAggregate old.reads)
-- 3
HasReasonFor lines old new Source = ⊥
-- 4
HasReasonFor lines old new Sink = Unit {0}
-- 5
HasReasonFor lines old new Disk = Unit {0}
-- 6
HasReasonFor lines old new Memory = Unit {0}
-- 7
HasReasonFor lines old new Usage = ⊥
-- 8
HasReasonFor lines old new Damaged = IsTrue old.tells → IsOpeningDamage old new ⊎ IsDamagedWithin lines old new
-- 9
HasReasonFor lines old new Limit = ⊥

-- Lines are run on the aggregate of a disk, and told of in one line.
pub record Generates (lines : List Line) (old new : Shown) (result : Result Unit Fault) : Type 0 where
  -- Over the image of a machine: at Ok the disk has the machine after all lines, and the line with its numbers was given; a crash at any moment
  -- leaves the machine after some of the lines.
  pub done : IsTrue old.tells → (m : Machine) → machine_of old.reads ≡ Some m → OnOk result (HasGenerated m lines old new)
  pub crash : IsTrue old.tells → (m : Machine) → machine_of old.reads ≡ Some m → IsSettled old → Leaves old new (Outlasts m lines old.given)
  pub crash_from : IsTrue old.tells → (m : Machine) → machine_of old.reads ≡ Some m → Leaves old new (OutlastsFrom m lines old)
  -- where no write and no barrier failed
  pub at_rest : IsTrue old.tells → (m : Machine) → machine_of old.reads ≡ Some m → ¬ Rose old.write_faults new.write_faults → IsAtRestAfter m lines new
  pub given : IsTrue old.tells → (m : Machine) → machine_of old.reads ≡ Some m → IfErr result (GaveUpTo (summary_of m lines) old new)
  pub no_damage : IsTrue old.tells → (m : Machine) → machine_of old.reads ≡ Some m → IfErr result IsWholeFault
  -- over any image
  pub silent : IfErr result (GaveNone old new)
  pub counts : Counts old new (raised_by result)
  pub reason : IfErr result (HasReasonFor lines old new)
  pub unopened : IsTrue old.tells → IsNoAggregate old.reads → IsUnopened result
  pub opened : IsTrue old.tells → Opens old.reads ⊎ (IsErr result × IsUnwritten old new)
  -- nothing is asked of the source
  pub left : new.ends.left ≡ old.ends.left

-- the script of a seed is run, with the status that tells how that ended
abbrev pub IsGeneration : ℕ → ℕ → Shown → Shown → ℕ → Type 0
IsGeneration seed count old new status = EndsWith (Generates (lines_drawn seed count) old new) status

-- ---- the loop over the lines

-- a fault that a call of a session ends with, and what was damaged
abbrev pub IsCallFault : List Line → Image → Session → Shown → Fault → Type 0
IsCallFault lines i first new Disk = Unit {0}
IsCallFault lines i first new Memory = Unit {0}
IsCallFault lines i first new Damaged = IsHurtWithin lines i first new
IsCallFault lines i first new fault = ⊥

-- so many lines are applied on a session that began at `old`, and so many of them accepted; `rest` are the others
pub record AppliedAt (lines rest : List Line) (first : Session) (old : Shown) (session : Session) (now : Shown) (count good : ℕ) : Type 0 where
  pub rest_is : rest ≡ drop count lines
  pub within : count ≤ length lines
  pub few : good ≤ count
  pub ready : IsReady now session
  pub counts : Counts old now None
  pub writes : now.write_faults ≡ old.write_faults
  pub given : now.given ≡ old.given
  pub left : now.ends.left ≡ old.ends.left
  -- until a line has done more than ask for files
  pub opened : ((j : ℕ) → j < count → only_asks (line_at lines j) ≡ true) → IsAsRead first session
  pub course : IsTrue old.tells → UndergoesLines lines count old.reads first now.reads session
  pub applied : IsTrue old.tells → (m : Machine) → BeginsFor old first m → HasApplied m lines old session now count
  pub accepted : IsTrue old.tells → (m : Machine) → BeginsFor old first m → good ≡ accepted m (take count lines)
  pub crash : IsTrue old.tells → (m : Machine) → BeginsFor old first m → Leaves old now (Silent m lines old.given)

-- It ended before all lines were applied and the point behind them was made.
pub record WasCut (lines : List Line) (first : Session) (old new : Shown) (fault : Fault) : Type 0 where
  pub crash : IsTrue old.tells → (m : Machine) → BeginsFor old first m → Leaves old new (Silent m lines old.given)
  pub at_rest : IsTrue old.tells → (m : Machine) → BeginsFor old first m → ¬ Rose old.write_faults new.write_faults → IsAtRestAfter m lines new
  pub no_damage : IsTrue old.tells → (m : Machine) → BeginsFor old first m → IsWholeFault fault
  pub counts : Counts old new (count_of fault)
  pub reason : IsCallFault lines old.reads first new fault
  pub given : new.given ≡ old.given
  pub left : new.ends.left ≡ old.ends.left

abbrev pub AppliesAll : List Line → Session → Shown → Session → Shown → Result Tally Fault → Type 0
AppliesAll lines first old session new (Ok tally) = (tally.lines ≡ length lines) × AppliedAt lines [] first old session new tally.lines tally.accepted
AppliesAll lines first old session new (Err fault) = WasCut lines first old new fault

-- the line that tells of all lines is given, or a part of it, and never all, where the sink failed
pub record TellsSummary (old : Shown) (tally : Tally) (charged : ℕ) (new : Shown) (result : Result Unit Fault) : Type 0 where
  pub tells : Tells old (summary tally.lines tally.accepted (tally.lines - tally.accepted) charged) new (unnamed result)
  pub sink : IfErr result (λ fault. fault ≡ Sink)
