-- What a run promises of each of its lines: isolation, and the guarantee of a volume of kind `volume`. Both are laws of the machine
-- (fv_laws), said of the machine that the lines before lead to.
use Rattle.std.specs.Prelude.{◌≡◌, ◌≢◌, ℕ, ◌+◌, List, get_or, Option, Some, None, if◌then◌else◌}
use Rattle.fv_model.specs.declared.answers.Refusal.TheVariants.{VolumeFull}
use Rattle.fv_model.specs.declared.answers.Reply.{Reply}
use Rattle.fv_model.specs.declared.answers.Reply.TheVariants.{Done, Refused}
use Rattle.fv_model.specs.declared.commands.Command.{Command}
use Rattle.fv_model.specs.Machines.{Machine}
use Rattle.fv_model.specs.Space.{IsAdmitted}
use Rattle.fv_model.specs.Effects.{effect}
use Rattle.fv_model.specs.Refusals.{home}
use Rattle.fv_model.specs.Runs.{Line, Says, NoCommand, OutOfRange, after, AnswersAll}
use Rattle.fv_laws.specs.Isolation.{IsSameAt, AreAlike, IsIsolated}
use Rattle.fv_laws.specs.Guarantee.{is_overcharged, IsChangeOf, IsGuaranteed}

-- line k; past the last one there is none
abbrev pub line_at : List Line → ℕ → Line
line_at lines k = get_or lines k NoCommand

-- the home of a line: the volume that its command makes or names
abbrev pub home_of : Line → Option (List ℕ)
home_of (Says command) = home command
home_of NoCommand = None
home_of OutOfRange = None

-- Isolation of the lines of a run from a machine.
pub record AreIsolated (m : Machine) (lines : List Line) : Type 0 where
  -- A line leaves each volume but its home as it was.
  pub others : (k : ℕ) (name : List ℕ) → home_of (line_at lines k) ≢ Some name → IsSameAt name (after m lines k) (after m lines (k + 1))
  -- So a volume that no line has as its home stays what it was, after each of them.
  pub untouched : (name : List ℕ) → ((k : ℕ) → home_of (line_at lines k) ≢ Some name) → (k : ℕ) → IsSameAt name m (after m lines k)
  -- A command that looks at its home alone rests on nothing else. Each machine that keeps the admission rule, has the version of this one and
  -- holds an equal volume there allows the same replies, and is left with the same volume. `AreAlike` names the refusals that are left out.
  pub home_decides : (k : ℕ) (command : Command) (name : List ℕ) (other : Machine) → line_at lines k ≡ Says command → IsAdmitted other
      → AreAlike (after m lines k) other name command → IsIsolated (after m lines k) other name command

-- The guarantee, of each line of a run from a machine that says a `new`, `put`, `cut` or `rm` in a volume of kind `volume` and meets no
-- refusal that is tried earlier.
pub record AreGuaranteed (m : Machine) (lines : List Line) : Type 0 where
  -- The machine refuses it 8 exactly where the charge after it would pass the volume's size, and never 9.
  pub refused : (k : ℕ) (command : Command) (name : List ℕ) → line_at lines k ≡ Says command → IsChangeOf (after m lines k) name command
      → IsGuaranteed (after m lines k) name command
  -- It is answered so in every list of allowed replies: thus in the one whose text the output of the run begins.
  pub answered : (replies : List Reply) → AnswersAll m lines replies → (k : ℕ) (command : Command) (name : List ℕ) → line_at lines k ≡ Says command
      → IsChangeOf (after m lines k) name command
      → get_or replies k Done ≡ (if is_overcharged (effect (after m lines k) command) name then Refused VolumeFull else Done)
