-- Answering a script.
use Rattle.std.specs.Prelude.{◌≡◌, ℕ, List, [], ◌∷◌, ◌++◌, take, IsTrue, Option, Some, None, Result, Err, IfErr, IfOk, OnErr}
use Rattle.fv_disk.specs.Shown.{Shown}
use Rattle.fv_disk.specs.HostCalls.{Rests}
use Rattle.fv_lines.specs.Held.{Held}
use Rattle.fv_lines.specs.Reading.{unread}
use Rattle.fv_model.specs.Machines.{Machine, empty_machine}
use Rattle.fv_model.specs.Runs.{Line, after_line}
use Rattle.fv_model.specs.Lines.{lines}
use Rattle.fv_reference_run.specs.declared.ending.Fault.{Fault}
use Rattle.fv_reference_run.specs.declared.ending.Fault.TheVariants.{Sink, Usage}
use Rattle.fv_reference_run.specs.declared.words.Order.{Order}
use Rattle.fv_reference_run.specs.declared.words.Order.TheVariants.{Answer, Gen}
use Rattle.fv_reference_run.specs.declared.program.Turn.{Turn}
use Rattle.fv_reference_run.specs.declared.program.Turn.TheVariants.{Answered, Ended}
use Rattle.fv_lines.specs.Counts.{Counts}
use Rattle.fv_script.specs.Generated.{generated}
use Rattle.fv_script.specs.Telling.{Tells, unnamed}
use Rattle.fv_saying.specs.Saying.{script_text}
use Rattle.fv_reference_run.specs.Endings.{fault_in, raised_by, Ends, IsGiven}
use Rattle.fv_reference_run.specs.Output.{line_text, replies_text, output}

-- one line is answered, or there is none
abbrev pub GoesOn : Turn → Machine → List Line → List ℕ → Machine → List Line → List ℕ → Type 0
GoesOn Answered m old given new_m new new_given = (line : Line) × (old ≡ line ∷ new) × (new_m ≡ after_line m line) × (new_given ≡ given ++ line_text m line)
GoesOn Ended m old given new_m new new_given = (old ≡ []) × (new_given ≡ given)

pub record Steps (m : Machine) (held : Held) (old : Shown) (new_m : Machine) (new_held : Held) (new : Shown) (result : Result Turn Fault) : Type 0 where
  pub goes_on : IsTrue old.tells → IfOk result (λ f. GoesOn f m (lines (unread held old)) old.given new_m (lines (unread new_held new)) new.given)
  pub part : IsTrue old.tells → OnErr result ((k : ℕ) × (new.given ≡ old.given ++ take k (replies_text m (lines (unread held old)))))
  pub ends : Ends old new (fault_in result)

-- The whole output is given, or a part of it after a fault.
pub record Runs (m : Machine) (lines : List Line) (old new : Shown) (result : Result Unit Fault) : Type 0 where
  pub given : IsTrue old.tells → IsGiven (fault_in result) old.given (output m lines) new.given
  pub ends : Ends old new (fault_in result)

-- The script of a seed is given, or a part of it where the sink failed. Nothing of the source is taken.
pub record Prints (seed count : ℕ) (old new : Shown) (result : Result Unit Fault) : Type 0 where
  pub tells : Tells old (script_text (generated seed count)) new (unnamed result)
  pub sink : IfErr result (λ fault. fault ≡ Sink)

-- What was asked is done, and nothing else than a fault of usage comes of words that ask for nothing.
pub record Asked (order : Option Order) (old new : Shown) (result : Result Unit Fault) : Type 0 where
  pub usage : order ≡ None → result ≡ Err Usage
  pub counts : Counts old new (raised_by (fault_in result))
  pub disk : Rests old new
  pub runs : (blocks : ℕ) → order ≡ Some (Answer blocks) → Runs (empty_machine blocks) (lines old.ends.left) old new result
  pub prints : (seed count : ℕ) → order ≡ Some (Gen seed count) → Prints seed count old new result
