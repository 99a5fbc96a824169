-- Answering a line of a script.
use Rattle.std.specs.Prelude.{◌≡◌, ℕ, ◌++◌, take, IsTrue, Result, OnOk, OnErr}
use Rattle.fv_disk.specs.Shown.{Shown}
use Rattle.fv_model.specs.Machines.{Machine}
use Rattle.fv_model.specs.Runs.{Line, after_line}
use Rattle.fv_reference_run.specs.declared.ending.Fault.{Fault}
use Rattle.fv_reference_run.specs.Endings.{fault_in, Ends}
use Rattle.fv_reference_run.specs.Output.{line_text}

-- The machine is the next one, and its line is given, or a prefix of it after a fault. Nothing of the source is taken.
pub record Answers (old_machine : Machine) (line : Line) (old : Shown) (new_machine : Machine) (new : Shown) (result : Result Unit Fault) : Type 0 where
  pub after : OnOk result (new_machine ≡ after_line old_machine line)
  pub all : IsTrue old.tells → OnOk result (new.given ≡ old.given ++ line_text old_machine line)
  pub part : IsTrue old.tells → OnErr result ((k : ℕ) × (new.given ≡ old.given ++ take k (line_text old_machine line)))
  pub left : new.ends.left ≡ old.ends.left
  pub ends : Ends old new (fault_in result)
