-- The lines of a script, as far as their commands are built.
use Rattle.std.specs.Prelude.{ℕ, List, map, if◌then◌else◌}
use Rattle.fv_model.specs.Runs.{Line, Says, NoCommand, OutOfRange}
use Rattle.fv_model.specs.Lines.{lines}
use Rattle.fv_aggregate.specs.Commands.{is_built}

-- a line that says a command which isn't built yet says none
abbrev pub built : Line → Line
built (Says command) = if is_built command then Says command else NoCommand
built NoCommand = NoCommand
built OutOfRange = OutOfRange

abbrev pub lines_built : List ℕ → List Line
lines_built script = map built (lines script)
