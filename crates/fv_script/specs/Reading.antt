-- What reading a line answers.
use Rattle.std.specs.Prelude.{Option, Result, Ok, Err}
use Rattle.fv_model.specs.declared.commands.Command.{Command}
use Rattle.fv_model.specs.Runs.{Line, Says, NoCommand, OutOfRange}
use Rattle.fv_model.specs.Lines.{ranged}
use Rattle.fv_script.specs.declared.fault.LineFault.{LineFault}
use Rattle.fv_script.specs.declared.fault.LineFault.TheVariants.{Syntax, Range}

-- a line that says no command is a fault of syntax, and one with a number outside its range a fault of range
abbrev pub reading : Line → Result Command LineFault
reading (Says command) = Ok command
reading NoCommand = Err Syntax
reading OutOfRange = Err Range

-- what a call answers that leaves the command where it was told to
abbrev pub handed : Result Unit LineFault → Command → Result Command LineFault
handed (Ok done) command = Ok command
handed (Err fault) command = Err fault

-- what is read of words that say this command, or none
abbrev pub outcome : Option Command → Result Command LineFault
outcome command = reading (ranged command)
