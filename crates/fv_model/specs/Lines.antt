-- How the lines of a script read.
use Rattle.std.specs.Prelude.{ℕ, Bool, true, nat_le, nat_eq, List, [], ◌∷◌, length, map, Option, Some, None, if◌then◌else◌}
use Rattle.std.specs.List.{slice_split}
use Rattle.fv_model.specs.declared.commands.Command.{Command}
use Rattle.fv_model.specs.declared.commands.Command.TheVariants.{VolCreate, VolResize, New, Put, Get, Cut, CloneCreate, Mirror, Probe, Work}
use Rattle.fv_model.specs.Numbers.{is_size, is_reserve, is_index, is_step_count}
use Rattle.fv_model.specs.Words.{line_words}
use Rattle.fv_model.specs.Grammar.{command}
use Rattle.fv_model.specs.Runs.{Line, Says, NoCommand, OutOfRange}

-- whether a command's number is in its range
abbrev pub is_in_range : Command → Bool
is_in_range (VolCreate v size k) = is_size size
is_in_range (VolResize v size) = is_size size
is_in_range (CloneCreate c v s size k) = is_size size
is_in_range (Mirror v s w size k) = is_size size
is_in_range (New v f reserve) = is_reserve reserve
is_in_range (Cut v f n) = is_reserve n
is_in_range (Put v f i b) = is_index i
is_in_range (Get v s f i) = is_index i
is_in_range (Probe v f i) = is_index i
is_in_range (Work n) = is_step_count n
is_in_range c = true

-- no range is looked at where the words say no command
abbrev pub ranged : Option Command → Line
ranged None = NoCommand
ranged (Some c) = if is_in_range c then Says c else OutOfRange

-- the most bytes that a line has, without its end
abbrev pub longest_line : ℕ
longest_line = 9000

unfoldable pub line_of : List ℕ → Line
line_of line = if nat_le (length line) longest_line then ranged (command (line_words line)) else NoCommand

-- byte 10 ends a line, and a last line without it counts
abbrev pub without_empty_last : List (List ℕ) → List (List ℕ)
without_empty_last [] = []
without_empty_last ([] ∷ []) = []
without_empty_last (line ∷ lines) = line ∷ without_empty_last lines

unfoldable pub script_lines : List ℕ → List (List ℕ)
script_lines script = without_empty_last (slice_split (λ b. nat_eq b 10) script)

abbrev pub lines : List ℕ → List Line
lines script = map line_of (script_lines script)
