-- Runs: the machine after the lines of a script, and what is given out for them.
use Rattle.std.specs.Prelude.{◌≡◌, ℕ, ◌+◌, ◌-◌, Bool, true, false, cond, not, nat_eq, List, [], ◌∷◌, ◌++◌, length, take, count_by, flat_map, fold}
use Rattle.std.specs.List.{suffix_len}
use Rattle.fv_model.specs.declared.answers.Refusal.TheVariants.{Syntax, Range}
use Rattle.fv_model.specs.declared.answers.Reply.{Reply}
use Rattle.fv_model.specs.declared.answers.Reply.TheVariants.{Refused}
use Rattle.fv_model.specs.declared.commands.Command.{Command}
use Rattle.fv_model.specs.declared.commands.Command.TheVariants.{Cp}
use Rattle.fv_model.specs.Machines.{Machine}
use Rattle.fv_model.specs.Refusals.{next}
use Rattle.fv_model.specs.Replies.{Allows}
use Rattle.fv_model.specs.Texts.{text, done_text, line_end}

-- how a line reads: as a command, as no command at all, or as one with a number outside its range
pub data Line : Type 0 where
  Says : (command : Command) → Line
  NoCommand : Line
  OutOfRange : Line

-- the machine after a line; one that says no command is refused and changes nothing
abbrev pub after_line : Machine → Line → Machine
after_line m (Says c) = next m c
after_line m NoCommand = m
after_line m OutOfRange = m

-- the machine after the first k lines
abbrev pub after : Machine → List Line → ℕ → Machine
after m lines k = fold after_line m (take k lines)

abbrev pub AllowsAt : Machine → Line → Reply → Type 0
AllowsAt m (Says c) reply = Allows m c reply
AllowsAt m NoCommand reply = reply ≡ Refused Syntax
AllowsAt m OutOfRange reply = reply ≡ Refused Range

-- a reply for each line, each allowed where it is given
abbrev pub AnswersAll : Machine → List Line → List Reply → Type 0
AnswersAll m [] [] = Unit {0}
AnswersAll m [] (reply ∷ replies) = ⊥
AnswersAll m (line ∷ lines) [] = ⊥
AnswersAll m (line ∷ lines) (reply ∷ replies) = AllowsAt m line reply × AnswersAll (after_line m line) lines replies

-- the whole output of a run: the replies' lines, and then `done` with the number of lines
abbrev pub Full : Machine → List Line → List ℕ → Type 0
Full m lines output =
    (replies : List Reply) × AnswersAll m lines replies × (output ≡ flat_map text replies ++ done_text (length lines))

-- the first part of such an output
abbrev pub Follows : Machine → List Line → List ℕ → Type 0
Follows m lines output = (rest : List ℕ) × Full m lines (output ++ rest)

-- how many lines stand whole in an output
abbrev pub whole : List ℕ → ℕ
whole output = count_by (λ b. nat_eq b line_end) output

abbrev pub is_cp : Line → Bool
is_cp (Says Cp) = true
is_cp line = false

-- how many lines there are up to the last `cp`
abbrev pub up_to_cp : List Line → ℕ
up_to_cp lines = length lines - suffix_len (λ l. not (is_cp l)) lines

-- how many lines an output acknowledges: all once the last line stands whole, and else those up to the last `cp` answered
abbrev pub acked : List Line → List ℕ → ℕ
acked lines output = cond (nat_eq (whole output) (length lines + 1)) (length lines) (up_to_cp (take (whole output) lines))
