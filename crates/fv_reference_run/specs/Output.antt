-- What is given out for a script.
use Rattle.std.specs.Prelude.{◌≡◌, ℕ, Bool, true, false, List, [], ◌∷◌, ◌++◌, length, codes, Option, Some, None}
use Rattle.fv_model.specs.declared.answers.Refusal.{Refusal}
use Rattle.fv_model.specs.declared.answers.Refusal.TheVariants.{Syntax, Range}
use Rattle.fv_model.specs.declared.answers.Reply.{Reply}
use Rattle.fv_model.specs.declared.answers.Reply.TheVariants.{Number, Refused}
use Rattle.fv_model.specs.Machines.{Machine}
use Rattle.fv_model.specs.Refusals.{refusal}
use Rattle.fv_model.specs.Replies.{answer, is_open}
use Rattle.fv_model.specs.Runs.{Line, Says, NoCommand, OutOfRange, after_line, AnswersAll}
use Rattle.fv_model.specs.Texts.{text, done_text, line_end}
use Rattle.fv_script.specs.declared.fault.LineFault.{LineFault}
use Rattle.fv_script.specs.declared.fault.LineFault.TheVariants as fault

-- the line that stands for a number which the machine leaves undecided
abbrev pub open_text : List ℕ
open_text = codes "?" ++ line_end ∷ []

-- the line for a command that is refused, or is accepted with an open answer, or with this one
abbrev pub answer_text : Option Refusal → Bool → Reply → List ℕ
answer_text (Some r) undecided reply = text (Refused r)
answer_text None true reply = open_text
answer_text None false reply = text reply

-- the line that a machine gives for a line of a script
abbrev pub line_text : Machine → Line → List ℕ
line_text m (Says c) = answer_text (refusal m c) (is_open m c) (answer m c)
line_text m NoCommand = text (Refused Syntax)
line_text m OutOfRange = text (Refused Range)

-- those for several lines, one after another
abbrev pub replies_text : Machine → List Line → List ℕ
replies_text m [] = []
replies_text m (line ∷ lines) = line_text m line ++ replies_text (after_line m line) lines

-- the whole output: a line for each line, and then `done` with their number
abbrev pub output : Machine → List Line → List ℕ
output m lines = replies_text m lines ++ done_text (length lines)

-- the line of a reply that was had, where the machine leaves the answer open or not
abbrev pub spoken : Bool → Reply → List ℕ
spoken true (Number n) = open_text
spoken undecided reply = text reply

-- whether the machine leaves the answer to a line open
abbrev pub leaves_open : Machine → Line → Bool
leaves_open m (Says c) = is_open m c
leaves_open m NoCommand = false
leaves_open m OutOfRange = false

-- the lines of replies to some lines
abbrev pub told_text : Machine → List Line → List Reply → List ℕ
told_text m [] replies = []
told_text m (line ∷ lines) [] = []
told_text m (line ∷ lines) (reply ∷ replies) = spoken (leaves_open m line) reply ++ told_text (after_line m line) lines replies

-- what is told of replies that the machine allows, a question mark standing for those that it leaves open
abbrev pub IsTold : Machine → List Line → List ℕ → Type 0
IsTold m lines given = (replies : List Reply) × AnswersAll m lines replies × (given ≡ told_text m lines replies ++ done_text (length lines))

-- what a line that says no command is answered
abbrev pub refused : LineFault → Reply
refused fault.Syntax = Refused Syntax
refused fault.Range = Refused Range
