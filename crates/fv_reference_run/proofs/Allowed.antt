-- The output of a script is told of replies that the machine allows.
use Rattle.std.proofs.Common.{◌≡◌, ℕ, ◌++◌, Bool, true, false, List, [], ◌∷◌, length, refl, sym, ap, ◌∙◌, arith}
use Rattle.std.specs.Prelude.{Option, Some, None}
use Rattle.fv_model.specs.declared.answers.Refusal.{Refusal}
use Rattle.fv_model.specs.declared.answers.Refusal.TheVariants.{Syntax, Range}
use Rattle.fv_model.specs.declared.answers.Reply.{Reply}
use Rattle.fv_model.specs.declared.answers.Reply.TheVariants.{Number, Refused}
use Rattle.fv_model.specs.declared.commands.Command.{Command}
use Rattle.fv_model.specs.Machines.{Machine}
use Rattle.fv_model.specs.Refusals.{refusal}
use Rattle.fv_model.specs.Replies.{answer, is_open, AllowsBy, IsAnswer}
use Rattle.fv_model.specs.Runs.{Line, Says, NoCommand, OutOfRange, after_line, AllowsAt, AnswersAll}
use Rattle.fv_model.specs.Texts.{done_text}
use Rattle.fv_reference_run.specs.Output.{answer_text, line_text, replies_text, output, spoken, leaves_open, told_text, IsTold}

accepted : (undecided : Bool) (expected : Reply) → (reply : Reply) × IsAnswer undecided expected reply × (spoken undecided reply ≡ answer_text None undecided expected)
accepted true expected = (Number 0, (0, omega arith, refl), refl)
accepted false expected = (expected, refl, refl)

refused : (undecided : Bool) (r : Refusal) (expected : Reply) → spoken undecided (Refused r) ≡ answer_text (Some r) undecided expected
refused true r expected = refl
refused false r expected = refl

one_by : (r : Option Refusal) (m : Machine) (c : Command) → (reply : Reply) × AllowsBy r m c reply × (spoken (is_open m c) reply ≡ answer_text r (is_open m c) (answer m c))
one_by (Some r) m c = (Refused r, refl, refused (is_open m c) r (answer m c))
one_by None m c = accepted (is_open m c) (answer m c)

one : (m : Machine) (line : Line) → (reply : Reply) × AllowsAt m line reply × (spoken (leaves_open m line) reply ≡ line_text m line)
one m (Says c) = one_by (refusal m c) m c
one m NoCommand = (Refused Syntax, refl, refl)
one m OutOfRange = (Refused Range, refl, refl)

all : (m : Machine) (lines : List Line) → (replies : List Reply) × AnswersAll m lines replies × (told_text m lines replies ≡ replies_text m lines)
all m [] = ([], tt, refl)
all m (line ∷ lines) =
    let first = one m line in
    let others = all (after_line m line) lines in
    (first.0 ∷ others.0, (first.1, others.1), ap (λ (l : List ℕ). l ++ told_text (after_line m line) lines others.0) first.2 ∙ ap (λ (l : List ℕ). line_text m line ++ l) others.2)

pub is_told : (m : Machine) (lines : List Line) → IsTold m lines (output m lines)
is_told m lines = let replies = all m lines in (replies.0, replies.1, ap (λ (l : List ℕ). l ++ done_text (length lines)) (sym replies.2))
