-- Replies that were given follow a machine.
use Rattle.std.proofs.Common.{◌≡◌, ℕ, ◌+◌, ◌<◌, ◌≤◌, ◌++◌, Bool, true, false, List, [], ◌∷◌, length, take, drop, get_or, add-one, drop-cons, refl, sym, ap, subst, ◌∙◌, arith, append_assoc, append-nil}
use Rattle.std.specs.Prelude.{Option, Some, None, fold, flat_map}
use Rattle.std.proofs.lemmas.List.{take-append-drop, take_all, take_more, length-drop}
use Rattle.fv_model.specs.declared.answers.Refusal.{Refusal}
use Rattle.fv_model.specs.declared.answers.Refusal.TheVariants.{Syntax, Range}
use Rattle.fv_model.specs.declared.answers.Reply.{Reply}
use Rattle.fv_model.specs.declared.answers.Reply.TheVariants.{Number, Refused}
use Rattle.fv_model.specs.declared.commands.Command.{Command}
use Rattle.fv_model.specs.Machines.{Machine}
use Rattle.fv_model.specs.Refusals.{refusal}
use Rattle.fv_model.specs.Replies.{answer, is_open, AllowsBy, IsAnswer}
use Rattle.fv_model.specs.Runs.{Line, Says, NoCommand, OutOfRange, after, after_line, AllowsAt, AnswersAll, Full, Follows}
use Rattle.fv_model.specs.Texts.{text, done_text}
use Rattle.fv_run.proofs.Acked.{next_line}

-- ---- each line has a reply that is allowed

open_or_not : (undecided : Bool) (expected : Reply) → (reply : Reply) × IsAnswer undecided expected reply
open_or_not true expected = (Number 0, (0, omega arith, refl))
open_or_not false expected = (expected, refl)

some_by : (r : Option Refusal) (m : Machine) (c : Command) → (reply : Reply) × AllowsBy r m c reply
some_by (Some r) m c = (Refused r, refl)
some_by None m c = open_or_not (is_open m c) (answer m c)

some_reply : (m : Machine) (line : Line) → (reply : Reply) × AllowsAt m line reply
some_reply m (Says c) = some_by (refusal m c) m c
some_reply m NoCommand = (Refused Syntax, refl)
some_reply m OutOfRange = (Refused Range, refl)

some_replies : (m : Machine) (lines : List Line) → (replies : List Reply) × AnswersAll m lines replies
some_replies m [] = ([], tt)
some_replies m (line ∷ lines) =
    let first = some_reply m line in
    let others = some_replies (after_line m line) lines in
    (first.0 ∷ others.0, (first.1, others.1))

-- ---- some lines and then others

both : (m : Machine) (first second : List Line) (replies others : List Reply) → AnswersAll m first replies → AnswersAll (fold after_line m first) second others → AnswersAll m (first ++ second) (replies ++ others)
both m [] second [] others none more = more
both m [] second (reply ∷ replies) others none more = absurd none
both m (line ∷ first) second [] others some more = absurd some
both m (line ∷ first) second (reply ∷ replies) others some more = (some.0, both (after_line m line) first second replies others some.1 more)

texts : (replies others : List Reply) → flat_map text (replies ++ others) ≡ flat_map text replies ++ flat_map text others
texts [] others = refl
texts (reply ∷ replies) others = ap (λ (l : List ℕ). text reply ++ l) (texts replies others) ∙ sym (append_assoc (text reply) (flat_map text replies) (flat_map text others))

-- one reply more
pub one_more : (m : Machine) (lines : List Line) (replies : List Reply) (line : Line) (reply : Reply) → AnswersAll m lines replies → AllowsAt (fold after_line m lines) line reply → AnswersAll m (lines ++ line ∷ []) (replies ++ reply ∷ [])
one_more m lines replies line reply all allowed = both m lines (line ∷ []) replies (reply ∷ []) all (allowed, tt)

pub one_text : (replies : List Reply) (reply : Reply) → flat_map text (replies ++ reply ∷ []) ≡ flat_map text replies ++ text reply
one_text replies reply = texts replies (reply ∷ []) ∙ ap (λ (l : List ℕ). flat_map text replies ++ l) (append-nil (text reply))

-- ---- outputs

-- the replies to the first lines
pub follows_first : (m : Machine) (lines : List Line) (count : ℕ) (replies : List Reply) → AnswersAll m (take count lines) replies → Follows m lines (flat_map text replies)
follows_first m lines count replies all =
    let others = some_replies (after m lines count) (drop count lines) in (
      flat_map text others.0 ++ done_text (length lines),
      (
        replies ++ others.0,
        subst (λ (l : List Line). AnswersAll m l (replies ++ others.0)) (take-append-drop count lines) (both m (take count lines) (drop count lines) replies others.0 all others.1),
        sym (append_assoc (flat_map text replies) (flat_map text others.0) (done_text (length lines))) ∙ ap (λ (l : List ℕ). l ++ done_text (length lines)) (sym (texts replies others.0)),
      ),
    )

-- a prefix of what follows does
pub follows_part : (m : Machine) (lines : List Line) (first : List ℕ) (bytes : List ℕ) (k : ℕ) → Follows m lines (first ++ bytes) → Follows m lines (first ++ take k bytes)
follows_part m lines first bytes k follows =
    (drop k bytes ++ follows.0, subst (λ (l : List ℕ). Full m lines l) (whole_again first bytes follows.0 k) follows.1)
  where
    whole_again : (first bytes rest : List ℕ) (k : ℕ) → (first ++ bytes) ++ rest ≡ (first ++ take k bytes) ++ (drop k bytes ++ rest)
    whole_again first bytes rest k =
        append_assoc first bytes rest ∙ ap (λ (l : List ℕ). first ++ l) (ap (λ (l : List ℕ). l ++ rest) (sym (take-append-drop k bytes)) ∙ append_assoc (take k bytes) (drop k bytes) rest)
        ∙ sym (append_assoc first (take k bytes) (drop k bytes ++ rest))

pub follows_whole : (m : Machine) (lines : List Line) (output : List ℕ) → Full m lines output → Follows m lines output
follows_whole m lines output full = ([], subst (λ (l : List ℕ). Full m lines l) (sym (append-nil output)) full)

pub full : (m : Machine) (lines : List Line) (count : ℕ) (replies : List Reply) → length lines ≤ count → AnswersAll m (take count lines) replies → Full m lines (flat_map text replies ++ done_text (length lines))
full m lines count replies past all = (replies, subst (λ (l : List Line). AnswersAll m l replies) (take_all count lines past) all, refl)

-- ---- machines

folds : (m : Machine) (first second : List Line) → fold after_line m (first ++ second) ≡ fold after_line (fold after_line m first) second
folds m [] second = refl
folds m (line ∷ first) second = folds (after_line m line) first second

pub left_below : (count : ℕ) (lines rest : List Line) (line : Line) → line ∷ rest ≡ drop count lines → count < length lines
left_below count lines rest line is = omega (arith, ap (λ (l : List Line). length l) is, length-drop count lines)

pub taken_next : (count : ℕ) (lines rest : List Line) (line : Line) → line ∷ rest ≡ drop count lines → take (count + 1) lines ≡ take count lines ++ line ∷ []
taken_next count lines rest line is =
    let within : count < length lines = left_below count lines rest line is in
    take_more lines count line within ∙ ap (λ (l : Line). take count lines ++ l ∷ []) (next_line count lines rest line is within)

pub after_next : (m : Machine) (count : ℕ) (lines rest : List Line) (line : Line) → line ∷ rest ≡ drop count lines → after m lines (count + 1) ≡ after_line (after m lines count) line
after_next m count lines rest line is = ap (fold after_line m) (taken_next count lines rest line is) ∙ folds m (take count lines) (line ∷ [])

pub left_next : (count : ℕ) (lines rest : List Line) (line : Line) → line ∷ rest ≡ drop count lines → rest ≡ drop (count + 1) lines
left_next count lines rest line is = same_tail line (get_or lines count line) rest (drop (count + 1) lines) (is ∙ sym (rw add-one (sym (drop-cons lines count line (left_below count lines rest line is)))))
  where
    same_tail : (line first : Line) (rest others : List Line) → line ∷ rest ≡ first ∷ others → rest ≡ others
    same_tail line first rest others e = cc

-- the line behind the first `count`
pub line_behind : (count : ℕ) (lines rest : List Line) (line : Line) → line ∷ rest ≡ drop count lines → get_or lines count NoCommand ≡ line
line_behind count lines rest line is = same_head line (get_or lines count NoCommand) rest (drop (count + 1) lines) (is ∙ sym (rw add-one (sym (drop-cons lines count NoCommand (left_below count lines rest line is)))))
  where
    same_head : (line first : Line) (rest others : List Line) → line ∷ rest ≡ first ∷ others → first ≡ line
    same_head line first rest others e = cc

pub line_at : (count : ℕ) (lines rest : List Line) (line : Line) → line ∷ rest ≡ drop count lines → get_or lines count line ≡ line
line_at count lines rest line is = next_line count lines rest line is (left_below count lines rest line is)
