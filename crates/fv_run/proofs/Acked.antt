-- How many lines an output acknowledges.
use Rattle.std.proofs.Common.{◌≡◌, ℕ, ◌+◌, ◌-◌, ◌<◌, ◌≤◌, ⊎_elim, true, false, not, List, ◌∷◌, length, take, drop, get_or, refl, sym, ◌∙◌, arith, add-one, drop-cons}
use Rattle.std.specs.Prelude.{nat_eq}
use Rattle.std.specs.List.{suffix_len}
use Rattle.std.proofs.lemmas.List.{length-take-le}
use Rattle.std.proofs.lemmas.List.Sums.{suffix_len-take_no, suffix_len-take_yes}
use Rattle.std.proofs.lemmas.Bool.{cases_lt}
use Rattle.std.proofs.lemmas.Bool.Decides.{nat_tests}
use Rattle.fv_model.specs.Runs.{Line, is_cp, up_to_cp, whole, acked}

pub most_up_to : (lines : List Line) → up_to_cp lines ≤ length lines
most_up_to lines = omega arith

pub up_to_take : (count : ℕ) (lines : List Line) → count ≤ length lines → up_to_cp (take count lines) ≤ count
up_to_take count lines within = omega (arith, most_up_to (take count lines), length-take-le count lines within)

same_head : (line first : Line) (rest others : List Line) → first ∷ others ≡ line ∷ rest → first ≡ line
same_head line first rest others e = cc

-- the next line
pub next_line : (count : ℕ) (lines rest : List Line) (line : Line) → line ∷ rest ≡ drop count lines → count < length lines → get_or lines count line ≡ line
next_line count lines rest line is within = same_head line (get_or lines count line) rest (drop (count + 1) lines) (rw add-one (sym (drop-cons lines count line within)) ∙ sym is)

-- a line that is no `cp` acknowledges nothing
pub up_to_next : (count : ℕ) (lines : List Line) (line : Line) → count < length lines → get_or lines count line ≡ line → is_cp line ≡ false → up_to_cp (take (count + 1) lines) ≡ up_to_cp (take count lines)
up_to_next count lines line within is other =
    let passes : not (is_cp (get_or lines (count + 1 - 1) line)) ≡ true = rw (add_sub count, is, other) refl in
    let more : suffix_len (λ l. not (is_cp l)) (take (count + 1) lines) ≡ 1 + suffix_len (λ l. not (is_cp l)) (take (count + 1 - 1) lines) = suffix_len-take_yes (λ l. not (is_cp l)) lines (count + 1) line (omega arith) (omega (arith, within)) passes in
    let less : suffix_len (λ l. not (is_cp l)) (take (count + 1) lines) ≡ 1 + suffix_len (λ l. not (is_cp l)) (take count lines) = rw (add_sub count) at more in
    omega (arith, less, length-take-le count lines (omega (arith, within)), length-take-le (count + 1) lines (omega (arith, within)))
  where
    add_sub : (n : ℕ) → n + 1 - 1 ≡ n
    add_sub n = omega arith

-- a `cp` acknowledges all lines up to it
pub up_to_here : (count : ℕ) (lines : List Line) (line : Line) → count < length lines → get_or lines count line ≡ line → is_cp line ≡ true → up_to_cp (take (count + 1) lines) ≡ count + 1
up_to_here count lines line within is cp =
    let stops : not (is_cp (get_or lines (count + 1 - 1) line)) ≡ false = rw (add_sub count, is, cp) refl in
    let none : suffix_len (λ l. not (is_cp l)) (take (count + 1) lines) ≡ 0 = suffix_len-take_no (λ l. not (is_cp l)) lines (count + 1) line (omega arith) (omega (arith, within)) stops in
    omega (arith, none, length-take-le (count + 1) lines (omega (arith, within)))
  where
    add_sub : (n : ℕ) → n + 1 - 1 ≡ n
    add_sub n = omega arith

not_all : (n total : ℕ) → n ≤ total → nat_eq n (total + 1) ≡ false
not_all n total within = grind (arith, nat_tests)

-- an output without the last line acknowledges the lines up to the last `cp` that it answers
pub acked_part : (lines : List Line) (output : List ℕ) (count : ℕ) → whole output ≡ count → count ≤ length lines → acked lines output ≡ up_to_cp (take count lines)
acked_part lines output count is within = rw (is, not_all count (length lines) within) refl

-- an output with the last line acknowledges all
pub acked_whole : (lines : List Line) (output : List ℕ) → whole output ≡ length lines + 1 → acked lines output ≡ length lines
acked_whole lines output all = rw (same (whole output) (length lines) all) refl
  where
    same : (n total : ℕ) → n ≡ total + 1 → nat_eq n (total + 1) ≡ true
    same n total is = grind (arith, nat_tests)

-- none acknowledges more than all
pub acked_all : (lines : List Line) (output : List ℕ) → whole output ≤ length lines + 1 → acked lines output ≤ length lines
acked_all lines output within = ⊎_elim
    (λ (below : whole output < length lines + 1). rw (acked_part lines output (whole output) refl (omega (arith, below))) (let most = up_to_take (whole output) lines (omega (arith, below)) in omega (arith, most, below)))
    (λ (past : length lines + 1 ≤ whole output). rw (all_of (whole output) (length lines) (omega (arith, within, past))) (omega arith))
    (cases_lt (whole output) (length lines + 1))
  where
    all_of : (n total : ℕ) → n ≡ total + 1 → nat_eq n (total + 1) ≡ true
    all_of n total same = grind (arith, nat_tests)
