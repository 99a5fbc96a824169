use Rattle.std.proofs.Common.{◌≡◌, ◌∙◌, ◌++◌, ◌∷◌, [], List, ℕ, ap, ap₂}
use Rattle.std.specs.Prelude.{codes, decimal}
use Rattle.fv_run.specs.CheckTexts.{hex_word}
use Rattle.fv_run.proofs.Digits.{regrouped}
use Rattle.fv_run.proofs.verdict.fault_line.Goals as goal

pub returns : goal.returns
returns c =
    let f = c.args.fault.now in
    let front : c.add.new.line.items ≡ codes "fault " = c.add.ensures.spelled ∙ ap (λ (l : List ℕ). l ++ codes "fault ") c.new-line.ensures in
    let one = c.push.ensures.items ∙ ap (λ (l : List ℕ). l ++ 32 ∷ []) (c.add_number.ensures.spelled ∙ ap₂ (λ (l : List ℕ) (n : ℕ). l ++ decimal n) front c.from.ensures) in
    let two = c.push-2.ensures.items ∙ ap (λ (l : List ℕ). l ++ 32 ∷ []) (c.add_number-2.ensures.spelled ∙ ap (λ (l : List ℕ). l ++ decimal f.block) one) in
    let three = c.push-3.ensures.items ∙ ap (λ (l : List ℕ). l ++ 32 ∷ []) (c.add_word.ensures.spelled ∙ ap (λ (l : List ℕ). l ++ hex_word f.want) two) in
    c.push-4.ensures.items ∙ ap (λ (l : List ℕ). l ++ 10 ∷ []) (c.add_word-2.ensures.spelled ∙ ap (λ (l : List ℕ). l ++ hex_word f.found) three)
    ∙ regrouped (codes "fault ") (decimal f.rule) (decimal f.block) (hex_word f.want) (hex_word f.found)
