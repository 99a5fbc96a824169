-- For callers that read a script byte by byte: its lines, from the front.
use Rattle.std.proofs.Common.{◌≡◌, ℕ, ◌++◌, Bool, false, List, [], ◌∷◌, take, drop, refl, ap, sym, ◌∙◌}
use Rattle.std.specs.Prelude.{nat_eq}
use Rattle.std.specs.List.{position_or_len, All}
use Rattle.std.proofs.lemmas.List.Splits.{slice_split_at, slice_split_none}
use Rattle.fv_model.specs.Lines.{script_lines, without_empty_last}
use Rattle.fv_script.proofs.Cuts.{behind, cut}

abbrev ends_line : ℕ → Bool
ends_line b = nat_eq b 10

-- no byte of it ends a line
abbrev pub IsOneLine : List ℕ → Type 0
IsOneLine line = All (λ b. nat_eq b 10 ≡ false) line

pub no_line : script_lines [] ≡ []
unfolding script_lines
no_line = refl

kept : (line first : List ℕ) (others : List (List ℕ)) → without_empty_last (line ∷ first ∷ others) ≡ line ∷ without_empty_last (first ∷ others)
kept [] first others = refl
kept (b ∷ line) first others = refl

-- a line with its end, and what follows it
pub line_then : (line rest : List ℕ) → IsOneLine line → script_lines (line ++ 10 ∷ rest) ≡ line ∷ script_lines rest
unfolding script_lines
line_then line rest one =
    let first : List ℕ = take (position_or_len ends_line rest) rest in
    let others : List (List ℕ) = behind ends_line (drop (position_or_len ends_line rest) rest) in
    ap without_empty_last (slice_split_at ends_line line 10 rest one refl ∙ ap (λ (l : List (List ℕ)). line ∷ l) (cut ends_line rest))
    ∙ kept line first others ∙ ap (λ (l : List (List ℕ)). line ∷ without_empty_last l) (sym (cut ends_line rest))

-- a last line without its end
pub last_line : (b : ℕ) (line : List ℕ) → IsOneLine (b ∷ line) → script_lines (b ∷ line) ≡ (b ∷ line) ∷ []
unfolding script_lines
last_line b line one = ap without_empty_last (slice_split_none ends_line (b ∷ line) one)
