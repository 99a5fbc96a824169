-- How the pieces of a reply are spelled.
use Rattle.std.specs.Prelude.{ℕ, List, [], ◌∷◌, ◌++◌, flat_map}

-- each name with a space behind it
abbrev pub before_spaces : List (List ℕ) → List ℕ
before_spaces names = flat_map (λ name. name ++ 32 ∷ []) names
