-- Which words of the command line, behind the name of the file, have a meaning.
use Rattle.std.specs.Prelude.{ℕ, Bool, true, false, List, [], ◌∷◌, codes, bytes_eq}

-- none; `blocks`; and `entries` with a name
unfoldable pub has_meaning : List (List ℕ) → Bool
has_meaning [] = true
has_meaning (word ∷ []) = bytes_eq word (codes "blocks")
has_meaning (word ∷ name ∷ []) = bytes_eq word (codes "entries")
has_meaning (word ∷ name ∷ other ∷ others) = false
