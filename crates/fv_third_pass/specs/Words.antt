-- The blocks that places and the words of entries tell of.
use Rattle.std.specs.Prelude.{ℕ, zero, suc, ◌/◌, ◌%◌, List, [], ◌∷◌, flat_map, get_or, ◌==◌, if◌then◌else◌}
use Rattle.std.specs.List.{range_with_len}

-- the block of a place; 0 is no place
abbrev pub at_place : ℕ → List ℕ
at_place zero = []
at_place (suc p) = suc p ∷ []

-- the block of an entry by its word: the kind times 2^24 and the place; kind 0 is a hole
abbrev pub at_word : ℕ → List ℕ
at_word word = if word / 16777216 == 0 then [] else word % 16777216 ∷ []

-- the blocks of the first so many entries of a row; past its end are holes
abbrev pub in_row : List ℕ → ℕ → List ℕ
in_row row n = flat_map (λ v. at_word (get_or row v 0)) (range_with_len 0 n)
