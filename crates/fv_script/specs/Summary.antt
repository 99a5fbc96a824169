-- The last line of a run of a generated script.
use Rattle.std.specs.Prelude.{ℕ, List, [], ◌∷◌, ◌++◌, codes, decimal}
use Rattle.fv_model.specs.Texts.{line_end}

-- how many lines there were, how many of them were accepted and how many refused, and what all volumes are charged for
abbrev pub summary : ℕ → ℕ → ℕ → ℕ → List ℕ
summary lines accepted refused charged =
    codes "generated " ++ (decimal lines ++ (codes " ok " ++ (decimal accepted ++ (codes " refused " ++ (decimal refused ++ (codes " charged " ++ (decimal charged ++ line_end ∷ [])))))))
