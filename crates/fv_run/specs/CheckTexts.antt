-- What the word `check` gives out, as text.
use Rattle.std.specs.Prelude.{ℕ, List, [], ◌∷◌, ◌++◌, flat_map, codes, decimal}
use Rattle.std.specs.Int.{w64, to_be_bytes}
use Rattle.fv_model.specs.Texts.{hex, line_end}
use Rattle.fv_faults.specs.declared.fault.Fault.{Fault}

-- the 16 hexadecimal digits of a word: its eight bytes, the greatest first
abbrev pub hex_word : ℕ → List ℕ
hex_word word = flat_map hex (to_be_bytes w64 word)

-- the line of an aggregate that is sound, with so many volumes and so many charged blocks
abbrev pub valid_text : ℕ → ℕ → List ℕ
valid_text volumes charged = codes "valid volumes " ++ (decimal volumes ++ (codes " charged " ++ (decimal charged ++ line_end ∷ [])))

-- the line of a fault: its rule, its block, and the words that are wanted and found
abbrev pub fault_text : Fault → List ℕ
fault_text f = codes "fault " ++ (decimal f.rule ++ (codes " " ++ (decimal f.block ++ (codes " " ++ (hex_word f.want ++ (codes " " ++ (hex_word f.found ++ line_end ∷ [])))))))

-- the lines of faults, one after another
abbrev pub faults_text : List Fault → List ℕ
faults_text faults = flat_map fault_text faults
