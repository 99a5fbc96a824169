-- What walks along the tables of a volume note and count.
use Rattle.std.specs.Prelude.{◌≡◌, ℕ, Bool, true, false, ◌||◌, ◌++◌, List, [], Option, Some, None, ◌==◌}
use Rattle.fv_codec.specs.declared.label.Label.{Label}
use Rattle.fv_faults.specs.declared.fault.Fault.{Fault}
use Rattle.fv_faults.specs.FourthPass.{known_in, none_of, unknown_in}
use Rattle.fv_image.specs.HintRules.{is_splitting}
use Rattle.fv_image.specs.Views.{Head, View, footing_of}
use Rattle.fv_fourth_pass.specs.declared.tally.Tally.{Tally}
use Rattle.fv_fourth_pass.specs.Placed.{HasCopies}

-- whether rule 13 asks for a number of pointers
abbrev pub is_asked : Label → Bool
is_asked l = (l.known == 1) || is_splitting (footing_of l)

-- rule 13 on the pointers of a volume: those that are unknown in one of which all places are known, and those that are known in one that is
-- being split
abbrev pub number_lines : View → ℕ → ℕ → Head → List Fault
number_lines w s label h = none_of label (unknown_in w s h) ++ none_of label (known_in w s h)

-- unknown pointers are counted where all places are known, and else known ones by the copies of a base
pub record IsAskedOf (l : Label) (base : Option (List Bool)) (row : List ℕ) (copies : Option (List Bool)) : Type 0 where
  pub unknown : (l.known == 1) ≡ true → copies ≡ None
  pub known : (l.known == 1) ≡ false → (set : List Bool) × ((copies ≡ Some set) × HasCopies base row set)

-- nothing is counted yet
abbrev pub HasNoMarks : Tally → Type 0
HasNoMarks tally = tally.marks.keys ≡ []
