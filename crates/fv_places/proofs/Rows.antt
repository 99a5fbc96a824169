-- Rows, worked out by hand: which kinds have pointers, and three pointers of which the second is unknown and the third is a hole.
use Rattle.std.proofs.Common.{◌≡◌, ℕ, true, false, List, [], ◌∷◌, map, refl}
use Rattle.std.specs.Prelude.{Some, None}
use Rattle.fv_codec.specs.declared.form.Form.TheVariants.{Node, Inodes}
use Rattle.fv_codec.specs.declared.pointer.Pointer.{Pointer}
use Rattle.fv_tables.specs.Spelled.{hole}
use Rattle.fv_tables.specs.Alike.{hintless}
use Rattle.fv_image.specs.HintRules.{is_unknown}
use Rattle.fv_places.specs.ByKind.{form_of}
use Rattle.fv_places.specs.Changed.{are_blank}

kinds : map form_of (1 ∷ 2 ∷ 3 ∷ 4 ∷ 5 ∷ 6 ∷ 7 ∷ 8 ∷ [])
    ≡ None ∷ Some Node ∷ Some Node ∷ Some Node ∷ Some Inodes ∷ Some Node ∷ Some Node ∷ None ∷ []
kinds = refl

abbrev to : ℕ → ℕ → Pointer
to vvbn pvbn = record { vvbn = vvbn; pvbn = pvbn; stamp = 5 }

abbrev three : List Pointer
three = to 7 300 ∷ to 8 0 ∷ hole ∷ []

unknown : map is_unknown three ≡ false ∷ true ∷ false ∷ []
unknown = refl

blank : map hintless three ≡ to 7 0 ∷ to 8 0 ∷ hole ∷ []
blank = refl

before_and_after : are_blank three ∷ are_blank (map hintless three) ∷ [] ≡ false ∷ true ∷ []
before_and_after = refl
