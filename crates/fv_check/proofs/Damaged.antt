-- What is said of an aggregate of which a root behind an open gate hasn't its shape.
use Rattle.std.proofs.Common.{◌≡◌, ◌≢◌, ℕ, List, [], ◌∷◌, ◌++◌, refl, sym, ap, ◌∙◌, arith, ⊎_elim, Ok, Err}
use Rattle.std.specs.Prelude.{Option, Some, None, Result}
use Rattle.std.specs.List.Sorted.{IsStrictlySortedBy}
use Rattle.std.proofs.lemmas.Bool.{cases_eq}
use Rattle.fv_disk.specs.Shown.{Image}
use Rattle.fv_codec.specs.declared.shape.Shape.{Shape}
use Rattle.fv_codec.specs.declared.root.Root.{Root}
use Rattle.fv_image.specs.Layout.{root_place}
use Rattle.fv_image.specs.NewerRoot.{behind}
use Rattle.fv_root.specs.Finding.{IsDamaged}
use Rattle.fv_faults.specs.declared.fault.Fault.{Fault}
use Rattle.fv_faults.specs.declared.lines.Lines.{Lines}
use Rattle.fv_faults.specs.Lines.{fault_cmp}
use Rattle.fv_faults.specs.Adding.{Adds}
use Rattle.fv_faults.specs.Faults.{faults, root_shape}
use Rattle.fv_faults.proofs.Adding.{none_added}
use Rattle.fv_first_pass.specs.declared.verdict.Verdict.TheVariants.{Faults}
use Rattle.fv_first_pass.specs.Verdicts.{IsVerdict}
use Rattle.fv_first_pass.proofs.RootShapes.{damaged_lines}

both_empty : (xs ys : List Fault) → xs ++ ys ≡ [] → (xs ≡ []) × (ys ≡ [])
both_empty [] ys none = (refl, none)
both_empty (x ∷ xs) ys none = absurd cc

has_line : (at : ℕ) (o : Option (Result Root Shape)) (shape : Shape) → o ≡ Some (Err shape) → root_shape at o ≡ [] → ⊥
has_line at None shape is none = cc
has_line at (Some (Ok root)) shape is none = cc
has_line at (Some (Err fault)) shape is none = cc

module _ (i : Image) (at want found : ℕ) (is : IsDamaged i at want found) where
  some_line : root_shape (root_place 0) (behind i 0) ++ root_shape (root_place 1) (behind i 1) ≢ []
  some_line none =
      let both = both_empty (root_shape (root_place 0) (behind i 0)) (root_shape (root_place 1) (behind i 1)) none in
      ⊎_elim
      (λ (first : is.slot ≡ 0). has_line (root_place 0) (behind i 0) _ (ap (behind i) (sym first) ∙ is.fault) both.0)
      (λ (other : is.slot ≢ 0). let second : is.slot ≡ 1 = (let within = is.within in omega (arith, other, within)) in
      has_line (root_place 1) (behind i 1) _ (ap (behind i) (sym second) ∙ is.fault) both.1)
      (cases_eq is.slot 0)

  pub damaged_verdict : (old new : Lines) → old.lines.keys ≡ [] → IsStrictlySortedBy fault_cmp new.lines.keys
      → Adds (root_shape (root_place 0) (behind i 0) ++ root_shape (root_place 1) (behind i 1)) old new → IsVerdict i (Faults new)
  damaged_verdict old new none strict adds =
      let are : new.lines.keys ≡ faults i = damaged_lines i at want found is old new none strict adds in
      (are, λ quiet. some_line (none_added _ old new adds (are ∙ quiet)))
