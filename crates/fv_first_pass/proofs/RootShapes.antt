-- The lines of the roots behind open gates.
use Rattle.std.proofs.Common.{◌≡◌, ◌≢◌, ℕ, Bool, true, false, List, [], ◌++◌, refl, sym, ap, subst, ◌∙◌, arith, ⊎_elim, Ok, Err}
use Rattle.std.specs.Prelude.{Option, Some, None, Result, if◌then◌else◌}
use Rattle.std.specs.List.Sorted.{IsStrictlySortedBy}
use Rattle.std.proofs.lemmas.Bool.{cases_eq}
use Rattle.fv_disk.specs.Shown.{Image}
use Rattle.fv_codec.specs.declared.shape.Shape.{Shape}
use Rattle.fv_codec.specs.declared.superblock.Super.{Super}
use Rattle.fv_codec.specs.declared.root.Root.{Root}
use Rattle.fv_codec.specs.Blocks.{gate_open, root_at, super_at}
use Rattle.fv_image.specs.Layout.{gate_place, root_place, superblock}
use Rattle.fv_image.specs.NewerRoot.{behind, newer, root_of, taken_of}
use Rattle.fv_root.specs.Finding.{IsDamaged}
use Rattle.fv_faults.specs.declared.lines.Lines.{Lines}
use Rattle.fv_faults.specs.Lines.{fault_cmp}
use Rattle.fv_faults.specs.Adding.{Adds}
use Rattle.fv_faults.specs.Faults.{faults, faults_under, root_shape}
use Rattle.fv_faults.proofs.Adding.{adds_none, added_to_none}

module _ (i : Image) (slot : ℕ) (gate : List ℕ) (is : gate ≡ i (gate_place slot)) where
  -- a closed gate
  pub shut_adds : (x : Lines) → gate_open gate ≡ false → Adds (root_shape (root_place slot) (behind i slot)) x x
  shut_adds x shut = subst (λ o. Adds (root_shape (root_place slot) o) x x)
      (sym (ap (λ (b : Bool). if b then Some (root_at (i (root_place slot))) else None) (ap gate_open (sym is) ∙ shut))) (adds_none x x refl)

  -- an open one
  pub open_adds : (old new : Lines) (at : ℕ) (block : List ℕ) → gate_open gate ≡ true → at ≡ root_place slot → block ≡ i (root_place slot)
      → Adds (root_shape at (Some (root_at block))) old new → Adds (root_shape (root_place slot) (behind i slot)) old new
  open_adds old new at block opened place same adds = subst (λ o. Adds (root_shape (root_place slot) o) old new)
      (ap (λ b. Some (root_at b)) same
      ∙ sym (ap (λ (b : Bool). if b then Some (root_at (i (root_place slot))) else None) (ap gate_open (sym is) ∙ opened)))
      (subst (λ a. Adds (root_shape a (Some (root_at block))) old new) place adds)

-- ---- where a root behind an open gate hasn't its shape

none_taken : (r : Result Super Shape) (o : Option (ℕ × Root)) → o ≡ None → taken_of r o ≡ None
none_taken (Err fault) o is = refl
none_taken (Ok super) o is = ap (taken_of (Ok super)) is

bad_first : (a b : Option (Result Root Shape)) (shape : Shape) → a ≡ Some (Err shape) → newer a b ≡ None
bad_first None b shape is = absurd cc
bad_first (Some (Ok root)) b shape is = absurd cc
bad_first (Some (Err fault)) b shape is = refl

bad_second : (a b : Option (Result Root Shape)) (shape : Shape) → b ≡ Some (Err shape) → newer a b ≡ None
bad_second a None shape is = absurd cc
bad_second a (Some (Ok root)) shape is = absurd cc
bad_second None (Some (Err fault)) shape is = refl
bad_second (Some (Ok root)) (Some (Err fault)) shape is = refl
bad_second (Some (Err first)) (Some (Err fault)) shape is = refl

module _ (i : Image) (at want found : ℕ) (is : IsDamaged i at want found) where
  -- no root counts
  no_root : root_of i ≡ None
  unfolding root_of
  no_root = none_taken (super_at (i superblock)) (newer (behind i 0) (behind i 1)) (⊎_elim
      (λ (first : is.slot ≡ 0). bad_first (behind i 0) (behind i 1) _ (ap (behind i) (sym first) ∙ is.fault))
      (λ (other : is.slot ≢ 0). let second : is.slot ≡ 1 = (let within = is.within in omega (arith, other, within)) in
      bad_second (behind i 0) (behind i 1) _ (ap (behind i) (sym second) ∙ is.fault))
      (cases_eq is.slot 0))

  -- and these lines, noted over none, are all that the image has
  pub damaged_lines : (old new : Lines) → old.lines.keys ≡ [] → IsStrictlySortedBy fault_cmp new.lines.keys
      → Adds (root_shape (root_place 0) (behind i 0) ++ root_shape (root_place 1) (behind i 1)) old new → new.lines.keys ≡ faults i
  unfolding faults
  damaged_lines old new none strict adds =
      added_to_none (root_shape (root_place 0) (behind i 0) ++ root_shape (root_place 1) (behind i 1)) old new adds none strict
      ∙ sym (ap (faults_under i) no_root)
