-- A fresh aggregate stands for the empty machine.
use Rattle.std.proofs.Common.{◌≡◌, ℕ, ◌≤◌, Bool, true, false, replicate, refl, ⊎_elim}
use Rattle.std.specs.Prelude.{Some, get_or, nat_lt, if◌then◌else◌}
use Rattle.std.proofs.lemmas.List.{get_or-replicate, get_or_past}
use Rattle.std.proofs.lemmas.Bool.{cases_lt}
use Rattle.fv_disk.specs.Shown.{Image}
use Rattle.fv_model.specs.Machines.{empty_machine}
use Rattle.fv_image.specs.NewerRoot.{Taken, root_of}
use Rattle.fv_image.specs.WholeMachine.{machine_of}
use Rattle.fv_image.specs.Held.{label_place}
use Rattle.fv_image.proofs.Empty.{machine_is_empty as empty_volumes}
use Rattle.fv_root.specs.Formatted.{IsSize, IsFormatted, first_root}
use Rattle.fv_image.proofs.Zeros.{clear_bits}

-- ---- the root

abbrev first_taken : ℕ → Taken
first_taken blocks = record { blocks = blocks; slot = 0; root = first_root }

root_is_first : (blocks : ℕ) (i : Image) → IsFormatted blocks i → root_of i ≡ Some (first_taken blocks)
unfolding root_of
root_is_first blocks i is = rw (is.super, is.first_gate, is.second_gate, is.root) refl

-- its root has no label
no_label : (blocks s : ℕ) → label_place (first_taken blocks) s ≡ 0
unfolding label_place
no_label blocks s = none (nat_lt s 64) (get_or (replicate 64 0) s 0) (⊎_elim
    (λ inside. get_or-replicate 64 s 0 0 inside)
    (λ past. get_or_past (replicate 64 0) s 0 (let e : 64 ≤ s = past in e))
    (cases_lt s 64))
  where
    none : (inside : Bool) (place : ℕ) → place ≡ 0 → (if inside then place else 0) ≡ 0
    none true place is = is
    none false place is = refl

pub machine_is_empty : (blocks : ℕ) (i : Image) → IsSize blocks → IsFormatted blocks i → machine_of i ≡ Some (empty_machine blocks)
machine_is_empty blocks i size is = empty_volumes i (first_taken blocks) (root_is_first blocks i is) size.least (no_label blocks) (clear_bits (first_taken blocks) i is.area)
