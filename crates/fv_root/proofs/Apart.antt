-- The fixed blocks of the two slots lie apart.
use Rattle.std.proofs.Common.{◌≡◌, ℕ, ◌<◌, ◌≤◌, sym, subst, arith, inl, inr, ⊎_elim, ◌⊎◌}
use Rattle.std.specs.Prelude.{◌≢◌}
use Rattle.std.proofs.lemmas.Bool.{cases_eq}
use Rattle.fv_image.specs.Layout.{superblock, gate_place, root_place, area_blocks, area_place}
use Rattle.fv_model.specs.Machines.{first_block}
use Rattle.fv_root.specs.Finding.{other_slot}
use Rattle.fv_root.specs.Commits.{IsNotGate, IsOutside}

abbrev pub IsSlot : ℕ → Type 0
IsSlot slot = (slot ≡ 0) ⊎ (slot ≡ 1)

-- by the two slots
by_slot : (P : ℕ → Type 0) (slot : ℕ) → IsSlot slot → P 0 → P 1 → P slot
by_slot P slot is zero one = ⊎_elim (λ e. subst P (sym e) zero) (λ e. subst P (sym e) one) is

pub is_small : (slot : ℕ) → IsSlot slot → slot < 2
is_small slot is = by_slot (λ s. s < 2) slot is (omega arith) (omega arith)

pub one_of_both : (slot s : ℕ) → IsSlot slot → s < 2 → (s ≡ slot) ⊎ (s ≡ other_slot slot)
one_of_both slot s is small = by_slot (λ n. (s ≡ n) ⊎ (s ≡ other_slot n)) slot is
    (⊎_elim (λ (e : s ≡ 0). inl e) (λ (ne : s ≢ 0). inr (omega arith)) (cases_eq s 0))
    (⊎_elim (λ (e : s ≡ 1). inl e) (λ (ne : s ≢ 1). inr (omega arith)) (cases_eq s 1))

-- ---- what a write of the other slot's gate spares

pub super_not_gate : (slot : ℕ) → IsNotGate slot superblock
super_not_gate slot = omega arith

pub gate_not_gate : (slot : ℕ) → IsSlot slot → IsNotGate (other_slot slot) (gate_place slot)
gate_not_gate slot is = by_slot (λ s. IsNotGate (other_slot s) (gate_place s)) slot is (omega arith) (omega arith)

pub root_not_gate : (slot at : ℕ) → IsSlot slot → IsNotGate (other_slot slot) (root_place at)
root_not_gate slot at is = by_slot (λ s. IsNotGate (other_slot s) (root_place at)) slot is (omega arith) (omega arith)

pub area_not_gate : (blocks slot at k : ℕ) → IsSlot slot → IsNotGate (other_slot slot) (area_place blocks at k)
area_not_gate blocks slot at k is = by_slot (λ s. IsNotGate (other_slot s) (area_place blocks at k)) slot is (omega arith) (omega arith)

pub volume_not_gate : (blocks slot b : ℕ) → IsSlot slot → first_block blocks ≤ b → IsNotGate (other_slot slot) b
volume_not_gate blocks slot b is le = by_slot (λ s. IsNotGate (other_slot s) b) slot is (omega arith) (omega arith)

-- ---- what writes of the other slot's root and map area spare

pub super_outside : (blocks slot : ℕ) → IsOutside blocks slot superblock
super_outside blocks slot = record { root = omega arith; area = λ k below. omega arith }

pub gate_outside : (blocks slot at : ℕ) → at < 2 → IsOutside blocks slot (gate_place at)
gate_outside blocks slot at small = record { root = omega arith; area = λ k below. omega arith }

pub root_outside : (blocks slot : ℕ) → IsSlot slot → IsOutside blocks (other_slot slot) (root_place slot)
root_outside blocks slot is = by_slot (λ s. IsOutside blocks (other_slot s) (root_place s)) slot is
    (record { root = omega arith; area = λ k below. omega arith })
    (record { root = omega arith; area = λ k below. omega arith })

pub area_outside : (blocks slot k : ℕ) → IsSlot slot → k < area_blocks blocks → IsOutside blocks (other_slot slot) (area_place blocks slot k)
area_outside blocks slot k is within = by_slot (λ s. IsOutside blocks (other_slot s) (area_place blocks s k)) slot is
    (record { root = omega arith; area = λ j below. omega arith })
    (record { root = omega arith; area = λ j below. omega arith })

pub volume_outside : (blocks slot b : ℕ) → IsSlot slot → first_block blocks ≤ b → IsOutside blocks (other_slot slot) b
volume_outside blocks slot b is le = by_slot (λ s. IsOutside blocks (other_slot s) b) slot is
    (record { root = omega arith; area = λ j below. omega arith })
    (record { root = omega arith; area = λ j below. omega arith })
