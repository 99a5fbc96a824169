-- Writes of blocks that aren't held leave the layout.
use Rattle.std.proofs.Common.{◌≡◌, ◌≢◌, ℕ, zero, suc, ◌+◌, ◌<◌, ◌≤◌, Bool, true, false, Result, Ok, Err, refl, sym, ap, subst, ◌∙◌, arith, ⊎_elim}
use Rattle.std.specs.Prelude.{Option, Some, None, if◌then◌else◌}
use Rattle.std.specs.List.{list_all, range_with_len}
use Rattle.std.proofs.lemmas.Bool.{and_parts, both_ways, cases_eq}
use Rattle.fv_disk.specs.Shown.{Image, SameBut}
use Rattle.fv_codec.specs.declared.shape.Shape.{Shape}
use Rattle.fv_codec.specs.declared.superblock.Super.{Super}
use Rattle.fv_codec.specs.declared.root.Root.{Root}
use Rattle.fv_codec.specs.Blocks.{super_at}
use Rattle.fv_model.specs.Machines.{first_block}
use Rattle.fv_image.specs.Layout.{superblock, area_blocks, area_place}
use Rattle.fv_image.specs.NewerRoot.{Taken, behind, follows, newer, taken_of, root_of}
use Rattle.fv_image.specs.Held.{Layout, layout_at, is_held, Keeps}
use Rattle.fv_image.proofs.SameLayout.{kept}

-- ---- the slot of a root that counts

newer_slot : (first second : Option (Result Root Shape)) (chosen : ℕ × Root) → newer first second ≡ Some chosen → chosen.0 < 2
newer_slot None None chosen e = absurd cc
newer_slot (Some (Ok one)) None chosen e = let is : (0, one) ≡ chosen = cc in subst (λ (c : ℕ × Root). c.0 < 2) is (omega arith)
newer_slot None (Some (Ok two)) chosen e = let is : (1, two) ≡ chosen = cc in subst (λ (c : ℕ × Root). c.0 < 2) is (omega arith)
newer_slot (Some (Ok one)) (Some (Ok two)) chosen e = so (follows two.generation one.generation) e
  where
    so : (later : Bool) → if◌then◌else◌ {A = Option (ℕ × Root)} later (Some (1, two)) (Some (0, one)) ≡ Some chosen → chosen.0 < 2
    so true e = let is : (1, two) ≡ chosen = cc in subst (λ (c : ℕ × Root). c.0 < 2) is (omega arith)
    so false e = let is : (0, one) ≡ chosen = cc in subst (λ (c : ℕ × Root). c.0 < 2) is (omega arith)
newer_slot (Some (Err fault)) second chosen e = absurd cc
newer_slot None (Some (Err fault)) chosen e = absurd cc
newer_slot (Some (Ok one)) (Some (Err fault)) chosen e = absurd cc

pub slot_is_small : (i : Image) (t : Taken) → root_of i ≡ Some t → t.slot < 2
unfolding root_of
slot_is_small i t e = so (super_at (i superblock)) (newer (behind i 0) (behind i 1)) refl e
  where
    so : (super : Result Super Shape) (chosen : Option (ℕ × Root)) → newer (behind i 0) (behind i 1) ≡ chosen → taken_of super chosen ≡ Some t → t.slot < 2
    so (Err fault) chosen n e = absurd cc
    so (Ok super) None n e = absurd cc
    so (Ok super) (Some chosen) n e =
        let is : ◌≡◌ {A = Taken} (record { blocks = super.blocks; slot = chosen.0; root = chosen.1 }) t = cc in
        subst (λ (x : Taken). x.slot < 2) is (newer_slot (behind i 0) (behind i 1) chosen n)

-- the map areas lie before the first block that can be allocated
pub area_before : (t : Taken) (k : ℕ) → t.slot < 2 → k < area_blocks t.blocks → area_place t.blocks t.slot k < first_block t.blocks
area_before t k small within = ⊎_elim
    (λ (e : t.slot ≡ 0). subst (λ (s : ℕ). area_place t.blocks s k < first_block t.blocks) (sym e) (omega (arith, within)))
    (λ (ne : t.slot ≢ 0). let e : t.slot ≡ 1 = omega arith in subst (λ (s : ℕ). area_place t.blocks s k < first_block t.blocks) (sym e) (omega (arith, within)))
    (cases_eq t.slot 0)

-- ---- writes

-- A write of a block that isn't held under the root keeps the root and the layout.
pub kept_by_write : (t : Taken) (i d c : Image) (at : ℕ) → first_block t.blocks ≤ at → is_held (layout_at t i) at ≡ false → SameBut at d c → Keeps t i d → Keeps t i c
kept_by_write t i d c at low free same keeps =
    let still : Keeps t d c = kept t d c keeps.root (λ b fixed. same b (omega arith)) (record {
      area = λ k within. same _ (let before = area_before t k (slot_is_small d t keeps.root) within in λ e. absurd (omega (arith, before, low, e)));
      held = λ b held. same b (λ e. both_ways (is_held (layout_at t i) b) (ap (is_held (layout_at t i)) e ∙ free) (ap (λ (y : Layout). is_held y b) (sym keeps.layout) ∙ held));
    }) in
    record { root = still.root; layout = still.layout ∙ keeps.layout }

-- ---- what a clear bit of the aggregate map tells

-- what holds of a range holds of each of its numbers
pub at_number : (test : ℕ → Bool) (from count b : ℕ) → list_all test (range_with_len from count) ≡ true → from ≤ b → b < from + count → test b ≡ true
at_number test from zero b all low high = absurd (omega arith)
at_number test from (suc count) b all low high =
    let parts = and_parts (test from) (list_all test (range_with_len (from + 1) count)) all in ⊎_elim
    (λ (e : b ≡ from). subst (λ (n : ℕ). test n ≡ true) (sym e) parts.0)
    (λ ne. at_number test (from + 1) count b parts.1 (omega arith) (omega arith))
    (cases_eq b from)
