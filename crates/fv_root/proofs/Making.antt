-- The steps of making an aggregate, put together.
use Rattle.std.proofs.Common.{◌≡◌, ℕ, ◌+◌, List, refl, ap, inl, inr, ⊎_elim, ◌⊎◌, true, replicate, ◌∙◌, arith}
use Rattle.std.specs.Prelude.{Result, Ok, Some}
use Rattle.std.proofs.lemmas.Bool.{cases_eq, cases_Bool}
use Rattle.fv_disk.specs.declared.Failed.{Failed}
use Rattle.fv_disk.specs.Shown.{Image, Shown, IsSettled, SameBut}
use Rattle.fv_disk.specs.Crash.{Leaves}
use Rattle.fv_disk.specs.Sparing.{AgreeOn, LeftBefore, Spares}
use Rattle.fv_disk.proofs.Moments.{then, weaken}
use Rattle.fv_codec.specs.Blocks.{super_at, gate_open, root_at}
use Rattle.fv_image.specs.Layout.{superblock, gate_place, root_place, area_blocks, area_place}
use Rattle.fv_image.specs.WholeMachine.{machine_of}
use Rattle.fv_model.specs.Machines.{empty_machine}
use Rattle.fv_root.specs.Formatted.{AreClosed, IsFormatted, IsNoGate, IsSize, OldClosedOrNew, first_root}
use Rattle.fv_root.specs.Commits.{IsNotGate}
use Rattle.fv_root.specs.Steps.{IsBesides, IsCleared, IsLaidOut}
use Rattle.fv_root.proofs.EmptyMachine.{machine_is_empty}

-- one more block of the area
pub cleared_more : (count at : ℕ) (old mid new : Image) → at ≡ 5 + count → IsCleared count old mid → new at ≡ replicate 4096 0 → SameBut at mid new → IsCleared (count + 1) old new
cleared_more count at old mid new place so_far written same = record {
  area = λ k below. ⊎_elim
      (λ here. let e : 5 + k ≡ at = omega arith in rw e written)
      (λ elsewhere. same (5 + k) (omega arith) ∙ so_far.area k (omega arith))
      (cases_eq k count);
  others = λ b low. same b (omega arith) ∙ so_far.others b low;
}

-- the superblock and the root were written, and then the area cleared
pub laid_out : (blocks : ℕ) (before after : Image) → super_at (before superblock) ≡ Ok (record { blocks = blocks }) → root_at (before (root_place 0)) ≡ Ok first_root → IsCleared (area_blocks blocks) before after → IsLaidOut blocks after
laid_out blocks before after super root cleared = record {
  super = ap super_at (cleared.others 0 (omega arith)) ∙ super;
  root = ap root_at (cleared.others 3 (omega arith)) ∙ root;
  area = cleared.area;
}

-- the first gate is open over what was laid out, and the second is closed
pub made : (blocks : ℕ) (laid opened : Image) → AreClosed laid → IsLaidOut blocks laid → AgreeOn (IsNotGate 0) laid opened → gate_open (opened (gate_place 0)) ≡ true → IsFormatted blocks opened
made blocks laid opened closed out same first_gate = record {
  super = rw (same 0 (omega arith)) out.super;
  first_gate = first_gate;
  second_gate = rw (same 2 (omega arith)) closed.second;
  root = rw (same 3 (omega arith)) out.root;
  area = λ k below. let e : area_place blocks 0 k ≡ 5 + k = omega arith in rw e (same (5 + k) (omega arith) ∙ out.area k below);
}

-- ---- what a crash leaves

pub closed_still : (blocks : ℕ) (before c : Image) → AreClosed before → AgreeOn (IsBesides blocks) before c → AreClosed c
closed_still blocks before c closed same = record {
  first = ap gate_open (same (gate_place 0) (inl refl)) ∙ closed.first;
  second = ap gate_open (same (gate_place 1) (inr (inl refl))) ∙ closed.second;
}

opening_side : (blocks : ℕ) (laid c : Image) → IsSize blocks → AreClosed laid → IsLaidOut blocks laid → AgreeOn (IsNotGate 0) laid c → AreClosed c ⊎ (machine_of c ≡ Some (empty_machine blocks))
opening_side blocks laid c size closed out same = ⊎_elim
    (λ open'. inr (machine_is_empty blocks c size (made blocks laid c closed out same open')))
    (λ shut. inl (record { first = shut; second = ap gate_open (same 2 (omega arith)) ∙ closed.second }))
    (cases_Bool (gate_open (c (gate_place 0))))

-- each image of a settled disk whose gates read closed has them closed
pub closed_images : (disk : Shown) → IsSettled disk → AreClosed disk.reads → (c : Image) → disk.images c → AreClosed c
closed_images disk settled closed c now = record {
  first = ap gate_open (settled c now 1) ∙ closed.first;
  second = ap gate_open (settled c now 2) ∙ closed.second;
}

module _ (blocks : ℕ) (old : Shown) where
  abbrev Sides : Image → List ℕ → Type 0
  Sides = OldClosedOrNew blocks old

  pub closing_moment : (new : Shown) (result : Result Unit Failed) → Spares IsNoGate old new result → Leaves old new Sides
  closing_moment new result spares = weaken old new (λ c g. LeftBefore IsNoGate old c × (g ≡ old.given)) Sides (λ c g left. (inl left.0, left.1)) spares.any_moment

  module _ (mid new : Shown) (result : Result Unit Failed) (so_far : Leaves old mid Sides) (given : mid.given ≡ old.given) where
    pub laying_moment : ((c : Image) → mid.images c → AreClosed c) → Spares (IsBesides blocks) mid new result → Leaves old new Sides
    laying_moment closed spares = then old mid new Sides so_far
        (weaken mid new (λ c g. LeftBefore (IsBesides blocks) mid c × (g ≡ mid.given)) Sides
        (λ c g left. (inr (inl (closed_still blocks left.0.0 c (closed left.0.0 left.0.1) left.0.2)), left.1 ∙ given)) spares.any_moment)

    pub opening_moment : IsSize blocks → IsSettled mid → AreClosed mid.reads → IsLaidOut blocks mid.reads → Spares (IsNotGate 0) mid new result → Leaves old new Sides
    opening_moment size settled closed out spares = then old mid new Sides so_far
        (weaken mid new (λ c g. LeftBefore (IsNotGate 0) mid c × (g ≡ mid.given)) Sides
        (λ c g left. (inr (opening_side blocks mid.reads c size closed out (λ b is. left.0.2 b is ∙ settled left.0.0 left.0.1 b)), left.1 ∙ given)) spares.any_moment)
