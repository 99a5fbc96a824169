-- What a test of all slots or positions says of one.
use Rattle.std.proofs.Common.{◌≡◌, ◌≢◌, ℕ, zero, suc, ◌+◌, ◌<◌, ◌≤◌, Bool, true, false, List, [], ◌∷◌, refl, sym, subst, ◌∙◌, arith, ⊎_elim, Ok, Err}
use Rattle.std.specs.Prelude.{flat_map}
use Rattle.std.specs.List.{list_all, range_with_len}
use Rattle.std.proofs.lemmas.Bool.{and_parts, cases_eq, not-true}
use Rattle.std.proofs.lemmas.List.Folds.{list_all-append}
use Rattle.fv_disk.specs.Shown.{Image}
use Rattle.fv_codec.specs.declared.label.Label.{Label}
use Rattle.fv_codec.specs.Fields.{Verdict}
use Rattle.fv_codec.specs.Blocks.{label_at}
use Rattle.fv_image.specs.Containers.{shaped, level_width}
use Rattle.fv_image.specs.Views.{slots, entry_count}
use Rattle.fv_image.specs.Held.{lying_at, label_in, at_positions}
use Rattle.fv_image.specs.BlockRules.{agree, is_fine}
use Rattle.fv_image.proofs.Kept.{at_number}

-- ---- truth values that agree

pub agree_same : (x y : Bool) → agree x y ≡ true → x ≡ y
agree_same true y e = sym e
agree_same false y e = sym (not-true y e)

pub agree_itself : (x : Bool) → agree x x ≡ true
agree_itself true = refl
agree_itself false = refl

-- ---- one slot of all

pub of_slot : (test : ℕ → Bool) (s : ℕ) → list_all test slots ≡ true → s < 64 → test s ≡ true
unfolding slots
of_slot test s all inside = at_number test 0 64 s all (omega arith) (omega (arith, inside))

-- one position of all in the container of a label
of_flat : (part : ℕ → List Bool) (from count k : ℕ) → list_all (λ good. good) (flat_map part (range_with_len from count)) ≡ true → from ≤ k → k < from + count → list_all (λ good. good) (part k) ≡ true
of_flat part from zero k all low high = absurd (omega arith)
of_flat part from (suc count) k all low high =
    let parts = and_parts (list_all (λ good. good) (part from)) (list_all (λ good. good) (flat_map part (range_with_len (from + 1) count))) (sym (list_all-append (λ (good : Bool). good) (part from) (flat_map part (range_with_len (from + 1) count))) ∙ all) in ⊎_elim
    (λ (e : k ≡ from). subst (λ (n : ℕ). list_all (λ good. good) (part n) ≡ true) (sym e) parts.0)
    (λ ne. of_flat part (from + 1) count k parts.1 (omega arith) (omega arith))
    (cases_eq k from)

pub of_position : (l : Label) (test : ℕ → ℕ → Bool) (level number : ℕ) → list_all (λ good. good) (at_positions l (λ k n. test k n ∷ [])) ≡ true → level ≤ l.height → number < level_width (entry_count l.span) level → test level number ≡ true
unfolding at_positions
of_position l test level number all low within =
    let row = of_flat (λ k. flat_map (λ n. test k n ∷ []) (range_with_len 0 (level_width (entry_count l.span) k))) 0 (suc l.height) level all (omega arith) (omega (arith, low)) in
    let one = of_flat (λ n. test level n ∷ []) 0 (level_width (entry_count l.span) level) number row (omega arith) (omega (arith, within)) in
    (and_parts (test level number) true one).0

-- ---- labels and nodes

pub fine_is : (verdict : Verdict) → is_fine verdict ≡ true → verdict ≡ Ok tt
fine_is (Ok fine) e = refl
fine_is (Err fault) e = absurd cc

pub lying_label : (i : Image) (p : ℕ) → p ≢ 0 → label_in (lying_at i p) ≡ shaped (label_at (i p))
unfolding label_in
lying_label i zero some = absurd (some refl)
lying_label i (suc p) some = refl
