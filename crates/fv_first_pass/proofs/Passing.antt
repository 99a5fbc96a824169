-- The first pass, slot by slot.
use Rattle.std.proofs.Common.{◌≡◌, ℕ, zero, suc, ◌+◌, ◌<◌, ◌≤◌, Bool, true, false, List, [], ◌∷◌, ◌++◌, length, get_or, refl, sym, ap, subst, ◌∙◌, arith, ⊎_elim}
use Rattle.std.specs.Prelude.{Option, None, Result, ◌↔◌, IsTrue, Vec}
use Rattle.std.specs.declared.alloc.Global.{Global}
use Rattle.std.proofs.lemmas.Bool.{cases_lt}
use Rattle.std.proofs.lemmas.List.{get_or_push}
use Rattle.fv_disk.specs.Shown.{Image}
use Rattle.fv_codec.specs.declared.shape.Shape.{Shape}
use Rattle.fv_codec.specs.declared.label.Label.{Label}
use Rattle.fv_image.specs.NewerRoot.{Taken}
use Rattle.fv_image.specs.Views.{slots}
use Rattle.fv_image.specs.Held.{Layout, layout_at}
use Rattle.fv_faults.specs.declared.lines.Lines.{Lines}
use Rattle.fv_faults.specs.Lines.{or_next}
use Rattle.fv_faults.specs.Adding.{Adds}
use Rattle.fv_faults.specs.FirstPass.{first_pass, root_lines}
use Rattle.fv_faults.proofs.Adding.{adds_none, adds_then}
use Rattle.fv_faults.proofs.Clean.{both_passes, none_of_each}
use Rattle.fv_faults.proofs.EachVolume.{slot_there}
use Rattle.fv_first_pass.specs.Heads.{HasLabels}
use Rattle.fv_first_pass.specs.Passed.{HasRow, Spells, slot_lines, slots_to}
use Rattle.fv_first_pass.proofs.Ranges.{parts_more}
use Rattle.fv_first_pass.proofs.OneSlot.{never, stopped}

-- ---- one slot more

pub no_slots : (y : Layout) (x : Lines) → Adds (slots_to y 0) x x
no_slots y x = adds_none x x refl

pub slots_more : (y : Layout) (n : ℕ) (old mid new : Lines) → Adds (slots_to y n) old mid → Adds (slot_lines y n) mid new → Adds (slots_to y (n + 1)) old new
slots_more y n old mid new first one =
    subst (λ ls. Adds ls old new) (sym (parts_more (slot_lines y) 0 n n (omega arith))) (adds_then (slots_to y n) (slot_lines y n) old mid new first one)

abbrev pub AreRows : Taken → Image → List (Option (Vec ℕ Global)) → ℕ → Type 0
AreRows t i rows n = (s : ℕ) → s < n → slot_lines (layout_at t i) s ≡ [] → HasRow t i s (get_or rows s None)

earlier : {X : Type 0} (xs : List X) (y d : X) (s : ℕ) → s < length xs → get_or (xs ++ y ∷ []) s d ≡ get_or xs s d
earlier [] y d s low = absurd (omega (arith, low))
earlier (x ∷ xs) y d zero low = refl
earlier (x ∷ xs) y d (suc s) low = earlier xs y d s (omega (arith, low))

pub rows_more : (t : Taken) (i : Image) (n : ℕ) (rows now : List (Option (Vec ℕ Global))) (row : Option (Vec ℕ Global)) → length rows ≡ n → now ≡ rows ++ row ∷ []
    → AreRows t i rows n → (slot_lines (layout_at t i) n ≡ [] → HasRow t i n row) → AreRows t i now (n + 1)
rows_more t i n rows now row long pushed are one s low quiet = subst (λ rs. HasRow t i s (get_or rs s None)) (sym pushed) (⊎_elim
    (λ (before : s < n). subst (HasRow t i s) (sym (earlier rows row None s (omega (arith, before, long)))) (are s before quiet))
    (λ (past : n ≤ s).
    let same : s ≡ n = omega (arith, past, low) in
    subst (HasRow t i s) (sym (get_or_push rows row None s (long ∙ sym same)))
    (subst (λ k. HasRow t i k row) (sym same) (one (sym (ap (slot_lines (layout_at t i)) same) ∙ quiet))))
    (cases_lt s n))

-- ---- the pass

module _ (y : Layout) (root : ℕ) where
  pass_is : first_pass root y ≡ or_next (root_lines root y) (slots_to y 64)
  unfolding first_pass slots
  pass_is = refl

  pub first_stopped : (clean : Bool) (old new : Lines) → (IsTrue clean ↔ (root_lines root y ≡ [])) → clean ≡ false → Adds (root_lines root y) old new → Adds (first_pass root y) old new
  first_stopped clean old new told not adds =
      subst (λ ls. Adds ls old new) (sym (pass_is ∙ stopped (root_lines root y) (slots_to y 64) (λ none. never clean not (told.1 none)))) adds

  pub first_adds : (clean : Bool) (old mid new : Lines) → (IsTrue clean ↔ (root_lines root y ≡ [])) → clean ≡ true → Adds (root_lines root y) old mid → Adds (slots_to y 64) mid new
      → Adds (first_pass root y) old new
  first_adds clean old mid new told is adds rest =
      let none : root_lines root y ≡ [] = told.0 is in
      subst (λ ls. Adds ls old new) (sym (pass_is ∙ ap (λ ls. or_next ls (slots_to y 64)) none))
      (adds_then [] (slots_to y 64) old mid new (subst (λ ls. Adds ls old mid) none adds) rest)

  quiet : first_pass root y ≡ [] → (root_lines root y ≡ []) × (slots_to y 64 ≡ [])
  quiet none = both_passes (root_lines root y) (slots_to y 64) (sym pass_is ∙ none)

  never_stopped : (clean : Bool) → (IsTrue clean ↔ (root_lines root y ≡ [])) → clean ≡ false → first_pass root y ≡ [] → ⊥
  never_stopped clean told not none = never clean not (told.1 (quiet none).0)

  pub quiet_slot : first_pass root y ≡ [] → (s : ℕ) → s < 64 → slot_lines y s ≡ []
  unfolding slots
  quiet_slot none s low = none_of_each (slot_lines y) slots (quiet none).1 s (slot_there s low)

pub all_spelled : (t : Taken) (i : Image) (root : ℕ) (labels : List (Option (Result Label Shape))) (rows : List (Option (Vec ℕ Global))) → HasLabels (layout_at t i) labels → AreRows t i rows 64
    → first_pass root (layout_at t i) ≡ [] → Spells t i labels rows
all_spelled t i root labels rows has are none = record { heads = has; entries = λ s low. are s low (quiet_slot (layout_at t i) root none s low) }

pub never_spelled : (t : Taken) (i : Image) (root : ℕ) (labels : List (Option (Result Label Shape))) (rows : List (Option (Vec ℕ Global))) (clean : Bool)
    → (IsTrue clean ↔ (root_lines root (layout_at t i) ≡ [])) → clean ≡ false → first_pass root (layout_at t i) ≡ [] → Spells t i labels rows
never_spelled t i root labels rows clean told not none = absurd (never_stopped (layout_at t i) root clean told not none)
