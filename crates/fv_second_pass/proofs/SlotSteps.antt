-- The second pass, slot by slot.
use Rattle.std.proofs.Common.{◌≡◌, ℕ, zero, suc, ◌+◌, ◌<◌, ◌≤◌, Bool, List, [], ◌∷◌, ◌++◌, length, get_or, refl, sym, ap, subst, ◌∙◌, arith, ⊎_elim, Ok}
use Rattle.std.specs.Prelude.{Option, Some, None, Vec, flat_map}
use Rattle.std.specs.declared.alloc.Global.{Global}
use Rattle.std.specs.Option.{option_map_or}
use Rattle.std.proofs.lemmas.Bool.{cases_lt}
use Rattle.std.proofs.lemmas.List.{get_or_push}
use Rattle.std.proofs.lemmas.List.Concat.{flat_map-append}
use Rattle.fv_disk.specs.Shown.{Image}
use Rattle.fv_codec.specs.declared.label.Label.{Label}
use Rattle.fv_image.specs.NewerRoot.{Taken}
use Rattle.fv_image.specs.Views.{Head, Rooted, head_of, slots}
use Rattle.fv_image.specs.Held.{Layout, Lying, layout_at}
use Rattle.fv_image.specs.Seen.{roots_of}
use Rattle.fv_faults.specs.declared.fault.Fault.{Fault}
use Rattle.fv_faults.specs.declared.lines.Lines.{Lines}
use Rattle.fv_faults.specs.Adding.{Adds}
use Rattle.fv_faults.specs.SecondPass.{ground, root_steps, second_pass}
use Rattle.fv_faults.specs.Walks.{Step, steps}
use Rattle.fv_faults.proofs.Adding.{adds_none, adds_then}
use Rattle.fv_first_pass.specs.declared.first.Known.{Known}
use Rattle.fv_first_pass.specs.Heads.{head_in}
use Rattle.fv_first_pass.proofs.Ranges.{parts_more, same_parts}
use Rattle.fv_second_pass.specs.Told.{IsPassed, ground_at}
use Rattle.fv_second_pass.proofs.Volumes.{ground_is, head_is, head_there, label_there, lying}
use Rattle.fv_second_pass.specs.Reaching.{AreReached, SlotReached, root_lines, slot_lines, slots_to, walk_lines}

-- ---- one slot

module _ (t : Taken) (i : Image) (known : Known) (passed : IsPassed t i known) (s : ℕ) (low : s < 64) where
  abbrev y : Layout
  y = layout_at t i

  abbrev of_head : Option Head → List Fault
  of_head o = option_map_or (λ (x : Lying). option_map_or (λ (h : Head). root_lines (ground y.view s h) x.place (roots_of h)) o []) (y.label s) []

  -- without a label, or with one that hasn't its shape
  module _ (none : head_in (get_or known.labels.items s None) ≡ None) where
    pub empty_lines : slot_lines y s ≡ []
    empty_lines = ap of_head (head_is t i known passed s low ∙ none) ∙ so (y.label s)
      where
        so : (o : Option Lying) → ◌≡◌ {A = List Fault} (option_map_or (λ (x : Lying). []) o []) []
        so None = refl
        so (Some x) = refl

    pub empty_reached : (maps : Option (Vec (Option (List Bool)) Global)) → SlotReached y s maps
    empty_reached maps x h label head = absurd (let e : ◌≡◌ {A = Option Head} None (Some h) = sym (head_is t i known passed s low ∙ none) ∙ head in cc)

  -- with a label
  module _ (l : Label) (is : get_or known.labels.items s None ≡ Some (Ok l)) where
    pub lines_are : slot_lines y s ≡ root_lines (ground_at t i s l.span) (get_or t.root.labels s 0) (roots_of (head_of l))
    lines_are =
        ap (λ (o : Option Lying). option_map_or (λ (x : Lying). option_map_or (λ (h : Head). root_lines (ground y.view s h) x.place (roots_of h)) (y.view.head s) []) o []) (label_there t i known passed s low l is)
        ∙ ap (λ (o : Option Head). option_map_or (λ (h : Head). root_lines (ground y.view s h) (get_or t.root.labels s 0) (roots_of h)) o []) (head_there t i known passed s low l is)
        ∙ ap (λ g. root_lines g (get_or t.root.labels s 0) (roots_of (head_of l))) (ground_is t i known passed s low l is)

    pub reached_are : (maps : Vec (Option (List Bool)) Global) → AreReached (ground_at t i s l.span) (get_or t.root.labels s 0) (roots_of (head_of l)) maps.items → SlotReached y s (Some maps)
    reached_are maps are x h label head =
        subst (λ (z : Lying). AreReached (ground y.view s h) z.place (roots_of h) maps.items) (let same : lying t i known passed s low l is ≡ x = (let e : Some (lying t i known passed s low l is) ≡ Some x = sym (label_there t i known passed s low l is) ∙ label in cc) in same)
        (subst (λ (k : Head). AreReached (ground y.view s k) (get_or t.root.labels s 0) (roots_of k) maps.items) (let same : head_of l ≡ h = (let e : Some (head_of l) ≡ Some h = sym (head_there t i known passed s low l is) ∙ head in cc) in same)
        (subst (λ g. AreReached g (get_or t.root.labels s 0) (roots_of (head_of l)) maps.items) (sym (ground_is t i known passed s low l is)) are))

-- ---- slot by slot

module _ (y : Layout) where
  pub no_slots : (x : Lines) → Adds (slots_to y 0) x x
  no_slots x = adds_none x x refl

  pub slots_more : (n : ℕ) (old mid new : Lines) → Adds (slots_to y n) old mid → Adds (slot_lines y n) mid new → Adds (slots_to y (n + 1)) old new
  slots_more n old mid new first one =
      subst (λ ls. Adds ls old new) (sym (parts_more (slot_lines y) 0 n n (omega arith))) (adds_then (slots_to y n) (slot_lines y n) old mid new first one)

  joined : (s label : ℕ) (h : Head) (rs : List (ℕ × Rooted))
      → flat_map (λ (st : Step). st.lines) (flat_map (λ (r : ℕ × Rooted). steps (ground y.view s h) label r.1) rs) ≡ root_lines (ground y.view s h) label rs
  joined s label h [] = refl
  joined s label h (r ∷ rs) =
      flat_map-append (λ (st : Step). st.lines) (steps (ground y.view s h) label r.1) (flat_map (λ (r : ℕ × Rooted). steps (ground y.view s h) label r.1) rs)
      ∙ ap (λ ls. walk_lines (ground y.view s h) label r.1 ++ ls) (joined s label h rs)

  pass_is : second_pass y ≡ slots_to y 64
  unfolding second_pass slots
  pass_is = same_parts (λ s. option_map_or (λ (x : Lying). option_map_or (λ (h : Head). flat_map (λ (st : Step). st.lines) (root_steps y.view s x.place h)) (y.view.head s) []) (y.label s) [])
      (slot_lines y) slots (λ s there. of_label s (y.label s))
    where
      of_head : (s : ℕ) (x : Lying) (o : Option Head) → option_map_or (λ (h : Head). flat_map (λ (st : Step). st.lines) (root_steps y.view s x.place h)) o [] ≡ option_map_or (λ (h : Head). root_lines (ground y.view s h) x.place (roots_of h)) o []
      of_head s x None = refl
      of_head s x (Some h) = joined s x.place h (roots_of h)

      of_label : (s : ℕ) (o : Option Lying) → option_map_or (λ (x : Lying). option_map_or (λ (h : Head). flat_map (λ (st : Step). st.lines) (root_steps y.view s x.place h)) (y.view.head s) []) o []
          ≡ option_map_or (λ (x : Lying). option_map_or (λ (h : Head). root_lines (ground y.view s h) x.place (roots_of h)) (y.view.head s) []) o []
      of_label s None = refl
      of_label s (Some x) = of_head s x (y.view.head s)

  pub pass_adds : (old new : Lines) → Adds (slots_to y 64) old new → Adds (second_pass y) old new
  pass_adds old new adds = subst (λ ls. Adds ls old new) (sym pass_is) adds

  abbrev pub AreSlots : List (Option (Vec (Option (List Bool)) Global)) → ℕ → Type 0
  AreSlots volumes n = (s : ℕ) → s < n → SlotReached y s (get_or volumes s None)

  earlier : {X : Type 0} (xs : List X) (z d : X) (s : ℕ) → s < length xs → get_or (xs ++ z ∷ []) s d ≡ get_or xs s d
  earlier [] z d s low = absurd (omega (arith, low))
  earlier (x ∷ xs) z d zero low = refl
  earlier (x ∷ xs) z d (suc s) low = earlier xs z d s (omega (arith, low))

  pub reached_more : (n : ℕ) (volumes now : List (Option (Vec (Option (List Bool)) Global))) (maps : Option (Vec (Option (List Bool)) Global)) → length volumes ≡ n → now ≡ volumes ++ maps ∷ []
      → AreSlots volumes n → SlotReached y n maps → AreSlots now (n + 1)
  reached_more n volumes now maps long pushed are one s low = subst (λ vs. SlotReached y s (get_or vs s None)) (sym pushed) (⊎_elim
      (λ (before : s < n). subst (SlotReached y s) (sym (earlier volumes maps None s (omega (arith, before, long)))) (are s before))
      (λ (past : n ≤ s).
      let same : s ≡ n = omega (arith, past, low) in
      subst (SlotReached y s) (sym (get_or_push volumes maps None s (long ∙ sym same))) (subst (λ k. SlotReached y k maps) (sym same) one))
      (cases_lt s n))
