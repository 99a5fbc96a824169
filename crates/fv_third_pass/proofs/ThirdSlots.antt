-- A pass, slot by slot: what is said of the volume of each.
use Rattle.std.proofs.Common.{◌≡◌, ℕ, ◌+◌, ◌<◌, List, [], ◌++◌, get_or, refl, ap, ◌∙◌, arith, Result, Ok, Err}
use Rattle.std.specs.Prelude.{Option, Some, None}
use Rattle.std.specs.Option.{option_map_or}
use Rattle.fv_disk.specs.Shown.{Image}
use Rattle.fv_codec.specs.declared.shape.Shape.{Shape}
use Rattle.fv_codec.specs.declared.label.Label.{Label}
use Rattle.fv_image.specs.NewerRoot.{Taken}
use Rattle.fv_image.specs.Views.{Head, head_of, slots}
use Rattle.fv_image.specs.Held.{Layout, Lying, layout_at}
use Rattle.fv_faults.specs.declared.fault.Fault.{Fault}
use Rattle.fv_faults.specs.declared.lines.Lines.{Lines}
use Rattle.fv_faults.specs.Adding.{Adds}
use Rattle.fv_faults.specs.ThirdPass.{map_lines, third_pass, twice_held}
use Rattle.fv_faults.proofs.Adding.{adds_then}
use Rattle.fv_first_pass.specs.declared.first.Known.{Known}
use Rattle.fv_first_pass.specs.Heads.{head_in}
use Rattle.fv_second_pass.specs.Told.{IsPassed}
use Rattle.fv_second_pass.proofs.Volumes.{head_is, head_there, label_there}
use Rattle.fv_third_pass.specs.Counted.{label_of}
use Rattle.fv_third_pass.specs.Volumes.{slot_said, slots_said, slots_to}
use Rattle.fv_third_pass.proofs.Noting.{range_first, range_next}

pub label_known : (o : Option (Result Label Shape)) (l : Label) → label_of o ≡ Some l → o ≡ Some (Ok l)
label_known None l is = absurd cc
label_known (Some (Ok k)) l is = let same : k ≡ l = cc in ap (λ (k : Label). Some (Ok k)) same
label_known (Some (Err fault)) l is = absurd cc

pub no_head : (o : Option (Result Label Shape)) → label_of o ≡ None → head_in o ≡ None
no_head None is = refl
no_head (Some (Ok k)) is = absurd cc
no_head (Some (Err fault)) is = refl

-- what is said of the volume of a slot, by the label that was read
module _ (t : Taken) (i : Image) (known : Known) (passed : IsPassed t i known) (s : ℕ) (low : s < 64) (lines : ℕ → ℕ → Head → List Fault) where
  abbrev y : Layout
  y = layout_at t i

  abbrev said : List Fault
  said = slot_said y lines s

  abbrev of_head : Option Head → List Fault
  of_head o = option_map_or (λ (x : Lying). option_map_or (λ (h : Head). lines s x.place h) o []) (y.label s) []

  pub none_said : label_of (get_or known.labels.items s None) ≡ None → said ≡ []
  none_said none = ap of_head (head_is t i known passed s low ∙ no_head (get_or known.labels.items s None) none) ∙ so (y.label s)
    where
      so : (o : Option Lying) → ◌≡◌ {A = List Fault} (option_map_or (λ (x : Lying). []) o []) []
      so None = refl
      so (Some x) = refl

  pub some_said : (l : Label) → get_or known.labels.items s None ≡ Some (Ok l) → said ≡ lines s (get_or t.root.labels s 0) (head_of l)
  some_said l is =
      ap (λ (o : Option Lying). option_map_or (λ (x : Lying). option_map_or (λ (h : Head). lines s x.place h) (y.view.head s) []) o []) (label_there t i known passed s low l is)
      ∙ ap (λ (o : Option Head). option_map_or (λ (h : Head). lines s (get_or t.root.labels s 0) h) o []) (head_there t i known passed s low l is)

-- slot by slot
module _ (y : Layout) (lines : ℕ → ℕ → Head → List Fault) where
  pub no_slots : (x : Lines) → Adds (slots_said y lines 0) x x
  unfolding slots_said
  no_slots x = range_first (slot_said y lines) 0 x

  pub slots_more : (n : ℕ) (old mid new : Lines) → Adds (slots_said y lines n) old mid → Adds (slot_said y lines n) mid new → Adds (slots_said y lines (n + 1)) old new
  unfolding slots_said
  slots_more n old mid new first one = range_next (slot_said y lines) 0 n n old mid new (omega arith) first one

pub pass_adds : (y : Layout) (old one two new : Lines) → Adds (twice_held y) old one → Adds (map_lines y) one two → Adds (slots_to y 64) two new → Adds (third_pass y) old new
unfolding third_pass slots_said slots
pass_adds y old one two new first second third = adds_then (twice_held y) (map_lines y ++ slots_to y 64) old one new first (adds_then (map_lines y) (slots_to y 64) one two new second third)
