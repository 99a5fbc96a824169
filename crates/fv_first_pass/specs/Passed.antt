-- What the first pass says slot by slot, and what it reads of an aggregate.
use Rattle.std.specs.Prelude.{◌≡◌, ◌<◌, ◌/◌, ◌%◌, ℕ, List, [], flat_map, get_or, Vec, Option, None, Result, ◌==◌, if◌then◌else◌}
use Rattle.std.specs.declared.alloc.Global.{Global}
use Rattle.std.specs.List.{range_with_len}
use Rattle.std.specs.Option.{option_map_or}
use Rattle.fv_disk.specs.Shown.{Image}
use Rattle.fv_codec.specs.declared.shape.Shape.{Shape}
use Rattle.fv_codec.specs.declared.label.Label.{Label}
use Rattle.fv_codec.specs.Blocks.{label_at}
use Rattle.fv_image.specs.NewerRoot.{Taken}
use Rattle.fv_image.specs.Views.{Placed}
use Rattle.fv_image.specs.Held.{Layout, placed, layout_at}
use Rattle.fv_faults.specs.declared.fault.Fault.{Fault}
use Rattle.fv_faults.specs.Lines.{leads}
use Rattle.fv_faults.specs.FirstPass.{read_lines}
use Rattle.fv_first_pass.specs.declared.site.Site.{Site}
use Rattle.fv_first_pass.specs.Heads.{HasLabels}
use Rattle.fv_first_pass.specs.Known.{IsLabelOf}

-- ---- lines

-- rule 2 of a place of a label in a root at a block; 0 is the place of none
abbrev pub place_lines : ℕ → ℕ → ℕ → List Fault
place_lines blocks root place = if place == 0 then [] else leads blocks root place

-- of the places of the first so many slots
unfoldable pub places_to : ℕ → ℕ → List ℕ → ℕ → List Fault
places_to blocks root places n = flat_map (λ s. place_lines blocks root (get_or places s 0)) (range_with_len 0 n)

-- of a slot's label and container
abbrev pub slot_lines : Layout → ℕ → List Fault
slot_lines y s = option_map_or (λ x. read_lines y s x.place (label_at x.block)) (y.label s) []

-- of the first so many slots
abbrev pub slots_to : Layout → ℕ → List Fault
slots_to y n = flat_map (slot_lines y) (range_with_len 0 n)

-- ---- entries

-- the word of a VVBN in a row of entries: past its end, and where there is no row, it is that of a hole
abbrev pub word_in : Option (Vec ℕ Global) → ℕ → ℕ
word_in row v = option_map_or (λ r. get_or r.items v 0) row 0

-- what a word leads to in an image: its place is the 24 bits below its kind
abbrev pub spelled : Image → ℕ → Option Placed
spelled i word = placed i (word % 16777216, word / 16777216)

-- a row has each entry of a slot
pub record HasRow (t : Taken) (i : Image) (s : ℕ) (row : Option (Vec ℕ Global)) : Type 0 where
  pub entries : (v : ℕ) → (layout_at t i).view.entry s v ≡ spelled i (word_in row v)

-- Labels and rows spell what an image holds under a root: the heads of its volumes, and what each VVBN of them leads to.
pub record Spells (t : Taken) (i : Image) (labels : List (Option (Result Label Shape))) (rows : List (Option (Vec ℕ Global))) : Type 0 where
  pub heads : HasLabels (layout_at t i) labels
  pub entries : (s : ℕ) → s < 64 → HasRow t i s (get_or rows s None)

-- ---- one label

-- a label with its slot, among the labels that an image has under a root
pub record IsLabelHere (t : Taken) (i : Image) (labels : List (Option (Result Label Shape))) (site : Site) : Type 0 where
  pub are : HasLabels (layout_at t i) labels
  pub of : IsLabelOf t i site
