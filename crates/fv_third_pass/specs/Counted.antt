-- What the slots of an aggregate hold, as it is counted, and that the counts are those of a layout.
use Rattle.std.specs.Prelude.{◌≡◌, ◌<◌, ℕ, List, [], ◌++◌, flat_map, length, get_or, Vec, Option, None, Some, Result, Ok, Err}
use Rattle.std.specs.declared.alloc.Global.{Global}
use Rattle.std.specs.List.{range_with_len}
use Rattle.fv_disk.specs.Shown.{Image}
use Rattle.fv_codec.specs.declared.shape.Shape.{Shape}
use Rattle.fv_codec.specs.declared.label.Label.{Label}
use Rattle.fv_codec.specs.declared.root.Root.{Root}
use Rattle.fv_laws.proofs.Lists.{In}
use Rattle.fv_image.specs.Views.{entry_count}
use Rattle.fv_image.specs.Held.{Layout, held}
use Rattle.fv_faults.specs.ThirdPass.{holders}
use Rattle.fv_first_pass.specs.declared.first.Known.{Known}
use Rattle.fv_third_pass.specs.declared.holders.Holders.{Holders}
use Rattle.fv_third_pass.specs.Tallied.{holds}
use Rattle.fv_third_pass.specs.Words.{at_place, in_row}
use Rattle.fv_third_pass.specs.Nodes.{node_blocks}

-- ---- what was read of a slot

-- a label that has its shape
abbrev pub label_of : Option (Result Label Shape) → Option Label
label_of None = None
label_of (Some (Ok l)) = Some l
label_of (Some (Err shape)) = None

-- the words of a row; where there is none, there are none
abbrev pub words_of : Option (Vec ℕ Global) → List ℕ
words_of None = []
words_of (Some row) = row.items

-- ---- what is counted

abbrev pub volume_blocks : Image → Option Label → List ℕ → List ℕ
volume_blocks i None row = []
volume_blocks i (Some l) row = node_blocks i l ++ in_row row (entry_count l.span)

-- what the volume of a slot holds
abbrev pub slot_blocks : Image → Root → Known → ℕ → List ℕ
slot_blocks i root known s =
    at_place (get_or root.labels s 0) ++ volume_blocks i (label_of (get_or known.labels.items s None)) (words_of (get_or known.rows.items s None))

-- what those of the first so many slots hold
unfoldable pub blocks_to : Image → Root → Known → ℕ → List ℕ
blocks_to i root known n = flat_map (slot_blocks i root known) (range_with_len 0 n)

-- ---- the counts of a layout

-- The counts are how often the layout holds each block, and it holds blocks of the aggregate alone.
pub record IsCounted (y : Layout) (h : Holders) : Type 0 where
  pub size : length h.held ≡ y.view.blocks
  pub times : (b : ℕ) → b < y.view.blocks → holds h b ≡ holders y b
  pub within : (b : ℕ) → In b (held y) → b < y.view.blocks
