-- What the walks stand on: what the first pass read of an aggregate.
use Rattle.std.specs.Prelude.{◌≡◌, ◌<◌, ◌≢◌, ℕ, List, [], get_or, Option, Some, None, Result, Ok, Err, IsTrue}
use Rattle.fv_disk.specs.Shown.{Image, Shown}
use Rattle.fv_codec.specs.declared.pointer.Pointer.{Pointer}
use Rattle.fv_codec.specs.declared.shape.Shape.{Shape}
use Rattle.fv_codec.specs.declared.label.Label.{Label}
use Rattle.fv_laws.proofs.Lists.{In}
use Rattle.fv_image.specs.Layout.{root_place}
use Rattle.fv_image.specs.NewerRoot.{Taken}
use Rattle.fv_image.specs.Views.{Rooted}
use Rattle.fv_image.specs.Chains.{span_at}
use Rattle.fv_image.specs.Held.{layout_at}
use Rattle.fv_faults.specs.FirstPass.{first_pass}
use Rattle.fv_faults.specs.Walks.{Ground}
use Rattle.fv_first_pass.specs.declared.first.Known.{Known}
use Rattle.fv_first_pass.specs.Heads.{IsReadLabel}
use Rattle.fv_first_pass.specs.Passed.{Spells}

-- the numbers of the labels that were read are in range, whatever the disk tells
pub record IsKnown (known : Known) : Type 0 where
  pub labels : (s : ℕ) → IsReadLabel (get_or known.labels.items s None)

-- what was read of a label, where it has its shape
abbrev pub shaped_label : Option (Result Label Shape) → Option Label
shaped_label None = None
shaped_label (Some (Ok l)) = Some l
shaped_label (Some (Err fault)) = None

-- The first pass found nothing, and what it read spells the aggregate.
pub record IsPassed (t : Taken) (i : Image) (known : Known) : Type 0 where
  pub silent : first_pass (root_place t.slot) (layout_at t i) ≡ []
  pub spells : Spells t i known.labels.items known.rows.items

-- ---- one volume

-- the volume of a slot, with its span
abbrev pub ground_at : Taken → Image → ℕ → ℕ → Ground
ground_at t i slot span = record { view = (layout_at t i).view; slot = slot; span = span }

-- It is a volume of the aggregate that a disk tells of, and what was read spells that aggregate.
pub record IsVolume (t : Taken) (disk : Shown) (known : Known) (slot span : ℕ) : Type 0 where
  pub tells : IsTrue disk.tells
  pub spells : Spells t disk.reads known.labels.items known.rows.items
  pub range : IsKnown known
  pub low : slot < 64
  pub wide : span ≡ span_at (layout_at t disk.reads).view slot

-- a pointer is a hole, or its VVBN is one of the volume
abbrev pub IsWithin : ℕ → Pointer → Type 0
IsWithin span p = p.stamp ≢ 0 → p.vvbn < span

-- the roots of a volume are holes or lead into it
abbrev pub AreWithin : ℕ → List (ℕ × Rooted) → Type 0
AreWithin span rs = (r : ℕ × Rooted) → In r rs → IsWithin span r.1.root

-- a label is that of a slot in an aggregate in which the first pass found nothing
pub record IsLabelled (t : Taken) (i : Image) (known : Known) (slot : ℕ) (l : Label) : Type 0 where
  pub passed : IsPassed t i known
  pub label : get_or known.labels.items slot None ≡ Some (Ok l)
