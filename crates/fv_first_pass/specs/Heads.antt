-- The labels of all slots, as they are read.
use Rattle.std.specs.Prelude.{◌≡◌, ◌<◌, ◌-◌, ◌==◌, ℕ, Bool, true, List, [], ◌∷◌, ◌++◌, find, length, map, get_or, Option, Some, None, Result, Ok, Err}
use Rattle.std.specs.List.{range_with_len}
use Rattle.std.specs.Option.{option_map, option_map_or, option_and_then}
use Rattle.fv_disk.specs.Shown.{Image}
use Rattle.fv_codec.specs.declared.shape.Shape.{Shape}
use Rattle.fv_codec.specs.declared.label.Label.{Label}
use Rattle.fv_codec.specs.declared.root.Root.{Root}
use Rattle.fv_codec.specs.Blocks.{IsLabel, label_at}
use Rattle.fv_image.specs.Views.{Footing, Head, View, head_of}
use Rattle.fv_image.specs.Held.{Lying, Layout, lying_at}
use Rattle.fv_image.specs.Seen.{seen}
use Rattle.fv_image.specs.VolumeRules.{comes_to_end, share_name}
use Rattle.fv_faults.specs.declared.fault.Fault.{Fault}
use Rattle.fv_faults.specs.Lines.{line}
use Rattle.fv_faults.specs.FirstPass.{can_carry, label_numbers, snap_names}

-- what a slot's label reads as; none of an empty slot
abbrev pub label_read : Option Lying → Option (Result Label Shape)
label_read lying = option_map (λ x. label_at x.block) lying

-- the head that a label spells, where it has its shape
abbrev pub head_in : Option (Result Label Shape) → Option Head
head_in None = None
head_in (Some (Ok l)) = Some (head_of l)
head_in (Some (Err shape)) = None

-- They are those of a layout.
pub record HasLabels (y : Layout) (labels : List (Option (Result Label Shape))) : Type 0 where
  pub long : length labels ≡ 64
  pub reads : (s : ℕ) → s < 64 → get_or labels s None ≡ label_read (y.label s)
  pub heads : (s : ℕ) → s < 64 → y.view.head s ≡ head_in (get_or labels s None)

-- the slot of the parent of the volume of a slot
abbrev pub parent_in : List (Option (Result Label Shape)) → ℕ → Option ℕ
parent_in labels s = option_map (λ b. b.parent) (option_and_then (λ h. h.base) (head_in (get_or labels s None)))

-- whether a chain of bases comes to an end within so many volumes, from a slot on or where there is none any more
abbrev pub ends : View → ℕ → Option ℕ → Bool
ends w n None = true
ends w n (Some s) = comes_to_end (seen w) n s

-- the labels of the first so many slots under a root
abbrev pub labels_under : Image → Root → ℕ → List (Option (Result Label Shape))
labels_under i root n = map (λ s. label_read (lying_at i (get_or root.labels s 0))) (range_with_len 0 n)

-- the numbers of a label that was read are in range
abbrev pub IsReadLabel : Option (Result Label Shape) → Type 0
IsReadLabel None = Unit {0}
IsReadLabel (Some (Ok l)) = IsLabel l × (length l.snapshots ≡ 24)
IsReadLabel (Some (Err shape)) = Unit {0}

-- whether an earlier slot has the name of a head
abbrev pub is_earlier : List (Option (Result Label Shape)) → Head → ℕ → Bool
is_earlier labels h earlier = share_name (head_in (get_or labels earlier None)) (Some h)

-- the line of a label in a slot of which the volume has the name of one in an earlier slot
abbrev pub earlier_lines : List (Option (Result Label Shape)) → ℕ → ℕ → Head → List Fault
earlier_lines labels s at h = option_map_or (λ first. line 4 at first s ∷ []) (find (is_earlier labels h) (range_with_len 0 s)) []

-- what the label of a clone says of its base
abbrev pub footing : Label → Footing
footing l = record { parent = l.parent - 1; slot = l.base_slot; splitting = l.splitting == 1 }

-- whether a parent, if it has a head, can carry the volume of a label
abbrev pub carried : Option Head → Label → Bool
carried parent l = option_map_or (can_carry (head_of l) (footing l)) parent true

-- the lines of a label in a slot by its numbers and by names: the pass doesn't go below it where there is one
abbrev pub stops : List (Option (Result Label Shape)) → ℕ → ℕ → ℕ → Label → List Fault
stops labels blocks s at l = label_numbers blocks at l ++ (earlier_lines labels s at (head_of l) ++ snap_names at [] (head_of l).snapshots)

-- a label with its slot, among the labels of a layout of so many blocks
pub record IsLabelIn (y : Layout) (labels : List (Option (Result Label Shape))) (blocks s : ℕ) (l : Label) : Type 0 where
  pub are : HasLabels y labels
  pub size : y.view.blocks ≡ blocks
  pub head : y.view.head s ≡ Some (head_of l)
