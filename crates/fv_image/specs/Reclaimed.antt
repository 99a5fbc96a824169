-- The blocks of a volume in an image, said of its label's place, the nodes of its container and its entries.
use Rattle.std.specs.Prelude.{◌≡◌, ◌≢◌, ◌<◌, ◌≤◌, ◌⊎◌, ℕ}
use Rattle.fv_disk.specs.Shown.{Image}
use Rattle.fv_codec.specs.declared.label.Label.{Label}
use Rattle.fv_model.specs.Machines.{first_block}
use Rattle.fv_image.specs.NewerRoot.{Taken}
use Rattle.fv_image.specs.Containers.{container_entry, IsNodePlace}
use Rattle.fv_image.specs.Views.{entry_count}
use Rattle.fv_image.specs.Held.{label_place}

-- ---- the container of a label

-- the entry of a VVBN, as PVBN and kind
abbrev pub entry_at : Image → Label → ℕ → ℕ × ℕ
entry_at i l v = container_entry i l.container l.height (entry_count l.span) v

-- a block at which a node lies
abbrev pub IsNodeOf : Image → Label → ℕ → Type 0
IsNodeOf i l b = IsNodePlace i l.container l.height (entry_count l.span) b

-- a block that an entry holds
pub record IsEntryPlace (i : Image) (l : Label) (b : ℕ) : Type 0 where
  pub vvbn : ℕ
  pub within : vvbn < entry_count l.span
  pub kind : (entry_at i l vvbn).1 ≢ 0
  pub place : b ≡ (entry_at i l vvbn).0

-- a block of the volume of a slot: that of its label, of a node, or of an entry
abbrev pub IsHeldPlace : Taken → Image → ℕ → Label → ℕ → Type 0
IsHeldPlace t i s l b = (b ≡ label_place t s) ⊎ (IsNodeOf i l b ⊎ IsEntryPlace i l b)

-- a block of an aggregate of so many that can be allocated
abbrev pub IsAllocatable : ℕ → ℕ → Type 0
IsAllocatable blocks b = (first_block blocks ≤ b) × (b < blocks)
