-- Where an image puts what its view tells of: labels, containers and the aggregate map; and which blocks it holds.
use Rattle.std.specs.Prelude.{◌≡◌, ◌<◌, ℕ, zero, suc, Bool, true, ◌&&◌, List, [], ◌∷◌, ◌++◌, flat_map, Option, Some, None, get_or, nat_lt, nat_le, ◌==◌, if◌then◌else◌}
use Rattle.std.specs.List.{list_any, range_with_len}
use Rattle.std.specs.Option.{option_map}
use Rattle.fv_disk.specs.Shown.{Image, Shown}
use Rattle.fv_codec.specs.declared.label.Label.{Label}
use Rattle.fv_codec.specs.Blocks.{label_at}
use Rattle.fv_image.specs.Layout.{area_blocks, area_place}
use Rattle.fv_image.specs.NewerRoot.{Taken, root_of}
use Rattle.fv_image.specs.Maps.{map_bit}
use Rattle.fv_image.specs.Containers.{shaped, level_width, node_of, container_entry}
use Rattle.fv_image.specs.Views.{Placed, View, head_at_slot, label_records, slots, entry_count, vvbns}

-- a block with its place in the aggregate
pub record Lying : Type 0 where
  pub place : ℕ
  pub block : List ℕ

-- a view with what only an image has
pub record Layout : Type 0 where
  pub view : View
  -- the label of each slot in use
  pub label : ℕ → Option Lying
  -- the node of the container by slot, level and number; none where it is absent
  pub node : ℕ → ℕ → ℕ → Option Lying
  -- of the aggregate map
  pub bit : ℕ → Bool

-- ---- the layout of an image

-- what lies at a place; 0 is no place
abbrev pub lying_at : Image → ℕ → Option Lying
lying_at i zero = None
lying_at i (suc p) = Some (record { place = suc p; block = i (suc p) })

-- the place of a slot's label, or 0 for an empty slot
unfoldable pub label_place : Taken → ℕ → ℕ
label_place t s = if nat_lt s 64 then get_or t.root.labels s 0 else 0

-- the label that a block spells, where it has its shape
unfoldable pub label_in : Option Lying → Option Label
label_in None = None
label_in (Some x) = shaped (label_at x.block)

-- a node of the container of a label, at its level and number
unfoldable pub node_from : Option Label → Image → ℕ → ℕ → Option Lying
node_from None i level number = None
node_from (Some l) i level number = if nat_le level l.height && nat_lt number (level_width (entry_count l.span) level)
    then lying_at i (node_of i l.container l.height level number) else None

-- an entry with the block that it holds
abbrev pub placed : Image → ℕ × ℕ → Option Placed
placed i e = if e.1 == 0 then None else Some (record { pvbn = e.0; kind = e.1; block = i e.0 })

-- the entry of a VVBN in the container of a label
unfoldable pub entry_from : Option Label → Image → ℕ → Option Placed
entry_from None i v = None
entry_from (Some l) i v = placed i (container_entry i l.container l.height (entry_count l.span) v)

-- the label of a slot
abbrev pub label_lying : Taken → Image → ℕ → Option Lying
label_lying t i s = lying_at i (label_place t s)

-- what an image holds under a root
unfoldable pub view_at : Taken → Image → View
view_at t i = record {
  blocks = t.blocks;
  version = t.root.version;
  head = λ s. option_map (λ l. head_at_slot t.root.version l (label_records l)) (label_in (label_lying t i s));
  entry = λ s v. entry_from (label_in (label_lying t i s)) i v;
}

-- and where it lies
unfoldable pub layout_at : Taken → Image → Layout
layout_at t i = record {
  view = view_at t i;
  label = label_lying t i;
  node = λ s. node_from (label_in (label_lying t i s)) i;
  bit = map_bit t i;
}

-- the layout with another aggregate map
abbrev pub with_bits : (ℕ → Bool) → Layout → Layout
with_bits bits y = record y { bit = bits }

-- ---- the held blocks

-- the place of a label or a node, if it is there
abbrev pub place_lying : Option Lying → List ℕ
place_lying None = []
place_lying (Some x) = x.place ∷ []

-- the place of an entry that isn't a hole
abbrev pub place_of : Option Placed → List ℕ
place_of None = []
place_of (Some x) = x.pvbn ∷ []

-- what is said of each position in the container of a label, level by level from the leaves up
unfoldable pub at_positions : {X : Type 0} → Label → (ℕ → ℕ → List X) → List X
at_positions l each = flat_map (λ level. flat_map (each level) (range_with_len 0 (level_width (entry_count l.span) level))) (range_with_len 0 (suc l.height))

-- the blocks of a container's nodes, and those that its entries hold
unfoldable pub held_by_container : Layout → ℕ → Option Label → List ℕ
held_by_container y s None = []
held_by_container y s (Some l) =
    at_positions l (λ level number. place_lying (y.node s level number))
    ++ flat_map (λ v. place_of (y.view.entry s v)) (vvbns l.span)

-- the blocks that the volume of a slot holds: its label, and those of its container
unfoldable pub held_by : Layout → ℕ → List ℕ
held_by y s = place_lying (y.label s) ++ held_by_container y s (label_in (y.label s))

-- Each held block, as often as it is held.
unfoldable pub held : Layout → List ℕ
held y = flat_map (held_by y) slots

-- whether a block is held
abbrev pub is_held : Layout → ℕ → Bool
is_held y b = list_any (λ x. x == b) (held y)

-- ---- what a layout depends on

-- the images agree on each block that is held in the first
abbrev pub AgreeOnHeld : Taken → Image → Image → Type 0
AgreeOnHeld t i j = (b : ℕ) → is_held (layout_at t i) b ≡ true → j b ≡ i b

-- the images agree on all that a root names: the map area of its slot, and each block that is held in the first
pub record AgreeOnNamed (t : Taken) (i j : Image) : Type 0 where
  pub area : (k : ℕ) → k < area_blocks t.blocks → j (area_place t.blocks t.slot k) ≡ i (area_place t.blocks t.slot k)
  pub held : AgreeOnHeld t i j

-- an image in which a root counts as before, with the layout that it had
pub record Keeps (t : Taken) (i c : Image) : Type 0 where
  pub root : root_of c ≡ Some t
  pub layout : layout_at t c ≡ layout_at t i

-- each image that a crash now may leave keeps a root with its layout
abbrev pub AllKeep : Taken → Image → Shown → Type 0
AllKeep t i disk = (c : Image) → disk.images c → Keeps t i c
