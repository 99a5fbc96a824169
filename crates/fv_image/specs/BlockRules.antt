-- The rules on the blocks that an image holds beside its tables: labels, nodes of containers, entries, and the aggregate map. Each is a
-- test of all slots, nodes, entries or blocks.
use Rattle.std.specs.Prelude.{ℕ, zero, suc, Bool, true, false, not, ◌&&◌, List, [], ◌∷◌, count_by, Ok, Err, nat_lt, nat_le, ◌==◌}
use Rattle.std.specs.List.{list_all, range_with_len}
use Rattle.std.specs.Option.{is_some, option_map_or}
use Rattle.fv_codec.specs.declared.label.Label.{Label}
use Rattle.fv_codec.specs.Fields.{Verdict}
use Rattle.fv_codec.specs.Blocks.{label_at, leaf_at, inner_at}
use Rattle.fv_model.specs.Machines.{first_block}
use Rattle.fv_image.specs.Maps.{area_bits}
use Rattle.fv_image.specs.Containers.{shaped, height_of, node_verdict, has_none_past}
use Rattle.fv_image.specs.Views.{slots, entry_count}
use Rattle.fv_image.specs.Held.{Lying, Layout, label_in, at_positions, held, is_held}

-- a place where a block of a volume can lie
abbrev pub is_place : Layout → ℕ → Bool
is_place y p = nat_le (first_block y.view.blocks) p && nat_lt p y.view.blocks

-- ---- what is asked of each slot in use

-- of each label's block
abbrev pub all_lying : Layout → (Lying → Bool) → Bool
all_lying y test = list_all (λ s. option_map_or test (y.label s) true) slots

-- of each label that has its shape
abbrev pub all_labels : Layout → (ℕ → Label → Bool) → Bool
all_labels y test = list_all (λ s. option_map_or (test s) (label_in (y.label s)) true) slots

-- of each node that isn't absent in the container of a label
abbrev pub all_nodes : Layout → ℕ → Label → (ℕ → ℕ → Lying → Bool) → Bool
all_nodes y s l test = list_all (λ good. good) (at_positions l (λ level number. option_map_or (test level number) (y.node s level number) true ∷ []))

-- ---- the rules

-- a verdict without a fault
abbrev pub is_fine : Verdict → Bool
is_fine (Ok fine) = true
is_fine (Err fault) = false

-- whether a block has the shape of a container node of a level
abbrev pub has_node_shape : ℕ → List ℕ → Bool
has_node_shape zero block = is_some (shaped (leaf_at block))
has_node_shape (suc level) block = is_some (shaped (inner_at block))

-- Rule 1, shapes: each label and each node of a container has its own.
unfoldable pub has_shapes : Layout → Bool
has_shapes y =
    all_lying y (λ x. is_some (shaped (label_at x.block)))
    && all_labels y (λ s l. all_nodes y s l (λ level number x. has_node_shape level x.block))

-- Rule 2, ranges: each held block lies where a block of a volume can, and each container has a root and the least height that
-- covers its entries.
unfoldable pub are_in_range : Layout → Bool
are_in_range y = list_all (is_place y) (held y) && all_labels y (λ s l. not (l.container == 0) && (l.height == height_of (entry_count l.span)))

-- Rule 2, entries: no container has an entry that isn't a hole at or past the count of its entries, nor a node that would hold such.
unfoldable pub has_entries_within : Layout → Bool
has_entries_within y = all_labels y (λ s l. all_nodes y s l (λ level number x. has_none_past (entry_count l.span) level number x.block))

-- Rule 4, positions: each node of a container is the one of its level and number.
unfoldable pub is_in_position : Layout → Bool
is_in_position y = all_labels y (λ s l. all_nodes y s l (λ level number x. is_fine (node_verdict level number x.block)))

-- Rule 7, held once: no block is held twice.
unfoldable pub is_held_once : Layout → Bool
is_held_once y = list_all (λ b. nat_le (count_by (λ x. x == b) (held y)) 1) (held y)

-- two truth values are the same
abbrev pub agree : Bool → Bool → Bool
agree true x = x
agree false x = not x

-- Rule 8, the aggregate map: a bit is set exactly where its block is held.
unfoldable pub has_true_map : Layout → Bool
has_true_map y = list_all (λ b. agree (y.bit b) (is_held y b)) (range_with_len 0 (area_bits y.view.blocks))
