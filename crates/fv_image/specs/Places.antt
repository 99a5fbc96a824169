-- The pointers of an image, how many of those on the way to a cell are unknown, and what is left to do: what a mirror, a split and the
-- cleaner are about.
use Rattle.std.specs.Prelude.{ℕ, ◌+◌, ◌/◌, ◌^◌, Bool, not, ◌&&◌, ◌||◌, List, [], ◌∷◌, map, filter, flat_map, count_by, Option, Some, None, ◌==◌, if◌then◌else◌}
use Rattle.std.specs.List.{list_any, range_with_len}
use Rattle.std.specs.Option.{is_none}
use Rattle.fv_codec.specs.declared.inode.InodeRecord.{InodeRecord}
use Rattle.fv_model.specs.Trees.{fan}
use Rattle.fv_tables.specs.Spelled.{Rooted, pointer_at}
use Rattle.fv_tables.specs.Told.{Standing, records_each, file_at, tree_of}
use Rattle.fv_tables.specs.Reached.{Item, items}
use Rattle.fv_image.specs.Views.{Head, View, is_held_in, sum_of_heads}
use Rattle.fv_image.specs.Volumes.{standing_of}
use Rattle.fv_image.specs.Seen.{roots_of}
use Rattle.fv_image.specs.ReachRules.{is_same_position}
use Rattle.fv_image.specs.HintRules.{is_known, is_unknown, is_in_label, is_splitting}

-- ---- pointers

-- a pointer that a root reaches, with the root's map slot
pub record Held : Type 0 where
  pub map : ℕ
  pub item : Item

-- Whether two are one pointer: it stands in the label for one root, or at one position in one block. Roots share blocks.
abbrev pub is_one_pointer : Held → Held → Bool
is_one_pointer a b = if is_in_label a.item
    then is_in_label b.item && (a.map == b.map)
    else (not (is_in_label b.item) && ((a.item.holder.vvbn == b.item.holder.vvbn) && is_same_position a.item b.item))

-- each of a list once, the first where several are one
unfoldable pub once_each : {X : Type 0} → (X → X → Bool) → List X → List X
once_each same [] = []
once_each same (x ∷ xs) = x ∷ filter (λ y. not (same x y)) (once_each same xs)

-- The pointers of a volume: those in its label and in the blocks that its roots reach, each once for the block that holds it. Holes
-- aren't among them.
unfoldable pub pointers : View → ℕ → Head → List Held
pointers w s h = once_each is_one_pointer (flat_map (λ r. map (λ e. record { map = r.0; item = e }) (items (standing_of w s r.1))) (roots_of h))

-- ---- a path

-- how many pointers on the way from the root of a tree to a cell are unknown
abbrev pub unknown_to : Rooted → ℕ → ℕ
unknown_to t index = count_by (λ level. is_unknown (pointer_at t level (index / fan ^ level))) (range_with_len 0 (t.levels + 1))

abbrev pub unknown_in : Standing → ℕ → ℕ → Option InodeRecord → ℕ
unknown_in x n index None = 0
unknown_in x n index (Some r) = unknown_to (tree_of x n r) index

-- how many are on the way from the label to a cell of file n
unfoldable pub path : Standing → ℕ → ℕ → ℕ
path x n index = unknown_to x.inode (n / records_each) + unknown_in x n index (file_at x.inode n)

-- the same, of the active table of a volume
abbrev pub path_of : View → ℕ → Head → ℕ → ℕ → ℕ
path_of w s h = path (standing_of w s h.active)

-- ---- what is left to do

-- whether a block under a VVBN holds a known pointer
abbrev pub holds_known : List Held → ℕ → Bool
holds_known ps v = list_any (λ p. is_known p.item.pointer && (not (is_in_label p.item) && (p.item.holder.vvbn == v))) ps

-- whether a split step is still to copy a block, or to make its pointers unknown
abbrev pub is_left : View → ℕ → Head → List Held → ℕ → Bool
is_left w s h ps v = is_held_in w s h v && (is_none (w.entry s v) || holds_known ps v)

-- what is left to do in one volume: the blocks that a split still has to copy, or the pointers of which the place isn't known
unfoldable pub todo_of : View → ℕ → Head → ℕ
todo_of w s h = if is_splitting h.base
    then count_by (is_left w s h (pointers w s h)) (range_with_len 0 h.span)
    else count_by (λ p. is_unknown p.item.pointer) (pointers w s h)

-- and in all
unfoldable pub todo : View → ℕ
todo w = sum_of_heads w (todo_of w)
