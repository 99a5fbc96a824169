-- How many look-ups a read makes on the way to a cell: what each pointer costs that leads to a block.
--
-- An example: a tree of two levels has cell 300, and all pointers on the way to it cost one look-up each. If nothing on the way changed
-- since the last flush, a read makes three, for the root, the pointer of the upper node and that of the lower one, whatever of it is in
-- memory. If the cell was written since, it makes none, as none of the three has a block that is as it has to be.
use Rattle.std.specs.Prelude.{ℕ, zero, suc, ◌+◌, ◌/◌, ◌^◌, Bool, cond, ◌||◌, ◌==◌}
use Rattle.fv_codec.specs.declared.pointer.Pointer.{Pointer}
use Rattle.fv_model.specs.Trees.{fan}
use Rattle.fv_tree.specs.Spelled.{pointer_at}
use Rattle.fv_tree.specs.Flushing.{Loaded}

-- the look-ups of a pointer that is followed: none where it is a hole, or where what it leads to changed in memory, as that isn't placed yet
abbrev pub load_cost : (Pointer → ℕ) → Bool → Pointer → ℕ
load_cost cost changed p = cond (changed || p.stamp == 0) 0 (cost p)

abbrev pub place_cost : (Pointer → ℕ) → Loaded → ℕ → ℕ → ℕ
place_cost cost s level place = load_cost cost (s.changed level place) (pointer_at s.tree level place)

-- the look-ups of the way to a cell, below so many levels
unfoldable pub cost_below : (Pointer → ℕ) → Loaded → ℕ → ℕ → ℕ
cost_below cost s i zero = 0
cost_below cost s i (suc level) = place_cost cost s level (i / fan ^ level) + cost_below cost s i level

-- the look-ups of the whole way, from the root to the cell
abbrev pub way_cost : (Pointer → ℕ) → Loaded → ℕ → ℕ
way_cost cost s i = cost_below cost s i (suc s.tree.levels)
