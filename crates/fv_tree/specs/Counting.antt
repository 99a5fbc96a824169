-- How many positions a tree has, how many a write adds, and how many blocks stay charged though it replaces them. A position is a place
-- where a cell or a mark stands.
use Rattle.std.specs.Prelude.{ℕ, ◌+◌, ◌-◌, ◌*◌, ◌/◌, ◌^◌, Bool, not, ◌&&◌, count_by, sum_by, ◌==◌, if◌then◌else◌}
use Rattle.std.specs.List.{range_with_len}
use Rattle.std.specs.FinMap as fin
use Rattle.fv_model.specs.Trees.{fan, levels_with}
use Rattle.fv_tables.specs.Told.{tree_told}
use Rattle.fv_tree.specs.Spelled.{Rooted, pointer_at}
use Rattle.fv_tree.specs.Flushing.{Loaded}

-- how many positions a tree has
abbrev pub positions_of : Rooted → ℕ
positions_of t = fin.len (tree_told t).stamps

-- how many pointers over a cell lead somewhere: those to the cell and to the nodes over it. They are those of the upper levels, since
-- nothing stands under a hole.
unfoldable pub found_at : Rooted → ℕ → ℕ
found_at t i = count_by (λ k. not ((pointer_at t k (i / fan ^ k)).stamp == 0)) (range_with_len 0 (t.levels + 1))

-- how many positions a write of cell i adds to a tree
unfoldable pub added_at : Rooted → ℕ → ℕ
added_at t i =
    (levels_with t.levels i + 1 - found_at t i)
    + (if t.root.stamp == 0 then 0 else levels_with t.levels i - t.levels - 1)

-- whether a place leads to a block that is shared, and doesn't differ from it
abbrev pub is_staying : Loaded → (ℕ → Bool) → ℕ → ℕ → Bool
is_staying s shared level place = not ((pointer_at s.tree level place).stamp == 0) && (not (s.changed level place) && shared (pointer_at s.tree level place).vvbn)

-- how many places over cell i do: the cell's and those of the nodes over it
unfoldable pub staying_at : Loaded → (ℕ → Bool) → ℕ → ℕ
staying_at s shared i = count_by (λ k. is_staying s shared k (i / fan ^ k)) (range_with_len 0 (s.tree.levels + 1))

-- how many places under a place of a level do, itself among them: of each level those of its range
unfoldable pub staying_under : Loaded → (ℕ → Bool) → ℕ → ℕ → ℕ
staying_under s shared level place =
    sum_by (λ k. count_by (is_staying s shared k) (range_with_len (place * fan ^ (level - k)) (fan ^ (level - k)))) (range_with_len 0 (level + 1))

-- how many places of a tree do
abbrev pub staying_all : Loaded → (ℕ → Bool) → ℕ
staying_all s shared = staying_under s shared s.tree.levels 0
