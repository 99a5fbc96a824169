-- The tree of a file, or of a table's inode file: its levels, and the stamps of its cells and marks.
--
-- A cell is an index that was written. Range p of level k holds the indexes from p * 128^k up to (p + 1) * 128^k, and a
-- mark stands for each range of the levels 1 to the tree's levels that holds a cell. Each cell and mark has the stamp of
-- the last change that touched it.
use Rattle.std.specs.Prelude.{ℕ, ◌+◌, ◌-◌, ◌/◌, ◌^◌, Bool, cond, nat_lt, nat_eq, List, [], ◌∷◌, ◌++◌, length, map, filter, flat_map}
use Rattle.std.specs.List.{list_any, prefix_len, range_with_len}
use Rattle.std.specs.declared.cmp.Ordering.{Ordering}
use Rattle.std.specs.Ordering.{nat_cmp, on, then_cmp}
use Rattle.std.specs.FinMap as fin

-- how many ranges of the level below a range holds
abbrev pub fan : ℕ
fan = 128

-- a level, 0 for a cell, and a range of that level
abbrev pub Spot : Type 0
Spot = ℕ × ℕ

abbrev pub spot_cmp : Spot → Spot → Ordering
spot_cmp = then_cmp (on (λ (s : Spot). s.0) nat_cmp) (on (λ (s : Spot). s.1) nat_cmp)

pub record Tree : Type 0 where
  pub levels : ℕ
  pub stamps : fin.FinMap spot_cmp ℕ

-- the least number of levels whose one topmost range holds n indexes
unfoldable pub least_levels : ℕ → ℕ
least_levels n = prefix_len (λ h. nat_lt (fan ^ h) n) (range_with_len 0 n)

-- the levels once index i is written: they grow where it lies past the topmost range, and else stay
unfoldable pub levels_with : ℕ → ℕ → ℕ
levels_with levels i = cond (nat_lt i (fan ^ levels)) levels (least_levels (i + 1))

-- the cell i, and the marks over it
unfoldable pub spots_over : ℕ → ℕ → List Spot
spots_over levels i = map (λ k. (k, i / fan ^ k)) (range_with_len 0 (levels + 1))

-- the marks that a growth of levels makes over the cells that were there: those lie in range 0 of each new level
unfoldable pub spots_grown : Bool → ℕ → ℕ → List Spot
spots_grown any before after = cond any (map (λ k. (k, 0)) (range_with_len (before + 1) (after - before))) []

-- each of these places gets the stamp s
unfoldable pub stamp_spots : ℕ → List Spot → fin.FinMap spot_cmp ℕ → fin.FinMap spot_cmp ℕ
stamp_spots s [] stamps = stamps
stamp_spots s (p ∷ ps) stamps = stamp_spots s ps (fin.insert stamps p s)

-- the places that a write of cell i stamps
abbrev pub written_spots : Tree → ℕ → List Spot
written_spots t i =
    spots_over (levels_with t.levels i) i ++ spots_grown (nat_lt 0 (fin.len t.stamps)) t.levels (levels_with t.levels i)

-- the tree after a change with the stamp s wrote cell i
unfoldable pub written : ℕ → ℕ → Tree → Tree
written s i t = record { levels = levels_with t.levels i; stamps = stamp_spots s (written_spots t i) t.stamps }

-- whether one of these cells lies in the range of a spot
abbrev pub holds_one : List ℕ → Spot → Bool
holds_one cells p = list_any (λ i. nat_eq (i / fan ^ p.0) p.1) cells

-- the tree after a change with the stamp s removed the cells `gone` and left the cells `left`: a mark goes with its last
-- cell, the other marks over a removed cell are stamped, and the levels go back to their start where no cell is left
unfoldable pub erased : ℕ → ℕ → List ℕ → List ℕ → Tree → Tree
erased s start gone left t = record {
  levels = cond (nat_eq (length left) 0) start t.levels;
  stamps = stamp_spots s (filter (holds_one left) (flat_map (spots_over t.levels) gone)) (fin.retain_keys t.stamps (holds_one left));
}
