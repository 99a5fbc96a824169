-- How many cells and marks stand in a table, and how many a change adds or takes.
--
-- A position is a place of a table where a cell or a mark stands. A volume without snapshots and base is charged for its positions.
-- A stamp that changes leaves a position one, so it isn't counted.
use Rattle.std.specs.Prelude.{◌≡◌, ℕ, ◌+◌, ◌-◌, ◌/◌, ◌^◌, true, false, not, ◌&&◌, cond, nat_lt, nat_le, List, [], ◌∷◌, ◌++◌, map, filter, flat_map, sum_by, count_by, Some, None}
use Rattle.std.specs.List.{list_any, range_with_len}
use Rattle.std.specs.Option.{option_map_or}
use Rattle.std.specs.Ordering.{eq_by_cmp}
use Rattle.std.specs.FinMap as fin
use Rattle.std.specs.FinSet as set
use Rattle.fv_model.specs.Trees.{fan, spot_cmp, Tree, levels_with, spots_over, holds_one}
use Rattle.fv_model.specs.Tables.{File, Table, inode_cell}
use Rattle.fv_model.specs.Places.{OfFile, placed, Place, place_cmp, Id, Ids, id_cmp, stamps_of}
use Rattle.fv_model.specs.Volumes.{Volume}
use Rattle.fv_model.specs.Space.{ids_left_out, kept_ids}
use Rattle.fv_laws.specs.Paths.{rm_path}

-- the positions of a table: those of its inode file, and those of each file
unfoldable pub positions : Table → ℕ
positions t = fin.len t.inode.stamps + sum_by (λ e. fin.len e.1.tree.stamps) (fin.entries t.files)

-- ---- what a write adds to a tree

-- how many positions there are on the path over a cell: the cell itself, and the marks over it
unfoldable pub found_over : Tree → ℕ → ℕ
found_over t i = count_by (λ k. fin.contains_key t.stamps (k, i / fan ^ k)) (range_with_len 0 (t.levels + 1))

-- How many positions a write of cell i adds: its path, as far as that doesn't stand. Where levels grow over cells, each new level gets a
-- mark over those cells, too; in the topmost level that is the mark over the new cell.
unfoldable pub added_by : Tree → ℕ → ℕ
added_by t i =
    (levels_with t.levels i + 1 - found_over t i)
    + cond (nat_lt 0 (fin.len t.stamps)) (levels_with t.levels i - t.levels - 1) 0

-- ---- what a removal takes from a tree

-- how many positions go with the cells `gone`: the different places on the paths over them, of which the range holds no cell of `left`
unfoldable pub taken_by : Tree → List ℕ → List ℕ → ℕ
taken_by t gone left = set.len (set.from_list {R = spot_cmp} (filter (λ p. not (holds_one left p)) (flat_map (spots_over t.levels) gone)))

-- The same, counted level by level, in a tree of so many levels: the places over cells that go, and over none that is left.
abbrev pub taken_over : ℕ → List ℕ → List ℕ → ℕ
taken_over levels gone left =
    sum_by (λ k. count_by (λ p. holds_one gone (k, p) && not (holds_one left (k, p))) (range_with_len 0 (fan ^ (levels - k)))) (range_with_len 0 (levels + 1))

-- the cells of a file that a cut to a length takes, and those that it leaves
abbrev pub cells_cut : File → ℕ → List ℕ
cells_cut f length = filter (λ i. nat_le length i) (fin.keys f.blocks)

abbrev pub cells_left : File → ℕ → List ℕ
cells_left f length = fin.keys (fin.retain_keys f.blocks (λ i. nat_lt i length))

-- how many positions a cut of a file takes
abbrev pub taken_by_cut : File → ℕ → ℕ
taken_by_cut f length = taken_by f.tree (cells_cut f length) (cells_left f length)

-- how many positions the removal of file n takes: all of the file's, and those of the inode file that no other file needs
abbrev pub taken_by_rm : Table → ℕ → File → ℕ
taken_by_rm t n f = fin.len f.tree.stamps + taken_by t.inode (inode_cell n ∷ []) (map inode_cell (fin.keys (fin.remove t.files n)))

-- ---- volumes

-- a volume without snapshots and base
pub record IsAlone (x : Volume) : Type 0 where
  pub snapshots : x.snapshots ≡ fin.empty
  pub base : x.base ≡ None

-- no file of a table has a reserve
abbrev pub HasNoReserve : Table → Type 0
HasNoReserve t = (n : ℕ) (f : File) → fin.get t.files n ≡ Some f → f.reserve ≡ 0

-- the ids that a volume is charged for, or isn't, whatever its active table has: those of snapshots, and those of a base that are left out
abbrev pub settled_ids : Volume → Ids
settled_ids x = set.union (kept_ids x) (ids_left_out x.base)

-- the id at a place of a table, where one stands
abbrev pub id_at : Table → Place → List Id
id_at t p = option_map_or (λ s. (p, s) ∷ []) (fin.get (stamps_of t) p) []

-- A change along a path gives its places one stamp, or leaves nothing there. All other places have what they had.
pub record IsAlong (stamp : ℕ) (path : List Place) (before after : Table) : Type 0 where
  pub on : (p : Place) (u : ℕ) → list_any (eq_by_cmp place_cmp p) path ≡ true → fin.get (stamps_of after) p ≡ Some u → u ≡ stamp
  pub off : (p : Place) → list_any (eq_by_cmp place_cmp p) path ≡ false → fin.get (stamps_of after) p ≡ fin.get (stamps_of before) p

-- the places that the removal of file n changes: all of the file's, and its cell of the inode file with the marks over it
abbrev pub rm_places : Table → ℕ → File → List Place
rm_places t n f = map (placed (OfFile n)) (fin.keys f.tree.stamps) ++ rm_path t n

-- no settled id has the stamp of the next change
abbrev pub IsNextNew : Volume → Type 0
IsNextNew x = (p : Place) → set.contains (settled_ids x) (p, x.now + 1) ≡ false

-- How many ids a change along a path replaces or removes though they stay charged, or weren't charged: those of the path that are
-- settled. There are none in a volume without snapshots and base.
unfoldable pub staying : Volume → List Place → ℕ
staying x path = set.len (set.from_list {R = id_cmp} (filter (set.contains (settled_ids x)) (flat_map (id_at x.active) path)))
