-- Rule 10, within the tables of a volume and its base table: ids, stamps, lengths and levels.
use Rattle.std.specs.Prelude.{ℕ, Bool, not, ◌&&◌, ◌||◌, List, ◌++◌, map, flat_map, nat_lt, nat_le, ◌==◌, if◌then◌else◌}
use Rattle.std.specs.List.{list_all}
use Rattle.fv_codec.specs.declared.inode.InodeRecord.{InodeRecord}
use Rattle.fv_model.specs.Trees.{least_levels}
use Rattle.fv_tables.specs.Reached.{Item}
use Rattle.fv_image.specs.BlockRules.{agree}
use Rattle.fv_image.specs.Seen.{VolumeSeen, Seen}
use Rattle.fv_image.specs.ReachRules.{all_volumes, all_roots, all_reached, is_same_position}

-- the pointers of all tables of a volume, and of its base table
abbrev pub all_items : VolumeSeen → List Item
all_items x = flat_map (λ r. map (λ e. e.item) r.reached) x.roots ++ map (λ b. b.item) x.base

-- the same owner, level, place and stamp
abbrev pub has_same_id : Item → Item → Bool
has_same_id a b = is_same_position a b && (a.pointer.stamp == b.pointer.stamp)

-- Rule 10, ids: equal ids have equal VVBNs, and equal VVBNs have equal ids.
unfoldable pub has_one_to_one : Seen → Bool
has_one_to_one w = all_volumes w (λ s x. list_all (λ a. list_all (λ b. agree (has_same_id a b) (a.pointer.vvbn == b.pointer.vvbn)) (all_items x)) (all_items x))

-- Rule 10, stamps: none is above the volume's last.
unfoldable pub has_stamps_past : Seen → Bool
has_stamps_past w = all_volumes w (λ s x. list_all (λ e. nat_le e.pointer.stamp x.head.now) (all_items x))

-- whether a pointer stands in a node of its tree, and not in what leads to the tree's root
abbrev pub is_below_mark : Item → Bool
is_below_mark e = nat_lt e.level e.levels

-- Rule 10, marks: none has a stamp below that of a mark or cell directly under it.
unfoldable pub has_marks_over : Seen → Bool
has_marks_over w = all_reached w (λ x e. not (is_below_mark e.item) || nat_le e.item.pointer.stamp e.item.holder.stamp)

-- a cell of a file
abbrev pub is_cell_of : ℕ → Item → Bool
is_cell_of n e = (e.owner == n) && (e.level == 0)

-- Rule 10, lengths: no cell of a file is at or past its length.
unfoldable pub has_cells_within : Seen → Bool
has_cells_within w = all_roots w (λ x r. list_all (λ (f : ℕ × InodeRecord). list_all (λ e. not (is_cell_of f.0 e.item) || nat_lt e.item.place f.1.length) r.reached) r.files)

-- the levels of a tree with this reserve: its start where it has no cell, and at least that where it has
abbrev pub are_levels : ℕ → ℕ → ℕ → Bool
are_levels reserve levels stamp = if stamp == 0 then (levels == least_levels reserve) else nat_le (least_levels reserve) levels

-- Rule 10, levels: each file and each inode file has its start at least, and just that without cells. The reserve of an inode file is 0.
unfoldable pub has_levels : Seen → Bool
has_levels w = all_roots w (λ x r. are_levels 0 r.rooted.levels r.rooted.root.stamp
    && list_all (λ (f : ℕ × InodeRecord). are_levels f.1.reserve f.1.levels f.1.root.stamp) r.files)
