-- The rules on what roots reach: the blocks of tables, their pointers, and the volume maps.
use Rattle.std.specs.Prelude.{ℕ, ◌+◌, ◌*◌, min, Bool, true, not, ◌&&◌, ◌||◌, List, [], ◌∷◌, map, take, Option, Result, Ok, Err, nat_lt, nat_le, ◌==◌, if◌then◌else◌}
use Rattle.std.specs.List.{list_all, list_any, range_with_len}
use Rattle.std.specs.Option.{is_some, option_map_or}
use Rattle.fv_codec.specs.declared.shape.Shape.{Shape}
use Rattle.fv_codec.specs.declared.node.Node.{Node}
use Rattle.fv_codec.specs.declared.inode.InodeRecord.{InodeRecord}
use Rattle.fv_codec.specs.declared.inode.InodeBlock.{InodeBlock}
use Rattle.fv_codec.specs.Fields.{Verdict, in_range, verdict_of}
use Rattle.fv_codec.specs.Blocks.{greatest_word, node_at, inodes_at}
use Rattle.fv_model.specs.Spelling.{is_same_name}
use Rattle.fv_model.specs.Machines.{first_block}
use Rattle.fv_model.specs.Space.{map_blocks}
use Rattle.fv_tables.specs.Spelled.{position}
use Rattle.fv_tables.specs.Reached.{Item, items, is_listed}
use Rattle.fv_image.specs.Layout.{block_bits}
use Rattle.fv_image.specs.Views.{Placed, Head, View, Rooted, slots, kind_at, volume_bit}
use Rattle.fv_image.specs.BlockRules.{is_fine, agree}
use Rattle.fv_image.specs.Volumes.{standing_of}
use Rattle.fv_image.specs.Seen.{Reached, Root, VolumeSeen, Seen, own_blocks, roots_of}

-- ---- what is asked of each

-- of each volume
abbrev pub all_volumes : Seen → (ℕ → VolumeSeen → Bool) → Bool
all_volumes w test = list_all (λ s. option_map_or (test s) (w.volume s) true) slots

-- of each root of a volume
abbrev pub all_roots : Seen → (VolumeSeen → Root → Bool) → Bool
all_roots w test = all_volumes w (λ s x. list_all (test x) x.roots)

-- of each pointer that a root reaches
abbrev pub all_reached : Seen → (VolumeSeen → Reached → Bool) → Bool
all_reached w test = all_roots w (λ x r. list_all (test x) r.reached)

-- ---- kinds

-- the kind of the block that a pointer of a position leads to: data and nodes of files, inode blocks and nodes of the inode file
abbrev pub kind_of : Item → ℕ
kind_of e = if e.owner == greatest_word then 5 + min e.level 2 else 1 + e.level

-- what the shape of a block says as data, as an inode block, and as a node
abbrev pub shape_for : Item → List ℕ → Verdict
shape_for e block = if e.level == 0
    then (if e.owner == greatest_word then verdict_of (inodes_at block) else Ok tt)
    else verdict_of (node_at block)

abbrev pub block_is : (List ℕ → Bool) → Option Placed → Bool
block_is test at = option_map_or (λ x. test x.block) at true

-- Rule 1, shapes: each block that a root reaches has that of its kind. Data can be any bytes.
unfoldable pub has_reached_shapes : Seen → Bool
has_reached_shapes w = all_reached w (λ x e. block_is (λ block. is_fine (shape_for e.item block)) e.at)

-- a hint that is unknown, or a place where a block of a volume can lie
abbrev pub is_hint : ℕ → ℕ → Bool
is_hint blocks p = (p == 0) || (nat_le (first_block blocks) p && nat_lt p blocks)

-- Rule 2, ranges: each pointer's VVBN is below the span, and its PVBN is unknown or lies where a block of a volume can. No position
-- passes the last cell or the last file, since the levels of a file and of an inode file have their bounds by shape.
unfoldable pub has_pointers_in_range : Seen → Bool
has_pointers_in_range w = all_reached w (λ x e. nat_lt e.item.pointer.vvbn x.head.span && is_hint w.blocks e.item.pointer.pvbn)

-- what a node says of its level, owner and place, and an inode block of its index
abbrev pub node_is : Item → Result Node Shape → Bool
node_is e (Ok n) = is_fine (position e.owner e.level e.place n)
node_is e (Err fault) = true

abbrev pub inodes_are : Item → Result InodeBlock Shape → Bool
inodes_are e (Ok b) = is_fine (in_range e.place e.place b.index)
inodes_are e (Err fault) = true

abbrev pub is_of_position : Item → List ℕ → Bool
is_of_position e block = if e.level == 0
    then (not (e.owner == greatest_word) || inodes_are e (inodes_at block))
    else node_is e (node_at block)

-- Rule 4, positions: each node and inode block that a root reaches is the one of its position.
unfoldable pub has_reached_positions : Seen → Bool
has_reached_positions w = all_reached w (λ x e. block_is (is_of_position e.item) e.at)

-- no name stands twice
abbrev pub are_distinct : List (List ℕ) → Bool
are_distinct [] = true
are_distinct (name ∷ names) = not (list_any (is_same_name name) names) && are_distinct names

-- Rule 4, names: no two files of a table have one name.
unfoldable pub has_distinct_files : Seen → Bool
has_distinct_files w = all_roots w (λ x r. are_distinct (map (λ (f : ℕ × InodeRecord). take f.1.name_length f.1.name) r.files))

-- the same position of the same tree
abbrev pub is_same_position : Item → Item → Bool
is_same_position a b = (a.owner == b.owner) && ((a.level == b.level) && (a.place == b.place))

-- Rule 5, reach: each root reaches no VVBN that is a hole along its chain, and none at two positions.
unfoldable pub reaches_once : Seen → Bool
reaches_once w = all_roots w (λ x r. list_all (λ a. is_some a.at
    && list_all (λ b. not (a.item.pointer.vvbn == b.item.pointer.vvbn) || is_same_position a.item b.item) r.reached) r.reached)

-- whether the map of a root is what it reaches
abbrev pub is_reach : View → ℕ → Head → ℕ × Rooted → Bool
is_reach w s h r = list_all (λ v. agree (volume_bit w s h.span r.0 v) (is_listed (items (standing_of w s r.1)) v)) (range_with_len 0 (block_bits * map_blocks h.span))

-- of each volume of a view
abbrev pub all_of_view : View → (ℕ → Head → Bool) → Bool
all_of_view w test = list_all (λ s. option_map_or (test s) (w.head s) true) slots

-- Rule 6, volume maps: a bit of the map of each used slot is set exactly where the slot's root reaches that VVBN.
unfoldable pub has_maps_of_reach : View → Bool
has_maps_of_reach w = all_of_view w (λ s h. list_all (is_reach w s h) (roots_of h))

-- of each block that a volume has beside what its roots reach, by its kind and its entry
abbrev pub all_own_blocks : View → (ℕ → Option Placed → Bool) → Bool
all_own_blocks w test = all_of_view w (λ s h. list_all (λ (b : ℕ × ℕ). test b.1 (w.entry s b.0)) (own_blocks w.version h))

-- Rule 2, map blocks: those of used slots are there.
unfoldable pub has_map_blocks : View → Bool
has_map_blocks w = all_own_blocks w (λ kind o. is_some o)

-- Rule 9, kinds of map blocks: each of those is one.
unfoldable pub has_map_kinds : View → Bool
has_map_kinds w = all_own_blocks w (λ kind o. kind_at o == kind)

-- Rule 9, kinds: the entry that each reached VVBN is found at has the kind of its block.
unfoldable pub has_reached_kinds : Seen → Bool
has_reached_kinds w = all_reached w (λ x e. kind_at e.at == kind_of e.item)
