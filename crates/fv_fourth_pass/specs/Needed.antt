-- What the reserves of files still need, counted pointer by pointer along a walk of an active table.
use Rattle.std.specs.Prelude.{◌≡◌, ◌<◌, ℕ, ◌+◌, ◌%◌, ◌^◌, Bool, true, cond, not, ◌&&◌, ◌||◌, ◌++◌, List, [], ◌∷◌, get_or, length, map, nat_lt, sum_by, Some, ◌==◌, if◌then◌else◌}
use Rattle.std.specs.List.{range_with_len}
use Rattle.fv_bits.specs.Members.{is_member}
use Rattle.fv_codec.specs.Blocks.{greatest_word}
use Rattle.fv_codec.specs.declared.inode.InodeRecord.{InodeRecord}
use Rattle.fv_model.specs.Numbers.{ceil_div}
use Rattle.fv_model.specs.Trees.{fan}
use Rattle.fv_tables.specs.Reached.{Item, is_listed}
use Rattle.fv_tables.specs.Told.{free_record, records_each}
use Rattle.fv_image.specs.Chains.{place}
use Rattle.fv_image.specs.Views.{Head, Placed, Snap, View}
use Rattle.fv_image.specs.Seen.{seen}
use Rattle.fv_image.specs.Staying.{base_items, items_of}
use Rattle.fv_image.specs.ReachRules.{has_pointers_in_range}
use Rattle.fv_image.specs.TableRules.{has_one_to_one}
use Rattle.fv_image.specs.VolumeRules.{has_distinct_snapshots}
use Rattle.fv_image.proofs.OwnUses.{HasLabelNumbers}
use Rattle.fv_image.proofs.CountedCharge.{HasParentNumbers}
use Rattle.fv_walk.specs.declared.below.Below.{Below}
use Rattle.fv_walk.specs.declared.below.Below.TheVariants.{Nothing, Node, Inodes}
use Rattle.fv_walk.specs.declared.visit.Visit.{Visit}
use Rattle.fv_walk.specs.Sights.{Sight}

abbrev pub one_if : Bool → ℕ
one_if b = cond b 1 0

-- how many ranges of a level meet the indexes below a reserve
abbrev pub ranges_at : ℕ → ℕ → ℕ
ranges_at reserve level = ceil_div reserve (fan ^ level)

-- those of all levels of a tree
unfoldable pub ranges : ℕ → ℕ → ℕ
ranges reserve levels = sum_by (ranges_at reserve) (range_with_len 0 (levels + 1))

-- how many of the blocks over a file's record are shared: the inode block to which a pointer leads, the node over it, and the root of the
-- inode file
abbrev pub shared_over : List Bool → Bool → Visit → ℕ
shared_over shared top v =
    one_if (is_member shared v.pointer.vvbn)
    + (cond (nat_lt 0 v.levels) (one_if (is_member shared v.holder.vvbn)) 0 + cond (nat_lt 1 v.levels) (one_if top) 0)

-- the places that a record's reserve stands for in the tree of its file, and those over the record that are shared; none of a free record
abbrev pub reserved_of : ℕ → InodeRecord → ℕ
reserved_of over r = if (r.name_length == 0) || (r.reserve == 0) then 0 else ranges r.reserve r.levels + over

abbrev pub reserved_below : ℕ → Below → ℕ
reserved_below over Nothing = 0
reserved_below over (Node n) = 0
reserved_below over (Inodes b) = sum_by (reserved_of over) b.files

abbrev pub reserved_in : List Bool → Bool → Sight → ℕ
reserved_in shared top s = reserved_below (shared_over shared top s.visit) s.below

-- the records of the inode block that was shown last
abbrev pub files_after : List InodeRecord → Below → List InodeRecord
files_after fs Nothing = fs
files_after fs (Node n) = fs
files_after fs (Inodes b) = b.files

unfoldable pub files_along : List InodeRecord → List Sight → List InodeRecord
files_along fs [] = fs
files_along fs (s ∷ ss) = files_along (files_after fs s.below) ss

-- a place of a file's tree that its reserve stands for, by records of its inode block, and that isn't shared
abbrev pub is_standing : List Bool → List InodeRecord → Visit → Bool
is_standing shared fs v =
    not (v.owner == greatest_word)
    && (nat_lt v.place (ranges_at (get_or fs (v.owner % records_each) free_record).reserve v.level) && not (is_member shared v.pointer.vvbn))

unfoldable pub standing_along : List Bool → List InodeRecord → List Sight → ℕ
standing_along shared fs [] = 0
standing_along shared fs (s ∷ ss) = one_if (is_standing shared fs s.visit) + standing_along shared (files_after fs s.below) ss

-- what the snapshots of a volume reach
abbrev pub kept_items : View → ℕ → Head → List Item
kept_items w s h = items_of w s (map (λ (p : Snap). (p.slot, p.table)) h.snapshots)

-- The volume of a slot keeps the rules on numbers of labels, names of snapshots, ids and pointers in range, and its blocks are whole. A set
-- has the VVBNs that its snapshots or its base table reach; the base counts also while the volume is being split.
pub record HasShared (w : View) (s : ℕ) (h : Head) (shared : List Bool) : Type 0 where
  pub low : s < 64
  pub head : w.head s ≡ Some h
  pub numbers : HasLabelNumbers h
  pub parents : HasParentNumbers w h.base
  pub names : has_distinct_snapshots (seen w) ≡ true
  pub ids : has_one_to_one (seen w) ≡ true
  pub ranges : has_pointers_in_range (seen w) ≡ true
  pub whole : (v : ℕ) (x : Placed) → place w s v ≡ Some x → length x.block ≡ 4096
  pub reached : (v : ℕ) → v < h.span → is_member shared v ≡ is_listed (kept_items w s h ++ base_items w h.base) v
