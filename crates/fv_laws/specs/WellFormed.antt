-- Well-formed machines: what holds of every machine that commands lead to, and asks no more than that an image is sound.
use Rattle.std.specs.Prelude.{◌≡◌, ℕ, ◌+◌, ◌/◌, ◌^◌, ◌<◌, ◌≤◌, true, false, ◌&&◌, nat_le, List, length, map, Some}
use Rattle.std.specs.List.{AllByRecursion}
use Rattle.std.specs.Option.{is_some}
use Rattle.std.specs.FinMap as fin
use Rattle.std.specs.FinSet as set
use Rattle.fv_model.specs.Numbers.{is_reserve, most_volumes, most_snapshots, most_files, most_changes, greatest_span}
use Rattle.fv_model.specs.Trees.{fan, Spot, Tree, least_levels, holds_one}
use Rattle.fv_model.specs.Tables.{File, Table, inode_cell}
use Rattle.fv_model.specs.Volumes.{Base, Volume}
use Rattle.fv_model.specs.Machines.{Machine}
use Rattle.fv_model.specs.Space.{base_ids}
use Rattle.fv_model.specs.Refusals.{is_splitting}

-- a tree over these cells, after so many changes, with a start of its levels
pub record IsTree (now start : ℕ) (cells : List ℕ) (t : Tree) : Type 0 where
  -- the levels are at least the start, and that alone where there is no cell; they reach each cell
  pub starts : start ≤ t.levels
  pub shrinks : length cells ≡ 0 → t.levels ≡ start
  pub covers : AllByRecursion (λ i. i < fan ^ t.levels) cells
  -- a stamp stands exactly at the ranges of levels 0 and up that hold a cell
  pub exact : (p : Spot) → is_some (fin.get t.stamps p) ≡ (nat_le p.0 t.levels && holds_one cells p)
  -- it is that of a change so far, and a mark's is at least those under it
  pub stamps : (p : Spot) (s : ℕ) → fin.get t.stamps p ≡ Some s → s ≤ now
  pub rises : (k i s u : ℕ) → fin.get t.stamps (k, i) ≡ Some s → fin.get t.stamps (k + 1, i / fan) ≡ Some u → s ≤ u

pub record IsWellFile (now : ℕ) (f : File) : Type 0 where
  -- the reserve and the length are in their range
  pub reserve : is_reserve f.reserve ≡ true
  pub range : is_reserve f.length ≡ true
  pub tree : IsTree now (least_levels f.reserve) (fin.keys f.blocks) f.tree
  -- three levels reach every index
  pub levels : f.tree.levels ≤ 3
  -- the length is above each cell
  pub length : AllByRecursion (λ i. i < f.length) (fin.keys f.blocks)

pub record IsWellTable (now : ℕ) (t : Table) : Type 0 where
  pub files : (n : ℕ) (f : File) → fin.get t.files n ≡ Some f → IsWellFile now f
  -- no two files of one name
  pub names : (n k : ℕ) (f g : File) → fin.get t.files n ≡ Some f → fin.get t.files k ≡ Some g → f.name ≡ g.name → n ≡ k
  -- the inode file has a cell exactly where a file is
  pub inode : IsTree now 0 (map inode_cell (fin.keys t.files)) t.inode
  -- two levels reach the cells of all numbers that there are
  pub levels : t.inode.levels ≤ 2
  pub numbers : (n : ℕ) (f : File) → fin.get t.files n ≡ Some f → n < most_files
  pub count : fin.len t.files ≤ most_files

pub record IsWellVolume (x : Volume) : Type 0 where
  pub changes : x.now ≤ most_changes
  pub active : IsWellTable x.now x.active
  pub snapshots : (s : List ℕ) (t : Table) → fin.get x.snapshots s ≡ Some t → IsWellTable x.now t
  pub base : (b : Base) → x.base ≡ Some b → IsWellTable x.now b.table
  pub kept : fin.len x.snapshots ≤ most_snapshots
  pub size : x.size ≤ x.most
  -- the span has room for the greatest size and the base's ids, with 256 to spare, and is within its limit
  pub room : x.most + set.len (base_ids x.base) + 256 ≤ x.span
  pub narrow : x.span ≤ greatest_span

-- what a clone stands on: a volume that is there, is known and isn't being split, whose snapshot is the base's table, and whose span
-- isn't greater than the clone's
pub record IsParent (m : Machine) (clone : Volume) (b : Base) : Type 0 where
  pub parent : Volume
  pub there : fin.get m.volumes b.parent ≡ Some parent
  pub held : fin.get parent.snapshots b.snapshot ≡ Some b.table
  pub known : parent.known ≡ true
  pub whole : is_splitting parent ≡ false
  pub span : parent.span ≤ clone.span

-- bases lead from volume to volume, and each time to a lesser rank, so that every such chain ends
pub record AreRooted (m : Machine) : Type 0 where
  pub rank : List ℕ → ℕ
  pub falls : (name : List ℕ) (x : Volume) (b : Base) → fin.get m.volumes name ≡ Some x → x.base ≡ Some b → rank b.parent < rank name

pub record IsWell (m : Machine) : Type 0 where
  pub volumes : (name : List ℕ) (x : Volume) → fin.get m.volumes name ≡ Some x → IsWellVolume x
  pub count : fin.len m.volumes ≤ most_volumes
  pub bases : (name : List ℕ) (x : Volume) (b : Base) → fin.get m.volumes name ≡ Some x → x.base ≡ Some b → IsParent m x b
  pub rooted : AreRooted m
