-- The blocks of the format, each as its fields in order of offset and as the value that they spell.
use Rattle.std.specs.Prelude.{◌≡◌, ◌≤◌, ◌++◌, ◌%◌, ◌^◌, ℕ, min, Bool, true, false, not, ◌&&◌, List, [], ◌∷◌, length, Result, Ok, take, drop, ◌==◌}
use Rattle.std.specs.List.{All, zip}
use Rattle.fv_codec.specs.declared.shape.Shape.{Shape}
use Rattle.fv_codec.specs.declared.superblock.Super.{Super}
use Rattle.fv_codec.specs.declared.root.Root.{Root}
use Rattle.fv_codec.specs.declared.pointer.Pointer.{Pointer}
use Rattle.fv_codec.specs.declared.node.Node.{Node}
use Rattle.fv_codec.specs.declared.inode.InodeRecord.{InodeRecord}
use Rattle.fv_codec.specs.declared.inode.InodeBlock.{InodeBlock}
use Rattle.fv_codec.specs.declared.label.SnapRecord.{SnapRecord}
use Rattle.fv_codec.specs.declared.label.Label.{Label}
use Rattle.fv_codec.specs.declared.container.ContainerLeaf.{ContainerLeaf}
use Rattle.fv_codec.specs.declared.container.ContainerInner.{ContainerInner}
use Rattle.fv_codec.specs.Bytes.{word_at, half_at, byte_at, word, zeros}
use Rattle.fv_codec.specs.Fields.{Verdict, Field, word_in, half_in, byte_in, step_in, zeros_in, name_in, part_in, items_in, some_in, up_to, name_filled, verdict, verdicts, items, reading}

-- the greatest number of eight bytes
abbrev pub greatest_word : ℕ
greatest_word = 0xffffffffffffffff

-- the greatest place of a block: an aggregate has at most 1,048,576 blocks
abbrev pub last_place : ℕ
last_place = 1048575

-- ---- the superblock: the mark FVAGGR01, and how many blocks the aggregate has

abbrev pub super_fields : List Field
super_fields =
    word_in 0 0x4656414747523031 0x4656414747523031
    ∷ word_in 8 512 1048576
    ∷ zeros_in 16 4080 ∷ []

unfoldable pub super_at : List ℕ → Result Super Shape
super_at block = reading (verdicts super_fields block) (record { blocks = word_at 8 block })

-- the numbers of a superblock are in range
pub record IsSuper (s : Super) : Type 0 where
  pub least : 512 ≤ s.blocks
  pub greatest : s.blocks ≤ 1048576

-- ---- a gate: open where it begins with GATEOPEN, whatever follows

unfoldable pub gate_open : List ℕ → Bool
gate_open block = word_at 0 block == 0x474154454f50454e

-- an open gate as it is written
unfoldable pub open_gate : List ℕ
open_gate = word 0x474154454f50454e ++ zeros 4088

-- ---- a root: the mark FVROOT00, generation, version, and from 64 on the place of each slot's label, or 0

-- a word that is a place or 0
abbrev pub asks_place : List ℕ → Verdict
asks_place item = verdict (word_in 0 0 last_place) item

abbrev pub place_of : List ℕ → ℕ
place_of item = word_at 0 item

abbrev pub root_fields : List Field
root_fields =
    word_in 0 0x4656524f4f543030 0x4656524f4f543030
    ∷ word_in 8 0 greatest_word
    ∷ word_in 16 1 1
    ∷ zeros_in 24 40
    ∷ items_in 64 64 8 asks_place
    ∷ zeros_in 576 3520 ∷ []

unfoldable pub root_at : List ℕ → Result Root Shape
root_at block = reading (verdicts root_fields block) (record {
  generation = word_at 8 block;
  version = word_at 16 block;
  labels = items 64 8 place_of (drop 64 block);
})

-- the numbers of a root are in range
pub record IsRoot (r : Root) : Type 0 where
  pub least : 1 ≤ r.version
  pub greatest : r.version ≤ 1
  pub labels : All (λ place. place ≤ last_place) r.labels

-- ---- a pointer: VVBN, PVBN and stamp, all 0 in a hole; where it isn't in use it has to be a hole

-- the greatest VVBN and PVBN beside a stamp
abbrev pub pointed : Bool → ℕ → ℕ
pointed used stamp = up_to (used && not (stamp == 0)) last_place

abbrev pub pointer_fields : Bool → List ℕ → List Field
pointer_fields used item =
    word_in 0 0 (pointed used (word_at 16 item))
    ∷ word_in 8 0 (pointed used (word_at 16 item))
    ∷ word_in 16 0 (up_to used greatest_word) ∷ []

unfoldable pub asks_pointer : Bool → List ℕ → Verdict
asks_pointer used item = verdicts (pointer_fields used item) item

unfoldable pub pointer_of : List ℕ → Pointer
pointer_of item = record { vvbn = word_at 0 item; pvbn = word_at 8 item; stamp = word_at 16 item }

-- the numbers of a pointer are in range
pub record IsPointerIf (used : Bool) (p : Pointer) : Type 0 where
  pub vvbn : p.vvbn ≤ pointed used p.stamp
  pub pvbn : p.pvbn ≤ pointed used p.stamp
  pub stamp : p.stamp ≤ up_to used greatest_word

abbrev pub IsPointer : Pointer → Type 0
IsPointer p = IsPointerIf true p

-- ---- a node: the mark FVNODE00, level, owner, place, and from 1024 on 128 pointers, not all of them holes

abbrev pub is_hole_at : List ℕ → Bool
is_hole_at item = word_at 16 item == 0

abbrev pub node_fields : List Field
node_fields =
    word_in 0 0x46564e4f44453030 0x46564e4f44453030
    ∷ word_in 8 1 3
    ∷ word_in 16 0 greatest_word
    ∷ word_in 24 0 greatest_word
    ∷ zeros_in 32 992
    ∷ items_in 1024 128 24 (asks_pointer true)
    ∷ some_in 1024 128 24 is_hole_at ∷ []

unfoldable pub node_at : List ℕ → Result Node Shape
node_at block = reading (verdicts node_fields block) (record {
  level = word_at 8 block;
  owner = word_at 16 block;
  place = word_at 24 block;
  children = items 128 24 pointer_of (drop 1024 block);
})

-- every pointer is a hole
abbrev pub all_holes : List Pointer → Bool
all_holes [] = true
all_holes (p ∷ ps) = (p.stamp == 0) && all_holes ps

-- the numbers of a node are in range, and not all of its pointers are holes
pub record IsNode (n : Node) : Type 0 where
  pub least : 1 ≤ n.level
  pub greatest : n.level ≤ 3
  pub children : All IsPointer n.children
  pub some : all_holes n.children ≡ false

-- ---- an inode block: the mark FVINODES, its index, and from 256 on 16 records of files, not all of them free

-- a number that says that something is in use where it isn't 0: a name's length, a kind, a parent
abbrev pub is_used : ℕ → Bool
is_used number = not (number == 0)

abbrev pub most_cells : ℕ
most_cells = 2097152

abbrev pub file_fields : List ℕ → List Field
file_fields item =
    byte_in 0 0 64
    ∷ name_in 1 (byte_at 0 item)
    ∷ zeros_in 65 7
    ∷ word_in 72 0 (up_to (is_used (byte_at 0 item)) most_cells)
    ∷ word_in 80 0 (up_to (is_used (byte_at 0 item)) most_cells)
    ∷ word_in 88 0 (up_to (is_used (byte_at 0 item)) 3)
    ∷ part_in 96 (asks_pointer (is_used (byte_at 0 item)))
    ∷ zeros_in 120 120 ∷ []

unfoldable pub asks_file : List ℕ → Verdict
asks_file item = verdicts (file_fields item) item

unfoldable pub file_of : List ℕ → InodeRecord
file_of item = record {
  name_length = byte_at 0 item;
  name = take 64 (drop 1 item);
  length = word_at 72 item;
  reserve = word_at 80 item;
  levels = word_at 88 item;
  root = pointer_of (drop 96 item);
}

-- the numbers of a file's record are in range; a free one is all zero
pub record IsInodeRecord (r : InodeRecord) : Type 0 where
  pub name_length : r.name_length ≤ 64
  pub name_long : length r.name ≡ 64
  pub name : name_filled r.name_length r.name ≡ Ok tt
  pub length : r.length ≤ up_to (is_used r.name_length) most_cells
  pub reserve : r.reserve ≤ up_to (is_used r.name_length) most_cells
  pub levels : r.levels ≤ up_to (is_used r.name_length) 3
  pub root : IsPointerIf (is_used r.name_length) r.root

abbrev pub is_free_at : List ℕ → Bool
is_free_at item = byte_at 0 item == 0

abbrev pub inodes_fields : List Field
inodes_fields =
    word_in 0 0x4656494e4f444553 0x4656494e4f444553
    ∷ word_in 8 0 greatest_word
    ∷ zeros_in 16 240
    ∷ items_in 256 16 240 asks_file
    ∷ some_in 256 16 240 is_free_at ∷ []

unfoldable pub inodes_at : List ℕ → Result InodeBlock Shape
inodes_at block = reading (verdicts inodes_fields block) (record {
  index = word_at 8 block;
  files = items 16 240 file_of (drop 256 block);
})

-- every record is free
abbrev pub all_free : List InodeRecord → Bool
all_free [] = true
all_free (r ∷ rs) = (r.name_length == 0) && all_free rs

-- the numbers of an inode block are in range, and not all of its records are free
pub record IsInodeBlock (b : InodeBlock) : Type 0 where
  pub files : All IsInodeRecord b.files
  pub some : all_free b.files ≡ false

-- ---- a container's inner node: the mark FVCINNER, level, place, and from 1024 on the place of each child, or 0

abbrev pub inner_fields : List Field
inner_fields =
    word_in 0 0x465643494e4e4552 0x465643494e4e4552
    ∷ word_in 8 1 2
    ∷ word_in 16 0 greatest_word
    ∷ zeros_in 24 1000
    ∷ items_in 1024 256 8 asks_place
    ∷ zeros_in 3072 1024 ∷ []

unfoldable pub inner_at : List ℕ → Result ContainerInner Shape
inner_at block = reading (verdicts inner_fields block) (record {
  level = word_at 8 block;
  place = word_at 16 block;
  children = items 256 8 place_of (drop 1024 block);
})

-- the numbers of an inner node are in range
pub record IsContainerInner (n : ContainerInner) : Type 0 where
  pub least : 1 ≤ n.level
  pub greatest : n.level ≤ 2
  pub children : All (λ place. place ≤ last_place) n.children

-- ---- a container's leaf: the mark FVCLEAF0, its index, and from 1024 on 256 entries, a PVBN and a kind; a hole has kind 0 and PVBN 0
-- Its form is said for any greatest kind.

-- the kinds of a block are 1 to 8
abbrev pub greatest_kind : ℕ
greatest_kind = 8

abbrev pub entry_fields : ℕ → List ℕ → List Field
entry_fields most item =
    word_in 0 0 (up_to (is_used (half_at 8 item)) last_place)
    ∷ half_in 8 0 most ∷ []

unfoldable pub asks_entry : ℕ → List ℕ → Verdict
asks_entry most item = verdicts (entry_fields most item) item

abbrev pub kind_of : List ℕ → ℕ
kind_of item = half_at 8 item

abbrev pub leaf_fields : ℕ → List Field
leaf_fields most =
    word_in 0 0x4656434c45414630 0x4656434c45414630
    ∷ word_in 8 0 greatest_word
    ∷ zeros_in 16 1008
    ∷ items_in 1024 256 12 (asks_entry most) ∷ []

unfoldable pub leaf_in : ℕ → List ℕ → Result ContainerLeaf Shape
leaf_in most block = reading (verdicts (leaf_fields most) block) (record {
  index = word_at 8 block;
  pvbns = items 256 12 place_of (drop 1024 block);
  kinds = items 256 12 kind_of (drop 1024 block);
})

abbrev pub leaf_at : List ℕ → Result ContainerLeaf Shape
leaf_at = leaf_in greatest_kind

-- the numbers of an entry are in range
abbrev pub IsEntryIn : ℕ → ℕ × ℕ → Type 0
IsEntryIn most entry = (entry.0 ≤ up_to (is_used entry.1) last_place) × (entry.1 ≤ most)

abbrev pub IsEntry : ℕ × ℕ → Type 0
IsEntry = IsEntryIn greatest_kind

-- the numbers of a leaf are in range
pub record IsLeafIn (most : ℕ) (l : ContainerLeaf) : Type 0 where
  pub entries : All (IsEntryIn most) (zip l.pvbns l.kinds)

abbrev pub IsContainerLeaf : ContainerLeaf → Type 0
IsContainerLeaf = IsLeafIn greatest_kind

-- ---- a label: the mark FVLABEL0, the volume's name and numbers, and from 256 on 24 records of snapshots

abbrev pub snap_fields : List ℕ → List Field
snap_fields item =
    word_in 0 0 64
    ∷ name_in 8 (word_at 0 item)
    ∷ word_in 72 0 (up_to (is_used (word_at 0 item)) 2)
    ∷ part_in 80 (asks_pointer (is_used (word_at 0 item)))
    ∷ zeros_in 104 24 ∷ []

unfoldable pub asks_snap : List ℕ → Verdict
asks_snap item = verdicts (snap_fields item) item

unfoldable pub snap_of : List ℕ → SnapRecord
snap_of item = record {
  name_length = word_at 0 item;
  name = take 64 (drop 8 item);
  levels = word_at 72 item;
  root = pointer_of (drop 80 item);
}

-- the numbers of a snapshot's record are in range; a free one is all zero
pub record IsSnapRecord (s : SnapRecord) : Type 0 where
  pub name_length : s.name_length ≤ 64
  pub name_long : length s.name ≡ 64
  pub name : name_filled s.name_length s.name ≡ Ok tt
  pub levels : s.levels ≤ up_to (is_used s.name_length) 2
  pub root : IsPointerIf (is_used s.name_length) s.root

abbrev pub most_stamps : ℕ
most_stamps = 2 ^ 62

-- from 120 on: the parent's slot plus 1, the base snapshot's map slot, splitting and known
abbrev pub label_fields : List ℕ → List Field
label_fields block =
    word_in 0 0x46564c4142454c30 0x46564c4142454c30
    ∷ word_in 8 1 64
    ∷ name_in 16 (word_at 8 block)
    ∷ word_in 80 0 2
    ∷ word_in 88 1 (min 500000 (word_at 96 block))
    ∷ word_in 96 2 1000000
    ∷ step_in 104 4096 4096 1048576
    ∷ word_in 112 0 most_stamps
    ∷ word_in 120 0 64
    ∷ word_in 128 (up_to (is_used (word_at 120 block)) 1) (up_to (is_used (word_at 120 block)) 24)
    ∷ word_in 136 0 (up_to (is_used (word_at 120 block)) 1)
    ∷ word_in 144 0 (up_to (word_at 136 block == 0) 1)
    ∷ word_in 152 0 last_place
    ∷ word_in 160 1 2
    ∷ word_in 168 0 2
    ∷ part_in 176 (asks_pointer true)
    ∷ zeros_in 200 56
    ∷ items_in 256 24 128 asks_snap
    ∷ zeros_in 3328 768 ∷ []

unfoldable pub label_at : List ℕ → Result Label Shape
label_at block = reading (verdicts (label_fields block) block) (record {
  name_length = word_at 8 block;
  name = take 64 (drop 16 block);
  kind = word_at 80 block;
  size = word_at 88 block;
  most = word_at 96 block;
  span = word_at 104 block;
  now = word_at 112 block;
  parent = word_at 120 block;
  base_slot = word_at 128 block;
  splitting = word_at 136 block;
  known = word_at 144 block;
  container = word_at 152 block;
  height = word_at 160 block;
  levels = word_at 168 block;
  root = pointer_of (drop 176 block);
  snapshots = items 24 128 snap_of (drop 256 block);
})

-- the numbers of a label are in range
pub record IsLabel (l : Label) : Type 0 where
  pub name_least : 1 ≤ l.name_length
  pub name_greatest : l.name_length ≤ 64
  pub name : name_filled l.name_length l.name ≡ Ok tt
  pub kind : l.kind ≤ 2
  pub size_least : 1 ≤ l.size
  pub size_greatest : l.size ≤ min 500000 l.most
  pub most_least : 2 ≤ l.most
  pub most_greatest : l.most ≤ 1000000
  pub span_least : 4096 ≤ l.span
  pub span_greatest : l.span ≤ 1048576
  pub span_step : l.span % 4096 ≡ 0
  pub now : l.now ≤ most_stamps
  pub parent : l.parent ≤ 64
  pub base_least : up_to (is_used l.parent) 1 ≤ l.base_slot
  pub base_greatest : l.base_slot ≤ up_to (is_used l.parent) 24
  pub splitting : l.splitting ≤ up_to (is_used l.parent) 1
  pub known : l.known ≤ up_to (l.splitting == 0) 1
  pub container : l.container ≤ last_place
  pub height_least : 1 ≤ l.height
  pub height_greatest : l.height ≤ 2
  pub levels : l.levels ≤ 2
  pub root : IsPointer l.root
  pub snapshots : All IsSnapRecord l.snapshots
