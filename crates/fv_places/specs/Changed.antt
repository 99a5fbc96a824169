-- A block in which pointers got other hints, by its form. An example: a node has the pointers 7 (at 300) and 8 (place unknown). Blank, it has
-- 7 and 8, both unknown. All else of it is as it was.
use Rattle.std.specs.Prelude.{◌≡◌, ℕ, Bool, List, map, Option, Some, None, Ok, IfOk, ◌==◌}
use Rattle.std.specs.List.{list_all}
use Rattle.fv_codec.specs.declared.form.Form.{Form}
use Rattle.fv_codec.specs.declared.form.Form.TheVariants.{Node as OfNode, Inodes as OfInodes}
use Rattle.fv_codec.specs.declared.pointer.Pointer.{Pointer}
use Rattle.fv_codec.specs.declared.node.Node.{Node}
use Rattle.fv_codec.specs.declared.inode.InodeRecord.{InodeRecord}
use Rattle.fv_codec.specs.declared.inode.InodeBlock.{InodeBlock}
use Rattle.fv_codec.specs.Blocks.{node_at, inodes_at}
use Rattle.fv_tables.specs.Alike.{hintless, hintless_record}
use Rattle.fv_places.specs.ByKind.{pointers_by}

-- a node with other pointers, and an inode block with other records
abbrev pub with_children : Node → List Pointer → Node
with_children n ps = record { level = n.level; owner = n.owner; place = n.place; children = ps }

abbrev pub with_files : InodeBlock → List InodeRecord → InodeBlock
with_files b rs = record { index = b.index; files = rs }

-- a record with another root
abbrev pub with_root : InodeRecord → Pointer → InodeRecord
with_root r p = record {
  name_length = r.name_length;
  name = r.name;
  length = r.length;
  reserve = r.reserve;
  levels = r.levels;
  root = p;
}

-- ---- blank

abbrev pub hintless_node : Node → Node
hintless_node n = with_children n (map hintless n.children)

abbrev pub hintless_inodes : InodeBlock → InodeBlock
hintless_inodes b = with_files b (map hintless_record b.files)

-- c is b with each place in it unknown
abbrev pub Blanks : Option Form → List ℕ → List ℕ → Type 0
Blanks None b c = c ≡ b
Blanks (Some OfNode) b c = IfOk (node_at b) (λ n. node_at c ≡ Ok (hintless_node n))
Blanks (Some OfInodes) b c = IfOk (inodes_at b) (λ n. inodes_at c ≡ Ok (hintless_inodes n))

-- no place is known in a block
abbrev pub are_blank : List Pointer → Bool
are_blank ps = list_all (λ (p : Pointer). p.pvbn == 0) ps

abbrev pub is_blank : Option Form → List ℕ → Bool
is_blank form b = are_blank (pointers_by form b)

-- ---- what stays

-- c has the shape of b, and the position that b says: a node's level, owner and place, an inode block's index
abbrev pub KeepsPosition : Option Form → List ℕ → List ℕ → Type 0
KeepsPosition None b c = c ≡ b
KeepsPosition (Some OfNode) b c = IfOk (node_at b) (λ n. (ps : List Pointer) × (node_at c ≡ Ok (with_children n ps)))
KeepsPosition (Some OfInodes) b c = IfOk (inodes_at b) (λ n. (rs : List InodeRecord) × (inodes_at c ≡ Ok (with_files n rs)))
