-- Nodes and inode blocks with other hints are in range as they were.
use Rattle.std.proofs.Common.{◌≡◌, Bool, true, ◌&&◌, List, [], ◌∷◌, map, get_or, refl, ap, ◌∙◌, arith}
use Rattle.std.specs.Prelude.{◌==◌}
use Rattle.std.proofs.lemmas.List.Elements.{All-map}
use Rattle.fv_codec.specs.declared.pointer.Pointer.{Pointer}
use Rattle.fv_codec.specs.declared.node.Node.{Node}
use Rattle.fv_codec.specs.declared.inode.InodeRecord.{InodeRecord}
use Rattle.fv_codec.specs.declared.inode.InodeBlock.{InodeBlock}
use Rattle.fv_codec.specs.Blocks.{is_used, all_holes, all_free, IsPointerIf, IsPointer, IsNode, IsInodeRecord, IsInodeBlock}
use Rattle.fv_tables.specs.Alike.{hintless, hintless_record}
use Rattle.fv_places.specs.Changed.{with_root, hintless_node, hintless_inodes}

-- a record with another root is in range where the root is
root_range : (r : InodeRecord) (p : Pointer) → IsInodeRecord r → IsPointerIf (is_used r.name_length) p → IsInodeRecord (with_root r p)
root_range r p is root = record {
  name_length = is.name_length;
  name_long = is.name_long;
  name = is.name;
  length = is.length;
  reserve = is.reserve;
  levels = is.levels;
  root = root;
}

-- ---- blank

hintless_range : (used : Bool) (p : Pointer) → IsPointerIf used p → IsPointerIf used (hintless p)
hintless_range used p is = record { vvbn = is.vvbn; pvbn = omega arith; stamp = is.stamp }

holes_blank : (ps : List Pointer) → all_holes (map hintless ps) ≡ all_holes ps
holes_blank [] = refl
holes_blank (p ∷ ps) = ap (λ (b : Bool). (p.stamp == 0) && b) (holes_blank ps)

free_blank : (rs : List InodeRecord) → all_free (map hintless_record rs) ≡ all_free rs
free_blank [] = refl
free_blank (r ∷ rs) = ap (λ (b : Bool). (r.name_length == 0) && b) (free_blank rs)

pub node_blank : (n : Node) → IsNode n → IsNode (hintless_node n)
node_blank n is = record {
  least = is.least;
  greatest = is.greatest;
  children = All-map IsPointer hintless n.children (λ k d lt. hintless_range true (get_or n.children k d) (is.children k d lt));
  some = holes_blank n.children ∙ is.some;
}

pub inodes_blank : (b : InodeBlock) → IsInodeBlock b → IsInodeBlock (hintless_inodes b)
inodes_blank b is = record {
  files = All-map IsInodeRecord hintless_record b.files (λ k d lt. let r = get_or b.files k d in
      root_range r (hintless r.root) (is.files k d lt) (hintless_range (is_used r.name_length) r.root (is.files k d lt).root));
  some = free_blank b.files ∙ is.some;
}
