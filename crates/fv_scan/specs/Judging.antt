-- What is said of a block by itself.
use Rattle.std.specs.Prelude.{ℕ, true, false, List, map, count_by, Result, Ok, Err, ◌==◌, if◌then◌else◌}
use Rattle.fv_codec.specs.declared.shape.Shape.{Shape}
use Rattle.fv_codec.specs.declared.pointer.Pointer.{Pointer}
use Rattle.fv_codec.specs.declared.node.Node.{Node}
use Rattle.fv_codec.specs.declared.inode.InodeRecord.{InodeRecord}
use Rattle.fv_codec.specs.declared.inode.InodeBlock.{InodeBlock}
use Rattle.fv_codec.specs.Blocks.{node_at, inodes_at}
use Rattle.fv_image.specs.HintRules.{is_known, is_unknown}
use Rattle.fv_scan.specs.declared.item.Item.{Item}
use Rattle.fv_scan.specs.declared.item.Judged.{Judged}

-- of a block with its shape, in which these pointers stand
abbrev pub said : List Pointer → Judged
said pointers = record { shaped = true; want = 0; found = 0; known = count_by is_known pointers; unknown = count_by is_unknown pointers }

-- of a block without its shape
abbrev pub unshaped : Shape → Judged
unshaped shape = record { shaped = false; want = shape.want; found = shape.found; known = 0; unknown = 0 }

abbrev pub judged_node : Result Node Shape → Judged
judged_node (Ok n) = said n.children
judged_node (Err shape) = unshaped shape

-- the root pointers of files, those of free records among them, which are holes
abbrev pub roots : List InodeRecord → List Pointer
roots files = map (λ f. f.root) files

abbrev pub judged_inodes : Result InodeBlock Shape → Judged
judged_inodes (Ok b) = said (roots b.files)
judged_inodes (Err shape) = unshaped shape

-- of a block as one of its kind: 5 is an inode block, all others are nodes
unfoldable pub judgement : Item → Judged
judgement item = if item.kind == 5 then judged_inodes (inodes_at item.body) else judged_node (node_at item.body)
