-- The pointers in what a block spells are those under the pointer that leads to it.
use Rattle.std.proofs.Common.{◌≡◌, Bool, true, false, [], refl}
use Rattle.std.specs.Prelude.{Result, Ok, Err, ◌&&◌, map, ◌==◌, if◌then◌else◌}
use Rattle.fv_codec.specs.declared.shape.Shape.{Shape}
use Rattle.fv_codec.specs.declared.node.Node.{Node}
use Rattle.fv_codec.specs.declared.inode.InodeBlock.{InodeBlock}
use Rattle.fv_codec.specs.Blocks.{greatest_word, node_at, inodes_at}
use Rattle.fv_tables.specs.Reached.{Item}
use Rattle.fv_image.specs.Views.{Placed}
use Rattle.fv_faults.specs.Walks.{file_root, children_of, files_of, files_under, pointers_under}
use Rattle.fv_walk.specs.declared.below.Below.TheVariants.{Nothing}
use Rattle.fv_walk.specs.Sights.{node_in, inodes_in, spelled, pointers_in}

pub spelled_pointers : (e : Item) (x : Placed) → pointers_in e (spelled e x.block) ≡ pointers_under e x
unfolding pointers_in spelled pointers_under files_under
spelled_pointers e x = so (e.level == 0) (e.owner == greatest_word) (inodes_at x.block) (node_at x.block)
  where
    so : (cell inodes : Bool) (b : Result InodeBlock Shape) (n : Result Node Shape)
        → pointers_in e (if cell then (if inodes then inodes_in b else Nothing) else node_in n)
        ≡ (if cell then map (file_root e) (if cell && inodes then files_of e.place b else []) else children_of e n)
    so true true (Ok b) n = refl
    so true true (Err shape) n = refl
    so true false b n = refl
    so false inodes b (Ok n) = refl
    so false inodes b (Err shape) = refl
