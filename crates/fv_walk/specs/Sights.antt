-- What a walk sees at each pointer that it comes to.
use Rattle.std.specs.Prelude.{◌≡◌, ◌≢◌, ⊤, ℕ, ◌*◌, List, [], map, Option, Result, Ok, Err, ◌==◌, if◌then◌else◌}
use Rattle.std.specs.List.{enumerate_from}
use Rattle.std.specs.Option.{option_map, option_map_or}
use Rattle.fv_codec.specs.declared.shape.Shape.{Shape}
use Rattle.fv_codec.specs.declared.node.Node as nodes
use Rattle.fv_codec.specs.declared.inode.InodeBlock.{InodeBlock}
use Rattle.fv_codec.specs.Blocks.{greatest_word, node_at, inodes_at, IsInodeBlock}
use Rattle.fv_tables.specs.Told.{records_each}
use Rattle.fv_tables.specs.Reached.{Item}
use Rattle.fv_image.specs.Views.{Placed}
use Rattle.fv_faults.specs.Walks.{Ground, child_of, file_root, used_from}
use Rattle.fv_faults.specs.Met.{Spot, place_at}
use Rattle.fv_walk.specs.declared.source.Found.{Found}
use Rattle.fv_walk.specs.declared.visit.Visit.{Visit}
use Rattle.fv_walk.specs.declared.below.Below.{Below}
use Rattle.fv_walk.specs.declared.below.Below.TheVariants.{Nothing, Node, Inodes}
use Rattle.fv_walk.specs.Sources.{found_of}
use Rattle.fv_walk.specs.Visits.{visit_of}

-- ---- what stands in a block, as the one to which a pointer leads

abbrev pub node_in : Result nodes.Node Shape → Below
node_in (Ok n) = Node n
node_in (Err shape) = Nothing

abbrev pub inodes_in : Result InodeBlock Shape → Below
inodes_in (Ok b) = Inodes b
inodes_in (Err shape) = Nothing

unfoldable pub spelled : Item → List ℕ → Below
spelled e block = if e.level == 0
    then (if e.owner == greatest_word then inodes_in (inodes_at block) else Nothing)
    else node_in (node_at block)

-- where the block is found
unfoldable pub below_of : Item → Option Placed → Below
below_of e at = option_map_or (λ x. spelled e x.block) at Nothing

-- the pointers that stand there, holes among them
unfoldable pub pointers_in : Item → Below → List Item
pointers_in e Nothing = []
pointers_in e (Node n) = map (child_of e) (enumerate_from 0 n.children)
pointers_in e (Inodes b) = map (file_root e) (used_from (records_each * e.place) b.files)

-- the block is one of the pointer's level, and the levels of files are in range
abbrev pub IsBelow : Visit → Below → Type 0
IsBelow v Nothing = ⊤
IsBelow v (Node n) = v.level ≢ 0
IsBelow v (Inodes b) = (v.level ≡ 0) × IsInodeBlock b

-- ---- what is seen

-- a pointer, where its VVBN is found along the chain of bases, and what stands in the block there
pub record Sight : Type 0 where
  pub visit : Visit
  pub at : Option Found
  pub below : Below

abbrev pub sight_of : Ground → Spot → Sight
sight_of g s = record { visit = visit_of s; at = option_map found_of (place_at g s.0); below = below_of s.0 (place_at g s.0) }
