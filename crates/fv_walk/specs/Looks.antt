-- Blocks that are read and judged.
use Rattle.std.specs.Prelude.{◌≡◌, ℕ, List, Option, Some, IfSome, ◌==◌, if◌then◌else◌}
use Rattle.fv_codec.specs.Blocks.{node_at, inodes_at}
use Rattle.fv_image.specs.Views.{Placed}
use Rattle.fv_faults.specs.Walks.{Ground}
use Rattle.fv_faults.specs.Met.{place_at}
use Rattle.fv_scan.specs.declared.item.Judged.{Judged}
use Rattle.fv_scan.specs.Judging.{judged_node, judged_inodes}
use Rattle.fv_walk.specs.declared.visit.Visit.{Visit}
use Rattle.fv_walk.specs.declared.look.Looked.{Looked}
use Rattle.fv_walk.specs.Visits.{item_of}

-- what is said of a block by itself, where a pointer of a level leads to it
abbrev pub judged_of : ℕ → List ℕ → Judged
judged_of level block = if level == 0 then judged_inodes (inodes_at block) else judged_node (node_at block)

-- it is judged as what the pointer leads to
abbrev pub IsJudged : Visit → Looked → Type 0
IsJudged v k = k.judged ≡ judged_of v.level k.body

-- it is the block at a place
abbrev pub IsLooked : Placed → Looked → Type 0
IsLooked x k = k.body ≡ x.block

-- what was read ahead for a pointer is the block to which it leads
abbrev pub IsAhead : Ground → Visit → Option Looked → Type 0
IsAhead g v ahead = (x : Placed) → place_at g (item_of v) ≡ Some x → IfSome ahead (IsLooked x)
