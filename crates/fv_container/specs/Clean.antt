-- What the nodes on the disk say that aren't dirty.
use Rattle.std.specs.Prelude.{◌≡◌, ◌≢◌, ◌<◌, ◌≤◌, ◌+◌, ◌*◌, ◌/◌, ℕ, true, false, List, length, get_or, Option, None}
use Rattle.fv_disk.specs.Shown.{Image}
use Rattle.fv_codec.specs.Blocks.{last_place}
use Rattle.fv_image.specs.Containers.{HasNonePast, IsNodePlace, IsWholeTree}
use Rattle.fv_container.specs.declared.entry.Entry.{Entry}
use Rattle.fv_container.specs.Mapped.{Mapped}
use Rattle.fv_container.specs.Paged.{Paged, is_here, is_known, is_sure}
use Rattle.fv_container.specs.Written.{AreWritten}

-- The nodes of the tree stand at their places with some entries, each as the node of its position. In a leaf that isn't dirty these
-- are the container's, and where it is absent the container has holes.
pub record IsOver (i : Image) (map : Mapped) : Type 0 where
  pub stored : List (Option Entry)
  pub long : length stored ≡ length map.entries
  pub written : AreWritten stored map.tree (length map.tree) i
  pub same : (v : ℕ) → get_or map.dirty (v / 256) true ≡ false → get_or map.entries v None ≡ get_or stored v None
  pub absent : (k c : ℕ) → get_or map.dirty k true ≡ false → get_or map.tree k 0 ≡ 0 → c < 256 → get_or map.entries (256 * k + c) None ≡ None

-- so it is, and what is in memory is as the container's map says
pub record IsCleanOn (i : Image) (paged : Paged) : Type 0 where
  pub over : IsOver i paged.map
  pub here : (k : ℕ) → is_here paged k ≡ true → is_sure paged k ≡ true
  pub known : (k : ℕ) → is_known paged k ≡ true → is_sure paged k ≡ true

-- what was clean is clean, over each image
abbrev pub StaysClean : Paged → Paged → Type 0
StaysClean old new = (i : Image) → IsCleanOn i old → IsCleanOn i new

-- no node is dirty
abbrev pub AreClean : Mapped → Type 0
AreClean map = (m : ℕ) → m < length map.dirty → get_or map.dirty m true ≡ false

-- a tree on the disk that needn't be written anew: each node is the one of its position, has nothing past the entries, and stands at a
-- number that is a place
pub record IsCleanTree (i : Image) (root height entries : ℕ) : Type 0 where
  pub whole : IsWholeTree i root height entries
  pub ends : HasNonePast i root height entries
  pub bounded : (b : ℕ) → IsNodePlace i root height entries b → b ≤ last_place

-- a node that isn't dirty has a place of its own
abbrev pub AreAlone : Mapped → Type 0
AreAlone map = (m k : ℕ) → m ≢ k → get_or map.dirty m true ≡ false → get_or map.tree m 0 ≢ 0 → get_or map.tree m 0 ≢ get_or map.tree k 0
