-- A container that a tree on the disk spells.
use Rattle.std.specs.Prelude.{◌≡◌, ◌≢◌, ◌<◌, ◌≤◌, ℕ, Bool, true, not, ◌&&◌, nat_eq, ◌==◌, List, length, get_or, Option, Some, None, Ok}
use Rattle.std.specs.List.{list_any}
use Rattle.fv_disk.specs.Shown.{Image}
use Rattle.fv_image.specs.Containers.{container_entry, level_width, node_of, node_shape, IsNodePlace, IsShapedTree, IsNodeFault}
use Rattle.fv_container.specs.declared.entry.Entry.{Entry}
use Rattle.fv_disk.specs.declared.fault.BlockFault.{BlockFault}
use Rattle.fv_disk.specs.declared.fault.BlockFault.TheVariants.{DiskFault, Damaged, Memory}
use Rattle.fv_container.specs.Mapped.{Mapped, entry_under}

-- an entry as PVBN and kind, (0, 0) for a hole
abbrev pub pair_of : Option Entry → ℕ × ℕ
pair_of None = (0, 0)
pair_of (Some entry) = (entry.pvbn, entry.kind)

-- whether a block is one of some places; 0 is no place
abbrev pub is_at : ℕ → ℕ → Bool
is_at b place = nat_eq b place && not (place == 0)

abbrev pub names : List ℕ → ℕ → Bool
names places b = list_any (is_at b) places

-- each node of a tree has its shape, whatever position it names, the tree's entries are the map's, and its nodes stand at the map's
-- places
pub record Spelled (i : Image) (root height : ℕ) (map : Mapped) : Type 0 where
  pub shaped : IsShapedTree i root height (length map.entries)
  pub entries : (v : ℕ) → container_entry i root height (length map.entries) v ≡ pair_of (entry_under map v)
  pub nodes : (b : ℕ) → IsNodePlace i root height (length map.entries) b → names map.tree b ≡ true
  pub places : (b : ℕ) → names map.tree b ≡ true → IsNodePlace i root height (length map.entries) b

-- each node above the leaves that isn't absent has its shape
pub record IsShapedAbove (i : Image) (root height entries : ℕ) : Type 0 where
  pub nodes : (level number : ℕ) → 1 ≤ level → level ≤ height → number < level_width entries level → node_of i root height level number ≢ 0
      → node_shape level (i (node_of i root height level number)) ≡ Ok tt

-- A tree that was read down to the places of its leaves: each node above these has its shape, the tree's entries are the map's, those of a leaf
-- without its shape holes, and its nodes stand at the map's places, each leaf at that of its number.
pub record IsOpened (i : Image) (root height : ℕ) (map : Mapped) : Type 0 where
  pub leaves : (k : ℕ) → k < level_width (length map.entries) 0 → get_or map.tree k 0 ≡ node_of i root height 0 k
  pub above : IsShapedAbove i root height (length map.entries)
  pub entries : (v : ℕ) → container_entry i root height (length map.entries) v ≡ pair_of (entry_under map v)
  pub nodes : (b : ℕ) → IsNodePlace i root height (length map.entries) b → names map.tree b ≡ true
  pub places : (b : ℕ) → names map.tree b ≡ true → IsNodePlace i root height (length map.entries) b

-- a fault of a tree, where the disk didn't fail and memory didn't run out
abbrev pub IsFault : Image → ℕ → ℕ → ℕ → BlockFault → Type 0
IsFault i root height entries (Damaged at want found) = IsNodeFault i root height entries at want found
IsFault i root height entries DiskFault = Unit {0}
IsFault i root height entries Memory = Unit {0}
