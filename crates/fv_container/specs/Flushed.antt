-- What a flush writes, and what it makes of the map of free blocks.
use Rattle.std.specs.Prelude.{◌≡◌, ◌≢◌, ◌<◌, ◌≤◌, ◌+◌, ℕ, true, false, not, ◌&&◌, ◌||◌, if◌then◌else◌, nat_lt, List, length, get_or, Bool, Result, Ok, Err}
use Rattle.std.specs.FinSet as set
use Rattle.fv_disk.specs.Shown.{Image}
use Rattle.fv_disk.specs.declared.Failed.{Failed}
use Rattle.fv_codec.specs.Blocks.{last_place}
use Rattle.fv_image.specs.Containers.{HasNonePast, IsWholeTree, level_width, most_entries}
use Rattle.fv_container.specs.Mapped.{Mapped, node_count}
use Rattle.fv_container.specs.Spelled.{Spelled, names}
use Rattle.fv_container.specs.Freeing.{Room}
use Rattle.fv_container.specs.Written.{IsSameBelow, blocks_needed, is_above}
use Rattle.fv_container.specs.Paged.{AreWell, Leaves, Paged, is_here}
use Rattle.fv_container.specs.Clean.{AreAlone}

-- a tree spells the map, each node of it is the one of its position, and none has anything past the map's entries
pub record IsFlushed (i : Image) (root height : ℕ) (map : Mapped) : Type 0 where
  pub spelled : Spelled i root height map
  pub whole : IsWholeTree i root height (length map.entries)
  pub ends : HasNonePast i root height (length map.entries)

-- no free block is one of some places
abbrev pub IsApart : Room → List ℕ → Type 0
IsApart room places = (b : ℕ) → set.contains room.free b ≡ true → names places b ≡ false

-- a block that wasn't free
abbrev pub WasTaken : Room → ℕ → Type 0
WasTaken room b = set.contains room.free b ≡ false

-- no two nodes stand at one place
abbrev pub IsOnce : List ℕ → Type 0
IsOnce places = (m k : ℕ) → m < k → k < length places → get_or places k 0 ≢ 0 → get_or places m 0 ≢ get_or places k 0

-- What a flush makes of the map, by the places of two trees. Those of the new one that the old one lacks were free, and are held. Those of the
-- old one that the new one lacks were given back. A place of both trees, and each other block, is held as it was. Every other
-- free block stays free, and no other block became free than those that were given back.
pub record Exchanges (old : Room) (before : Mapped) (after : List ℕ) (new : Room) : Type 0 where
  pub free : (b : ℕ) → names after b ≡ true → names before.tree b ≡ false → set.contains old.free b ≡ true
  pub stay : (b : ℕ) → set.contains old.free b ≡ true → names after b ≡ false → set.contains new.free b ≡ true
  pub come : (b : ℕ) → set.contains new.free b ≡ true → names before.tree b ≡ false → (set.contains old.free b ≡ true) × (names after b ≡ false)
  pub held : IsApart old before.tree → AreAlone before
      → (b : ℕ) → new.held b ≡ (if names after b then (not (names before.tree b) || old.held b) else (not (names before.tree b) && old.held b))
  pub committed : new.committed ≡ old.committed

-- whether a node is kept where it isn't dirty: each leaf is, and of the others those that the tree has
abbrev pub is_kept : ℕ → ℕ → Bool
is_kept entries m = nat_lt m (level_width entries 0) || is_above entries m

-- What a flush makes of the map: each node of the new tree has a place of its own, the places that are new were taken and those that are no
-- longer wanted were given back, and at most as many fewer blocks are free as the flush may take. A node that isn't dirty stays where
-- the nodes below it do, and so each leaf that isn't.
pub record IsMoved (old : Room) (before : Paged) (after : Mapped) (new : Room) : Type 0 where
  pub once : IsApart old before.map.tree → AreAlone before.map → IsOnce after.tree
  pub map : Exchanges old before.map after.tree new
  pub count : set.len old.free ≤ set.len new.free + blocks_needed before
  pub stays : (m : ℕ) → is_kept (length before.map.entries) m ≡ true → get_or before.map.tree m 0 ≢ 0 → get_or before.map.dirty m true ≡ false
      → IsSameBelow (length before.map.entries) before.map.tree after.tree m → get_or after.tree m 0 ≡ get_or before.map.tree m 0
  pub leaves : (m : ℕ) → m < level_width (length before.map.entries) 0 → get_or before.map.dirty m true ≡ false → get_or after.tree m 0 ≡ get_or before.map.tree m 0

-- no leaf is in memory afterwards, and nothing else that is known is forgotten
pub record HasDropped (before after : Paged) : Type 0 where
  pub entries : after.map.entries ≡ before.map.entries
  pub here : (k : ℕ) → is_here after k ≡ false
  pub known : after.known ≡ before.known
  pub sure : after.sure ≡ before.sure

-- no block became free
pub record Loses (old new : Room) : Type 0 where
  pub free : (b : ℕ) → set.contains new.free b ≡ true → set.contains old.free b ≡ true
  pub committed : new.committed ≡ old.committed

-- the rows of a flush: leaves in memory, the places and marks of a tree's nodes, each clean one at a place and each dirty leaf in memory, and two
-- rows for the new tree as long as that
pub record AreRows (leaves : Leaves) (entries : ℕ) (old : List ℕ) (marks : List Bool) (next room : List ℕ) : Type 0 where
  pub few : entries ≤ most_entries
  pub long : length leaves ≡ level_width entries 0
  pub well : AreWell leaves
  pub tree : length old ≡ node_count entries
  pub dirty : length marks ≡ node_count entries
  pub places : (m : ℕ) → get_or marks m true ≡ false → get_or old m 0 ≤ last_place
  pub nodes : length next ≡ node_count entries
  pub fresh : length room ≡ node_count entries

-- both rows for the new tree stay as long as they are
pub record KeepLengths (next next_new fresh fresh_new : List ℕ) : Type 0 where
  pub len : length next_new ≡ length next
  pub anew : length fresh_new ≡ length fresh

-- what a flush leaves that failed: the container as before, and of the map no block became free
pub record GivesUp (old : Room) (before after : Paged) (new : Room) : Type 0 where
  pub failed : after ≡ before
  pub lost : Loses old new

-- an answer but for its value
abbrev pub without_value : {T : Type 0} → Result T Failed → Result (Unit {0}) Failed
without_value (Ok x) = Ok tt
without_value (Err failed) = Err failed
