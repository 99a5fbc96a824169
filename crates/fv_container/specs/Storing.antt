-- What writing a tree makes of its rows, before it is said of a container.
use Rattle.std.specs.Prelude.{◌≡◌, ◌≢◌, ◌<◌, ◌≤◌, ◌+◌, ℕ, Bool, true, false, List, length, get_or, Option}
use Rattle.std.specs.FinSet as set
use Rattle.fv_disk.specs.Shown.{Image}
use Rattle.fv_image.specs.Containers.{level_width}
use Rattle.fv_container.specs.declared.entry.Entry.{Entry}
use Rattle.fv_container.specs.Kept.{map_of}
use Rattle.fv_container.specs.Mapped.{node_count}
use Rattle.fv_container.specs.Freeing.{Room}
use Rattle.fv_container.specs.Paged.{Leaves, is_as_said, leaf_here}
use Rattle.fv_container.specs.Written.{AreWritten, IsSameBelow, is_there, may_move, passed_before}
use Rattle.fv_container.specs.Clean.{AreAlone, IsOver}
use Rattle.fv_container.specs.Flushed.{Exchanges, IsApart, IsOnce, is_kept}

-- each dirty leaf in memory is as some entries say
abbrev pub AreSaid : List (Option Entry) → Leaves → List Bool → Type 0
AreSaid es leaves dirty = (k : ℕ) → get_or dirty k true ≡ true → is_as_said es k (leaf_here leaves k) ≡ true

-- A tree was written: each node that the new one has stands at its place, and the others are absent. So it spells the entries of which the old
-- one was, where the leaves in memory were as these say and none of its blocks was free.
pub record HasStored (room : Room) (leaves : Leaves) (entries : ℕ) (tree : List ℕ) (dirty : List Bool) (before : Image) (next : List ℕ) (after : Image) : Type 0 where
  pub written : (es : List (Option Entry)) → length es ≡ entries → AreSaid es leaves dirty → IsApart room tree → IsOver before (map_of es tree dirty) → AreWritten es next (length next) after
  pub there : (m : ℕ) → m < length next → is_there leaves tree dirty entries m ≡ true → get_or next m 0 ≢ 0
  pub absent : (m : ℕ) → m < length next → is_there leaves tree dirty entries m ≡ false → get_or next m 0 ≡ 0

-- and what that makes of the map of free blocks
pub record HasMoved (old : Room) (leaves : Leaves) (entries : ℕ) (tree : List ℕ) (dirty : List Bool) (next : List ℕ) (new : Room) : Type 0 where
  pub exchanges : (es : List (Option Entry)) → Exchanges old (map_of es tree dirty) next new
  pub once : (es : List (Option Entry)) → IsApart old tree → AreAlone (map_of es tree dirty) → IsOnce next
  pub count : set.len old.free ≤ set.len new.free + passed_before (may_move leaves dirty entries) (node_count entries)
  pub stays : (m : ℕ) → is_kept entries m ≡ true → get_or tree m 0 ≢ 0 → get_or dirty m true ≡ false → IsSameBelow entries tree next m → get_or next m 0 ≡ get_or tree m 0
  pub clean : (m : ℕ) → m < level_width entries 0 → get_or dirty m true ≡ false → get_or next m 0 ≡ get_or tree m 0
