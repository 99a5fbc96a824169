-- A container as a map from VVBNs to entries.
use Rattle.std.specs.Prelude.{◌≡◌, ◌≤◌, ◌+◌, ◌*◌, ◌/◌, ◌++◌, ℕ, Bool, true, false, List, length, replicate, slice_set, slice_index_or, get_or, All, Option, None, IfSome}
use Rattle.fv_codec.specs.Blocks.{last_place}
use Rattle.fv_image.specs.Containers.{level_width, most_entries}
use Rattle.fv_container.specs.declared.entry.Entry.{Entry}

-- The entries by VVBN, each an entry or a hole, and the places of the nodes of the tree on the disk that the
-- container was read from or flushed to last, 0 for a node that it hasn't. A node is dirty where its block on the disk
-- may say something else than the container: a leaf an entry of which was changed since, and each node above the leaves of a tree that was
-- read with such a node that isn't the one of its position.
pub record Mapped : Type 0 where
  pub entries : List (Option Entry)
  pub tree : List ℕ
  pub dirty : List Bool

-- the entry of a VVBN; past the entries each is a hole
abbrev pub entry_under : Mapped → ℕ → Option Entry
entry_under map v = slice_index_or map.entries v None

-- the map with another entry under one VVBN, whose leaf is dirty
abbrev pub with_entry : Mapped → ℕ → Option Entry → Mapped
with_entry map v entry = record { entries = slice_set map.entries v entry; tree = map.tree; dirty = slice_set map.dirty (v / 256) true }

-- how many nodes a tree can have: leaves, the level above them, and a root above that
abbrev pub node_count : ℕ → ℕ
node_count entries = level_width entries 0 + (level_width entries 1 + 1)

-- How many entries a container of so many may grow to. Behind the span of a volume, which is at most 32,768 * m, a container has 25
-- entries for each of the m blocks of a map, so it has at most 32,793 (32,768 + 25) for each of these blocks.
-- One that grew has 231 (256 - 25) more for each of them, and 256 more. The law `grown_entries` of `fv_volume` says that these are the
-- entries of the next version of the format.
abbrev pub grown : ℕ → ℕ
grown entries = entries + 231 * ((entries + 32792) / 32793) + 256

-- marks of nodes: no leaf is dirty, and the nodes above the leaves all are, or none
abbrev pub marks_above : ℕ → Bool → List Bool
marks_above entries dirty = replicate (level_width entries 0) false ++ replicate (level_width entries 1 + 1) dirty

-- a map of holes of which no node is on the disk: each leaf is absent, as it would be there
abbrev pub empty_map : ℕ → Mapped
empty_map entries = record { entries = replicate entries None; tree = replicate (node_count entries) 0; dirty = marks_above entries true }

-- an entry that can be set
pub record IsEntry (entry : Entry) : Type 0 where
  pub place_least : 1 ≤ entry.pvbn
  pub place_greatest : entry.pvbn ≤ last_place
  pub kind_least : 1 ≤ entry.kind
  pub kind_greatest : entry.kind ≤ 8

-- an entry that a leaf can hold
pub record IsHeld (entry : Entry) : Type 0 where
  pub place : entry.pvbn ≤ last_place
  pub kind_least : 1 ≤ entry.kind
  pub kind_greatest : entry.kind ≤ 8

-- what holds of every container
pub record IsMapped (map : Mapped) : Type 0 where
  pub few : length map.entries ≤ most_entries
  pub entries : All (λ entry. IfSome entry IsHeld) map.entries
  pub tree : length map.tree ≡ node_count (length map.entries)
  pub dirty : length map.dirty ≡ node_count (length map.entries)
  pub places : (m : ℕ) → get_or map.dirty m true ≡ false → get_or map.tree m 0 ≤ last_place
