-- How a container is kept.
use Rattle.std.specs.Prelude.{◌≡◌, ◌<◌, ◌≤◌, ◌*◌, ℕ, Bool, true, false, List, length, count_by, get_or, nat_lt, Option}
use Rattle.std.specs.List.{range_with_len}
use Rattle.std.specs.Option.{is_some}
use Rattle.fv_codec.specs.Blocks.{greatest_kind}
use Rattle.fv_image.specs.Containers.{level_width}
use Rattle.fv_container.specs.declared.entry.Entry.{Entry}
use Rattle.fv_container.specs.Mapped.{Mapped, IsMapped, grown, node_count}
use Rattle.fv_container.specs.Paged.{AreWell, IsSureOf, Leaves, Paged, here_of, leaf_here}

abbrev pub map_of : List (Option Entry) → List ℕ → List Bool → Mapped
map_of entries tree dirty = record { entries = entries; tree = tree; dirty = dirty }

abbrev pub paged_of : List (Option Entry) → List ℕ → List Bool → Leaves → List Bool → List Bool → Paged
paged_of entries tree dirty leaves known sure = record { map = map_of entries tree dirty; here = here_of leaves; known = known; sure = sure }

-- There is a leaf, or room for one, for each region, and room for the places of a tree, and for those of them that are new. Of a leaf in
-- memory it is known which of its entries are holes, and a dirty leaf is in memory.
pub record IsKept (paged : Paged) (count : ℕ) (leaves : Leaves) (used : List Bool) (next fresh : List ℕ) : Type 0 where
  pub mapped : IsMapped paged.map
  pub size : count ≡ length paged.map.entries
  pub room : length next ≡ node_count count
  pub anew : length fresh ≡ node_count count
  pub long : length leaves ≡ level_width count 0
  pub known : length paged.known ≡ level_width count 0
  pub sure : length paged.sure ≡ level_width count 0
  pub bits : count ≤ length used
  pub well : AreWell leaves
  pub learned : (k : ℕ) → is_some (leaf_here leaves k) ≡ true → get_or paged.known k false ≡ true
  pub held : (k : ℕ) → k < length leaves → get_or paged.map.dirty k true ≡ true → is_some (leaf_here leaves k) ≡ true
  pub told : (k : ℕ) → IsSureOf paged.map.entries k (get_or paged.sure k false) (leaf_here leaves k) used

-- for how many elements each row has memory; that of the bits has so many
pub record RowRooms : Type 0 where
  pub leaves : ℕ
  pub tree : ℕ
  pub dirty : ℕ
  pub next : ℕ
  pub fresh : ℕ
  pub known : ℕ
  pub used : ℕ

-- there is memory for the rows of as many entries as a container may grow to
pub record CanGrow (count : ℕ) (rooms : RowRooms) : Type 0 where
  pub leaves : level_width (grown count) 0 ≤ rooms.leaves
  pub tree : node_count (grown count) ≤ rooms.tree
  pub dirty : node_count (grown count) ≤ rooms.dirty
  pub next : node_count (grown count) ≤ rooms.next
  pub fresh : node_count (grown count) ≤ rooms.fresh
  pub known : level_width (grown count) 0 ≤ rooms.known
  pub used : grown count ≤ rooms.used

-- the kinds that a container reads are those of a block
abbrev pub ReadsKinds : ℕ → Type 0
ReadsKinds most_kind = most_kind ≡ greatest_kind

-- whether one of the numbers of a region is a member
abbrev pub has_number : List Bool → ℕ → Bool
has_number used k = nat_lt 0 (count_by (λ v. get_or used v false) (range_with_len (256 * k) 256))

-- The regions that have a member among their numbers, each with a number below that of the entries. So a region that isn't one has no entry,
-- where it is known which of its entries are holes, and that is sure. There is room for as many regions as a container may grow to.
pub record AreOccupied (count : ℕ) (used occupied : List Bool) : Type 0 where
  pub room : level_width (grown count) 0 ≤ length occupied
  pub within : (k : ℕ) → get_or occupied k false ≡ true → 256 * k < count
  pub exact : (k : ℕ) → 256 * k < count → get_or occupied k false ≡ has_number used k
