-- Nodes as they are read.
use Rattle.std.specs.Global.{Box}
use Rattle.std.specs.Prelude.{IsTrue, nat_lt, ◌==◌, if◌then◌else◌, Some, true, ◌≡◌, ◌≢◌, ◌<◌, ◌≤◌, ◌+◌, ◌-◌, ◌*◌, ◌/◌, ◌%◌, ◌^◌, ◌⊎◌, ℕ, List, length, get_or, Option, None, Result, Ok, Err}
use Rattle.fv_disk.specs.Shown.{Image, Shown}
use Rattle.fv_disk.specs.DiskCalls.{OnlyReads}
use Rattle.fv_disk.specs.Faults.{HasBlockCause}
use Rattle.fv_codec.specs.declared.shape.Shape.{Shape}
use Rattle.fv_codec.specs.declared.container.ContainerLeaf.{ContainerLeaf}
use Rattle.fv_codec.specs.declared.container.ContainerInner.{ContainerInner}
use Rattle.fv_codec.specs.Blocks.{inner_at, leaf_at}
use Rattle.fv_image.specs.Containers.{node_of, node_shape, node_verdict, has_none_past, level_width, lying, child_in, most_entries}
use Rattle.fv_disk.specs.declared.fault.BlockFault.{BlockFault}
use Rattle.fv_disk.specs.declared.fault.BlockFault.TheVariants.{DiskFault, Damaged, Memory}
use Rattle.fv_store.specs.Held.{Pairs, StandsOn}
use Rattle.fv_container.specs.Mapped.{node_count}
use Rattle.fv_container.specs.Paged.{pair_at, pair_there}

-- a block of a tree as it was read, or the fault of the block at this place
abbrev pub ReadsAs : {X Y : Type 0} → ℕ → (X → Y) → Result X Shape → Result Y BlockFault → Type 0
ReadsAs at value (Ok x) result = result ≡ Ok (value x)
ReadsAs at value (Err shape) result = result ≡ Err (Damaged at shape.want shape.found)

-- the block at this place hasn't the shape of a node of this level; inner nodes have one shape, that of level 1
abbrev pub IsBadNode : Image → ℕ → ℕ → BlockFault → Type 0
IsBadNode i place level (Damaged at want found) = (at ≡ place) × (place ≢ 0) × (node_shape level (i place) ≡ Err (record { want = want; found = found }))
IsBadNode i place level DiskFault = Unit {0}
IsBadNode i place level Memory = Unit {0}

-- of so many nodes of a level, whose places stand in a row from one number on, each has its shape
abbrev pub AreShaped : Image → ℕ → List ℕ → ℕ → ℕ → Type 0
AreShaped i level places from count = (q : ℕ) → q < count → get_or places (from + q) 0 ≢ 0 → node_shape level (i (get_or places (from + q) 0)) ≡ Ok tt

-- of these nodes, this one hasn't its shape
pub record IsBadOf (i : Image) (level : ℕ) (places : List ℕ) (from count at want found : ℕ) : Type 0 where
  pub number : ℕ
  pub within : number < count
  pub place : at ≡ get_or places (from + number) 0
  pub some : at ≢ 0
  pub fault : node_shape level (i at) ≡ Err (record { want = want; found = found })

abbrev pub IsLevelFault : Image → ℕ → List ℕ → ℕ → ℕ → BlockFault → Type 0
IsLevelFault i level places from count (Damaged at want found) = IsBadOf i level places from count at want found
IsLevelFault i level places from count DiskFault = Unit {0}
IsLevelFault i level places from count Memory = Unit {0}

-- the places of so many leaves, from those of the nodes above them, which stand in a row after them
abbrev pub AreChildren : Image → List ℕ → List ℕ → ℕ → ℕ → Type 0
AreChildren i above places leaves count = (k : ℕ) → k < count → get_or places k 0 ≡ child_in (lying inner_at i (get_or above (leaves + k / 256) 0)) (k % 256)

-- items of one list stand in another from a number on, up to an end
abbrev pub FillsFrom : List ℕ → List ℕ → ℕ → ℕ → Type 0
FillsFrom items places from end = (c : ℕ) → c < 256 → from + c < end → get_or places (from + c) 0 ≡ get_or items c 0

-- what stands elsewhere stays
abbrev pub StaysOutside : {X : Type 0} → X → List X → List X → ℕ → Type 0
StaysOutside default old new from = (m : ℕ) → (m < from) ⊎ (from + 256 ≤ m) → get_or new m default ≡ get_or old m default

-- a row for the places of a tree of so many entries that is to be read: no places
pub record IsBlank (entries : ℕ) (places : List ℕ) : Type 0 where
  pub few : entries ≤ most_entries
  pub nodes : length places ≡ node_count entries
  pub zeros : (m : ℕ) → get_or places m 0 ≡ 0

-- a row of zeros for the places of so many leaves, of so many nodes above them, and of a root
pub record HasLevels (places : List ℕ) (leaves inner : ℕ) : Type 0 where
  pub within : leaves + (inner + 1) ≡ length places
  pub zeros : (m : ℕ) → get_or places m 0 ≡ 0
  pub few : inner ≤ 256
  pub some : 1 ≤ inner
  pub small : leaves < 2 ^ 32

-- an inner node is the one of a level and number, with so many children
pub record IsInnerAs (node : ContainerInner) (level number width : ℕ) : Type 0 where
  pub level_said : node.level ≡ level
  pub number_said : node.place ≡ number
  pub ends : (c : ℕ) → width ≤ c → c < 256 → get_or node.children c 0 ≡ 0

-- a leaf is the one of an index, with so many entries
pub record IsLeafAs (leaf : ContainerLeaf) (index width : ℕ) : Type 0 where
  pub index_said : leaf.index ≡ index
  pub pvbns : (c : ℕ) → width ≤ c → c < 256 → get_or leaf.pvbns c 0 ≡ 0
  pub kinds : (c : ℕ) → width ≤ c → c < 256 → get_or leaf.kinds c 0 ≡ 0

-- at a place stands the inner node of a level and number
pub record StandsInner (i : Image) (at level number width : ℕ) : Type 0 where
  pub node : ContainerInner
  pub said : inner_at (i at) ≡ Ok node
  pub own : IsInnerAs node level number width

-- at a place stands the leaf of an index
pub record StandsLeaf (i : Image) (at index width : ℕ) : Type 0 where
  pub leaf : ContainerLeaf
  pub said : leaf_at (i at) ≡ Ok leaf
  pub own : IsLeafAs leaf index width

-- so many leaves, or inner nodes, whose places stand in a row from a number on, are the ones of their positions
abbrev pub StandLeaves : Image → ℕ → List ℕ → ℕ → Type 0
StandLeaves i entries places count = (k : ℕ) → k < count → get_or places k 0 ≢ 0 → StandsLeaf i (get_or places k 0) k (entries - 256 * k)

abbrev pub StandInner : Image → List ℕ → ℕ → ℕ → Type 0
StandInner i places leaves count = (q : ℕ) → q < count → get_or places (leaves + q) 0 ≢ 0 → StandsInner i (get_or places (leaves + q) 0) 1 q (leaves - 256 * q)

-- so many leaves, whose places stand in a row, are the ones of their positions, and have no entry past so many
abbrev pub AreWholeLeaves : Image → ℕ → List ℕ → ℕ → Type 0
AreWholeLeaves i entries places count = (k : ℕ) → k < count → get_or places k 0 ≢ 0
    → (node_verdict 0 k (i (get_or places k 0)) ≡ Ok tt) × (has_none_past entries 0 k (i (get_or places k 0)) ≡ true)

-- What each read leaves, whatever it answers: the disk was only read, what the cache holds stands on it, and its count of faults tells of the
-- answer.
pub record HasRead {X : Type 0} (old new : Shown) (pairs : Pairs) (result : Result X BlockFault) : Type 0 where
  pub only_reads : OnlyReads old new
  pub stands : StandsOn new pairs
  pub cause : HasBlockCause old.faults new.faults result

-- the entries of a leaf that is loaded as that of a region: those of the leaf at a place, and holes past so many entries
abbrev pub pair_loaded : Image → ℕ → ℕ → ℕ → ℕ → ℕ × ℕ
pair_loaded i entries at region c = if nat_lt (256 * region + c) entries then pair_there i at c else (0, 0)

-- the pair that is looked up: that of the leaf in memory, and else that on the disk
abbrev pub LooksUp : Shown → ℕ → ℕ → Option (Box ContainerLeaf) → ℕ × ℕ → Type 0
LooksUp disk at c (Some b) pair = pair ≡ pair_at b.value c
LooksUp disk at c None pair = IsTrue disk.tells → pair ≡ pair_there disk.reads at c

-- each place of a row is that of the node of its position: the leaves, the level above them, and a root above that
pub record TreeAt (i : Image) (root height entries : ℕ) (places : List ℕ) : Type 0 where
  pub few : entries ≤ most_entries
  pub least : 1 ≤ height
  pub greatest : height ≤ 2
  pub long : length places ≡ node_count entries
  pub leaf : (k : ℕ) → k < level_width entries 0 → get_or places k 0 ≡ node_of i root height 0 k
  pub inner : (q : ℕ) → q < level_width entries 1 → get_or places (level_width entries 0 + q) 0 ≡ node_of i root height 1 q
  pub top : get_or places (level_width entries 0 + level_width entries 1) 0 ≡ (if height == 2 then root else 0)
