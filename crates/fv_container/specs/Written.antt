-- The blocks that a flush writes.
use Rattle.std.specs.Prelude.{◌≡◌, ◌≢◌, ◌<◌, ◌≤◌, ◌+◌, ◌-◌, ◌*◌, ℕ, zero, suc, Bool, true, false, not, ◌&&◌, ◌||◌, ◌⊎◌, ◌==◌, nat_eq, nat_lt, if◌then◌else◌, List, length, get_or, take, drop, IfSome, Option, None, Some, Ok}
use Rattle.std.specs.List.{list_any}
use Rattle.std.specs.Option.{is_some}
use Rattle.std.specs.FinSet as set
use Rattle.fv_disk.specs.Shown.{Image}
use Rattle.fv_codec.specs.declared.container.ContainerLeaf.{ContainerLeaf}
use Rattle.fv_codec.specs.declared.container.ContainerInner.{ContainerInner}
use Rattle.fv_codec.specs.Blocks.{inner_at, last_place, leaf_at}
use Rattle.fv_image.specs.Containers.{level_width, most_entries}
use Rattle.fv_container.specs.declared.entry.Entry.{Entry}
use Rattle.fv_container.specs.Mapped.{node_count}
use Rattle.fv_container.specs.Spelled.{names, pair_of}
use Rattle.fv_container.specs.Freeing.{Room}
use Rattle.fv_container.specs.Paged.{AreWell, Leaves, Paged, is_sure, leaf_here}
use Rattle.std.specs.Global.{Box}

-- whether a leaf has an entry that isn't a hole
unfoldable pub has_entry : List (Option Entry) → ℕ → Bool
has_entry es k = list_any is_some (take 256 (drop (256 * k) es))

-- whether a leaf in memory has an entry that isn't a hole
abbrev pub is_full : Option (Box ContainerLeaf) → Bool
is_full None = false
is_full (Some b) = list_any (λ kind. not (kind == 0)) b.value.kinds

-- Nodes are counted with the leaves first, then the level above them, then a root above that. The root above the second level stands only
-- where that has more than one node.
abbrev pub is_above : ℕ → ℕ → Bool
is_above entries n = nat_lt n (level_width entries 0 + level_width entries 1) || nat_lt 1 (level_width entries 1)

-- Whether the next tree has a node. A dirty leaf of holes is absent then, and a leaf that isn't dirty is there where it is.
unfoldable pub is_there : Leaves → List ℕ → List Bool → ℕ → ℕ → Bool
is_there leaves tree dirty entries n =
    if nat_lt n (level_width entries 0) then (if get_or dirty n true then is_full (leaf_here leaves n) else not (get_or tree n 0 == 0))
    else is_above entries n

-- whether a node may have to be written anew
unfoldable pub may_move : Leaves → List Bool → ℕ → ℕ → Bool
may_move leaves dirty entries n =
    if nat_lt n (level_width entries 0) then (get_or dirty n true && is_full (leaf_here leaves n))
    else is_above entries n

-- how many of the first numbers pass a test
unfoldable pub passed_before : (ℕ → Bool) → ℕ → ℕ
passed_before test zero = 0
passed_before test (suc n) = passed_before test n + (if test n then 1 else 0)

-- The same by what the map says: of the leaves these are the dirty ones that have an entry. One of which nothing is known may have one.
unfoldable pub may_be_written : Paged → ℕ → Bool
may_be_written paged n =
    if nat_lt n (level_width (length paged.map.entries) 0) then (get_or paged.map.dirty n true && (not (is_sure paged n) || has_entry paged.map.entries n))
    else is_above (length paged.map.entries) n

-- how many blocks a flush may take
abbrev pub blocks_needed : Paged → ℕ
blocks_needed paged = passed_before (may_be_written paged) (node_count (length paged.map.entries))

-- the number of the node that is the root
abbrev pub root_number : ℕ → ℕ
root_number entries = if nat_lt 1 (level_width entries 1) then level_width entries 0 + level_width entries 1 else level_width entries 0

-- leaves that can be written, and a place for each node of a tree, so that each of its blocks can be written
pub record AreWritable (leaves : Leaves) (entries : ℕ) (places : List ℕ) : Type 0 where
  pub few : entries ≤ most_entries
  pub long : length leaves ≡ level_width entries 0
  pub well : AreWell leaves
  pub nodes : length places ≡ node_count entries
  pub bounded : (m : ℕ) → get_or places m 0 ≤ last_place

-- some of the first nodes, of those that pass a test, have new places, each of its own, which were free
pub record HasTaken (old : Room) (test : ℕ → Bool) (fresh : List ℕ) (n : ℕ) (new : Room) : Type 0 where
  pub fewer : set.len old.free ≤ set.len new.free + passed_before test n
  pub wanted : (m : ℕ) → m < n → get_or fresh m 0 ≢ 0 → test m ≡ true
  pub left : (b : ℕ) → set.contains new.free b ≡ (set.contains old.free b && not (names (take n fresh) b))
  pub free : (b : ℕ) → names (take n fresh) b ≡ true → set.contains old.free b ≡ true
  pub held : (b : ℕ) → new.held b ≡ (names (take n fresh) b || old.held b)
  pub bounded : (m : ℕ) → m < n → get_or fresh m 0 ≤ last_place
  pub once : (m k : ℕ) → m < k → k < n → get_or fresh k 0 ≢ 0 → get_or fresh m 0 ≢ get_or fresh k 0
  pub committed : new.committed ≡ old.committed

-- the nodes below a node stand in two trees at the same places
pub record IsSameBelow (entries : ℕ) (tree places : List ℕ) (m : ℕ) : Type 0 where
  pub inner : level_width entries 0 ≤ m → m < level_width entries 0 + level_width entries 1
      → (k : ℕ) → 256 * (m - level_width entries 0) ≤ k → k < 256 * (m - level_width entries 0) + 256 → k < level_width entries 0 → get_or places k 0 ≡ get_or tree k 0
  pub top : m ≡ level_width entries 0 + level_width entries 1
      → (k : ℕ) → level_width entries 0 ≤ k → k < level_width entries 0 + level_width entries 1 → get_or places k 0 ≡ get_or tree k 0

-- a node stays at its place: it isn't dirty, and the nodes below it stay
pub record Stays (entries : ℕ) (tree : List ℕ) (dirty : List Bool) (places : List ℕ) (m : ℕ) : Type 0 where
  pub place : get_or places m 0 ≡ get_or tree m 0
  pub clean : get_or dirty m true ≡ false
  pub below : IsSameBelow entries tree places m

-- a node that is there has a new place or stays, and any other has none
pub record IsPlaced (there : ℕ → Bool) (entries : ℕ) (tree : List ℕ) (dirty : List Bool) (fresh places : List ℕ) (m : ℕ) : Type 0 where
  pub absent : there m ≡ false → get_or places m 0 ≡ 0
  pub written : there m ≡ true → get_or places m 0 ≢ 0
  pub anew : get_or fresh m 0 ≢ 0 → get_or places m 0 ≡ get_or fresh m 0
  pub stays : get_or fresh m 0 ≡ 0 → get_or places m 0 ≢ 0 → Stays entries tree dirty places m
  pub keeps : there m ≡ true → get_or tree m 0 ≢ 0 → get_or dirty m true ≡ false → IsSameBelow entries tree places m → get_or places m 0 ≡ get_or tree m 0

-- so are the first nodes
abbrev pub ArePlaced : (ℕ → Bool) → ℕ → List ℕ → List Bool → List ℕ → List ℕ → ℕ → Type 0
ArePlaced there entries tree dirty fresh places n = (m : ℕ) → m < n → IsPlaced there entries tree dirty fresh places m

-- a place for one node, or none
pub record TakesIf (wanted : Bool) (old : Room) (place : ℕ) (new : Room) : Type 0 where
  pub some : wanted ≡ true → set.contains old.free place ≡ true
  pub taken : wanted ≡ true → new.free ≡ set.remove old.free place
  pub held : wanted ≡ true → (a : ℕ) → new.held a ≡ (nat_eq a place || old.held a)
  pub none : wanted ≡ false → place ≡ 0
  pub stays : wanted ≡ false → new ≡ old
  pub committed : new.committed ≡ old.committed

-- the first of some places were released
pub record HasReleased (old : Room) (places : List ℕ) (n : ℕ) (new : Room) : Type 0 where
  pub keeps : (b : ℕ) → set.contains old.free b ≡ true → set.contains new.free b ≡ true
  pub grows : set.len old.free ≤ set.len new.free
  pub adds : (b : ℕ) → set.contains new.free b ≡ true → (set.contains old.free b ≡ true) ⊎ (names (take n places) b ≡ true)
  pub held : (b : ℕ) → new.held b ≡ (not (names (take n places) b) && old.held b)
  pub committed : new.committed ≡ old.committed

-- a block is the leaf of an index
pub record IsLeafOf (es : List (Option Entry)) (index : ℕ) (block : List ℕ) : Type 0 where
  pub leaf : ContainerLeaf
  pub said : leaf_at block ≡ Ok leaf
  pub index_said : leaf.index ≡ index
  pub entries : (c : ℕ) → c < 256 → (get_or leaf.pvbns c 0, get_or leaf.kinds c 0) ≡ pair_of (get_or es (256 * index + c) None)

-- the place of a child, from those of a level that stand in a row up to an end
abbrev pub child_from : List ℕ → ℕ → ℕ → ℕ → ℕ
child_from places from end c = if nat_lt (from + c) end then get_or places (from + c) 0 else 0

-- a block is the inner node of a level and number
pub record IsInnerOf (places : List ℕ) (level number from end : ℕ) (block : List ℕ) : Type 0 where
  pub node : ContainerInner
  pub said : inner_at block ≡ Ok node
  pub level_said : node.level ≡ level
  pub number_said : node.place ≡ number
  pub children : (c : ℕ) → c < 256 → get_or node.children c 0 ≡ child_from places from end c

-- a block is the node of a number
pub record IsNodeOf (es : List (Option Entry)) (places : List ℕ) (m : ℕ) (block : List ℕ) : Type 0 where
  pub leaf : m < level_width (length es) 0 → IsLeafOf es m block
  pub inner : level_width (length es) 0 ≤ m → m < level_width (length es) 0 + level_width (length es) 1
      → IsInnerOf places 1 (m - level_width (length es) 0) (256 * (m - level_width (length es) 0)) (level_width (length es) 0) block
  pub top : m ≡ level_width (length es) 0 + level_width (length es) 1
      → IsInnerOf places 2 0 (level_width (length es) 0) (level_width (length es) 0 + level_width (length es) 1) block

-- the first nodes stand at their places
abbrev pub AreWritten : List (Option Entry) → List ℕ → ℕ → Image → Type 0
AreWritten es places n i = (m : ℕ) → m < n → get_or places m 0 ≢ 0 → IsNodeOf es places m (i (get_or places m 0))

-- a block is the leaf in memory of a number, or the node above the leaves of that number
pub record IsPutOf (leaves : Leaves) (entries : ℕ) (places : List ℕ) (m : ℕ) (block : List ℕ) : Type 0 where
  pub leaf : m < level_width entries 0 → IfSome (leaf_here leaves m) (λ b. leaf_at block ≡ Ok b.value)
  pub inner : level_width entries 0 ≤ m → m < level_width entries 0 + level_width entries 1
      → IsInnerOf places 1 (m - level_width entries 0) (256 * (m - level_width entries 0)) (level_width entries 0) block
  pub top : m ≡ level_width entries 0 + level_width entries 1
      → IsInnerOf places 2 0 (level_width entries 0) (level_width entries 0 + level_width entries 1) block

-- those of the first nodes that have new places stand there
abbrev pub AreAnew : Leaves → ℕ → List ℕ → List ℕ → ℕ → Image → Type 0
AreAnew leaves entries places fresh n i = (m : ℕ) → m < n → get_or fresh m 0 ≢ 0 → IsPutOf leaves entries places m (i (get_or fresh m 0))

-- the places of a tree that another one hasn't for the same node
abbrev pub AreLeft : List ℕ → List ℕ → List ℕ → ℕ → Type 0
AreLeft tree places given n = (m : ℕ) → m < n → (get_or places m 0 ≡ get_or tree m 0 → get_or given m 0 ≡ 0) × (get_or places m 0 ≢ get_or tree m 0 → get_or given m 0 ≡ get_or tree m 0)

-- a block that is none of some places
abbrev pub IsElsewhere : List ℕ → ℕ → Type 0
IsElsewhere places b = names places b ≡ false
