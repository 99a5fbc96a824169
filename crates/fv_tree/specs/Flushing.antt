-- How a tree in memory stands to its blocks, and what a flush does to both.
use Rattle.std.specs.Prelude.{◌≡◌, ◌≢◌, ◌≤◌, ◌<◌, ◌⊎◌, ℕ, ◌+◌, ◌/◌, ◌%◌, Bool, true, false, not, min, ◌&&◌, List, [], ◌∷◌, Option, Some, None, Ok, get_or, is_some, slice_set, nat_lt, ◌==◌, if◌then◌else◌}
use Rattle.std.specs.Ordering.{nat_cmp}
use Rattle.std.specs.Option.{option_map}
use Rattle.std.specs.BTreeMap as tree
use Rattle.std.specs.FinMap as fin
use Rattle.std.specs.List.{list_any}
use Rattle.fv_codec.specs.declared.inode.InodeRecord.{InodeRecord}
use Rattle.fv_codec.specs.declared.pointer.Pointer.{Pointer}
use Rattle.fv_codec.specs.Blocks.{greatest_word, node_at}
use Rattle.fv_model.specs.Trees.{fan, Spot, spot_cmp}
use Rattle.fv_tables.specs.Told.{records_in}
use Rattle.fv_tree.specs.declared.kept.Tree.{Tree}
use Rattle.fv_tree.specs.declared.kept.KeptNode.{KeptNode}
use Rattle.fv_tree.specs.declared.kept.KeptCell.{KeptCell}
use Rattle.fv_tree.specs.Spelled.{Under, Rooted, hole, block_at, pointers_in, pointer_at}
use Rattle.fv_tree.specs.Sources.{Shown, Use, IsUntouched}
use Rattle.fv_tree.specs.Standing.{standing, under, node_in}
use Rattle.fv_tree.specs.Writing.{IsAlike}
use Rattle.fv_tree.specs.Costs.{cells_held}

-- ---- what is in memory

abbrev pub node_changed : Option KeptNode → Bool
node_changed None = false
node_changed (Some kept) = kept.changed

abbrev pub node_placed : Option KeptNode → Bool
node_placed None = true
node_placed (Some kept) = kept.placed

abbrev pub cell_changed : Option KeptCell → Bool
cell_changed None = false
cell_changed (Some kept) = kept.changed

abbrev pub cell_placed : Option KeptCell → Bool
cell_placed None = true
cell_placed (Some kept) = kept.placed

-- whether a node in memory differs from its block
abbrev pub changed_in : tree.BTreeMap Spot KeptNode → ℕ → ℕ → Bool
changed_in nodes level place = node_changed (tree.get spot_cmp nodes (level, place))

-- whether the pointer to a node, where there is one, leads to its block
abbrev pub placed_in : tree.BTreeMap Spot KeptNode → ℕ → ℕ → Bool
placed_in nodes level place = node_placed (tree.get spot_cmp nodes (level, place))

-- A tree, of which some nodes and cells are in memory: those that differ from their blocks, and those whose block the
-- pointer to them leads to. What isn't in memory stands in its block.
pub record Loaded : Type 0 where
  pub tree : Rooted
  pub changed : ℕ → ℕ → Bool
  pub placed : ℕ → ℕ → Bool

-- whether a cell or a node in memory differs from its block
abbrev pub changed_of : Tree → ℕ → ℕ → Bool
changed_of t level place = if level == 0 then cell_changed (tree.get nat_cmp t.cells place) else changed_in t.nodes level place

abbrev pub placed_of : Tree → ℕ → ℕ → Bool
placed_of t level place = if level == 0 then cell_placed (tree.get nat_cmp t.cells place) else placed_in t.nodes level place

abbrev pub loaded_over : Under → Tree → Loaded
loaded_over blocks t = record { tree = standing blocks t; changed = changed_of t; placed = placed_of t }

abbrev pub loaded : Shown → Tree → Loaded
loaded source = loaded_over (under source)

-- the pointer to a cell or node leads to the block under this VVBN
pub record Leads (s : Loaded) (level place v : ℕ) : Type 0 where
  pub some : (pointer_at s.tree level place).stamp ≢ 0
  pub placed : s.placed level place ≡ true
  pub vvbn : (pointer_at s.tree level place).vvbn ≡ v

-- no pointer is in a node of a position to which nothing leads
abbrev pub IsEmptyNode : Rooted → ℕ → ℕ → Type 0
IsEmptyNode t level place = (xs : List Pointer) → t.nodes level place ≡ Some xs → (slot : ℕ) → get_or xs slot hole ≡ hole

-- the kind of a block of a level, by the tree's owner
abbrev pub kind_for : ℕ → ℕ → ℕ
kind_for owner level = if owner == greatest_word then 5 + min level 2 else 1 + level

-- A VVBN is in use with this kind.
abbrev pub HasKind : ℕ → Option Use → Type 0
HasKind kind None = ⊥
HasKind kind (Some x) = x.kind ≡ kind

-- A pointer to a VVBN in use with this kind tells its PVBN, or that it is unknown.
abbrev pub IsRight : ℕ → Pointer → Option Use → Type 0
IsRight kind p None = ⊥
IsRight kind p (Some x) = ((p.pvbn ≡ 0) ⊎ (p.pvbn ≡ x.pvbn)) × (x.kind ≡ kind)

-- the use of a VVBN with this kind, of which a pointer tells the PVBN
abbrev pub use_told : Pointer → ℕ → Use
use_told p kind = record { pvbn = p.pvbn; kind = kind }

-- A tree stands on the blocks that it leads to. It reaches each VVBN once, in use with the kind of its level, and tells no wrong PVBN.
pub record IsSound (taken : ℕ → Option Use) (s : Loaded) : Type 0 where
  pub once : (level place k q v : ℕ) → Leads s level place v → Leads s k q v → (level ≡ k) × (place ≡ q)
  pub held : (level place v : ℕ) → Leads s level place v → is_some (s.tree.under v) ≡ true
  pub used : (level place v : ℕ) → Leads s level place v → IsRight (kind_for s.tree.owner level) (pointer_at s.tree level place) (taken v)
  -- over what changed stands a node in memory that changed, too
  pub over : (level place : ℕ) → s.changed level place ≡ true → (pointer_at s.tree level place).stamp ≢ 0 → level < s.tree.levels → s.changed (level + 1) (place / fan) ≡ true
  -- what didn't change stands in its block
  pub same : (level place : ℕ) (xs : List Pointer) → 1 ≤ level → s.tree.nodes level place ≡ Some xs → s.changed level place ≡ false → (pointer_at s.tree level place).stamp ≢ 0
      → (pointers_in (s.tree.under (pointer_at s.tree level place).vvbn) ≡ xs) × (s.placed level place ≡ true)
  pub cells : (index : ℕ) (block : List ℕ) → s.tree.cells index ≡ Some block → s.changed 0 index ≡ false → (pointer_at s.tree 0 index).stamp ≢ 0
      → (s.tree.under (pointer_at s.tree 0 index).vvbn ≡ Some block) × (s.placed 0 index ≡ true)
  -- what nothing leads to is empty; above the levels a write that failed may have left nodes over the root
  pub empty : (level place : ℕ) → 1 ≤ level → (pointer_at s.tree level place).stamp ≡ 0 → (level ≤ s.tree.levels) ⊎ ((place ≢ 0) ⊎ (s.tree.root.stamp ≡ 0)) → IsEmptyNode s.tree level place

-- a tree stands on what a source shows
abbrev pub Stands : Shown → Tree → Type 0
Stands source t = IsSound source.used (loaded source t)

-- ---- what a flush does

-- a cell or node that changed was placed, and a pointer leads to it
pub record IsFlushed (old new : Loaded) (level place : ℕ) : Type 0 where
  pub was : old.changed level place ≡ true
  pub done : new.changed level place ≡ false
  pub some : (pointer_at old.tree level place).stamp ≢ 0

-- the block under this VVBN was replaced
pub record IsReplaced (old new : Loaded) (v : ℕ) : Type 0 where
  pub level : ℕ
  pub place : ℕ
  pub flushed : IsFlushed old new level place
  pub leads : Leads old level place v

-- a block was placed under this VVBN
pub record IsPlaced (old new : Loaded) (v : ℕ) : Type 0 where
  pub level : ℕ
  pub place : ℕ
  pub flushed : IsFlushed old new level place
  pub vvbn : (pointer_at new.tree level place).vvbn ≡ v

-- A pointer that leads to a block of which the place isn't known.
abbrev pub is_unknown : Pointer → Bool
is_unknown p = not (p.stamp == 0) && (p.pvbn == 0)

-- whether a cell of a tree with this owner is an inode block in which the root of some file has an unknown place
abbrev pub has_unknown_root : ℕ → List ℕ → Bool
has_unknown_root owner block = (owner == greatest_word) && list_any (λ (r : InodeRecord). is_unknown r.root) (records_in (Some block))

-- a node holds an unknown pointer, to a range or cell one level below
pub record HoldsUnknown (t : Rooted) (level place : ℕ) : Type 0 where
  pub below : ℕ
  pub child : ℕ
  pub up : below + 1 ≡ level
  pub over : child / fan ≡ place
  pub some : (pointer_at t below child).stamp ≢ 0
  pub unknown : (pointer_at t below child).pvbn ≡ 0

-- a cell of an inode file holds the root of a file, of which the place isn't known
pub record HoldsUnknownRoot (t : Rooted) (level place : ℕ) : Type 0 where
  pub cell : level ≡ 0
  pub block : List ℕ
  pub holds : block_at t place ≡ Some block
  pub unknown : has_unknown_root t.owner block ≡ true

-- a block is that of a node that names this owner, level and place
pub record IsNodeOf (owner level place : ℕ) (held : Option (List ℕ)) : Type 0 where
  pub block : List ℕ
  pub lies : held ≡ Some block
  pub children : List Pointer
  pub spells : node_at block ≡ Ok (record { level = level; owner = owner; place = place; children = children })

-- the block of a node of the tree names its position
abbrev pub NamesPosition : Rooted → ℕ → ℕ → Type 0
NamesPosition t level place = IsNodeOf t.owner level place (t.under (pointer_at t level place).vvbn)

-- Some of what changed was placed. Each of it has one place and one pointer, and the blocks that were placed and replaced are
-- those alone. Where it `hides` places, as while a volume is being split, each pointer to what was placed is unknown.
pub record Flushes (hides : Bool) (old : Loaded) (used : ℕ → Option Use) (new : Loaded) (uses : ℕ → Option Use) : Type 0 where
  pub owner : new.tree.owner ≡ old.tree.owner
  pub sound : IsSound uses new
  pub alike : IsAlike old.tree new.tree
  pub stamps : (level place : ℕ) → (pointer_at new.tree level place).stamp ≡ (pointer_at old.tree level place).stamp
  -- what changed can't grow, and all pointers but those to what was placed stay
  pub fewer : (level place : ℕ) → new.changed level place ≡ true → (old.changed level place ≡ true) × (new.placed level place ≡ old.placed level place)
  pub stays : (level place : ℕ) → (new.changed level place ≡ true) ⊎ (old.changed level place ≡ false) → pointer_at new.tree level place ≡ pointer_at old.tree level place
  -- blocks that aren't replaced stay
  pub blocks : (v : ℕ) (block : List ℕ) → (IsReplaced old new v → ⊥) → old.tree.under v ≡ Some block → new.tree.under v ≡ Some block
  pub others : (v : ℕ) → (IsReplaced old new v → ⊥) → (IsPlaced old new v → ⊥) → (new.tree.under v ≡ old.tree.under v) × (uses v ≡ used v)
  -- a block is placed where none was held and no VVBN was in use, but for one that was replaced
  pub fresh : (v : ℕ) → IsPlaced old new v → (IsReplaced old new v → ⊥) → (old.tree.under v ≡ None) × (used v ≡ None)
  -- what was replaced is no longer in use
  pub gone : (v : ℕ) → IsReplaced old new v → (IsPlaced old new v → ⊥) → uses v ≡ None
  -- a node that was placed and holds an unknown pointer is led to by one
  pub unknown : (level place : ℕ) → IsFlushed old new (level + 1) (place / fan) → (pointer_at new.tree level place).stamp ≢ 0 → (pointer_at new.tree level place).pvbn ≡ 0
      → (pointer_at new.tree (level + 1) (place / fan)).pvbn ≡ 0
  -- so is an inode block that was placed and holds an unknown root
  pub unknown_roots : (place : ℕ) (block : List ℕ) → IsFlushed old new 0 place → block_at new.tree place ≡ Some block → has_unknown_root new.tree.owner block ≡ true → (pointer_at new.tree 0 place).pvbn ≡ 0
  pub hidden : hides ≡ true → (level place : ℕ) → IsFlushed old new level place → (pointer_at new.tree level place).pvbn ≡ 0
  -- any other pointer to what was placed tells the PVBN that it was placed with
  pub told : hides ≡ false → (level place : ℕ) → IsFlushed old new level place
      → (uses (pointer_at new.tree level place).vvbn ≡ Some (use_told (pointer_at new.tree level place) (kind_for new.tree.owner level))) ⊎ (HoldsUnknown new.tree level place ⊎ HoldsUnknownRoot new.tree level place)
  -- what was placed has the kind of its level
  pub kinds : (level place : ℕ) → IsFlushed old new level place → HasKind (kind_for new.tree.owner level) (uses (pointer_at new.tree level place).vvbn)
  -- a node that was placed names its position, by which no reader judges it
  pub positions : (level place : ℕ) → 1 ≤ level → IsFlushed old new level place → NamesPosition new.tree level place

-- ---- its steps

-- none of the pointers is an unknown one
abbrev pub all_known : List Pointer → Bool
all_known [] = true
all_known (p ∷ ps) = not (is_unknown p) && all_known ps

-- the pointer to a position, as the root or the node over it in memory has it
abbrev pub child_of : Option (List Pointer) → ℕ → Pointer
child_of None slot = hole
child_of (Some xs) slot = get_or xs slot hole

unfoldable pub pointer_in : Tree → ℕ → ℕ → Pointer
pointer_in t level place =
    if nat_lt level t.levels then child_of (node_in t (level + 1) (place / fan)) (place % fan)
    else if level == t.levels && place == 0 then t.root else hole

-- a pointer to a position is another one, where the node over it is in memory
pub record Points (old new : Tree) (level place : ℕ) (p : Pointer) : Type 0 where
  pub owner : new.owner ≡ old.owner
  pub levels : new.levels ≡ old.levels
  pub cells : new.cells ≡ old.cells
  pub low : level < old.levels → new.root ≡ old.root
  pub top : old.levels ≤ level → new.root ≡ p
  pub node : level < old.levels → node_in new (level + 1) (place / fan) ≡ option_map (λ xs. slice_set xs (place % fan) p) (node_in old (level + 1) (place / fan))
  pub others : (k q : ℕ) → (k ≢ level + 1) ⊎ (q ≢ place / fan) → node_in new k q ≡ node_in old k q
  pub still : old.levels ≤ level → new.nodes ≡ old.nodes
  pub len : tree.btree_map_len new.nodes ≡ tree.btree_map_len old.nodes
  pub placed : (k q : ℕ) → placed_in new.nodes k q ≡ placed_in old.nodes k q
  pub changed : (k q : ℕ) → ((k ≢ level + 1) ⊎ (q ≢ place / fan)) ⊎ (changed_in old.nodes k q ≡ true) → changed_in new.nodes k q ≡ changed_in old.nodes k q

-- as much is in memory: the same cells, and nodes of the same places; where the tree leads nowhere it has the root that it had
pub record HoldsAsMuch (old new : Tree) : Type 0 where
  pub owner : new.owner ≡ old.owner
  pub levels : new.levels ≡ old.levels
  pub root : old.root.stamp ≡ 0 → new.root ≡ old.root
  pub cells : new.cells ≡ old.cells
  pub len : tree.btree_map_len new.nodes ≡ tree.btree_map_len old.nodes
  pub there : (k q : ℕ) → is_some (tree.get spot_cmp new.nodes (k, q)) ≡ is_some (tree.get spot_cmp old.nodes (k, q))

-- A block of a kind is placed, to which the pointer p leads, and the VVBN r is named as gone, or none. The pointer tells the block's PVBN
-- where it may.
pub record Swaps (old : Shown) (kind : ℕ) (content : List ℕ) (named known : Bool) (r : ℕ) (p : Pointer) (new : Shown) : Type 0 where
  pub fresh : fin.get old.held p.vvbn ≡ None
  pub unused : old.used p.vvbn ≡ None
  pub block : (named ≡ false) ⊎ (r ≢ p.vvbn) → fin.get new.held p.vvbn ≡ Some content
  pub used : (named ≡ false) ⊎ (r ≢ p.vvbn) → IsRight kind p (new.used p.vvbn)
  pub told : known ≡ true → (named ≡ false) ⊎ (r ≢ p.vvbn) → new.used p.vvbn ≡ Some (use_told p kind)
  pub unknown : known ≡ false → p.pvbn ≡ 0
  pub gone : named ≡ true → new.used r ≡ None
  pub strays : (named ≡ true → is_some (old.used r) ≡ true) → new.strays ≡ old.strays
  pub others : (w : ℕ) → w ≢ p.vvbn → (named ≡ false) ⊎ (w ≢ r) → (fin.get new.held w ≡ fin.get old.held w) × (new.used w ≡ old.used w)

-- a VVBN came into use
pub record CameIntoUse (old new : Shown) (v : ℕ) : Type 0 where
  pub unused : old.used v ≡ None
  pub used : is_some (new.used v) ≡ true

-- what is asked of a VVBN holds of each one that didn't come into use
abbrev pub KeepsOthers : (ℕ → Type 0) → Shown → Shown → Type 0
KeepsOthers stays old new = (v : ℕ) → (CameIntoUse old new v → ⊥) → stays v

-- the block that a pointer leads to is in use, where it is named as gone
abbrev pub NamesUsed : Shown → Bool → Pointer → Type 0
NamesUsed source named p = named ≡ true → p.stamp ≢ 0 → is_some (source.used p.vvbn) ≡ true

-- nothing was placed, since nothing leads there
pub record IsHidden (old : Shown) (t : Tree) (level place : ℕ) (new : Shown) (u : Tree) : Type 0 where
  pub none : (pointer_in t level place).stamp ≡ 0
  pub tree : u ≡ t
  pub untouched : IsUntouched old new

-- a block was placed, and the pointer leads to it
pub record IsMoved (old : Shown) (t : Tree) (level place : ℕ) (content : List ℕ) (named known : Bool) (new : Shown) (u : Tree) : Type 0 where
  pub some : (pointer_in t level place).stamp ≢ 0
  pub pointer : Pointer
  pub stamp : pointer.stamp ≡ (pointer_in t level place).stamp
  pub swaps : Swaps old (kind_for t.owner level) content named known (pointer_in t level place).vvbn pointer new
  pub points : Points t u level place pointer

-- a cell or a node is no longer in memory
pub record ForgetsCell (t u : Tree) (place : ℕ) : Type 0 where
  pub owner : u.owner ≡ t.owner
  pub levels : u.levels ≡ t.levels
  pub root : u.root ≡ t.root
  pub nodes : u.nodes ≡ t.nodes
  pub own : tree.get nat_cmp u.cells place ≡ None
  pub others : (i : ℕ) → i ≢ place → tree.get nat_cmp u.cells i ≡ tree.get nat_cmp t.cells i

pub record ForgetsNode (t u : Tree) (level place : ℕ) : Type 0 where
  pub owner : u.owner ≡ t.owner
  pub levels : u.levels ≡ t.levels
  pub root : u.root ≡ t.root
  pub cells : u.cells ≡ t.cells
  pub own : tree.get spot_cmp u.nodes (level, place) ≡ None
  pub others : (k q : ℕ) → (k ≢ level) ⊎ (q ≢ place) → tree.get spot_cmp u.nodes (k, q) ≡ tree.get spot_cmp t.nodes (k, q)

-- the tree has the same owner and levels, where it leads nowhere the same root, and no cell came into memory
pub record IsLeft (old new : Tree) : Type 0 where
  pub owner : new.owner ≡ old.owner
  pub levels : new.levels ≡ old.levels
  pub root : old.root.stamp ≡ 0 → new.root ≡ old.root
  pub cells : cells_held new ≤ cells_held old

-- nothing was placed, since the node didn't change or isn't one of the tree's levels
pub record IsIdle (old : Shown) (t : Tree) (level : ℕ) (changed : Bool) (new : Shown) (u : Tree) : Type 0 where
  pub why : (changed ≡ false) ⊎ ((level ≡ 0) ⊎ (t.levels < level))
  pub tree : u ≡ t
  pub untouched : IsUntouched old new

-- the node's block was placed
pub record IsNodeMoved (hides : Bool) (old : Shown) (t : Tree) (level place : ℕ) (node : KeptNode) (new : Shown) (u : Tree) : Type 0 where
  pub low : 1 ≤ level
  pub changed : node.changed ≡ true
  pub block : List ℕ
  pub spells : node_at block ≡ Ok (record { level = level; owner = t.owner; place = place; children = node.children })
  pub moved : IsMoved old t level place block node.placed (not hides && all_known node.children) new u

-- nothing was placed, since the cell didn't change
pub record IsCellIdle (old : Shown) (t : Tree) (changed : Bool) (new : Shown) (u : Tree) : Type 0 where
  pub why : changed ≡ false
  pub tree : u ≡ t
  pub untouched : IsUntouched old new

-- the cell's block was placed
pub record IsCellMoved (hides : Bool) (old : Shown) (t : Tree) (place : ℕ) (content : List ℕ) (differs named : Bool) (new : Shown) (u : Tree) : Type 0 where
  pub changed : differs ≡ true
  pub moved : IsHidden old t 0 place new u ⊎ IsMoved old t 0 place content named (not hides && not (has_unknown_root t.owner content)) new u

abbrev pub IsCellStep : Bool → Shown → Tree → ℕ → List ℕ → Bool → Bool → Shown → Tree → Type 0
IsCellStep hides old t place content differs named new u = IsCellIdle old t differs new u ⊎ IsCellMoved hides old t place content differs named new u

abbrev pub IsNodeStep : Bool → Shown → Tree → ℕ → ℕ → KeptNode → Shown → Tree → Type 0
IsNodeStep hides old t level place node new u = IsIdle old t level node.changed new u ⊎ (IsHidden old t level place new u ⊎ IsNodeMoved hides old t level place node new u)

-- ---- a tree of which nothing is in memory

-- the tree reaches each VVBN once, its block is held and in use with the kind of its level, and the pointer to it tells no wrong PVBN
pub record ReachesOnce (taken : ℕ → Option Use) (t : Rooted) : Type 0 where
  pub once : (level place k q : ℕ) → (pointer_at t level place).stamp ≢ 0 → (pointer_at t k q).stamp ≢ 0 → (pointer_at t level place).vvbn ≡ (pointer_at t k q).vvbn → (level ≡ k) × (place ≡ q)
  pub held : (level place : ℕ) → (pointer_at t level place).stamp ≢ 0 → is_some (t.under (pointer_at t level place).vvbn) ≡ true
  pub used : (level place : ℕ) → (pointer_at t level place).stamp ≢ 0 → IsRight (kind_for t.owner level) (pointer_at t level place) (taken (pointer_at t level place).vvbn)
