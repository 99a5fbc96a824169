-- What a write carries over of how a tree stands to its blocks: which nodes come into memory, and what is said of them.
use Rattle.std.specs.Prelude.{◌≡◌, ◌≢◌, ◌≤◌, ◌<◌, ◌⊎◌, ℕ, ◌+◌, ◌/◌, ◌^◌, true, false, Option, Some, None, is_some, replicate}
use Rattle.std.specs.BTreeMap as tree
use Rattle.fv_codec.specs.declared.pointer.Pointer.{Pointer}
use Rattle.fv_model.specs.Trees.{fan, Spot, spot_cmp}
use Rattle.fv_tree.specs.declared.kept.Tree.{Tree}
use Rattle.fv_tree.specs.declared.kept.KeptNode.{KeptNode}
use Rattle.fv_tree.specs.Spelled.{Under, hole, pointers_in}
use Rattle.fv_tree.specs.Flushing.{changed_in, placed_in}
use Rattle.fv_tree.specs.Costs.{changes_in}

abbrev pub kept_at : Tree → ℕ → ℕ → Option KeptNode
kept_at t level place = tree.get spot_cmp t.nodes (level, place)

-- a node to which nothing leads yet
pub record IsBlank (kept : Option KeptNode) : Type 0 where
  pub node : KeptNode
  pub is : kept ≡ Some node
  pub children : node.children ≡ replicate 128 hole
  pub changed : node.changed ≡ false
  pub placed : node.placed ≡ false

-- a node as its block spells it
pub record IsRead (blocks : Under) (vvbn : ℕ) (kept : Option KeptNode) : Type 0 where
  pub node : KeptNode
  pub is : kept ≡ Some node
  pub spelled : pointers_in (blocks vvbn) ≡ node.children
  pub changed : node.changed ≡ false
  pub placed : node.placed ≡ true

-- A node comes into memory as its block spells it, or without a pointer where nothing leads to it, or it stays as it is.
pub record Brings (blocks : Under) (old new : Tree) (level place : ℕ) (p : Pointer) : Type 0 where
  pub others : (k q : ℕ) → (k ≢ level) ⊎ (q ≢ place) → kept_at new k q ≡ kept_at old k q
  pub own : (kept_at new level place ≡ kept_at old level place)
      ⊎ (((p.stamp ≡ 0) × IsBlank (kept_at new level place))
      ⊎ ((p.stamp ≢ 0) × (kept_at old level place ≡ None) × IsRead blocks p.vvbn (kept_at new level place)))

-- nodes over a cell past the levels come into memory, and nodes over the root where there is one
abbrev pub BringsNew : Tree → Tree → ℕ → Type 0
BringsNew old new i = (level place : ℕ) → (kept_at new level place ≡ kept_at old level place)
    ⊎ (((place ≡ i / fan ^ level) × IsBlank (kept_at new level place))
    ⊎ ((old.root.stamp ≢ 0) × (old.levels < level) × (place ≡ 0)))

-- no other node in memory differs from its block
abbrev pub MarksNoMore : Tree → Tree → Type 0
MarksNoMore old new = (level place : ℕ) → changed_in new.nodes level place ≡ true → changed_in old.nodes level place ≡ true

-- Of the nodes in memory at most three more differ from their blocks, and none more in a tree that had no cell.
pub record MarksFew (old new : Tree) : Type 0 where
  pub changes : changes_in new.nodes ≤ changes_in old.nodes + 3
  pub unchanged : old.root.stamp ≡ 0 → changes_in new.nodes ≤ changes_in old.nodes

-- a node over the root of a tree that grows
pub record IsTop (t : Tree) (level : ℕ) : Type 0 where
  pub changed : changed_in t.nodes level 0 ≡ true
  pub placed : placed_in t.nodes level 0 ≡ false

-- A node changed, where it is in memory, and no other one. Where each lies is as it was.
pub record MarksNode (old new : tree.BTreeMap Spot KeptNode) (level place : ℕ) : Type 0 where
  pub placed : (k q : ℕ) → placed_in new k q ≡ placed_in old k q
  pub changed : is_some (tree.get spot_cmp old (level, place)) ≡ true → changed_in new level place ≡ true
  pub others : (k q : ℕ) → (k ≢ level) ⊎ (q ≢ place) → tree.get spot_cmp new (k, q) ≡ tree.get spot_cmp old (k, q)
  pub count : changes_in new ≤ changes_in old + 1

-- the nodes over a cell changed, where they are in memory
pub record Marks (old new : Tree) (i : ℕ) : Type 0 where
  pub placed : (level place : ℕ) → placed_in new.nodes level place ≡ placed_in old.nodes level place
  pub way : (level : ℕ) → 1 ≤ level → level ≤ old.levels → is_some (kept_at old level (i / fan ^ level)) ≡ true → changed_in new.nodes level (i / fan ^ level) ≡ true
  pub others : (level place : ℕ) → place ≢ i / fan ^ level → changed_in new.nodes level place ≡ changed_in old.nodes level place
