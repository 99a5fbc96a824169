-- What the pointers of a tree spell over a map from VVBNs to blocks.
--
-- A tree is named by its owner, its levels and its root pointer. Level 0 are its cells, and the node of range p at a level
-- above holds 128 pointers, to the ranges 128 * p and up of the level below. A pointer's stamp is that of the mark or the
-- cell that it leads to, and a hole leads to nothing. A pointer's PVBN plays no part here.
--
-- A node is taken by where the pointer led, whatever owner, level and place its block names.
use Rattle.std.specs.Prelude.{ℕ, zero, suc, ◌-◌, ◌/◌, ◌%◌, List, [], Option, Some, None, Result, Ok, Err, get_or, nat_le, ◌==◌, if◌then◌else◌}
use Rattle.fv_codec.specs.declared.shape.Shape.{Shape}
use Rattle.fv_codec.specs.declared.pointer.Pointer.{Pointer}
use Rattle.fv_codec.specs.declared.node.Node.{Node}
use Rattle.fv_codec.specs.Fields.{Verdict, in_range, ◌then◌}
use Rattle.fv_codec.specs.Blocks.{node_at}
use Rattle.fv_model.specs.Trees.{fan}

-- the block under each VVBN
abbrev pub Under : Type 0
Under = ℕ → Option (List ℕ)

abbrev pub hole : Pointer
hole = record { vvbn = 0; pvbn = 0; stamp = 0 }

-- what a node says against its position, field by field in the order of the block
abbrev pub position : ℕ → ℕ → ℕ → Node → Verdict
position owner level place n = in_range level level n.level then in_range owner owner n.owner then in_range place place n.place

-- the pointers of a node's block; none where it hasn't the shape
abbrev pub pointers_of : Result Node Shape → List Pointer
pointers_of (Ok n) = n.children
pointers_of (Err fault) = []

-- those of a block that may not be there
abbrev pub pointers_in : Option (List ℕ) → List Pointer
pointers_in None = []
pointers_in (Some block) = pointers_of (node_at block)

-- The pointers of the nodes that are held in memory, by level and range; None for a node that isn't.
abbrev pub Kept : Type 0
Kept = ℕ → ℕ → Option (List Pointer)

-- a tree, of which some nodes and cells may be held in memory; those count in place of blocks
pub record Rooted : Type 0 where
  pub under : Under
  pub owner : ℕ
  pub levels : ℕ
  pub root : Pointer
  pub nodes : Kept
  pub cells : Under

-- a tree whose nodes and cells all stand in their blocks
abbrev pub stored : Under → ℕ → ℕ → Pointer → Rooted
stored under owner levels root = record { under = under; owner = owner; levels = levels; root = root; nodes = λ level place. None; cells = λ index. None }

-- the pointers of a node that is in memory, or else of its block
abbrev pub kept_or : Option (List Pointer) → List Pointer → List Pointer
kept_or None pointers = pointers
kept_or (Some kept) pointers = kept

-- the pointers of the node to which a pointer leads
unfoldable pub pointers_at : Rooted → ℕ → ℕ → Pointer → List Pointer
pointers_at t level place p =
    if p.stamp == 0 then [] else kept_or (t.nodes level place) (pointers_in (t.under p.vvbn))

-- the pointer to the range `place` that lies so many steps below the root
unfoldable pub pointer_below : Rooted → ℕ → ℕ → Pointer
pointer_below t zero place = if place == 0 then t.root else hole
pointer_below t (suc steps) place =
    get_or (pointers_at t (t.levels - steps) (place / fan) (pointer_below t steps (place / fan))) (place % fan) hole

-- the pointer to a range of a level, or to a cell
unfoldable pub pointer_at : Rooted → ℕ → ℕ → Pointer
pointer_at t level place = if nat_le level t.levels then pointer_below t (t.levels - level) place else hole

-- the stamp of a cell or mark, where there is one
abbrev pub stamp_in : Pointer → Option ℕ
stamp_in p = if p.stamp == 0 then None else Some p.stamp

abbrev pub block_or : Option (List ℕ) → Option (List ℕ) → Option (List ℕ)
block_or None block = block
block_or (Some kept) block = Some kept

-- the block of a cell, where there is one
unfoldable pub block_at : Rooted → ℕ → Option (List ℕ)
block_at t index =
    if (pointer_at t 0 index).stamp == 0 then None else block_or (t.cells index) (t.under (pointer_at t 0 index).vvbn)
