-- How much a flush has to place, and how much is in memory.
use Rattle.std.specs.Prelude.{◌≤◌, ℕ, ◌+◌, count_by, Result, IfErr}
use Rattle.std.specs.BTreeMap as maps
use Rattle.fv_disk.specs.declared.fault.BlockFault.{BlockFault}
use Rattle.fv_model.specs.Trees.{Spot}
use Rattle.fv_tree.specs.declared.kept.Tree.{Tree}
use Rattle.fv_tree.specs.declared.kept.KeptNode.{KeptNode}
use Rattle.fv_tree.specs.declared.kept.KeptCell.{KeptCell}
use Rattle.fv_tree.specs.Sources.{Shown, IsDamaged}

-- ---- what differs from its block

-- how many nodes in memory differ from their blocks
abbrev pub changes_in : maps.BTreeMap Spot KeptNode → ℕ
changes_in nodes = count_by (λ (kept : KeptNode). kept.changed) (maps.values nodes)

-- how many cells in memory do
abbrev pub cells_changed : maps.BTreeMap ℕ KeptCell → ℕ
cells_changed cells = count_by (λ (kept : KeptCell). kept.changed) (maps.values cells)

-- how many cells and nodes in memory do
abbrev pub pending : Tree → ℕ
pending t = cells_changed t.cells + changes_in t.nodes

-- ---- what is in memory

-- how many cells are in memory
abbrev pub cells_held : Tree → ℕ
cells_held t = maps.btree_map_len t.cells

-- At most so many more cells and nodes differ from their blocks, and at most so many more cells are in memory.
pub record Rises (old new : Tree) (more brought : ℕ) : Type 0 where
  pub pending : pending new ≤ pending old + more
  pub cells : cells_held new ≤ cells_held old + brought

-- ---- a flush

-- Of what differs from its block no more is left, and at most so many blocks were placed as fewer are.
pub record Fits (old : Shown) (t : Tree) (new : Shown) (u : Tree) : Type 0 where
  pub fewer : pending u ≤ pending t
  pub room : old.room + pending u ≤ new.room + pending t

-- With room for so many blocks no damage is answered.
abbrev pub IsEnough : {T : Type 0} → ℕ → ℕ → Result T BlockFault → Type 0
IsEnough needed room result = needed ≤ room → IfErr result (λ e. IsDamaged e → ⊥)
