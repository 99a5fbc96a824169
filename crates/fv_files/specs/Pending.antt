-- How many blocks a flush of a table has to place.
use Rattle.std.specs.Prelude.{◌≤◌, ℕ, ◌+◌, sum_by}
use Rattle.std.specs.BTreeMap as maps
use Rattle.fv_tree.specs.declared.kept.Tree.{Tree}
use Rattle.fv_tree.specs.Sources.{Shown}
use Rattle.fv_tree.specs.Costs.{pending}
use Rattle.fv_files.specs.declared.files.Files.{Files}

-- what the root of a file's tree may cost in the inode file once the tree is placed: its inode block and the nodes over that
abbrev pub root_cost : ℕ
root_cost = 4

-- what a tree in memory costs: what differs of it from its blocks, and its root
abbrev pub tree_cost : Tree → ℕ
tree_cost t = pending t + root_cost

abbrev pub pending_trees : maps.BTreeMap ℕ Tree → ℕ
pending_trees trees = sum_by tree_cost (maps.values trees)

-- how many blocks a flush of a table places at most
abbrev pub pending_in : Files → ℕ
pending_in f = pending f.inode.tree + pending_trees f.trees

-- Of what a flush has to place no more is left, and at most so many blocks were placed as fewer are.
pub record FitsTable (old : Shown) (f : Files) (new : Shown) (g : Files) : Type 0 where
  pub fewer : pending_in g ≤ pending_in f
  pub room : old.room + pending_in g ≤ new.room + pending_in f
