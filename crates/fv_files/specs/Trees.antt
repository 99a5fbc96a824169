-- The trees of a table that are in memory, and what a table with such trees is.
use Rattle.std.specs.Prelude.{ℕ}
use Rattle.std.specs.Option.{option_map}
use Rattle.std.specs.Ordering.{nat_cmp}
use Rattle.std.specs.BTreeMap as tree
use Rattle.fv_tables.specs.Spelled.{Under}
use Rattle.fv_tables.specs.Told.{Standing}
use Rattle.fv_tree.specs.declared.kept.Tree.{Tree}
use Rattle.fv_tree.specs.Standing.{standing}

-- The trees of an active table that changed since the last flush: its inode file, and by number those of its files that did.
pub record Changed : Type 0 where
  pub inode : Tree
  pub files : tree.BTreeMap ℕ Tree

-- a table with such trees over the blocks that a volume leads to; each other file's tree stands in its blocks
abbrev pub standing_in : Under → Changed → Standing
standing_in blocks c = record { inode = standing blocks c.inode; trees = λ n. option_map (standing blocks) (tree.get nat_cmp c.files n) }
