use Rattle.std.proofs.Common.{Ok, ◌≡◌, ◌-◌, ℕ}
use Rattle.std.specs.BTreeMap as maps
use Rattle.fv_tree.specs.Calls.{PlacesChanged}
use Rattle.fv_tree.proofs.flush.flush_nodes.Given as goal

abbrev pub invariant-loop : goal.invariant-loop
invariant-loop g l = record {
  flushing : PlacesChanged {T = ℕ} l.fn.hides g.B.Blocks.told g.B.Blocks.known g.B.Blocks.shown g.B.Blocks.goes g.B.Blocks.keeps l.fn.blocks l.blocks l.fn.tree l.tree (Ok 0);
  count : maps.btree_map_len l.tree.nodes ≡ maps.btree_map_len l.fn.tree.nodes - l.counter;
  cells : l.tree.cells ≡ l.fn.tree.cells;
}
