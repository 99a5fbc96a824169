-- The code of a map of trees, by which a proof tells two of them apart.
use Rattle.std.specs.Prelude.{ℕ}
use Rattle.std.specs.Borrow.{u32}
use Rattle.std.specs.BTreeMap as maps
use Rattle.std.specs.Coded.{Coded}
use Rattle.std.specs.contracts.alloc.Global as global
use Rattle.std.specs.contracts.collections.BTreeMap as tree_map
use Rattle.std.specs.contracts.impls.GlobalAllocator.TheImpl as allocator
use Rattle.std.specs.contracts.prelude.U32Ord.TheImpl as ord
use Rattle.std.specs.contracts.prelude.U32PartialEq.TheImpl as eq
use Rattle.std.specs.contracts.prelude.U32PartialOrd.TheImpl as partial_ord
use Rattle.fv_tree.specs.contracts.kept.Tree as kept
use Rattle.fv_tree.specs.declared.kept.Tree.{Tree}

abbrev pub trees_code : Coded (maps.BTreeMap ℕ Tree)
trees_code = (tree_map.the_row u32 kept.the_row global.the_row ord.ghosts eq.ghosts partial_ord.ghosts allocator.ghosts).coded
