use Rattle.std.proofs.Common.{◌≡◌, ◌-◌, Bool, true}
use Rattle.std.specs.BTreeMap as maps
use Rattle.fv_files.specs.Calls.{KeepsStored}
use Rattle.fv_tree.specs.Sources.{WasFree}
use Rattle.fv_files.specs.Altering.{FlushesKeep, FlushesPlaces}
use Rattle.fv_files.specs.Flushing.{LaysTrees}
use Rattle.std.specs.Prelude.{Ok}
use Rattle.fv_files.proofs.flush.flush_trees.Given as goal

abbrev pub invariant-loop : goal.invariant-loop
invariant-loop g l = record {
  lays : LaysTrees {T = Unit {0}} g.B.Blocks.told (g.B.Blocks.shown l.fn.blocks) (g.B.Blocks.shown l.blocks) l.fn.files l.files (Ok tt);
  places : FlushesPlaces g.B.Blocks.told (WasFree g.B.Blocks.shown g.B.Blocks.goes l.fn.blocks l.blocks) (g.B.Blocks.shown l.fn.blocks) (g.B.Blocks.shown l.blocks) l.fn.files l.files;
  keeps : FlushesKeep g.B.Blocks.told (λ v. g.B.Blocks.keeps v l.fn.blocks l.blocks) (g.B.Blocks.shown l.fn.blocks) (g.B.Blocks.shown l.blocks) l.fn.files l.files;
  stored_well : g.B.Blocks.told → (known : Bool) → (known ≡ true → g.B.Blocks.known) → KeepsStored known (g.B.Blocks.shown l.fn.blocks) (g.B.Blocks.shown l.blocks) l.fn.files l.files;
  count : maps.btree_map_len l.files.trees ≡ maps.btree_map_len l.fn.files.trees - l.counter;
  calls : g.B.Blocks.goes l.fn.blocks l.blocks;
}
