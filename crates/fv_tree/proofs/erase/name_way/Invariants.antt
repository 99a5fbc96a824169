use Rattle.std.proofs.Common.{◌≡◌, ◌≤◌, ◌+◌}
use Rattle.fv_tree.specs.Releasing.{Releases}
use Rattle.fv_tree.specs.Unlinking.{IsOnWay, NamesOnce}
use Rattle.fv_tree.proofs.erase.name_way.Given as goal

abbrev pub invariant-loop-level : goal.invariant-loop-level
invariant-loop-level g l = record {
  released : Releases (g.B.Blocks.shown l.fn.blocks) (g.B.Blocks.shown l.blocks) (IsOnWay l.tree l.index l.level);
  strays : NamesOnce (g.B.Blocks.shown l.fn.blocks).used l.tree l.index (l.lost + 1) → (g.B.Blocks.shown l.blocks).strays ≡ (g.B.Blocks.shown l.fn.blocks).strays;
  room : (g.B.Blocks.shown l.fn.blocks).room ≤ (g.B.Blocks.shown l.blocks).room;
  calls : g.B.Blocks.goes l.fn.blocks l.blocks;
}
