use Rattle.std.proofs.Common.{◌≤◌, ◌+◌, ◌*◌, ℕ}
use Rattle.fv_model.specs.Trees.{fan}
use Rattle.fv_tree.specs.Collecting.{IsRising, AllBelow, Extends}
use Rattle.fv_tree.proofs.Collected.{IsChildBefore}
use Rattle.fv_tree.proofs.cut.add_ranges.Given as goal

abbrev pub invariant-loop-slot : goal.invariant-loop-slot
invariant-loop-slot l = record {
  added : Extends (IsChildBefore l.children l.level l.most l.place l.slot) l.fn.below.items l.below.items;
  rising : IsRising l.fn.below.items → AllBelow l.fn.below.items (l.place * fan) → IsRising l.below.items × AllBelow l.below.items (l.place * fan + l.slot);
  bound : (bound : ℕ) → (l.place + 1) * fan ≤ bound → AllBelow l.fn.below.items bound → AllBelow l.below.items bound;
}
