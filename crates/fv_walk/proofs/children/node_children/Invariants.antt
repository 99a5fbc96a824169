use Rattle.std.proofs.Common.{◌≡◌, length, take}
use Rattle.std.specs.Prelude.{map}
use Rattle.std.specs.List.{All, enumerate_from}
use Rattle.fv_walk.specs.Visits.{IsUnder}
use Rattle.fv_walk.proofs.Lists.{child_at}
use Rattle.fv_walk.proofs.children.node_children.Given as goal

abbrev pub invariant-loop-slot : goal.invariant-loop-slot
invariant-loop-slot l = record {
  long : length l.pointers ≡ 128;
  are : l.all.items ≡ map (child_at l.visit l.block) (enumerate_from 0 (take l.slot l.pointers));
  under : All (IsUnder l.visit) l.all.items;
}
