use Rattle.std.proofs.Common.{◌≡◌, ◌*◌, length, take}
use Rattle.std.specs.Prelude.{map}
use Rattle.std.specs.List.{All}
use Rattle.fv_faults.specs.Walks.{used_from}
use Rattle.fv_walk.specs.Visits.{IsUnder}
use Rattle.fv_walk.proofs.Lists.{root_at}
use Rattle.fv_walk.proofs.children.file_roots.Given as goal

abbrev pub invariant-loop-slot : goal.invariant-loop-slot
invariant-loop-slot l = record {
  long : length l.files ≡ 16;
  are : l.all.items ≡ map (root_at l.visit l.block) (used_from (16 * l.visit.place) (take l.slot l.files));
  under : All (IsUnder l.visit) l.all.items;
}
