use Rattle.std.proofs.Common.{◌≡◌, ◌≤◌, ◌*◌, map}
use Rattle.std.specs.List.{range_with_len}
use Rattle.fv_model.specs.Numbers.{most_asked}
use Rattle.fv_cp.specs.Choosing.{marked_at}
use Rattle.fv_cp.specs.Lent.{blocks_asked}
use Rattle.fv_cp.specs.Planning.{is_set}
use Rattle.fv_cp.proofs.asking.blocks_asked.Given as goal

abbrev pub invariant-loop-slot : goal.invariant-loop-slot
invariant-loop-slot l = record {
  sum : l.asked ≡ blocks_asked (map (marked_at (is_set l.due) l.volumes) (range_with_len 0 l.slot));
  most : l.asked ≤ most_asked * l.slot;
}
