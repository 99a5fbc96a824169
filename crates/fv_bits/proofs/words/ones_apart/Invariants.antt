use Rattle.std.proofs.Common.{◌≡◌, ◌*◌, ◌-◌, count_by}
use Rattle.std.specs.List.{range_with_len}
use Rattle.fv_bits.specs.Stored.{is_apart}
use Rattle.fv_bits.proofs.words.ones_apart.Given as goal

abbrev pub invariant-loop-at : goal.invariant-loop-at
invariant-loop-at l = l.total ≡ count_by (is_apart l.words l.others) (range_with_len (64 * l.first) (64 * (l.at - l.first)))
