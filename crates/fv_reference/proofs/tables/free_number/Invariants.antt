use Rattle.std.proofs.Common.{◌≡◌, ◌<◌, ◌+◌, ℕ, true}
use Rattle.std.specs.Ordering.{nat_cmp}
use Rattle.std.specs.FinMap as fin
use Rattle.fv_reference.specs.Maps.{map_of}
use Rattle.fv_reference.proofs.tables.free_number.Given as goal

abbrev pub invariant-loop-number : goal.invariant-loop-number
invariant-loop-number l = record {
  bound : l.end ≡ fin.len (map_of nat_cmp l.files) + 1;
  below : (k : ℕ) → k < l.number → fin.contains_key (map_of nat_cmp l.files) k ≡ true;
}
