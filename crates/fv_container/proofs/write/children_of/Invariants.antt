use Rattle.std.proofs.Common.{◌≡◌, ℕ, ◌<◌, ◌≤◌, length, get_or}
use Rattle.fv_codec.specs.Blocks.{last_place}
use Rattle.fv_container.specs.Written.{child_from}
use Rattle.fv_container.proofs.write.children_of.Given as goal

abbrev pub invariant-loop-c : goal.invariant-loop-c
invariant-loop-c l = record {
  len : length l.children ≡ 256;
  children : (k : ℕ) → k < l.c → get_or l.children k 0 ≡ child_from l.places l.from l.end k;
  bounded : (k : ℕ) → k < l.c → get_or l.children k 0 ≤ last_place;
}
