use Rattle.std.proofs.Common.{◌≡◌, ℕ, cond, nat_lt, get_or, length}
use Rattle.fv_tree.specs.Spelled.{hole}
use Rattle.fv_tables.specs.Alike.{hintless}
use Rattle.fv_tree.proofs.blank.blank_all.Given as goal

abbrev pub invariant-loop-slot : goal.invariant-loop-slot
invariant-loop-slot l = record {
  long : length l.children ≡ 128;
  each : (k : ℕ) → get_or l.children k hole ≡ cond (nat_lt k l.slot) (hintless (get_or l.fn.children k hole)) (get_or l.fn.children k hole);
}
