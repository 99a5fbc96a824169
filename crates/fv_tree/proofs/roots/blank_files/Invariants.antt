use Rattle.std.proofs.Common.{◌≡◌, ℕ, cond, nat_lt, get_or, length}
use Rattle.fv_tables.specs.Told.{free_record}
use Rattle.fv_tables.specs.Alike.{hintless_record}
use Rattle.fv_tree.proofs.roots.blank_files.Given as goal

abbrev pub invariant-loop-slot : goal.invariant-loop-slot
invariant-loop-slot l = record {
  long : length l.files ≡ 16;
  each : (k : ℕ) → get_or l.files k free_record ≡ cond (nat_lt k l.slot) (hintless_record (get_or l.fn.files k free_record)) (get_or l.fn.files k free_record);
}
