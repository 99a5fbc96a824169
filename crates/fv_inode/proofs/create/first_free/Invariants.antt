use Rattle.std.proofs.Common.{◌≡◌, ◌<◌, ℕ, true, get_or}
use Rattle.std.specs.Prelude.{is_some}
use Rattle.fv_tables.specs.Told.{free_record, used_record}
use Rattle.fv_inode.proofs.create.first_free.Given as goal

abbrev pub invariant-loop-slot : goal.invariant-loop-slot
invariant-loop-slot l = (k : ℕ) → k < l.slot → is_some (used_record (get_or l.files k free_record)) ≡ true
