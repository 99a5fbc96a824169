use Rattle.std.proofs.Common.{◌≡◌, ◌≤◌, ◌*◌, ◌+◌, ◌-◌, ℕ}
use Rattle.fv_tables.specs.Spelled.{Rooted}
use Rattle.fv_tables.specs.Told.{records_each}
use Rattle.fv_inode.specs.Files.{AreRecords}
use Rattle.fv_inode.specs.Listing.{numbers_in, names_from}
use Rattle.fv_inode.proofs.list.add_names.Given as goal

abbrev pub invariant-loop-slot : goal.invariant-loop-slot
invariant-loop-slot l = record {
  high : l.slot ≤ records_each;
  added : (t : Rooted) (count : ℕ) → AreRecords t l.cell l.files → numbers_in l.fn.numbers ≡ names_from t (records_each * l.cell + records_each) count
      → numbers_in l.numbers ≡ names_from t (records_each * l.cell + l.slot) ((records_each - l.slot) + count);
}

abbrev pub decreases-loop-slot : goal.decreases-loop-slot
decreases-loop-slot l = l.slot
