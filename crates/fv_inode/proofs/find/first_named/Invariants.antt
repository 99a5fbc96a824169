use Rattle.std.proofs.Common.{◌+◌, ◌*◌}
use Rattle.fv_tables.specs.Spelled.{Rooted}
use Rattle.fv_tables.specs.Told.{records_each}
use Rattle.fv_inode.specs.Files.{AreRecords, HasNoneBelow}
use Rattle.fv_inode.proofs.find.first_named.Given as goal

abbrev pub invariant-loop-slot : goal.invariant-loop-slot
invariant-loop-slot l =
    (t : Rooted) → AreRecords t l.cell l.files → HasNoneBelow t l.name (records_each * l.cell) → HasNoneBelow t l.name (records_each * l.cell + l.slot)
