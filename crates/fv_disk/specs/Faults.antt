-- What a count of faults of the disk tells of an answer: it rose where a fault of the disk is answered, and stays at every other
-- answer. So neither want of memory nor damage is ever told in place of a fault of the disk.
use Rattle.std.specs.Prelude.{◌≡◌, ℕ, Result, Ok, Err}
use Rattle.fv_disk.specs.Shown.{Rose}
use Rattle.fv_disk.specs.declared.fault.BlockFault.{BlockFault}
use Rattle.fv_disk.specs.declared.fault.BlockFault.TheVariants.{DiskFault, Damaged, Memory}

abbrev pub HasBlockCause : {T : Type 0} → ℕ → ℕ → Result T BlockFault → Type 0
HasBlockCause before now (Ok x) = now ≡ before
HasBlockCause before now (Err DiskFault) = Rose before now
HasBlockCause before now (Err (Damaged at want found)) = now ≡ before
HasBlockCause before now (Err Memory) = now ≡ before
