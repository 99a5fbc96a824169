-- What a source's count of faults tells of an answer: it rose where a fault of the disk is answered, and stays at every other answer.
use Rattle.std.specs.Prelude.{◌≡◌, ℕ, Result, Ok, Err}
use Rattle.fv_disk.specs.Shown.{Rose}
use Rattle.fv_walk.specs.declared.fault.WalkFault.{WalkFault}
use Rattle.fv_walk.specs.declared.fault.WalkFault.TheVariants.{DiskFault, Memory}

abbrev pub HasWalkCause : {T : Type 0} → ℕ → ℕ → Result T WalkFault → Type 0
HasWalkCause before now (Ok x) = now ≡ before
HasWalkCause before now (Err DiskFault) = Rose before now
HasWalkCause before now (Err Memory) = now ≡ before
