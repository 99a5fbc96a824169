-- What the count of faults of the disk tells of an answer.
use Rattle.std.specs.Prelude.{◌≡◌, ℕ, Result, Ok, Err}
use Rattle.fv_disk.specs.Shown.{Shown, Rose}
use Rattle.fv_disk.specs.DiskCalls.{OnlyReads}
use Rattle.fv_first_pass.specs.declared.fault.CheckFault.{CheckFault}
use Rattle.fv_first_pass.specs.declared.fault.CheckFault.TheVariants.{DiskFault, NotAggregate, Memory}

-- it rose where a fault of the disk is answered, and stays with every other answer
abbrev pub HasCheckCause : {T : Type 0} → ℕ → ℕ → Result T CheckFault → Type 0
HasCheckCause before now (Ok x) = now ≡ before
HasCheckCause before now (Err DiskFault) = Rose before now
HasCheckCause before now (Err NotAggregate) = now ≡ before
HasCheckCause before now (Err Memory) = now ≡ before

-- of a pass, which never answers that there is no aggregate
abbrev pub HasPassCause : {T : Type 0} → ℕ → ℕ → Result T CheckFault → Type 0
HasPassCause before now (Ok x) = now ≡ before
HasPassCause before now (Err DiskFault) = Rose before now
HasPassCause before now (Err NotAggregate) = ⊥
HasPassCause before now (Err Memory) = now ≡ before

-- a pass writes nothing
pub record HasRead {T : Type 0} (old new : Shown) (result : Result T CheckFault) : Type 0 where
  pub only_reads : OnlyReads old new
  pub cause : HasPassCause old.faults new.faults result

-- nor does a check
pub record HasChecked {T : Type 0} (old new : Shown) (result : Result T CheckFault) : Type 0 where
  pub only_reads : OnlyReads old new
  pub cause : HasCheckCause old.faults new.faults result
