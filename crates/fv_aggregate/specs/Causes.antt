-- Why a session isn't opened, and what stays where nothing is written.
use Rattle.std.specs.Prelude.{◌≡◌, ◌⊎◌, ℕ, Some, Result, Ok, Err}
use Rattle.fv_disk.specs.Shown.{Image, Shown, Rose, Elapses}
use Rattle.fv_model.specs.Machines.{Machine}
use Rattle.fv_image.specs.WholeMachine.{machine_of}
use Rattle.fv_root.specs.declared.find.Found.{Found}
use Rattle.fv_root.specs.Finding.{IsFound, IsNoAggregate, IsDamaged}
use Rattle.fv_aggmap.specs.Loading.{IsPastMap}
use Rattle.fv_root.specs.declared.find.RootFault.{RootFault}
use Rattle.fv_root.specs.declared.find.RootFault.TheVariants as root
use Rattle.fv_disk.specs.declared.fault.BlockFault.{BlockFault}
use Rattle.fv_disk.specs.declared.fault.BlockFault.TheVariants as block
use Rattle.fv_disk.specs.declared.fault.BlockFault.TheVariants.{Damaged as DamagedBlock}
use Rattle.fv_volume.specs.Loading.{IsLoadFault}
use Rattle.fv_aggregate.specs.declared.fault.OpenFault.{OpenFault}
use Rattle.fv_aggregate.specs.declared.fault.OpenFault.TheVariants as opening

-- ---- faults of the crates below as faults of a session

abbrev pub of_root : RootFault → OpenFault
of_root root.DiskFault = opening.DiskFault
of_root root.NotAggregate = opening.NotAggregate
of_root (root.Damaged at want found) = opening.Damaged at want found

abbrev pub of_block : BlockFault → OpenFault
of_block block.DiskFault = opening.DiskFault
of_block (block.Damaged at want found) = opening.Damaged at want found
of_block block.Memory = opening.Memory

-- ---- causes

-- What is damaged in an image that isn't opened: a root behind an open gate hasn't its shape; or, under the root that counts, a bit of
-- the aggregate map is set past the last block, or volumes can't be loaded.
pub record IsUnder (i : Image) (at want number : ℕ) : Type 0 where
  pub root : Found
  pub found : IsFound i root
  pub fault : IsPastMap i root at want number ⊎ IsLoadFault i root (DamagedBlock at want number)

abbrev pub IsOpenFault : Image → OpenFault → Type 0
IsOpenFault i opening.DiskFault = Unit {0}
IsOpenFault i opening.NotAggregate = IsNoAggregate i
IsOpenFault i (opening.Damaged at want number) = IsDamaged i at want number ⊎ IsUnder i at want number
IsOpenFault i opening.Memory = Unit {0}

-- Why a session isn't opened: a fault has its reason in the image, and where that stands for a machine it is one of the disk, or want of memory.
pub record OpenFails (i : Image) (fault : OpenFault) : Type 0 where
  pub reason : IsOpenFault i fault
  pub whole : (m : Machine) → machine_of i ≡ Some m → (fault ≡ opening.DiskFault) ⊎ (fault ≡ opening.Memory)

-- the count of faults rose in a call that answers a fault of the disk, and stays in each other call
abbrev pub HasOpenCause : {T : Type 0} → ℕ → ℕ → Result T OpenFault → Type 0
HasOpenCause before now (Ok x) = now ≡ before
HasOpenCause before now (Err opening.NotAggregate) = now ≡ before
HasOpenCause before now (Err (opening.Damaged at want number)) = now ≡ before
HasOpenCause before now (Err opening.Memory) = now ≡ before
HasOpenCause before now (Err opening.DiskFault) = Rose before now

-- ---- what stays

-- What is told and given and the ends of a host stay.
pub record KeepsEnds (old new : Shown) : Type 0 where
  pub tells : new.tells ≡ old.tells
  pub given : new.given ≡ old.given
  pub ends : new.ends ≡ old.ends

-- Nothing was written: what reads give stays, and a crash leaves nothing that it might not have left before.
pub record IsUnwritten (old new : Shown) : Type 0 where
  pub kept : KeepsEnds old new
  pub reads : new.reads ≡ old.reads
  pub images : (c : Image) → new.images c → old.images c
  pub time : Elapses old new
