-- Faults of blocks as faults of volumes, and faults that are no damage.
use Rattle.std.specs.Prelude.{◌≡◌, ℕ, Result, Ok, Err}
use Rattle.fv_disk.specs.Shown.{Rose}
use Rattle.fv_disk.specs.declared.fault.BlockFault.{BlockFault}
use Rattle.fv_disk.specs.declared.fault.BlockFault.TheVariants as block
use Rattle.fv_pool.specs.declared.fault.VolumeFault.{VolumeFault}
use Rattle.fv_pool.specs.declared.fault.VolumeFault.TheVariants.{Refused, DiskFault, Damaged, Memory}

abbrev pub of_block : BlockFault → VolumeFault
of_block block.DiskFault = DiskFault
of_block (block.Damaged at want found) = Damaged at want found
of_block block.Memory = Memory

-- The disk's count of faults rose where a read failed, and stays at every other answer.
abbrev pub HasVolumeCause : {T : Type 0} → ℕ → ℕ → Result T VolumeFault → Type 0
HasVolumeCause before now (Ok x) = now ≡ before
HasVolumeCause before now (Err (Refused r)) = now ≡ before
HasVolumeCause before now (Err DiskFault) = Rose before now
HasVolumeCause before now (Err (Damaged at want found)) = now ≡ before
HasVolumeCause before now (Err Memory) = now ≡ before

-- a fault that is no damage
abbrev pub IsNoDamage : VolumeFault → Type 0
IsNoDamage (Refused r) = Unit {0}
IsNoDamage DiskFault = Unit {0}
IsNoDamage (Damaged at want found) = ⊥
IsNoDamage Memory = Unit {0}

-- An answer of which a property of answers with faults of blocks holds: its fault is one of a block, so no refusal.
abbrev pub WithBlockFault : {T : Type 0} → (Result T BlockFault → Type 0) → Result T VolumeFault → Type 0
WithBlockFault P (Ok x) = P (Ok x)
WithBlockFault P (Err fault) = (cause : BlockFault) × ((fault ≡ of_block cause) × P (Err cause))
