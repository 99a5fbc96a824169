-- What is found in the fixed blocks of an aggregate.
use Rattle.std.specs.Prelude.{Bool, ◌==◌, if◌then◌else◌, ◌≡◌, ◌≢◌, ◌<◌, ◌-◌, ◌⊎◌, ℕ, false, Option, Some, Result, Ok, Err, IsOk, IsErr}
use Rattle.std.specs.Option.{option_map, is_some}
use Rattle.fv_disk.specs.Shown.{Image, Rose}
use Rattle.fv_codec.specs.declared.shape.Shape.{Shape}
use Rattle.fv_codec.specs.declared.root.Root.{Root}
use Rattle.fv_codec.specs.Blocks.{super_at, gate_open, IsRoot}
use Rattle.fv_image.specs.Layout.{superblock, gate_place, root_place}
use Rattle.fv_image.specs.NewerRoot.{Taken, behind, root_of}
use Rattle.fv_root.specs.Formatted.{IsSize}
use Rattle.fv_root.specs.declared.find.Found.{Found}
use Rattle.fv_root.specs.declared.find.RootFault.{RootFault}
use Rattle.fv_root.specs.declared.find.RootFault.TheVariants.{DiskFault, NotAggregate, Damaged}

-- of two slots the one that isn't this
abbrev pub other_slot : ℕ → ℕ
other_slot slot = 1 - slot

-- the root that was found
abbrev pub root_found : Found → Taken
root_found found = record { blocks = found.blocks; slot = found.slot; root = found.root }

-- this is what is to be found in an image: the root that counts, and whether the other slot's gate is open
pub record IsFound (i : Image) (found : Found) : Type 0 where
  pub root : root_of i ≡ Some (root_found found)
  pub older : gate_open (i (gate_place (other_slot found.slot))) ≡ found.older_open

-- block 0 isn't a superblock, or neither gate is open
abbrev pub IsNoAggregate : Image → Type 0
IsNoAggregate i = IsErr (super_at (i superblock)) ⊎ ((gate_open (i (gate_place 0)) ≡ false) × (gate_open (i (gate_place 1)) ≡ false))

-- block 0 is a superblock, and at this place is the first root behind an open gate that hasn't its shape
pub record IsDamaged (i : Image) (at want found : ℕ) : Type 0 where
  pub super : IsOk (super_at (i superblock))
  pub slot : ℕ
  pub within : slot < 2
  pub place : at ≡ root_place slot
  pub fault : behind i slot ≡ Some (Err (record { want = want; found = found }))
  pub first : (s : ℕ) (shape : Shape) → s < slot → behind i s ≢ Some (Err shape)

-- an answer, where the disk didn't fail
abbrev pub Finds : Image → Result Found RootFault → Type 0
Finds i (Ok found) = IsFound i found
Finds i (Err NotAggregate) = IsNoAggregate i
Finds i (Err (Damaged at want found)) = IsDamaged i at want found
Finds i (Err DiskFault) = Unit {0}

-- the numbers are in range, whatever the disk tells
pub record IsInRange (found : Found) : Type 0 where
  pub size : IsSize found.blocks
  pub slot : found.slot < 2
  pub root : IsRoot found.root

-- the count of faults rose in a call that answers a fault of the disk, and stays in each other call
abbrev pub HasReadCause : {T : Type 0} → ℕ → ℕ → Result T RootFault → Type 0
HasReadCause before now (Ok x) = now ≡ before
HasReadCause before now (Err NotAggregate) = now ≡ before
HasReadCause before now (Err (Damaged at want found)) = now ≡ before
HasReadCause before now (Err DiskFault) = Rose before now

-- ---- the steps

-- block 0 as it was read: the size of the aggregate
abbrev pub ReadsSuper : Image → Result ℕ RootFault → Type 0
ReadsSuper i (Ok blocks) = super_at (i superblock) ≡ Ok (record { blocks = blocks })
ReadsSuper i (Err NotAggregate) = IsErr (super_at (i superblock))
ReadsSuper i (Err (Damaged at want found)) = ⊥
ReadsSuper i (Err DiskFault) = Unit {0}

-- what stands behind a slot's gate, as it was read
abbrev pub ReadsBehind : Image → ℕ → Result (Option Root) RootFault → Type 0
ReadsBehind i slot (Ok root) = behind i slot ≡ option_map Ok root
ReadsBehind i slot (Err NotAggregate) = ⊥
ReadsBehind i slot (Err (Damaged at want found)) = (at ≡ root_place slot) × (behind i slot ≡ Some (Err (record { want = want; found = found })))
ReadsBehind i slot (Err DiskFault) = Unit {0}

-- a root's block as it was read
abbrev pub ReadsRoot : ℕ → Result Root Shape → Result Root RootFault → Type 0
ReadsRoot at (Ok root) result = result ≡ Ok root
ReadsRoot at (Err shape) result = result ≡ Err (Damaged at shape.want shape.found)

-- whether the gate of the slot that isn't taken is open, from what stands behind both
abbrev pub is_older_open : ℕ → Option Root → Option Root → Bool
is_older_open slot first second = if slot == 0 then is_some second else is_some first
