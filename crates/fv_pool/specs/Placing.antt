-- What the flush of a table over what a session lends leaves, and why it isn't done.
use Rattle.std.specs.Prelude.{◌≡◌, ◌≢◌, ◌≤◌, ◌+◌, ◌⊎◌, ℕ, Bool, true, false, Option, None, Result, Ok, Err, IfErr, IfOk, OnOk}
use Rattle.fv_disk.specs.Shown.{Rose, Shown as Disk}
use Rattle.fv_disk.specs.declared.fault.BlockFault.{BlockFault}
use Rattle.fv_disk.specs.declared.fault.BlockFault.TheVariants as block
use Rattle.fv_codec.specs.declared.pointer.Pointer.{Pointer}
use Rattle.fv_codec.specs.Blocks.{IsPointer}
use Rattle.fv_image.specs.Layout.{root_place}
use Rattle.fv_tables.specs.Kept.{IsPlacedTable}
use Rattle.fv_tables.specs.Spelled.{Under}
use Rattle.fv_tables.specs.Told.{standing_at}
use Rattle.fv_tree.specs.Sources.{IsDamaged, Shown, Use}
use Rattle.fv_tree.specs.Standing.{under}
use Rattle.fv_files.specs.declared.files.Files.{Files}
use Rattle.fv_files.specs.Pending.{pending_in}
use Rattle.fv_files.specs.Apart.{AreLed, stored_trees}
use Rattle.fv_files.specs.Calls.{StoresUnder}
use Rattle.fv_files.specs.Tables.{changed, loaded_trees, table_in, AreReached, AreSound, AreStanding, IsLed, IsStored, IsStoredOn}
use Rattle.fv_files.specs.Trees.{standing_in}
use Rattle.fv_container.specs.Chains.{Slots, container_at, own_entry}
use Rattle.fv_bits.specs.Members.{is_member}
use Rattle.fv_volmap.specs.Slots.{Volume, active_of, has, slot_at}
use Rattle.fv_pool.specs.declared.fault.VolumeFault.{VolumeFault}
use Rattle.fv_pool.specs.declared.fault.VolumeFault.TheVariants.{Refused, DiskFault, Damaged, Memory}
use Rattle.fv_pool.specs.declared.pool.Pool.{Pool}
use Rattle.fv_files.specs.Altering.{AreLaid, PlacesTrees}
use Rattle.fv_pool.specs.BlocksOver.{LacksLeaf, held_block}
use Rattle.fv_pool.specs.Lending.{Lent, GoesLent, LacksOne}

-- Under a VVBN no slot of a volume's maps but the active one has a block.
abbrev pub IsInNoSnap : Disk → Pool → Volume → ℕ → ℕ → Type 0
IsInNoSnap disk pool map slot v = (k : ℕ) → k ≢ 0 → has v (slot_at map k) ≡ true → held_block map pool slot disk.reads v ≡ None

-- A table was placed, or a part of it. It is told as before and stands on its blocks in every outcome. A place that differed from its block was
-- placed under the stamp that it had, and a VVBN that was free, or is as before. Once it was placed whole nothing of it is in memory, and it is the
-- one under the root that is answered.
pub record PlacesTable (told : Type 0) (before : Shown) (blocks : Under) (uses : ℕ → Option Use) (free : ℕ → Type 0) (f g : Files) (result : Result Pointer BlockFault) : Type 0 where
  pub placed : told → AreStanding before f → IsPlacedTable (table_in before f) (standing_in blocks (changed g))
  pub stands : told → AreStanding before f → AreSound blocks uses g
  pub led : told → AreStanding before f → IsLed before f → AreLed uses (loaded_trees blocks g)
  pub well : told → AreStanding before f → IsLed before f → AreLaid (under before) f → (known : Bool) → IsStored known before f → IsStoredOn known blocks g
  pub anew : told → AreStanding before f → AreLaid (under before) f → PlacesTrees free (loaded_trees (under before) f) (loaded_trees blocks g)
  pub laid : told → AreStanding before f → AreLaid (under before) f → AreLaid blocks g
  pub levels : told → AreStanding before f → g.inode.tree.levels ≡ f.inode.tree.levels
  pub pointer : IfOk result IsPointer
  pub stored : told → IfOk result (λ root. AreStanding before f → standing_in blocks (changed g) ≡ standing_at blocks g.inode.tree.levels root)
  pub reached : told → IfOk result (λ root. AreStanding before f → AreReached blocks uses g.inode.tree.levels root)
  pub stored_led : told → IfOk result (λ root. AreStanding before f → IsLed before f → AreLed uses (stored_trees blocks g.inode.tree.levels root))
  pub stored_well : told → (known : Bool) → IfOk result (λ root. StoresUnder known before f blocks g.inode.tree.levels root)

-- Blocks were read, placed and given up for one volume, in some steps.
pub record Goes (old : Lent) (pool : Pool) (map : Volume) (disk : Disk) (room : ℕ) : Type 0 where
  pub steps : ℕ
  pub goes : GoesLent old pool map disk steps room

-- Under a number that the active map doesn't have, the entry of a slot's container stays.
abbrev pub KeepsUnused : Slots → Slots → ℕ → Volume → Type 0
KeepsUnused old new slot map = (v : ℕ) → is_member (active_of map) v ≡ false → own_entry (container_at new slot) v ≡ own_entry (container_at old slot) v

-- Leaves of the container alone are read. Damage of a table that stands is for want of a number or a block, with the room used up, or that of a
-- leaf.
abbrev pub PlaceFails : Type 0 → Lent → ℕ → ℕ → BlockFault → Type 0
PlaceFails told old faults room block.DiskFault = Rose old.disk.faults faults
PlaceFails told old faults room (block.Damaged at want found) = (faults ≡ old.disk.faults)
    × (told → ((room ≡ 0) × LacksOne old.home.label (root_place old.pool.found.slot) at want found) ⊎ LacksLeaf old.disk old.pool.containers at want found)
PlaceFails told old faults room block.Memory = faults ≡ old.disk.faults

-- So a flush of a volume fails. It refuses nothing.
abbrev pub FlushFails : Type 0 → Lent → ℕ → ℕ → VolumeFault → Type 0
FlushFails told old faults room (Refused r) = ⊥
FlushFails told old faults room DiskFault = PlaceFails told old faults room block.DiskFault
FlushFails told old faults room (Damaged at want found) = PlaceFails told old faults room (block.Damaged at want found)
FlushFails told old faults room Memory = PlaceFails told old faults room block.Memory

-- where it was done the disk's count of faults stays
abbrev pub PlaceCause : {T : Type 0} → Type 0 → Lent → ℕ → ℕ → Result T BlockFault → Type 0
PlaceCause told old faults room (Ok x) = faults ≡ old.disk.faults
PlaceCause told old faults room (Err e) = PlaceFails told old faults room e

abbrev pub FlushCause : {T : Type 0} → Type 0 → Lent → ℕ → ℕ → Result T VolumeFault → Type 0
FlushCause told old faults room (Ok x) = faults ≡ old.disk.faults
FlushCause told old faults room (Err fault) = FlushFails told old faults room fault

-- What was placed of a table took no more of the room than of what was pending, and all of that once it was placed whole. With room for all of it
-- no damage comes.
pub record TakesRoom (told : Type 0) (f g : Files) (room rest : ℕ) (result : Result Pointer BlockFault) : Type 0 where
  pub nothing : OnOk result (pending_in g ≡ 0)
  pub fits : told → (pending_in g ≤ pending_in f) × (room + pending_in g ≤ rest + pending_in f)
  pub enough : told → pending_in f ≤ room → IfErr result (λ e. IsDamaged e → ⊥)
