-- What the calls of a table over what a session lends leave, and why they fail.
use Rattle.std.specs.Prelude.{◌≡◌, ◌≢◌, ◌≤◌, ◌+◌, ◌⊎◌, ℕ, Bool, true, Result, Ok, Err, OnOk, OnErr, IfOk}
use Rattle.fv_disk.specs.Shown.{Shown as Disk}
use Rattle.fv_disk.specs.DiskCalls.{OnlyReads}
use Rattle.fv_disk.specs.declared.fault.BlockFault.{BlockFault}
use Rattle.fv_disk.specs.declared.fault.BlockFault.TheVariants as block
use Rattle.fv_laws.specs.WellFormed.{IsWellTable}
use Rattle.fv_store.specs.Held.{StandsOn}
use Rattle.fv_tables.specs.Spelled.{Rooted}
use Rattle.fv_tables.specs.Told.{Standing, table_told}
use Rattle.fv_tree.specs.Sources.{Shown}
use Rattle.fv_tree.specs.Standing.{under}
use Rattle.fv_inode.specs.declared.info.Info.{Info}
use Rattle.fv_inode.specs.Failing.{IsInodeDamage}
use Rattle.fv_inode.specs.Files.{rooted}
use Rattle.fv_files.specs.declared.files.Files.{Files}
use Rattle.fv_files.specs.Failing.{IsFileTree}
use Rattle.fv_files.specs.Pending.{pending_in}
use Rattle.fv_files.specs.Calls.{CutsFile, TakesByCut}
use Rattle.fv_files.specs.Tables.{loaded_trees, table_in, AreStanding, IsInfoOf, IsLed, IsStored}
use Rattle.fv_files.specs.Right.{AreReadableTrees, HasRightTrees}
use Rattle.fv_files.specs.Altering.{AltersTrees, AreLaid}
use Rattle.fv_pool.specs.declared.fault.VolumeFault.{VolumeFault}
use Rattle.fv_pool.specs.declared.fault.VolumeFault.TheVariants.{Refused, DiskFault, Damaged, Memory}
use Rattle.fv_pool.specs.declared.blocks.Home.{Home}
use Rattle.fv_pool.specs.declared.pool.Pool.{Pool}
use Rattle.fv_volmap.specs.Slots.{Volume as Maps, has, slot_at}
use Rattle.fv_pool.specs.BlocksOver.{free_numbers, LeavesPool}
use Rattle.fv_pool.specs.Lending.{Lent, ReadFails, IsTold, sees, shown_over}

-- ---- what is left

-- Blocks were read. Of the pool only the cache changed, and of the disk the time and the count of faults.
pub record Reads (old : Disk) (pool : Pool) (new : Disk) (left : Pool) : Type 0 where
  pub leaves : LeavesPool pool left
  pub only_reads : OnlyReads old new
  pub stands : StandsOn new left.store.pairs

-- What a change of a table with this stamp leaves over the blocks that are left: each tree stands on them, what is in use is led to and stored
-- well if it was before, and after a fault the table is told as before. A place has the stamp and differs from its block, or is as before. A flush
-- has at most 14 blocks more to place. `well` is what is asked of the table beside that it stands on its blocks.
pub record LeavesTable {T : Type 0} (told well : Type 0) (old new : Shown) (f g : Files) (stamp : ℕ) (result : Result T BlockFault) : Type 0 where
  pub stands : told → well → AreStanding old f → AreStanding new g
  pub failed : told → OnErr result (table_told (table_in new g) ≡ table_told (table_in old f))
  pub led : told → well → AreStanding old f → IsLed old f → IsLed new g
  pub stored : told → well → AreStanding old f → (known : Bool) → IsStored known old f → IsStored known new g
  pub alters : told → well → AreStanding old f → AltersTrees stamp (loaded_trees (under old) f) (loaded_trees (under new) g)
  pub laid : told → well → AreStanding old f → AreLaid (under old) f → AreLaid (under new) g
  pub room : told → well → AreStanding old f → pending_in g ≤ pending_in f + 14

-- what is told of the disk and of the entries where the blocks of a volume are lent for a table, whose pointers tell no wrong place
abbrev pub TellsTable : Disk → Pool → Maps → Home → Files → Type 0
TellsTable disk pool map home f = IsTold disk pool map home.slot × HasRightTrees (sees pool map disk home) f

-- and where its trees may be read by their pointers alone
abbrev pub TellsReadable : Disk → Pool → Maps → Home → Files → Type 0
TellsReadable disk pool map home f = IsTold disk pool map home.slot × AreReadableTrees (sees pool map disk home) f

-- what is told for a table, and of a file
abbrev pub TellsInfo : Disk → Pool → Maps → Home → Files → Info → Type 0
TellsInfo disk pool map home f info = TellsTable disk pool map home f × IsInfoOf (rooted (sees pool map disk home) f.inode) info

-- the table is a machine's
abbrev pub HasWellTable : Shown → Files → Type 0
HasWellTable source f = (now : ℕ) × IsWellTable now (table_told (table_in source f))

-- A file was cut, and the positions that went were counted.
pub record CutsTold (told : Type 0) (old new : Shown) (f g : Files) (number length stamp : ℕ) (result : Result ℕ BlockFault) : Type 0 where
  pub cut : told → OnOk result (AreStanding old f → CutsFile (table_in old f) (table_in new g) number length stamp)
  pub counted : told → IfOk result (λ count. AreStanding old f → TakesByCut (table_in old f) number length stamp count)

-- Of a volume's maps only the active one changed, which has as many free numbers at least and no number that it hadn't.
pub record GivesUp (old new : Maps) : Type 0 where
  pub span : new.span ≡ old.span
  pub snapshots : (s : ℕ) → s ≢ 0 → slot_at new s ≡ slot_at old s
  pub numbers : free_numbers old ≤ free_numbers new
  pub active : (v : ℕ) → has v (slot_at new 0) ≡ true → has v (slot_at old 0) ≡ true

-- ---- why a call failed

-- a block of the inode file hasn't its shape
pub record IsBadInodes (told : Type 0) (t : Rooted) (old : Lent) (faults : ℕ) (e : BlockFault) : Type 0 where
  pub calm : faults ≡ old.disk.faults
  pub damage : IsInodeDamage told t (shown_over old) e

-- a load for the tree of a file failed
pub record FileFails (told : Type 0) (x : Standing) (old : Lent) (faults : ℕ) (e : BlockFault) : Type 0 where
  pub tree : Rooted
  pub of_file : told → IsFileTree x tree
  pub fails : ReadFails told tree old faults e

-- a load for a table failed: for its inode file, or for the tree of a file
abbrev pub TableFails : Type 0 → Standing → Lent → ℕ → BlockFault → Type 0
TableFails told x old faults e = ReadFails told x.inode old faults e ⊎ (IsBadInodes told x.inode old faults e ⊎ FileFails told x old faults e)

-- where it was done the disk's count of faults stays
abbrev pub BlockCause : {T : Type 0} → Type 0 → Standing → Lent → ℕ → Result T BlockFault → Type 0
BlockCause told x old faults (Ok y) = faults ≡ old.disk.faults
BlockCause told x old faults (Err e) = TableFails told x old faults e

-- Why a call on a volume wasn't done. The disk's count of faults rose exactly where a read failed.
abbrev pub CallFails : Type 0 → Standing → Lent → ℕ → VolumeFault → Type 0
CallFails told x old faults (Refused r) = faults ≡ old.disk.faults
CallFails told x old faults DiskFault = TableFails told x old faults block.DiskFault
CallFails told x old faults (Damaged at want found) = TableFails told x old faults (block.Damaged at want found)
CallFails told x old faults Memory = TableFails told x old faults block.Memory

-- so where it was done the count stays
abbrev pub CallCause : {T : Type 0} → Type 0 → Standing → Lent → ℕ → Result T VolumeFault → Type 0
CallCause told x old faults (Ok y) = faults ≡ old.disk.faults
CallCause told x old faults (Err fault) = CallFails told x old faults fault
