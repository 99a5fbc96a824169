-- What calls make of a container that read a leaf, or change an entry.
use Rattle.std.specs.Prelude.{◌≡◌, ◌≢◌, ◌<◌, ◌≤◌, ◌*◌, ◌/◌, ℕ, Bool, true, false, not, ◌&&◌, ◌||◌, if◌then◌else◌, List, length, get_or, slice_set, count_by, IsTrue, Option}
use Rattle.std.specs.Option.{is_some}
use Rattle.std.specs.List.{range_with_len}
use Rattle.fv_disk.specs.Shown.{Shown}
use Rattle.fv_disk.specs.declared.fault.BlockFault.{BlockFault}
use Rattle.fv_disk.specs.declared.fault.BlockFault.TheVariants.{DiskFault, Damaged, Memory}
use Rattle.fv_container.specs.declared.entry.Entry.{Entry}
use Rattle.fv_container.specs.Mapped.{Mapped, entry_under}
use Rattle.fv_container.specs.Paged.{Paged, is_here, is_known, is_sure}
use Rattle.fv_container.specs.Clean.{IsCleanOn}
use Rattle.fv_container.specs.Leading.{lead_to}

-- a fault of a call that takes no memory
abbrev pub IsReadFault : BlockFault → Type 0
IsReadFault DiskFault = Unit {0}
IsReadFault (Damaged at want found) = Unit {0}
IsReadFault Memory = ⊥

-- what is in memory of other regions stays
pub record KeepsOthers (region : ℕ) (old new : Paged) : Type 0 where
  pub here : (k : ℕ) → k ≢ region → is_here new k ≡ is_here old k
  pub known : (k : ℕ) → k ≢ region → is_known new k ≡ is_known old k
  pub sure : (k : ℕ) → k ≢ region → is_sure new k ≡ is_sure old k

-- The leaf of a region is in memory, and it is known which of its entries are holes. Where the container is clean on the disk it still is.
pub record HasLoaded (disk : Shown) (region : ℕ) (old new : Paged) : Type 0 where
  pub map : new.map ≡ old.map
  pub here : is_here new region ≡ true
  pub known : is_known new region ≡ true
  pub others : KeepsOthers region old new
  pub clean : IsTrue disk.tells → IsCleanOn disk.reads old → IsCleanOn disk.reads new

-- It is known which entries of a region are holes, and no other leaf is in memory than before.
pub record HasLearned (disk : Shown) (region : ℕ) (old new : Paged) : Type 0 where
  pub map : new.map ≡ old.map
  pub here : new.here ≡ old.here
  pub known : is_known new region ≡ true
  pub others : KeepsOthers region old new
  pub clean : IsTrue disk.tells → IsCleanOn disk.reads old → IsCleanOn disk.reads new

-- Leaves were read, and nothing but what is in memory changed. Where the container is clean on the disk it still is.
pub record KeepsMap (disk : Shown) (old new : Paged) : Type 0 where
  pub map : new.map ≡ old.map
  pub here : (k : ℕ) → is_here old k ≡ true → is_here new k ≡ true
  pub known : (k : ℕ) → is_known old k ≡ true → is_known new k ≡ true
  pub clean : IsTrue disk.tells → IsCleanOn disk.reads old → IsCleanOn disk.reads new

-- the marks after an entry was set: that of its leaf is set where the entry changed
abbrev pub dirty_after : Bool → List Bool → ℕ → List Bool
dirty_after changed dirty v = if changed then slice_set dirty (v / 256) true else dirty

-- An entry is set whose leaf is in memory, and no other changes. Its leaf is dirty where the entry changed, and else is as it was.
pub record HasPut (v : ℕ) (entry : Option Entry) (old new : Paged) : Type 0 where
  pub entries : new.map.entries ≡ slice_set old.map.entries v entry
  pub tree : new.map.tree ≡ old.map.tree
  pub changed : Bool
  pub dirty : new.map.dirty ≡ dirty_after changed old.map.dirty v
  pub other : is_sure old (v / 256) ≡ true → changed ≡ true → entry_under old.map v ≢ entry
  pub same : is_sure old (v / 256) ≡ true → changed ≡ false → entry_under old.map v ≡ entry
  pub here : new.here ≡ old.here
  pub known : new.known ≡ old.known
  pub sure : new.sure ≡ old.sure

-- An entry is set, once its leaf was loaded.
pub record HasSet (disk : Shown) (v : ℕ) (entry : Option Entry) (old new : Paged) : Type 0 where
  pub loaded : Paged
  pub loads : HasLoaded disk (v / 256) old loaded
  pub puts : HasPut v entry loaded new

-- ---- blocks to which entries lead

-- some blocks were marked in a row of bits
pub record Marks (old : List Bool) (leads : ℕ → Bool) (new : List Bool) : Type 0 where
  pub long : length new ≡ length old
  pub bits : (b : ℕ) → b < length old → get_or new b false ≡ (get_or old b false || leads b)

-- whether an entry of a map leads to a block
abbrev pub leads_somewhere : Mapped → ℕ → Bool
leads_somewhere map b = lead_to map (λ v. true) 0 (length map.entries) b

-- ---- entries without leaves

-- whether an entry isn't a hole
abbrev pub has_entry_at : Mapped → ℕ → Bool
has_entry_at map v = is_some (entry_under map v)

-- how many entries of a region aren't holes and stand under numbers that aren't held
unfoldable pub delayed_in_region : Mapped → List Bool → ℕ → ℕ
delayed_in_region map held region = count_by (λ v. has_entry_at map v && not (get_or held v false)) (range_with_len (256 * region) 256)

-- how many entries of a region aren't holes
unfoldable pub entries_in_region : Mapped → ℕ → ℕ
entries_in_region map region = count_by (has_entry_at map) (range_with_len (256 * region) 256)

-- no region from one on has an entry, as far as what is known of them is sure
pub record HasNoRegionFrom (paged : Paged) (from : ℕ) : Type 0 where
  pub none : (k : ℕ) → from ≤ k → is_sure paged k ≡ true → entries_in_region paged.map k ≡ 0

-- A region from one on that has an entry, and none in front of it has one, as far as what is known of them is sure.
pub record IsNextRegion (paged : Paged) (from region : ℕ) : Type 0 where
  pub after : from ≤ region
  pub within : 256 * region < length paged.map.entries
  pub before : (k : ℕ) → from ≤ k → k < region → is_sure paged k ≡ true → entries_in_region paged.map k ≡ 0
  pub some : is_sure paged region ≡ true → entries_in_region paged.map region ≢ 0
