-- What one volume is seen as, in its pool, over what the disk reads and with the trees that are in memory.
use Rattle.std.specs.Prelude.{◌≡◌, ◌≢◌, ◌≤◌, ◌+◌, ℕ, Bool, true, false, cond, List, [], ◌∷◌, ◌++◌, map, Option, Some, None, All, replicate}
use Rattle.std.specs.Option.{option_map, option_and_then}
use Rattle.std.specs.FinMap as fin
use Rattle.fv_disk.specs.Shown.{Shown as Disk}
use Rattle.fv_model.specs.Spelling.{name_cmp}
use Rattle.fv_model.specs.Tables.{Table, empty_table}
use Rattle.fv_model.specs.Volumes.{Base, Volume}
use Rattle.fv_model.specs.Machines.{capacity}
use Rattle.fv_laws.specs.WellFormed.{IsWellTable}
use Rattle.fv_laws.specs.Positions.{HasNoReserve}
use Rattle.fv_root.specs.Formatted.{IsSize}
use Rattle.fv_tables.specs.Spelled.{Under}
use Rattle.fv_tables.specs.Reached.{items, is_listed}
use Rattle.fv_tables.specs.Told.{Standing, standing_at, table_told}
use Rattle.fv_tree.specs.Sources.{Shown, Use}
use Rattle.fv_tree.specs.Standing.{under}
use Rattle.fv_files.specs.declared.files.Files.{Files}
use Rattle.fv_files.specs.Apart.{Trees as LoadedTrees}
use Rattle.fv_files.specs.Numbering.{AreNumbersIf}
use Rattle.fv_files.specs.Tables.{changed, AreReached, IsStoredUnder}
use Rattle.fv_charge.specs.Ledgers.{IsLedgerOf, committed}
use Rattle.fv_image.specs.ReachRules.{are_distinct}
use Rattle.fv_volmap.specs.Slots.{Slot, has, slot_at, slot_of_base, stored_count}
use Rattle.fv_pool.specs.declared.blocks.Home.{Home}
use Rattle.fv_pool.specs.declared.pool.Pool.{Pool}
use Rattle.fv_pool.specs.declared.rooted.Rooted.{Rooted}
use Rattle.fv_volume.specs.declared.state.Base.{Base as StateBase}
use Rattle.fv_volume.specs.declared.state.Snap.{Snap}
use Rattle.fv_volume.specs.declared.state.VolumeState.{VolumeState}
use Rattle.fv_pool.specs.BlocksOver.{held_block, held_entry}
use Rattle.fv_volume.specs.Files.{IsLabelled}
use Rattle.fv_pool.specs.Lending.{CanLend, IsTold, sees, use_of}
use Rattle.fv_pool.specs.Tables.{trees_by, standing_by, AreSoundBy, AreLaidBy}
use Rattle.fv_volume.specs.Sharing.{AreShared}
use Rattle.fv_volume.specs.States.{States, state_at}
use Rattle.fv_volume.specs.Trees.{Trees}

-- ---- its table

-- the volume as its blocks are lent for it
abbrev pub home_in : VolumeState → Home
home_in x = record { slot = x.slot; label = x.label }

-- what its blocks show to a tree
abbrev pub shows : Disk → Pool → VolumeState → Shown
shows disk pool x = sees pool x.map disk (home_in x)

-- the active table of the volume
abbrev pub standing_for : Disk → Pool → VolumeState → Standing
standing_for disk pool x = standing_by (under (shows disk pool x)) x.active x.files

abbrev pub table_for : Disk → Pool → VolumeState → Table
table_for disk pool x = table_told (standing_for disk pool x)

-- its trees
abbrev pub trees_for : Disk → Pool → VolumeState → LoadedTrees
trees_for disk pool x = trees_by (under (shows disk pool x)) x.active x.files

-- the trees that volumes have in memory, by slot
abbrev pub files_in : Option VolumeState → Option Files
files_in state = option_and_then (λ x. x.files) state

abbrev pub trees_of : States → Trees
trees_of states s = option_map changed (files_in (state_at states s))

-- ---- the tables that it keeps

-- The blocks under the VVBNs that a slot of its maps has. The table of a snapshot is told by those of its own slot, so that whatever is done
-- to other blocks leaves it as it is.
abbrev pub blocks_in : Disk → Pool → VolumeState → ℕ → Under
blocks_in disk pool x k v = cond (has v (slot_at x.map k)) (held_block x.map pool x.slot disk.reads v) None

-- a slot has these in use, each as its entry says
abbrev pub uses_in : Pool → VolumeState → ℕ → ℕ → Option Use
uses_in pool x k v = cond (has v (slot_at x.map k)) (Some (use_of (held_entry x.map pool.containers x.slot v))) None

-- a snapshot's table, over the blocks of each slot
abbrev pub standing_kept : (ℕ → Under) → Snap → Standing
standing_kept blocks q = standing_at (blocks q.slot) q.table.levels q.table.root

abbrev pub snap_by : (ℕ → Under) → Snap → List ℕ × Table
snap_by blocks q = (q.name, table_told (standing_kept blocks q))

abbrev pub snaps_by : (ℕ → Under) → List Snap → fin.FinMap name_cmp Table
snaps_by blocks snaps = fin.from_entries {R = name_cmp} (map (snap_by blocks) snaps)

-- A table lies whole in a slot, after so many changes: it is well-formed, no file of it has a reserve, each of its trees stands on the blocks
-- of the slot and is stored well in them, and the slot has the VVBNs that it reaches and no others. `known` says whether every place is known.
pub record IsTableIn (known : Bool) (blocks : Under) (uses : ℕ → Option Use) (slot : Slot) (now : ℕ) (root : Rooted) : Type 0 where
  pub table : IsWellTable now (table_told (standing_at blocks root.levels root.root))
  pub reserves : HasNoReserve (table_told (standing_at blocks root.levels root.root))
  pub trees : AreReached blocks uses root.levels root.root
  pub well : IsStoredUnder known blocks root.levels root.root
  pub reach : (v : ℕ) → has v slot ≡ is_listed (items (standing_at blocks root.levels root.root)) v

-- The table of a root of a volume lies whole in a slot of its maps, with nothing of it in memory.
abbrev pub RootStands : Disk → Pool → VolumeState → ℕ → Rooted → Type 0
RootStands disk pool x k root = IsTableIn x.known (blocks_in disk pool x k) (uses_in pool x k) (slot_at x.map k) x.now root

-- So the table of a snapshot lies in its slot, which isn't the active table's.
abbrev pub IsKeptTable : Disk → Pool → VolumeState → Snap → Type 0
IsKeptTable disk pool x q = (q.slot ≢ 0) × RootStands disk pool x q.slot q.table

-- The table that a clone stands on lies in the slot of its base as that of a snapshot does in its own. So the tables that are kept are that one and
-- those of the snapshots.
abbrev pub base_table : Option StateBase → List Snap
base_table None = []
base_table (Some b) = record { slot = slot_of_base; name = b.snapshot; table = b.table } ∷ []

abbrev pub tables_of : VolumeState → List Snap
tables_of x = base_table x.base ++ x.snapshots

-- what the slot of its base tells, an empty table where there is none
abbrev pub base_told_by : (ℕ → Under) → Option StateBase → Table
base_told_by blocks None = empty_table
base_told_by blocks (Some b) = table_told (standing_at (blocks slot_of_base) b.table.levels b.table.root)

-- ---- the volume

-- What a volume of the machine holds beside its numbers: its active table, the tables of its snapshots by name, and that of its base, if it has one.
pub record Content : Type 0 where
  pub active : Table
  pub snapshots : fin.FinMap name_cmp Table
  pub base : Table

-- what a volume stands on, with the names that it knows and a table
abbrev pub base_as : Option StateBase → Table → Option Base
base_as base table = option_map (λ b. record { parent = b.name; snapshot = b.snapshot; table = table; splitting = b.splitting }) base

-- and with the table that the slot of its base tells
abbrev pub base_by : (ℕ → Under) → Option StateBase → Option Base
base_by blocks base = base_as base (base_told_by blocks base)

-- a volume of the machine with the numbers of this one and what it holds
abbrev pub volume_as : VolumeState → Content → Volume
volume_as x content = record {
  kind = x.kind;
  size = x.size;
  most = x.most;
  span = x.span;
  now = x.now;
  active = content.active;
  snapshots = content.snapshots;
  base = base_as x.base content.base;
  known = x.known;
}

-- what this volume holds
abbrev pub content_for : Disk → Pool → VolumeState → Content
content_for disk pool x = record {
  active = table_for disk pool x;
  snapshots = snaps_by (blocks_in disk pool x) x.snapshots;
  base = base_told_by (blocks_in disk pool x) x.base;
}

-- the volume that this one stands for
abbrev pub volume_for : Disk → Pool → VolumeState → Volume
volume_for disk pool x = volume_as x (content_for disk pool x)

-- the most blocks that a ledger counts: a number for each of the greatest span, and 24 maps of 32 blocks
abbrev pub greatest_charge : ℕ
greatest_charge = 1049344

-- the numbers of its ledger are those of the volume, and its charge is one that a ledger can have
pub record IsBooked (x : VolumeState) : Type 0 where
  pub size : x.ledger.size ≡ x.size
  pub kind : x.ledger.kind ≡ x.kind
  pub span : x.ledger.span ≡ x.span
  pub need : x.ledger.need ≡ 0
  pub charge : x.ledger.charge ≤ greatest_charge

-- A volume that calls can be made on, whatever the disk tells: its blocks can be lent, its label and its ledger have numbers in their
-- ranges, and so has the aggregate. Where trees of its table are in memory, or maps of it wait, it has changed.
pub record IsReady (disk : Disk) (pool : Pool) (x : VolumeState) : Type 0 where
  pub lent : CanLend pool x.map disk x.slot
  pub labelled : IsLabelled x.slot x
  pub booked : IsBooked x
  pub blocks : IsSize pool.found.blocks
  pub changed : x.changed ≡ false → x.files ≡ None
  pub fresh : x.changed ≡ false → x.fresh ≡ replicate stored_count false

-- Where content is told, the volume stands for one of the machine: its active table is well-formed after the changes that it counts, no file of it
-- has a reserve, the tables of its base and of its snapshots lie whole in their slots, the snapshots have names that differ, and these tables share a
-- block exactly where it is one place with one stamp. Its ledger is right, each tree of the active table stands on its blocks, those in memory are as
-- their files' records say or their inode blocks have changed, and the numbers of its files in memory are those of that table.
pub record IsStanding (disk : Disk) (pool : Pool) (x : VolumeState) : Type 0 where
  pub told : IsTold disk pool x.map x.slot
  pub table : IsWellTable x.now (table_for disk pool x)
  pub reserves : HasNoReserve (table_for disk pool x)
  pub kept : All (IsKeptTable disk pool x) (tables_of x)
  pub names : are_distinct (map (λ q. q.name) x.snapshots) ≡ true
  pub shared : AreShared (trees_for disk pool x) (blocks_in disk pool x) (tables_of x)
  pub ledger : IsLedgerOf (volume_for disk pool x) x.ledger
  pub trees : AreSoundBy (under (shows disk pool x)) (shows disk pool x).used x.active x.files
  pub laid : AreLaidBy (under (shows disk pool x)) x.files
  pub numbers : AreNumbersIf x.numbers (table_for disk pool x)

-- The volume uses at most its size, and it and the others, which commit so much, commit at most what the aggregate has room for.
pub record IsWithin (pool : Pool) (x : VolumeState) (others : ℕ) : Type 0 where
  pub size : x.ledger.charge + x.ledger.need ≤ x.size
  pub capacity : others + committed x.ledger ≤ capacity pool.found.blocks
