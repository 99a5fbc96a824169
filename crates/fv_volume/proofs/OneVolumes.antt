-- What one volume is seen as once blocks were read.
use Rattle.std.proofs.Common.{◌≡◌, ◌≢◌, ℕ, ◌≤◌, length, refl, sym, ap, subst, ◌∙◌, arith}
use Rattle.std.specs.Prelude.{IsTrue, Option, Some, None, IfSome, is_some, cond, All}
use Rattle.fv_disk.specs.Shown.{Image, Shown as Disk}
use Rattle.fv_disk.specs.DiskCalls.{Stays}
use Rattle.fv_disk.proofs.Resting.{reads_then as disk_then}
use Rattle.fv_container.specs.Chains.{AreCleanOn, Slots, container_at}
use Rattle.fv_codec.specs.Blocks.{IsPointer}
use Rattle.fv_root.specs.declared.find.Found.{Found}
use Rattle.fv_root.specs.Formatted.{IsSize}
use Rattle.fv_model.specs.Volumes.{Volume as Model}
use Rattle.fv_laws.specs.WellFormed.{IsWellTable}
use Rattle.fv_laws.specs.Positions.{HasNoReserve}
use Rattle.fv_tables.specs.Spelled.{Under}
use Rattle.fv_tables.specs.Told.{Standing, table_told}
use Rattle.fv_tree.specs.Sources.{Use}
use Rattle.fv_tree.specs.Standing.{under}
use Rattle.fv_files.specs.declared.files.Files.{Files}
use Rattle.fv_files.specs.Numbering.{AreNumbersIf}
use Rattle.fv_charge.specs.Ledgers.{IsLedgerOf}
use Rattle.fv_volmap.specs.Slots.{has, slot_at}
use Rattle.fv_pool.specs.declared.pool.Pool.{Pool}
use Rattle.fv_volume.specs.declared.state.Snap.{Snap}
use Rattle.fv_volume.specs.declared.state.VolumeState.{VolumeState}
use Rattle.fv_pool.specs.BlocksOver.{block_of, entries_in, held_entry}
use Rattle.fv_pool.specs.Calls.{Reads}
use Rattle.fv_volume.specs.Labels.{label_said}
use Rattle.fv_pool.specs.Lending.{IsTold, use_of, use_under}
use Rattle.fv_pool.specs.LendingLaws.{apart_by}
use Rattle.fv_pool.specs.Tables.{standing_by, AreLaidBy, AreSoundBy, AreLedBy, AreStoredBy, trees_by}
use Rattle.fv_volume.specs.OneVolume.{blocks_in, shows, snaps_by, standing_for, trees_for, uses_in, volume_as, volume_for, IsKeptTable, IsReady, IsStanding, IsTableIn, base_told_by, tables_of}
use Rattle.fv_volume.specs.Placing.{IsLedTo, IsStoredWell}
use Rattle.fv_volume.specs.Sharing.{AreShared}
use Rattle.fv_pool.proofs.Failing.{blocks_of}

-- what its label says of its table's root fits a pointer
pub root_fits : (disk : Disk) (pool : Pool) (x : VolumeState) → IsReady disk pool x → IsPointer x.active.root
unfolding label_said
root_fits disk pool x ready = (ready.labelled.label 0 1 (omega arith) (omega arith) (omega arith)).root

pub levels_fit : (disk : Disk) (pool : Pool) (x : VolumeState) → IsReady disk pool x → x.active.levels ≤ 2
levels_fit disk pool x ready = ready.labelled.levels

-- a table that was taken out of a volume is put back as it was
pub put_back : (kept : Option Files) (taken now : Files) → IfSome kept (λ f. taken ≡ f) → now ≡ taken → cond (is_some kept) (Some now) None ≡ kept
put_back None taken now was still = refl
put_back (Some f) taken now was still = ap (λ (g : Files). Some g) (still ∙ was)

-- one read after another
pub reads_then : (d e f : Disk) (p q r : Pool) → Reads d p e q → Reads e q f r → Reads d p f r
reads_then d e f p q r first second = record {
  leaves = record {
    map = second.leaves.map ∙ first.leaves.map;
    containers = second.leaves.containers ∙ first.leaves.containers;
    kept = second.leaves.kept ∙ first.leaves.kept;
    found = second.leaves.found ∙ first.leaves.found;
    version = second.leaves.version ∙ first.leaves.version;
  };
  only_reads = disk_then d e f first.only_reads second.only_reads;
  stands = second.stands;
}

-- Where the same blocks are kept, the same entries stand and the disk reads the same, a volume is seen as the same.
module _ (d e : Disk) (p q : Pool) (x : VolumeState) (spaces : q.map ≡ p.map) (slots : q.containers ≡ p.containers) (kept : q.kept ≡ p.kept) (reads : e.reads ≡ d.reads) (tells : e.tells ≡ d.tells) where
  same_under : under (shows e q x) ≡ under (shows d p x)
  same_under = λ j. blocks_of (kept j) (slots j) x.map x.slot (reads j)

  same_used : (shows e q x).used ≡ (shows d p x).used
  same_used = λ j. use_under x.map (slots j) x.slot

  same_standing_for : standing_for e q x ≡ standing_for d p x
  same_standing_for = ap (λ (u : Under). standing_by u x.active x.files) same_under

  -- so are the blocks of each slot
  same_slots : blocks_in e q x ≡ blocks_in d p x
  same_slots = λ i k v. cond (has v (slot_at x.map k)) (block_of (kept i) (reads i) (held_entry x.map (slots i) x.slot v)) None

  same_uses : uses_in q x ≡ uses_in p x
  same_uses = λ i k v. cond (has v (slot_at x.map k)) (Some (use_of (held_entry x.map (slots i) x.slot v))) None

  same_kept : All (IsKeptTable d p x) (tables_of x) → All (IsKeptTable e q x) (tables_of x)
  same_kept all = subst (λ (u : ℕ → Under). All (λ (s : Snap). (s.slot ≢ 0) × IsTableIn x.known (u s.slot) (uses_in q x s.slot) (slot_at x.map s.slot) x.now s.table) (tables_of x)) (sym same_slots)
      (subst (λ (u : ℕ → ℕ → Option Use). All (λ (s : Snap). (s.slot ≢ 0) × IsTableIn x.known (blocks_in d p x s.slot) (u s.slot) (slot_at x.map s.slot) x.now s.table) (tables_of x)) (sym same_uses) all)

  same_shared : AreShared (trees_for d p x) (blocks_in d p x) (tables_of x) → AreShared (trees_for e q x) (blocks_in e q x) (tables_of x)
  same_shared is = subst (λ (u : Under). AreShared (trees_by u x.active x.files) (blocks_in e q x) (tables_of x)) (sym same_under)
      (subst (λ (u : ℕ → Under). AreShared (trees_for d p x) u (tables_of x)) (sym same_slots) is)

  -- the volume that it stands for
  same_volume : volume_for e q x ≡ volume_for d p x
  same_volume = λ i. volume_as x (record { active = table_told (same_standing_for i); snapshots = snaps_by (same_slots i) x.snapshots; base = base_told_by (same_slots i) x.base })

  same_told : IsTold d p x.map x.slot → IsTold e q x.map x.slot
  same_told told =
      (subst IsTrue (sym tells) told.0, apart_by p q x.map x.slot spaces slots told.1, subst (λ (i : Image). AreCleanOn i q.containers) (sym reads) (subst (AreCleanOn d.reads) (sym slots) told.2))

  same_standing : IsStanding d p x → IsStanding e q x
  same_standing is = record {
    told = same_told is.told;
    table = subst (λ (s : Standing). IsWellTable x.now (table_told s)) (sym same_standing_for) is.table;
    reserves = subst (λ (s : Standing). HasNoReserve (table_told s)) (sym same_standing_for) is.reserves;
    kept = same_kept is.kept;
    names = is.names;
    shared = same_shared is.shared;
    ledger = subst (λ (v : Model). IsLedgerOf v x.ledger) (sym same_volume) is.ledger;
    trees = subst (λ (u : ℕ → Option Use). AreSoundBy (under (shows e q x)) u x.active x.files) (sym same_used)
        (subst (λ (u : Under). AreSoundBy u (shows d p x).used x.active x.files) (sym same_under) is.trees);
    laid = subst (λ (u : Under). AreLaidBy u x.files) (sym same_under) is.laid;
    numbers = subst (λ (s : Standing). AreNumbersIf x.numbers (table_told s)) (sym same_standing_for) is.numbers;
  }

module _ (d e : Disk) (p q : Pool) (reads : Reads d p e q) (x : VolumeState) where
  abbrev stays : Stays d e
  stays = reads.only_reads.stays

  -- after reads the same blocks are held, and the same VVBNs are in use
  pub still_under : under (shows e q x) ≡ under (shows d p x)
  still_under = same_under d e p q x reads.leaves.map reads.leaves.containers reads.leaves.kept stays.reads stays.tells

  pub still_used : (shows e q x).used ≡ (shows d p x).used
  still_used = same_used d e p q x reads.leaves.map reads.leaves.containers reads.leaves.kept stays.reads stays.tells

  -- so the volume is seen as before
  pub still_table : standing_for e q x ≡ standing_for d p x
  still_table = same_standing_for d e p q x reads.leaves.map reads.leaves.containers reads.leaves.kept stays.reads stays.tells

  pub still_volume : volume_for e q x ≡ volume_for d p x
  still_volume = same_volume d e p q x reads.leaves.map reads.leaves.containers reads.leaves.kept stays.reads stays.tells

  pub still_told : IsTold d p x.map x.slot → IsTold e q x.map x.slot
  still_told = same_told d e p q x reads.leaves.map reads.leaves.containers reads.leaves.kept stays.reads stays.tells

  pub told_there : IsTold e q x.map x.slot → IsTold d p x.map x.slot
  told_there = same_told e d q p x (sym reads.leaves.map) (sym reads.leaves.containers) (sym reads.leaves.kept) (sym stays.reads) (sym stays.tells)

  pub still_standing : IsStanding d p x → IsStanding e q x
  still_standing = same_standing d e p q x reads.leaves.map reads.leaves.containers reads.leaves.kept stays.reads stays.tells

  -- and what stands after reads stood before them
  pub stood_before : IsStanding e q x → IsStanding d p x
  stood_before = same_standing e d q p x (sym reads.leaves.map) (sym reads.leaves.containers) (sym reads.leaves.kept) (sym stays.reads) (sym stays.tells)

  -- calls can be made on it
  pub still_ready : IsReady d p x → IsReady e q x
  still_ready is = record {
    lent = record {
      within = is.lent.within;
      stands = reads.stands;
      few = is.lent.few;
      entries = subst (λ (c : Slots). x.map.span ≤ length (entries_in (container_at c x.slot))) (sym reads.leaves.containers) is.lent.entries;
    };
    labelled = is.labelled;
    booked = is.booked;
    blocks = subst (λ (f : Found). IsSize f.blocks) (sym reads.leaves.found) is.blocks;
    changed = is.changed;
    fresh = is.fresh;
  }

-- After reads what is in use is led to still.
pub still_led : (d e : Disk) (p q : Pool) → Reads d p e q → (x : VolumeState) → IsLedTo d p x → IsLedTo e q x
still_led d e p q reads x led = subst (λ (uses : ℕ → Option Use). AreLedBy (under (shows e q x)) uses x.active x.files) (sym (still_used d e p q reads x))
    (subst (λ (blocks : Under). AreLedBy blocks (shows d p x).used x.active x.files) (sym (still_under d e p q reads x)) led)

-- And its blocks are stored well still.
pub still_well : (d e : Disk) (p q : Pool) → Reads d p e q → (x : VolumeState) → IsStoredWell d p x → IsStoredWell e q x
still_well d e p q reads x well = subst (λ (blocks : Under). AreStoredBy x.known blocks x.active x.files) (sym (still_under d e p q reads x)) well
