-- What is left of a volume where others change: it stands for what it stood for.
use Rattle.std.proofs.Common.{◌≡◌, ◌≢◌, ℕ, true, cond, Option, Some, None, sym, ap, subst, ◌∙◌}
use Rattle.std.specs.Prelude.{IsTrue, All}
use Rattle.fv_disk.specs.Shown.{Image, Shown as Disk}
use Rattle.fv_disk.specs.DiskCalls.{OnlyReads}
use Rattle.fv_bits.specs.Members.{is_member}
use Rattle.fv_model.specs.Volumes.{Volume as Model}
use Rattle.fv_laws.specs.WellFormed.{IsWellTable}
use Rattle.fv_laws.specs.Positions.{HasNoReserve}
use Rattle.fv_tables.specs.Spelled.{Under}
use Rattle.fv_tables.specs.Told.{Standing, table_told}
use Rattle.fv_tree.specs.Sources.{Use}
use Rattle.fv_tree.specs.Standing.{under}
use Rattle.fv_charge.specs.Ledgers.{IsLedgerOf}
use Rattle.fv_aggmap.specs.Space.{Space}
use Rattle.fv_container.specs.declared.entry.Entry.{Entry}
use Rattle.fv_container.specs.Mapped.{Mapped}
use Rattle.fv_container.specs.Chains.{AreCleanOn, container_at, own_entry}
use Rattle.fv_volmap.specs.Slots.{active_of, has, slot_at}
use Rattle.fv_files.specs.Numbering.{AreNumbersIf}
use Rattle.fv_pool.specs.declared.pool.Pool.{Pool}
use Rattle.fv_volume.specs.declared.state.Snap.{Snap}
use Rattle.fv_volume.specs.declared.state.VolumeState.{VolumeState}
use Rattle.fv_pool.specs.BlocksOver.{AreApart, LoadsPool, block_of, held_block, held_entry}
use Rattle.fv_pool.specs.Lending.{use_of}
use Rattle.fv_pool.specs.Tables.{standing_by, AreLaidBy, AreSoundBy, AreLedBy, AreStoredBy, trees_by}
use Rattle.fv_volume.specs.OneVolume.{blocks_in, shows, base_told_by, snaps_by, standing_for, tables_of, trees_for, uses_in, volume_as, volume_for, IsKeptTable, IsStanding, IsTableIn}
use Rattle.fv_volume.specs.Placing.{IsLedTo, IsStoredWell, StaysBeside}
use Rattle.fv_volume.specs.Sharing.{AreShared}
use Rattle.fv_pool.proofs.Holding.{held_kept}
use Rattle.fv_pool.proofs.Shows.{get_held}

-- ---- a volume of which the entries and blocks stay that it holds

module _ (d e : Disk) (p q : Pool) (y : VolumeState)
    (same_held : (v : ℕ) → held_entry y.map q.containers y.slot v ≡ held_entry y.map p.containers y.slot v)
    (same_block : (v : ℕ) → held_block y.map q y.slot e.reads v ≡ held_block y.map p y.slot d.reads v) where
  same_under : under (shows e q y) ≡ under (shows d p y)
  same_under = λ i v. (get_held y.map q y.slot e.reads v ∙ same_block v ∙ sym (get_held y.map p y.slot d.reads v)) i

  same_used : (shows e q y).used ≡ (shows d p y).used
  same_used = λ i v. cond (is_member (active_of y.map) v) (Some (use_of (same_held v i))) None

  same_standing : standing_for e q y ≡ standing_for d p y
  same_standing = ap (λ (u : Under). standing_by u y.active y.files) same_under

  -- so are the blocks of each of its slots
  same_slots : blocks_in e q y ≡ blocks_in d p y
  same_slots = λ i k v. cond (has v (slot_at y.map k)) (same_block v i) None

  same_uses : uses_in q y ≡ uses_in p y
  same_uses = λ i k v. cond (has v (slot_at y.map k)) (Some (use_of (same_held v i))) None

  same_kept : All (IsKeptTable d p y) (tables_of y) → All (IsKeptTable e q y) (tables_of y)
  same_kept all = subst (λ (u : ℕ → Under). All (λ (s : Snap). (s.slot ≢ 0) × IsTableIn y.known (u s.slot) (uses_in q y s.slot) (slot_at y.map s.slot) y.now s.table) (tables_of y)) (sym same_slots)
      (subst (λ (u : ℕ → ℕ → Option Use). All (λ (s : Snap). (s.slot ≢ 0) × IsTableIn y.known (blocks_in d p y s.slot) (u s.slot) (slot_at y.map s.slot) y.now s.table) (tables_of y)) (sym same_uses) all)

  same_shared : AreShared (trees_for d p y) (blocks_in d p y) (tables_of y) → AreShared (trees_for e q y) (blocks_in e q y) (tables_of y)
  same_shared is = subst (λ (u : Under). AreShared (trees_by u y.active y.files) (blocks_in e q y) (tables_of y)) (sym same_under)
      (subst (λ (u : ℕ → Under). AreShared (trees_for d p y) u (tables_of y)) (sym same_slots) is)

  pub stays_volume : volume_for e q y ≡ volume_for d p y
  stays_volume = λ i. volume_as y (record { active = table_told (same_standing i); snapshots = snaps_by (same_slots i) y.snapshots; base = base_told_by (same_slots i) y.base })

  pub stays_led : IsLedTo d p y → IsLedTo e q y
  stays_led led = subst (λ (u : ℕ → Option Use). AreLedBy (under (shows e q y)) u y.active y.files) (sym same_used)
      (subst (λ (u : Under). AreLedBy u (shows d p y).used y.active y.files) (sym same_under) led)

  pub stays_well : IsStoredWell d p y → IsStoredWell e q y
  stays_well well = subst (λ (u : Under). AreStoredBy y.known u y.active y.files) (sym same_under) well

  module _ (own : (v : ℕ) → own_entry (container_at q.containers y.slot) v ≡ own_entry (container_at p.containers y.slot) v) (tells : e.tells ≡ d.tells)
      (next_own : (v : ℕ) (x : Entry) → own_entry (container_at p.containers y.slot) v ≡ Some x → is_member q.map.next x.pvbn ≡ true)
      (next_held : (v : ℕ) (x : Entry) → held_entry y.map p.containers y.slot v ≡ Some x → is_member q.map.next x.pvbn ≡ true) (clean : AreCleanOn e.reads q.containers) where
    still_apart : AreApart p y.map y.slot → AreApart q y.map y.slot
    still_apart is = record {
      own = λ v x here. next_own v x (sym (own v) ∙ here);
      held = λ v x here. next_held v x (sym (same_held v) ∙ here);
      own_apart = λ v w differ x here z there. is.own_apart v w differ x (sym (own v) ∙ here) z (sym (own w) ∙ there);
      held_apart = λ v w differ x here z there. is.held_apart v w differ x (sym (own v) ∙ here) z (sym (same_held w) ∙ there);
    }

    pub stays_standing : IsStanding d p y → IsStanding e q y
    stays_standing is = record {
      told = (subst IsTrue (sym tells) is.told.0, still_apart is.told.1, clean);
      table = subst (λ (s : Standing). IsWellTable y.now (table_told s)) (sym same_standing) is.table;
      reserves = subst (λ (s : Standing). HasNoReserve (table_told s)) (sym same_standing) is.reserves;
      kept = same_kept is.kept;
      names = is.names;
      shared = same_shared is.shared;
      ledger = subst (λ (v : Model). IsLedgerOf v y.ledger) (sym stays_volume) is.ledger;
      trees = subst (λ (u : ℕ → Option Use). AreSoundBy (under (shows e q y)) u y.active y.files) (sym same_used)
          (subst (λ (u : Under). AreSoundBy u (shows d p y).used y.active y.files) (sym same_under) is.trees);
      laid = subst (λ (u : Under). AreLaidBy u y.files) (sym same_under) is.laid;
      numbers = subst (λ (s : Standing). AreNumbersIf y.numbers (table_told s)) (sym same_standing) is.numbers;
    }

    -- The volume stands for what it stood for.
    pub stays_beside : IsStanding d p y → StaysBeside d p e q y
    stays_beside is = record { standing = stays_standing is; volume = stays_volume; led = stays_led; well = stays_well }

-- ---- leaves came into memory alone

-- Each volume stands for what it stood for.
pub beside_loads : (disk after : Disk) (pool left : Pool) → LoadsPool disk pool left → OnlyReads disk after → (y : VolumeState) → IsStanding disk pool y → StaysBeside disk pool after left y
beside_loads disk after pool left loads reads y is = stays_beside disk after pool left y held block own reads.stays.tells
    (λ v x here. next x (is.told.1.own v x here)) (λ v x here. next x (is.told.1.held v x here))
    (subst (λ (i : Image). AreCleanOn i left.containers) (sym reads.stays.reads) (loads.containers.clean (is.told.0, is.told.2))) is
  where
    own : (v : ℕ) → own_entry (container_at left.containers y.slot) v ≡ own_entry (container_at pool.containers y.slot) v
    own v = ap (λ (c : Option Mapped). own_entry c v) (loads.containers.maps y.slot)

    held : (v : ℕ) → held_entry y.map left.containers y.slot v ≡ held_entry y.map pool.containers y.slot v
    held v = held_kept disk y.map pool.containers left.containers y.slot v loads.containers

    block : (v : ℕ) → held_block y.map left y.slot after.reads v ≡ held_block y.map pool y.slot disk.reads v
    block v = λ i. block_of (loads.kept i) (reads.stays.reads i) (held v i)

    next : (x : Entry) → is_member pool.map.next x.pvbn ≡ true → is_member left.map.next x.pvbn ≡ true
    next x was = ap (λ (m : Space). is_member m.next x.pvbn) loads.map ∙ was
