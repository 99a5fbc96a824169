-- What a volume is once its files were placed, whole or in part.
use Rattle.std.proofs.Common.{◌≡◌, ◌≢◌, ℕ, ◌≤◌, ◌+◌, true, Option, Some, None, refl, sym, ap, subst, ◌∙◌, arith}
use Rattle.std.specs.Prelude.{All, min, Ok, Err}
use Rattle.std.proofs.lemmas.Bool.{both_ways}
use Rattle.std.proofs.Math.Nat.{min-eq_left, min-le_right}
use Rattle.fv_disk.specs.Shown.{Image, Shown as Disk}
use Rattle.fv_disk.specs.declared.fault.BlockFault.{BlockFault}
use Rattle.fv_codec.specs.declared.pointer.Pointer.{Pointer}
use Rattle.fv_codec.specs.Blocks.{IsPointer}
use Rattle.fv_root.specs.declared.find.Found.{Found}
use Rattle.fv_root.specs.Formatted.{IsSize}
use Rattle.fv_laws.specs.WellFormed.{IsWellTable}
use Rattle.fv_laws.specs.Positions.{HasNoReserve}
use Rattle.fv_store.specs.Held.{StandsOn}
use Rattle.fv_tables.specs.Told.{Standing, standing_at, table_told, tree_told}
use Rattle.fv_tables.specs.Kept.{IsPlacedTable}
use Rattle.fv_tables.proofs.Tables.{placed_table}
use Rattle.fv_tree.specs.Sources.{Shown}
use Rattle.fv_tree.specs.Standing.{under}
use Rattle.fv_files.specs.declared.files.Files.{Files}
use Rattle.fv_files.specs.Numbering.{AreNumbersIf}
use Rattle.fv_files.specs.Pending.{pending_in}
use Rattle.fv_files.specs.Tables.{loaded_trees, table_in, AreReached, AreStanding, IsLed, IsStored, IsStoredUnder}
use Rattle.fv_files.specs.Apart.{AreLed, Trees, stored_trees}
use Rattle.fv_charge.specs.Ledgers.{IsLedgerOf}
use Rattle.fv_volmap.specs.Slots.{Volume as Maps, has, slot_at}
use Rattle.fv_pool.specs.declared.pool.Pool.{Pool}
use Rattle.fv_pool.specs.declared.rooted.Rooted.{Rooted}
use Rattle.fv_volume.specs.declared.state.VolumeState.{VolumeState}
use Rattle.fv_pool.specs.BlocksOver.{held_block}
use Rattle.fv_volume.specs.Files.{IsLabelled}
use Rattle.fv_volume.specs.States.{head_in}
use Rattle.fv_volume.proofs.Labels.{label_turned, labelled_as}
use Rattle.fv_volume.specs.Labels.{label_said}
use Rattle.fv_pool.specs.Lending.{IsTold, KeepsSlots, lent_by, lent_for, sees}
use Rattle.fv_pool.specs.Tables.{standing_by, AreLaidBy, AreSoundBy, AreLedBy, AreStoredBy, pending_of, trees_by}
use Rattle.fv_volume.specs.OneVolume.{blocks_in, home_in, shows, snaps_by, standing_for, table_for, volume_for, IsKeptTable, IsReady, IsStanding, base_as, base_by, base_told_by, tables_of}
use Rattle.fv_pool.specs.Placing.{Goes, IsInNoSnap, PlacesTable}
use Rattle.fv_volume.specs.Placing.{IsLedTo, IsStoredWell, TellsSound}
use Rattle.fv_volume.specs.Sharing.{AreShared}
use Rattle.fv_volume.proofs.KeptTables.{kept_shared, kept_snaps, kept_tables, kept_base}
use Rattle.fv_volume.proofs.SnapRecords.{all_said}
use Rattle.fv_volume.proofs.PlacedShared.{placed_shared, was_laid}
use Rattle.fv_pool.proofs.TakenTrees.{stored_now}
use Rattle.fv_volume.proofs.TablesOf.{snaps_all}

-- ---- calls can be made on it

module _ (x : VolumeState) (active : Rooted) (few : active.levels ≤ 2) (fits : IsPointer active.root) where
  labelled_placed : (map : Maps) (files : Option Files) → map.span ≡ x.map.span → ((k : ℕ) → k ≢ 0 → slot_at map k ≡ slot_at x.map k) → IsLabelled x.slot x → IsLabelled x.slot (record x { active = active; map = map; files = files; changed = true })
  unfolding label_said
  labelled_placed map files span slots is = labelled_as x x.now x.size x.kind active map files x.ledger x.numbers span slots refl few
      (λ container height label. label_turned x active x.snapshots container height label few fits (all_said (head_in x) is.snapshots))
      is

-- Its blocks were placed, and its root is one that a label can say.
pub ready_placed : (d e : Disk) (p q : Pool) (x : VolumeState) (active : Rooted) (map : Maps) (files : Option Files) (room left : ℕ) → IsReady d p x → active.levels ≤ 2 → IsPointer active.root
    → Goes (lent_for p x.map d 0 (home_in x) room) q map e left → StandsOn e q.store.pairs → IsReady e q (record x { active = active; map = map; files = files; changed = true })
ready_placed d e p q x active map files room left is few fits goes stands =
    let over = goes.goes.goes in
    record {
      lent = record {
        within = is.lent.within;
        stands = stands;
        few = (let was = is.lent.few in let span = over.span in omega (arith, span, was));
        entries = (let was = is.lent.entries in let span = over.span in let count = over.shape.count in omega (arith, span, was, count));
      };
      labelled = labelled_placed x active few fits map files over.span over.snapshots is.labelled;
      booked = record { size = is.booked.size; kind = is.booked.kind; span = is.booked.span; need = is.booked.need; charge = is.booked.charge };
      blocks = subst (λ (f : Found). IsSize f.blocks) (sym over.found) is.blocks;
      changed = λ isnt. absurd (both_ways true isnt refl);
      fresh = λ isnt. absurd (both_ways true isnt refl);
    }

-- ---- it stands for what it stood for

module _ (d : Disk) (p : Pool) (x : VolumeState) (f : Files) (held : x.files ≡ Some f) where
  abbrev before : Shown
  before = shows d p x

  pub was_table : standing_for d p x ≡ table_in before f
  was_table = ap (standing_by (under before) x.active) held

  pub sound_told : TellsSound d p x → IsTold d p x.map x.slot × AreStanding before f
  sound_told told = (told.0, subst (AreSoundBy (under before) before.used x.active) held told.1)

  pub was_standing : IsStanding d p x → AreStanding before f
  was_standing is = (sound_told (is.told, is.trees)).1

  pub was_told : IsStanding d p x → IsTold d p x.map x.slot × AreStanding before f
  was_told is = sound_told (is.told, is.trees)

  pub was_led : IsLedTo d p x → IsLed before f
  was_led led = subst (AreLedBy (under before) before.used x.active) held led

  pub was_well : IsStoredWell d p x → IsStored x.known before f
  was_well well = subst (AreStoredBy x.known (under before) x.active) held well

  -- its inode file has as many levels as a label can say
  pub few_levels : IsStanding d p x → (g : Files) → g.inode.tree.levels ≡ f.inode.tree.levels → min g.inode.tree.levels 2 ≡ g.inode.tree.levels
  unfolding table_told tree_told
  few_levels is g same = let most = told_levels (subst (λ (s : Standing). IsWellTable x.now (table_told s)) was_table is.table) in min-eq_left (omega (arith, same, most))
    where
      told_levels : IsWellTable x.now (table_told (table_in before f)) → f.inode.tree.levels ≤ 2
      told_levels well = well.levels

  module _ (e : Disk) (q : Pool) (map : Maps) (g : Files) (placed : IsPlacedTable (table_in before f) (table_in (sees q map e (home_in x)) g)) (active : Rooted) (files : Option Files)
      (now : standing_by (under (sees q map e (home_in x))) active files ≡ table_in (sees q map e (home_in x)) g) (room less : ℕ) (goes : Goes (lent_for p x.map d 0 (home_in x) room) q map e less) where
    abbrev left : VolumeState
    left = record x { active = active; map = map; files = files; changed = true }

    left_table : table_for e q left ≡ table_for d p x
    left_table = ap table_told now ∙ placed_table (table_in before f) (table_in (sees q map e (home_in x)) g) placed ∙ sym (ap table_told was_table)

    slots : (k : ℕ) → k ≢ 0 → slot_at map k ≡ slot_at x.map k
    slots = goes.goes.goes.snapshots

    -- what is under the numbers of its snapshots stays
    module _ (is : IsStanding d p x) where
      keeps : KeepsSlots x.slot (lent_for p x.map d 0 (home_in x) room) (lent_by q map e goes.steps (home_in x) less goes.goes.strays goes.goes.noted)
      keeps = goes.goes.goes.keeps (is.told.0, is.told.2) is.told.1

      blocks : (k v : ℕ) → k ≢ 0 → has v (slot_at x.map k) ≡ true → held_block map q x.slot e.reads v ≡ held_block x.map p x.slot d.reads v
      blocks k v other here = ap (λ (i : Image). held_block map q x.slot i v) goes.goes.goes.only_reads.stays.reads ∙ keeps.blocks k v other here d.reads

      left_snaps : snaps_by (blocks_in e q left) x.snapshots ≡ snaps_by (blocks_in d p x) x.snapshots
      left_snaps = kept_snaps d e p q x left (omega arith) slots keeps.entries blocks x.snapshots (snaps_all (IsKeptTable d p x) x is.kept)

      left_base : base_told_by (blocks_in e q left) x.base ≡ base_told_by (blocks_in d p x) x.base
      left_base = kept_base d e p q x left (omega arith) slots keeps.entries blocks x.base

      left_kept : All (IsKeptTable e q left) (tables_of x)
      left_kept = kept_tables d e p q x left (omega arith) slots keeps.entries blocks refl (tables_of x) is.kept

    pub left_volume : IsStanding d p x → volume_for e q left ≡ volume_for d p x
    left_volume is = λ i. record (volume_for d p x) { active = left_table i; snapshots = left_snaps is i; base = base_as x.base (left_base is i) }

    pub left_standing : IsStanding d p x → IsTold e q map x.slot → AreSoundBy (under (sees q map e (home_in x))) (sees q map e (home_in x)).used active files
        → AreShared (trees_by (under (sees q map e (home_in x))) active files) (blocks_in d p x) (tables_of x) → AreLaidBy (under (sees q map e (home_in x))) files → IsStanding e q left
    left_standing is told trees shared laid = record {
      told = told;
      table = subst (IsWellTable x.now) (sym left_table) is.table;
      reserves = subst HasNoReserve (sym left_table) is.reserves;
      kept = left_kept is;
      names = is.names;
      shared = kept_shared d e p q x left (omega arith) slots (keeps is).entries (blocks is) (trees_by (under (sees q map e (home_in x))) active files) (tables_of x) is.kept shared;
      ledger = subst (λ v. IsLedgerOf v x.ledger) (sym (left_volume is)) is.ledger;
      trees = trees;
      laid = laid;
      numbers = subst (AreNumbersIf x.numbers) (sym left_table) is.numbers;
    }

-- Once it was placed whole the root that is answered tells it, and nothing of it is in memory.
module _ (blocks : Shown) (g : Files) (root : Pointer) (active : Rooted) (files : Option Files) (rooted : active ≡ record { levels = min g.inode.tree.levels 2; root = root }) (none : files ≡ None) where
  pub few_rooted : active.levels ≤ 2
  few_rooted = let same : active.levels ≡ min g.inode.tree.levels 2 = ap (λ (r : Rooted). r.levels) rooted in let most = min-le_right g.inode.tree.levels 2 in omega (arith, same, most)

  pub fits_rooted : IsPointer root → IsPointer active.root
  fits_rooted fits = subst IsPointer (sym (ap (λ (r : Rooted). r.root) rooted)) fits

  module _ (few : min g.inode.tree.levels 2 ≡ g.inode.tree.levels) where
    pub root_tells : table_in blocks g ≡ standing_at (under blocks) g.inode.tree.levels root → standing_by (under blocks) active files ≡ table_in blocks g
    root_tells stored = (λ i. standing_by (under blocks) (rooted i) (none i)) ∙ ap (λ n. standing_at (under blocks) n root) few ∙ sym stored

    pub root_stands : AreReached (under blocks) blocks.used g.inode.tree.levels root → AreSoundBy (under blocks) blocks.used active files
    root_stands reached = subst (λ (o : Option Files). AreSoundBy (under blocks) blocks.used active o) (sym none)
        (subst (λ (r : Rooted). AreReached (under blocks) blocks.used r.levels r.root) (sym rooted) (subst (λ n. AreReached (under blocks) blocks.used n root) (sym few) reached))

-- ---- what is pending

pub pending_held : (was : Option Files) (f : Files) → was ≡ Some f → (room : ℕ) → pending_of was ≤ room → pending_in f ≤ room
pending_held was f held room enough = subst (λ (o : Option Files). pending_of o ≤ room) held enough

-- as a table's room, so a volume's
module _ (was : Option Files) (f g : Files) (held : was ≡ Some f) (before after : ℕ) where
  pub fits_failed : (pending_in g ≤ pending_in f) × (before + pending_in g ≤ after + pending_in f) → (pending_of (Some g) ≤ pending_of was) × (before + pending_of (Some g) ≤ after + pending_of was)
  fits_failed fits = subst (λ (o : Option Files). (pending_in g ≤ pending_of o) × (before + pending_in g ≤ after + pending_of o)) (sym held) fits

pub fits_done : (was now : Option Files) (f g : Files) → was ≡ Some f → now ≡ None → (before after : ℕ) → (pending_in g ≤ pending_in f) × (before + pending_in g ≤ after + pending_in f) → pending_in g ≡ 0
    → (pending_of now ≤ pending_of was) × (before + pending_of now ≤ after + pending_of was)
fits_done was now f g held none before after fits nothing =
    subst (λ (o : Option Files). (pending_of o ≤ pending_of was) × (before + pending_of o ≤ after + pending_of was)) (sym none)
    (subst (λ (o : Option Files). (0 ≤ pending_of o) × (before + 0 ≤ after + pending_of o)) (sym held)
    (omega arith, (let some = fits.1 in omega (arith, some, nothing))))

-- ---- so a flush leaves it

-- what is told of a volume with files in memory
abbrev pub Told : Disk → Pool → VolumeState → Files → Type 0
Told d p x f = IsTold d p x.map x.slot × AreStanding (shows d p x) f

module _ (d e : Disk) (p q : Pool) (x : VolumeState) (f : Files) (held : x.files ≡ Some f) (map : Maps) (room less : ℕ) (goes : Goes (lent_for p x.map d 0 (home_in x) room) q map e less) (g : Files) where
  abbrev after : Shown
  after = sees q map e (home_in x)

  -- placed whole
  module _ (root : Pointer) (active : Rooted) (files : Option Files) (rooted : active ≡ record { levels = min g.inode.tree.levels 2; root = root }) (none : files ≡ None)
      (table : PlacesTable (Told d p x f) (shows d p x) (under after) after.used (IsInNoSnap d p x.map x.slot) f g (Ok root)) (is : IsStanding d p x) where
    told : Told d p x f
    told = was_told d p x f held is

    few : min g.inode.tree.levels 2 ≡ g.inode.tree.levels
    few = few_levels d p x f held is g (table.levels told told.1)

    tells : standing_by (under after) active files ≡ table_in after g
    tells = root_tells after g root active files rooted none few (table.stored told told.1)

    -- its trees are those under the root
    trees_now : loaded_trees (under after) g ≡ trees_by (under after) active files
    trees_now =
        stored_now (under after) g g.inode.tree.levels root (table.stored told told.1)
        ∙ ap (λ (n : ℕ). stored_trees (under after) n root) (sym few)
        ∙ (λ i. trees_by (under after) (sym rooted i) (sym none i))

    shared_now : AreShared (trees_by (under after) active files) (blocks_in d p x) (tables_of x)
    shared_now = subst (λ (t : Trees). AreShared t (blocks_in d p x) (tables_of x)) trees_now (placed_shared d p x f held is (loaded_trees (under after) g) (table.anew told told.1 (was_laid d p x f held is)))

    pub done_volume : volume_for e q (record x { active = active; map = map; files = files; changed = true }) ≡ volume_for d p x
    done_volume = left_volume d p x f held e q map g (table.placed told told.1) active files tells room less goes is

    pub done_standing : (Told d p x f → IsTold e q map x.slot) → IsStanding e q (record x { active = active; map = map; files = files; changed = true })
    done_standing still = left_standing d p x f held e q map g (table.placed told told.1) active files tells room less goes is (still told) (root_stands after g root active files rooted none few (table.reached told told.1)) shared_now (subst (AreLaidBy (under after)) (sym none) tt)

    pub done_led : IsLedTo d p x → IsLedTo e q (record x { active = active; map = map; files = files; changed = true })
    done_led led = subst (λ (o : Option Files). AreLedBy (under after) after.used active o) (sym none)
        (subst (λ (r : Rooted). AreLed after.used (stored_trees (under after) r.levels r.root)) (sym rooted)
        (subst (λ n. AreLed after.used (stored_trees (under after) n root)) (sym few) (table.stored_led told told.1 (was_led d p x f held led))))

    pub done_well : IsLedTo d p x → IsStoredWell d p x → IsStoredWell e q (record x { active = active; map = map; files = files; changed = true })
    done_well led well = subst (λ (o : Option Files). AreStoredBy x.known (under after) active o) (sym none)
        (subst (λ (r : Rooted). IsStoredUnder x.known (under after) r.levels r.root) (sym rooted)
        (subst (λ n. IsStoredUnder x.known (under after) n root) (sym few) (table.stored_well told x.known told.1 (was_led d p x f held led) (was_laid d p x f held is) (was_well d p x f held well))))

  -- placed in part
  module _ (fault : BlockFault) (table : PlacesTable (Told d p x f) (shows d p x) (under after) after.used (IsInNoSnap d p x.map x.slot) f g (Err fault)) (is : IsStanding d p x) where
    told_then : Told d p x f
    told_then = was_told d p x f held is

    pub failed_volume : volume_for e q (record x { map = map; files = Some g; changed = true }) ≡ volume_for d p x
    failed_volume = left_volume d p x f held e q map g (table.placed told_then told_then.1) x.active (Some g) refl room less goes is

    pub failed_standing : (Told d p x f → IsTold e q map x.slot) → IsStanding e q (record x { map = map; files = Some g; changed = true })
    failed_standing still = left_standing d p x f held e q map g (table.placed told_then told_then.1) x.active (Some g) refl room less goes is (still told_then) (table.stands told_then told_then.1)
        (placed_shared d p x f held is (loaded_trees (under after) g) (table.anew told_then told_then.1 (was_laid d p x f held is))) (table.laid told_then told_then.1 (was_laid d p x f held is))

    pub failed_led : IsLedTo d p x → IsLedTo e q (record x { map = map; files = Some g; changed = true })
    failed_led led = table.led told_then told_then.1 (was_led d p x f held led)

    pub failed_well : IsLedTo d p x → IsStoredWell d p x → IsStoredWell e q (record x { map = map; files = Some g; changed = true })
    failed_well led well = table.well told_then told_then.1 (was_led d p x f held led) (was_laid d p x f held is) x.known (was_well d p x f held well)
