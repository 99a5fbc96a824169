-- What a volume is once a change of its files was made, and what the machine says of the space for it.
use Rattle.std.proofs.Common.{◌≡◌, ◌≢◌, ℕ, ◌+◌, ◌<◌, ◌≤◌, ⊎_elim, Bool, true, cond, nat_lt, Option, Some, None, refl, sym, ap, subst, ◌∙◌, arith}
use Rattle.std.specs.Prelude.{Result, Ok, Err}
use Rattle.std.proofs.lemmas.Bool.{cases_lt}
use Rattle.std.proofs.lemmas.Bool.Decides.{nat_tests}
use Rattle.fv_disk.specs.Shown.{Shown as Disk}
use Rattle.fv_model.specs.declared.answers.Refusal.{Refusal}
use Rattle.fv_model.specs.declared.answers.Refusal.TheVariants.{VolumeFull, AggregateFull}
use Rattle.fv_model.specs.declared.commands.Command.{Command}
use Rattle.fv_model.specs.Tables.{Table}
use Rattle.fv_model.specs.Volumes.{Volume}
use Rattle.fv_model.specs.Machines.{Machine, capacity}
use Rattle.fv_model.specs.Effects.{Becomes, change_of, stamped}
use Rattle.fv_laws.specs.WellFormed.{IsWellTable}
use Rattle.fv_laws.specs.Positions.{HasNoReserve}
use Rattle.fv_tables.specs.Told.{table_told}
use Rattle.fv_tables.specs.Spelled.{Under}
use Rattle.fv_tree.specs.Sources.{Use}
use Rattle.fv_tree.specs.Standing.{under}
use Rattle.fv_files.specs.declared.files.Files.{Files}
use Rattle.fv_files.specs.declared.numbers.FileNumbers.{FileNumbers}
use Rattle.fv_files.specs.Apart.{Trees}
use Rattle.fv_files.specs.Altering.{AltersTrees}
use Rattle.fv_files.specs.Numbering.{AreNumbersIf}
use Rattle.fv_container.specs.Chains.{Slots}
use Rattle.fv_volmap.specs.Slots.{Volume as Maps, has, slot_at}
use Rattle.fv_charge.specs.declared.delta.Delta.{Delta}
use Rattle.fv_charge.specs.declared.ledger.Ledger.{Ledger}
use Rattle.fv_charge.specs.Changes.{IsChanged, IsDeltaOf, IsLeft, admission, answer_of}
use Rattle.fv_charge.specs.Ledgers.{IsLedgerOf, committed}
use Rattle.fv_charge.proofs.Admissions.{changed_ledger}
use Rattle.fv_pool.specs.declared.pool.Pool.{Pool}
use Rattle.fv_volume.specs.declared.state.VolumeState.{VolumeState}
use Rattle.fv_pool.specs.BlocksOver.{block_of, held_block, held_entry}
use Rattle.fv_pool.specs.Calls.{Reads}
use Rattle.fv_volume.specs.Calls.{HasBeside}
use Rattle.fv_pool.specs.Lending.{IsTold}
use Rattle.fv_pool.specs.Tables.{standing_by, AreLaidBy, AreSoundBy, trees_by}
use Rattle.fv_volume.specs.OneVolume.{blocks_in, shows, table_for, trees_for, volume_as, volume_for, IsStanding, IsKeptTable, base_as, tables_of}
use Rattle.fv_volume.specs.Sharing.{AreShared}
use Rattle.fv_volume.proofs.Charging.{left_by}
use Rattle.fv_pool.proofs.Holding.{same_entry}
use Rattle.fv_volume.proofs.KeptTables.{kept_shared, kept_snaps, kept_tables, kept_base}
use Rattle.fv_volume.proofs.SharedChanges.{shared_altered, PlacesAltered}
use Rattle.fv_volume.proofs.OneVolumes.{still_table, still_under, still_used}
use Rattle.fv_volume.proofs.TablesOf.{snaps_all}

-- ---- what is said of the space

pub space_accepts : (o : Option Refusal) → Ok tt ≡ answer_of o → o ≡ None
space_accepts None e = refl
space_accepts (Some r) e = absurd cc

pub space_refuses : (o : Option Refusal) (r : Refusal) → Err r ≡ answer_of o → o ≡ Some r
space_refuses None r e = absurd cc
space_refuses (Some s) r e = let same : r ≡ s = cc in ap (λ t. Some t) (sym same)

-- what is said once the size has room
abbrev beyond : Ledger → ℕ → ℕ → Result Unit Refusal
beyond l others most = cond (nat_lt most (others + committed l)) (Err AggregateFull) (Ok tt)

not_full : (x : Result Unit Refusal) → x ≡ Err VolumeFull → x ≡ Ok tt → ⊥
not_full x full fine = let both : Err VolumeFull ≡ Ok tt = sym full ∙ fine in cc

pub within_size : (l : Ledger) (others most : ℕ) → Ok tt ≡ admission l others most → l.charge + l.need ≤ l.size
within_size l others most e = ⊎_elim
    (λ (past : l.size < l.charge + l.need).
    let test : nat_lt l.size (l.charge + l.need) ≡ true = grind (arith, nat_tests, past) in
    absurd (not_full (admission l others most) (ap (λ (b : Bool). cond b (Err VolumeFull) (beyond l others most)) test) (sym e)))
    (λ fits. fits)
    (cases_lt l.size (l.charge + l.need))

-- the ledger of the volume that a command leaves
module _ (d : Disk) (p : Pool) (x : VolumeState) (is : IsStanding d p x) (others : ℕ) (m : Machine) (beside : HasBeside x.name (volume_for d p x) others p.found.blocks m) where
  pub leaves_ledger : (c : Command) (y : Volume) (delta : Delta) (l : Ledger) → change_of m c ≡ Becomes x.name y → IsDeltaOf (volume_for d p x) y delta → IsChanged x.ledger delta l
      → IsLeft m c x.name l others (capacity p.found.blocks)
  leaves_ledger c y delta l change delta_is moved =
      left_by m c x.name (volume_for d p x) y l others (capacity p.found.blocks) beside.there change beside.sum (changed_ledger (volume_for d p x) y x.ledger l delta is.ledger delta_is moved) (ap capacity (sym beside.blocks))

-- ---- a change that places nothing

-- The volume's maps and its table may be others, and blocks were read before and meanwhile.
module _ (d e f : Disk) (p q r : Pool) (first : Reads d p e q) (second : Reads e q f r) (x : VolumeState) (is : IsStanding d p x) (map : Maps) (slots : (k : ℕ) → k ≢ 0 → slot_at map k ≡ slot_at x.map k) (files : Option Files) where
  abbrev with_map : VolumeState
  with_map = record x { map = map }

  -- the volume with another table
  abbrev with_files : VolumeState
  with_files = record x { map = map; files = files; changed = true }

  -- a snapshot's numbers have the entries that they had
  kept_entries : (k v : ℕ) → k ≢ 0 → has v (slot_at x.map k) ≡ true → held_entry map r.containers x.slot v ≡ held_entry x.map p.containers x.slot v
  kept_entries k v other here =
      same_entry x.map map r.containers x.slot k v (slots k other) here ∙ ap (λ (c : Slots). held_entry x.map c x.slot v) (second.leaves.containers ∙ first.leaves.containers)

  -- and the blocks under these
  kept_blocks : (k v : ℕ) → k ≢ 0 → has v (slot_at x.map k) ≡ true → held_block map r x.slot f.reads v ≡ held_block x.map p x.slot d.reads v
  kept_blocks k v other here =
      let kept = second.leaves.kept ∙ first.leaves.kept in
      let reads = second.only_reads.stays.reads ∙ first.only_reads.stays.reads in
      λ i. block_of (kept i) (reads i) (kept_entries k v other here i)

  -- the table over what was read before the change
  abbrev its_table : Table
  its_table = table_told (standing_by (under (shows e q with_map)) x.active files)

  -- its trees over what was read before the change
  abbrev its_trees : Trees
  its_trees = trees_by (under (shows e q with_map)) x.active files

  module _ (told : IsTold f r map x.slot) (trees : AreSoundBy (under (shows e q with_map)) (shows e q with_map).used x.active files) where
    -- what it shares with its snapshots
    shared_now : AltersTrees (x.now + 1) (trees_for e q x) its_trees → AreShared (trees_by (under (shows f r with_map)) x.active files) (blocks_in d p x) (tables_of x)
    shared_now alters = subst (λ (u : Under). AreShared (trees_by u x.active files) (blocks_in d p x) (tables_of x)) (sym (still_under e f q r second with_map))
        (shared_altered x.now (x.now + 1) (trees_for e q x) its_trees (blocks_in d p x) (tables_of x) (omega arith) (λ n s lt. (is.kept n s lt).1.table) alters
        (subst (λ (u : Under). AreShared (trees_by u x.active x.files) (blocks_in d p x) (tables_of x)) (sym (still_under d e p q first x)) is.shared))

    laid_now : AreLaidBy (under (shows e q with_map)) files → AreLaidBy (under (shows f r with_map)) files
    laid_now laid = subst (λ (u : Under). AreLaidBy u files) (sym (still_under e f q r second with_map)) laid

    sound_now : AreSoundBy (under (shows f r with_map)) (shows f r with_map).used x.active files
    sound_now = subst (λ (u : ℕ → Option Use). AreSoundBy (under (shows f r with_map)) u x.active files) (sym (still_used e f q r second with_map))
        (subst (λ (u : Under). AreSoundBy u (shows e q with_map).used x.active files) (sym (still_under e f q r second with_map)) trees)

    -- the table is told over what is read now as it was where the change was made
    table_now : table_for f r with_files ≡ its_table
    table_now = ap table_told (still_table e f q r second with_files)

    -- a change that failed
    module _ (same : its_table ≡ table_for e q x) where
      pub failed_volume : volume_for f r with_files ≡ volume_for d p x
      failed_volume = λ i. volume_as x (record { active = (table_now ∙ same ∙ ap table_told (still_table d e p q first x)) i; snapshots = kept_snaps d f p r x with_files (omega arith) slots kept_entries kept_blocks x.snapshots (snaps_all (IsKeptTable d p x) x is.kept) i; base = kept_base d f p r x with_files (omega arith) slots kept_entries kept_blocks x.base i })

      pub failed_standing : PlacesAltered e q x map files → IsStanding f r with_files
      failed_standing places =
          let table : table_for f r with_files ≡ table_for d p x = ap (λ (v : Volume). v.active) failed_volume in
          record {
            told = told;
            table = subst (IsWellTable x.now) (sym table) is.table;
            reserves = subst HasNoReserve (sym table) is.reserves;
            kept = kept_tables d f p r x with_files (omega arith) slots kept_entries kept_blocks refl (tables_of x) is.kept;
            names = is.names;
            shared = kept_shared d f p r x with_files (omega arith) slots kept_entries kept_blocks (trees_by (under (shows f r with_map)) x.active files) (tables_of x) is.kept (shared_now places.alters);
            ledger = subst (λ v. IsLedgerOf v x.ledger) (sym failed_volume) is.ledger;
            trees = sound_now;
            laid = laid_now places.laid;
            numbers = subst (AreNumbersIf x.numbers) (sym table) is.numbers;
          }

    -- a change that was made, and counted
    module _ (now : ℕ) (ledger : Ledger) (numbers : Option FileNumbers) (table : ℕ → Table) (next : now ≡ x.now + 1) (made : its_table ≡ table (x.now + 1)) where
      abbrev counted : VolumeState
      counted = record x { map = map; files = files; now = now; ledger = ledger; numbers = numbers; changed = true }

      later : x.now ≤ now
      later = omega (arith, next)

      pub made_volume : volume_for f r counted ≡ stamped (volume_for d p x) table
      made_volume = λ j. record (volume_for d p x) { now = next j; active = (table_now ∙ made) j; snapshots = kept_snaps d f p r x counted later slots kept_entries kept_blocks x.snapshots (snaps_all (IsKeptTable d p x) x is.kept) j; base = base_as x.base (kept_base d f p r x counted later slots kept_entries kept_blocks x.base j) }

      pub made_standing : PlacesAltered e q x map files → IsWellTable (x.now + 1) (table (x.now + 1)) → HasNoReserve (table (x.now + 1)) → IsLedgerOf (stamped (volume_for d p x) table) ledger → AreNumbersIf numbers (table (x.now + 1)) → IsStanding f r counted
      made_standing places well unreserved is_ledger numbered = record {
        told = told;
        table = subst (λ n. IsWellTable n (table_for f r counted)) (sym next) (subst (IsWellTable (x.now + 1)) (sym (table_now ∙ made)) well);
        reserves = subst HasNoReserve (sym (table_now ∙ made)) unreserved;
        kept = kept_tables d f p r x counted later slots kept_entries kept_blocks refl (tables_of x) is.kept;
        names = is.names;
        shared = kept_shared d f p r x counted later slots kept_entries kept_blocks (trees_by (under (shows f r with_map)) x.active files) (tables_of x) is.kept (shared_now places.alters);
        ledger = subst (λ v. IsLedgerOf v ledger) (sym made_volume) is_ledger;
        trees = sound_now;
        laid = laid_now places.laid;
        numbers = subst (AreNumbersIf numbers) (sym (table_now ∙ made)) numbered;
      }
