-- A volume that was just made stands for the machine's new one.
use Rattle.std.proofs.Common.{◌≡◌, ℕ, [], Option, Some, None, sym, ap, subst, ◌∙◌, ◌++◌}
use Rattle.std.specs.Prelude.{IsTrue}
use Rattle.std.specs.Option.{option_map}
use Rattle.std.specs.Ordering.{nat_cmp}
use Rattle.std.specs.FinMap as fin
use Rattle.fv_disk.specs.Shown.{Shown as Disk}
use Rattle.fv_codec.specs.declared.inode.InodeRecord.{InodeRecord}
use Rattle.fv_codec.specs.declared.pointer.Pointer.{Pointer}
use Rattle.fv_codec.specs.Blocks.{greatest_word}
use Rattle.fv_model.specs.declared.commands.Kind.{Kind}
use Rattle.fv_model.specs.Space.{span_of}
use Rattle.fv_model.specs.Tables.{File, empty_table}
use Rattle.fv_model.specs.Effects.{empty_volume}
use Rattle.fv_laws.specs.WellFormed.{IsWellTable}
use Rattle.fv_laws.specs.Positions.{HasNoReserve}
use Rattle.fv_laws.proofs.Tables.{empty_well}
use Rattle.fv_tables.specs.Spelled.{Under, hole, stored}
use Rattle.fv_tables.specs.Told.{standing_at, table_told}
use Rattle.fv_tables.proofs.Bare.{bare_file, bare_table, none_at}
use Rattle.fv_tree.specs.Beside.{unread}
use Rattle.fv_tree.specs.Sources.{Use}
use Rattle.fv_tree.specs.Standing.{under}
use Rattle.fv_tree.proofs.Whole.{hole_reaches}
use Rattle.fv_files.specs.declared.files.Files.{Files}
use Rattle.fv_files.specs.Apart.{LeadsFrom, LeadsIn, stored_trees}
use Rattle.fv_files.specs.Tables.{AreReached}
use Rattle.fv_files.proofs.Stored.{hole_stored}
use Rattle.fv_image.specs.Views.{Head}
use Rattle.fv_charge.specs.Ledgers.{IsLedgerOf}
use Rattle.fv_container.specs.declared.entry.Entry.{Entry}
use Rattle.fv_container.specs.Mapped.{Mapped, empty_map}
use Rattle.fv_container.specs.Chains.{AreCleanOn, container_at, own_entry, parent_at}
use Rattle.fv_files.specs.declared.numbers.FileNumbers.{FileNumbers}
use Rattle.fv_files.specs.Numbering.{AreNumbersIf}
use Rattle.fv_pool.specs.declared.pool.Pool.{Pool}
use Rattle.fv_volume.specs.declared.state.VolumeState.{VolumeState}
use Rattle.fv_pool.specs.Tables.{standing_by, AreLaidBy, AreSoundBy, AreStoredBy}
use Rattle.fv_volume.specs.OneVolume.{blocks_in, shows, table_for, trees_for, volume_as, volume_for, IsKeptTable, IsStanding, base_as, base_table, base_told_by, tables_of}
use Rattle.fv_volume.specs.Placing.{IsStoredWell}
use Rattle.fv_volume.specs.States.{empty_head, head_in, ledger_of_empty}
use Rattle.fv_volume.proofs.KeptTables.{none_kept, none_told, snaps_none}
use Rattle.fv_volume.proofs.Shared.{none_named, none_shared}
use Rattle.fv_volume.proofs.TablesOf.{no_footing}
use Rattle.fv_volumes.proofs.Made.{ledger_new}
use Rattle.fv_volumes.proofs.Alone.{apart_alone}
use Rattle.fv_volumes.proofs.Stepping.{none_in}

-- a table whose root is a hole leads nowhere
module _ (blocks : Under) (used : ℕ → Option Use) (levels : ℕ) (root : Pointer) (bare : root.stamp ≡ 0) where
  leads_nowhere : (a : Option ℕ) (v : ℕ) → LeadsFrom (stored_trees blocks levels root) a v → ⊥
  leads_nowhere None v leads = leads.leads.some (none_at (stored blocks greatest_word levels root) bare leads.level leads.place)
  leads_nowhere (Some n) v leads = subst (λ (o : Option InodeRecord). LeadsIn (option_map (λ r. unread (stored blocks n r.levels r.root)) o) v) (bare_file (stored blocks greatest_word levels root) bare n) leads

  pub bare_reached : AreReached blocks used levels root
  bare_reached = record {
    inode = hole_reaches used (stored blocks greatest_word levels root) bare;
    files = λ n r found. absurd (no_record r (sym (bare_file (stored blocks greatest_word levels root) bare n) ∙ found));
    apart = λ a b v other first second. leads_nowhere a v first;
  }
    where
      no_record : (r : InodeRecord) → None ≡ Some r → ⊥
      no_record r e = cc

module _ (disk : Disk) (pool : Pool) (x : VolumeState) (size : ℕ) (kind : Kind) (head : head_in x ≡ empty_head x.name size kind (span_of size 0 0)) (ledger : x.ledger ≡ ledger_of_empty size kind (span_of size 0 0)) (none : x.files ≡ None) where
  levels : x.active.levels ≡ 0
  levels = ap (λ (h : Head). h.active.levels) head

  root : x.active.root ≡ hole
  root = ap (λ (h : Head). h.active.root) head

  -- it has no snapshot
  no_snapshots : x.snapshots ≡ []
  no_snapshots = snaps_none x.snapshots (ap (λ (h : Head). h.snapshots) head)

  no_base : x.base ≡ None
  no_base = no_footing x.base (ap (λ (h : Head). h.base) head)

  no_tables : tables_of x ≡ []
  no_tables = λ i. base_table (no_base i) ++ no_snapshots i

  bare : x.active.root.stamp ≡ 0
  bare = ap (λ (p : Pointer). p.stamp) root

  -- it has no file
  pub made_table : table_for disk pool x ≡ empty_table
  made_table =
      ap (λ (o : Option Files). table_told (standing_by (under (shows disk pool x)) x.active o)) none
      ∙ bare_table (standing_at (under (shows disk pool x)) x.active.levels x.active.root) bare
      ∙ ap (λ (n : ℕ). record { files = fin.empty; inode = record { levels = n; stamps = fin.empty } }) levels

  -- and leads nowhere
  pub made_well : IsStoredWell disk pool x
  made_well = subst (AreStoredBy x.known (under (shows disk pool x)) x.active) (sym none) (hole_stored x.known (under (shows disk pool x)) x.active.levels x.active.root bare)

  -- it is told as the machine's new volume
  pub made_volume : volume_for disk pool x ≡ empty_volume size kind
  made_volume = (λ i. volume_as x (record { active = made_table i; snapshots = none_told (blocks_in disk pool x) x.snapshots no_snapshots i; base = base_told_by (blocks_in disk pool x) (no_base i) })) ∙ by
    where
      by : volume_as x (record { active = empty_table; snapshots = fin.empty; base = empty_table }) ≡ empty_volume size kind
      by = λ i. record {
        kind = (head i).kind;
        size = (head i).size;
        most = (head i).most;
        span = (head i).span;
        now = (head i).now;
        active = empty_table;
        snapshots = fin.empty;
        base = base_as (no_base i) empty_table;
        known = (head i).known;
      }

  -- So calls can be made on it.
  pub made_standing : x.numbers ≡ None → (entries : ℕ) → IsTrue disk.tells → AreCleanOn disk.reads pool.containers → container_at pool.containers x.slot ≡ Some (empty_map entries) → parent_at pool.containers x.slot ≡ None → IsStanding disk pool x
  made_standing unnumbered entries tells clean holes alone = record {
    told = (tells, apart_alone pool x.map x.slot alone (λ v e is. absurd (no_entry v e is)) (λ v w other e is f there. absurd (no_entry v e is)), clean);
    table = subst (IsWellTable x.now) (sym made_table) (empty_well x.now);
    reserves = subst HasNoReserve (sym made_table) no_reserve;
    kept = none_kept (IsKeptTable disk pool x) (tables_of x) no_tables;
    names = none_named x.snapshots no_snapshots;
    shared = none_shared (trees_for disk pool x) (blocks_in disk pool x) (tables_of x) no_tables;
    ledger = subst (λ v. IsLedgerOf v x.ledger) (sym made_volume) (subst (IsLedgerOf (empty_volume size kind)) (sym ledger) (ledger_new size kind));
    trees = subst (AreSoundBy (under (shows disk pool x)) (shows disk pool x).used x.active) (sym none) (bare_reached (under (shows disk pool x)) (shows disk pool x).used x.active.levels x.active.root bare);
    laid = subst (AreLaidBy (under (shows disk pool x))) (sym none) tt;
    numbers = subst (λ (o : Option FileNumbers). AreNumbersIf o (table_for disk pool x)) (sym unnumbered) tt;
  }
    where
      no_entry : (v : ℕ) (e : Entry) → own_entry (container_at pool.containers x.slot) v ≡ Some e → ⊥
      no_entry v e is = let wrong : None ≡ Some e = sym (ap (λ (c : Option Mapped). own_entry c v) holes ∙ none_in entries v) ∙ is in cc

      no_reserve : HasNoReserve empty_table
      no_reserve n f found = let wrong : ◌≡◌ {A = Option File} None (Some f) = sym (fin.get-empty nat_cmp n) ∙ found in absurd cc
