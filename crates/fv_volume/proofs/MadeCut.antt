-- A cut that was made is the machine's.
use Rattle.std.proofs.Common.{◌≡◌, ℕ, ◌+◌, ◌≤◌, true, List, [], Option, refl, sym, ap, subst, ◌∙◌, arith}
use Rattle.std.specs.Prelude.{Ok}
use Rattle.fv_disk.specs.Shown.{Shown as Disk}
use Rattle.fv_model.specs.declared.commands.Command.TheVariants.{Cut}
use Rattle.fv_model.specs.Tables.{Table, file_cut, cut}
use Rattle.fv_model.specs.Volumes.{Volume}
use Rattle.fv_model.specs.Effects.{Becomes, stamped}
use Rattle.fv_laws.specs.Paths.{cut_path}
use Rattle.fv_laws.specs.Positions.{staying, taken_by_cut}
use Rattle.fv_laws.proofs.Moves.{cut_charge}
use Rattle.fv_laws.proofs.PathCharges.{none_stay, cut_unreserved}
use Rattle.fv_laws.proofs.Tables.{cut_well}
use Rattle.fv_tables.specs.Told.{Standing, table_told}
use Rattle.fv_tree.specs.Standing.{under}
use Rattle.fv_inode.specs.declared.info.Info.{Info}
use Rattle.fv_files.specs.declared.files.Files.{Files}
use Rattle.fv_files.specs.declared.numbers.FileNumbers.{FileNumbers}
use Rattle.fv_files.specs.Numbering.{AreNumbersIf}
use Rattle.fv_files.specs.Calls.{CutsFile, TakesByCut}
use Rattle.fv_charge.specs.declared.delta.Delta.{Delta}
use Rattle.fv_charge.specs.declared.ledger.Ledger.{Ledger}
use Rattle.fv_charge.specs.Changes.{IsDeltaOf}
use Rattle.fv_charge.specs.Ledgers.{IsLedgerOf}
use Rattle.fv_volmap.specs.Slots.{Volume as Maps}
use Rattle.fv_pool.specs.declared.pool.Pool.{Pool}
use Rattle.fv_volume.specs.declared.state.VolumeState.{VolumeState}
use Rattle.fv_pool.specs.Calls.{Reads}
use Rattle.fv_volume.specs.Calls.{Changes, HasWithin}
use Rattle.fv_volume.specs.Changing.{AcceptsCut, IsDeltaBy}
use Rattle.fv_volume.specs.OneVolume.{tables_of, shows, standing_for, volume_for, IsReady, IsStanding}
use Rattle.fv_pool.specs.Tables.{standing_by}
use Rattle.fv_volume.proofs.FoundFiles.{file_found, FoundFile}
use Rattle.fv_volume.proofs.Calling.{done_leaves, done_moves, done_next, done_places, done_says, is_done, left_numbers, LeavesTrees, Parts}
use Rattle.fv_volume.proofs.Changed.{made_standing, made_volume}
use Rattle.fv_volume.proofs.Charging.{cut_change, cut_delta}
use Rattle.fv_volume.proofs.Numbered.{cut_files, still_numbered}
use Rattle.fv_volume.proofs.Charged.{made_moves}
use Rattle.fv_volume.proofs.SettledTables.{next_is_new}
use Rattle.fv_volume.proofs.KeptTables.{is_alone}
use Rattle.fv_volume.proofs.OneVolumes.{still_table}
use Rattle.fv_volume.proofs.SharedChanges.{PlacesAltered}

module _ (d e f : Disk) (p q r : Pool) (first : Reads d p e q) (second : Reads e q f r) (x : VolumeState) (is : IsStanding d p x) (ready : IsReady d p x) (others : ℕ) (name : List ℕ) (most : ℕ) (info : Info) (known : Option Delta)
    (accepts : AcceptsCut d p x others name most info known) (map : Maps) (files : Option Files) (so : LeavesTrees e f q r x map files)
    (cuts : CutsFile (standing_for e q x) (standing_by (under (shows e q (record x { map = map }))) x.active files) info.number most (x.now + 1)) (count : ℕ)
    (takes : TakesByCut (standing_for e q x) info.number most (x.now + 1) count) (by : Delta) (is_by : IsDeltaBy x.ledger known count by) where
  abbrev seen : FoundFile d e p q x name info.number
  seen = file_found d e p q first x is name info accepts.first

  abbrev table : ℕ → Table
  table = cut (table_told (standing_for d p x)) info.number seen.its most

  made : table_told (standing_by (under (shows e q (record x { map = map }))) x.active files) ≡ table (x.now + 1)
  made = cuts x.now seen.its seen.well seen.later ∙ ap (λ (s : Standing). cut (table_told s) info.number seen.its most (x.now + 1)) (still_table d e p q first x)

  taken_is : count ≡ taken_by_cut seen.its most
  taken_is = takes x.now seen.its (omega arith) seen.well seen.later

  low : tables_of x ≡ [] → count ≤ x.ledger.charge
  low none =
      let left = cut_charge (volume_for d p x) (is_alone d p x none) is.table info.number seen.its most seen.in_table in
      let same = is.ledger.charged in
      let taken = taken_is in
      omega (arith, left, same, taken)

  its_delta : IsDeltaOf (volume_for d p x) (stamped (volume_for d p x) table) by
  its_delta = cut_delta (volume_for d p x) is.table (next_is_new d p x is ready.labelled) is.reserves by info.number seen.its most seen.in_table
      (made_moves d p x ready known count (staying (volume_for d p x) (cut_path (table_told (standing_for d p x)) info.number seen.its most)) (taken_by_cut seen.its most) by (accepts.moves seen.its seen.there) is_by
      (λ none. none_stay (volume_for d p x) (is_alone d p x none) (cut_path (table_told (standing_for d p x)) info.number seen.its most)) taken_is low)

  module _ (now : ℕ) (ledger : Ledger) (numbers : Option FileNumbers) (same : numbers ≡ x.numbers) (next : now ≡ x.now + 1) where
    abbrev done : VolumeState
    done = record x { map = map; files = files; now = now; ledger = ledger; numbers = numbers; changed = true }

    -- each file has its name and its number still
    numbered : AreNumbersIf numbers (table (x.now + 1))
    numbered = subst (λ (o : Option FileNumbers). AreNumbersIf o (table (x.now + 1))) (sym same) (still_numbered (table_told (standing_for d p x)) (table (x.now + 1)) info.number seen.its (file_cut seen.its most (x.now + 1)) seen.in_table refl (cut_files (table_told (standing_for d p x)) info.number seen.its most (x.now + 1)) x.numbers is.numbers)

    pub cut_volume : volume_for f r done ≡ stamped (volume_for d p x) table
    cut_volume = made_volume d e f p q r first second x is map so.slots files so.told so.trees now ledger numbers table next made

    pub cut_standing : PlacesAltered e q x map files → ((v w : Volume) → IsLedgerOf v x.ledger → IsDeltaOf v w by → IsLedgerOf w ledger) → IsStanding f r done
    cut_standing places moves = made_standing d e f p q r first second x is map so.slots files so.told so.trees now ledger numbers table next made places
        (cut_well x.now (x.now + 1) (table_told (standing_for d p x)) info.number seen.its most accepts.near (omega arith) is.table seen.in_table)
        (cut_unreserved (table_told (standing_for d p x)) is.reserves info.number seen.its most (x.now + 1) seen.in_table)
        (moves (volume_for d p x) (stamped (volume_for d p x) table) is.ledger its_delta)
        numbered

    pub cut_changes : Changes (HasWithin x.name (volume_for d p x) others p.found.blocks) (Cut x.name name most) x.name (volume_for d p x) (volume_for f r done) (Ok tt)
    cut_changes = record {
      agrees = λ m has. accepts.accepted m has;
      becomes = λ m has. cut_change m x.name name (volume_for d p x) has info.number seen.its seen.named most ∙ ap (λ v. Becomes x.name v) (sym cut_volume);
      stays = tt;
    }

-- the parts of a cut
module _ (d e f : Disk) (p q r : Pool) (x v w y : VolumeState) (by : Delta) (count : ℕ) (parts : Parts {T = ℕ} d e f p q r x v w y (Ok count) by) (is : IsStanding d p x) (ready : IsReady d p x) (others : ℕ) (name : List ℕ) (most : ℕ) (info : Info) (known : Option Delta)
    (accepts : AcceptsCut d p x others name most info known) (cuts : IsStanding e q v → CutsFile (standing_for e q v) (standing_for e q w) info.number most (v.now + 1)) (takes : IsStanding e q v → TakesByCut (standing_for e q v) info.number most (v.now + 1) count)
    (is_by : IsDeltaBy x.ledger known count by) (kept : y.numbers ≡ w.numbers) where
  same_numbers : y.numbers ≡ x.numbers
  same_numbers = kept ∙ left_numbers d e f p q r x v w y (Ok count) by parts

  so : LeavesTrees e f q r x w.map w.files
  so = done_leaves d e f p q r x v w y (Ok count) by parts is

  shorter : CutsFile (standing_for e q x) (standing_by (under (shows e q (record x { map = w.map }))) x.active w.files) info.number most (x.now + 1)
  shorter = done_says d e f p q r x v w y (Ok count) by parts is (λ s t n. CutsFile s t info.number most n) cuts

  fewer : TakesByCut (standing_for e q x) info.number most (x.now + 1) count
  fewer = done_says d e f p q r x v w y (Ok count) by parts is (λ s t n. TakesByCut s info.number most n count) takes

  its_next : y.now ≡ x.now + 1
  its_next = done_next d e f p q r x v w y (Ok count) by parts

  pub cut_stands : IsStanding f r y
  cut_stands = subst (λ (z : VolumeState). IsStanding f r z) (sym (is_done d e f p q r x v w y (Ok count) by parts))
      (cut_standing d e f p q r parts.first parts.alters.reads x is ready others name most info known accepts w.map w.files so shorter count fewer by is_by y.now y.ledger y.numbers same_numbers its_next
      (done_places d e f p q r x v w y (Ok count) by parts is) (done_moves d e f p q r x v w y (Ok count) by parts))

  pub cut_is : Changes (HasWithin x.name (volume_for d p x) others p.found.blocks) (Cut x.name name most) x.name (volume_for d p x) (volume_for f r y) (Ok tt)
  cut_is = subst (λ (z : VolumeState). Changes (HasWithin x.name (volume_for d p x) others p.found.blocks) (Cut x.name name most) x.name (volume_for d p x) (volume_for f r z) (Ok tt)) (sym (is_done d e f p q r x v w y (Ok count) by parts))
      (cut_changes d e f p q r parts.first parts.alters.reads x is ready others name most info known accepts w.map w.files so shorter count fewer by is_by y.now y.ledger y.numbers same_numbers its_next)
