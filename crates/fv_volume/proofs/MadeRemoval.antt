-- A removal of a file that was made is the machine's.
use Rattle.std.proofs.Common.{◌≡◌, ℕ, ◌+◌, ◌≤◌, true, List, [], Option, sym, ap, subst, ◌∙◌, arith}
use Rattle.std.specs.Prelude.{Ok}
use Rattle.fv_disk.specs.Shown.{Shown as Disk}
use Rattle.fv_model.specs.declared.commands.Command.TheVariants.{Remove}
use Rattle.fv_model.specs.Tables.{Table, rm}
use Rattle.fv_model.specs.Volumes.{Volume}
use Rattle.fv_model.specs.Effects.{Becomes, stamped}
use Rattle.fv_laws.specs.Positions.{rm_places, staying, taken_by_rm}
use Rattle.fv_laws.proofs.Moves.{rm_charge}
use Rattle.fv_laws.proofs.PathCharges.{none_stay, rm_unreserved}
use Rattle.fv_laws.proofs.Tables.{rm_well}
use Rattle.fv_tables.specs.Told.{Standing, table_told}
use Rattle.fv_tree.specs.Standing.{under}
use Rattle.fv_inode.specs.declared.info.Info.{Info}
use Rattle.fv_files.specs.declared.files.Files.{Files}
use Rattle.fv_files.specs.declared.numbers.FileNumbers.{FileNumbers}
use Rattle.fv_files.specs.Numbering.{AreNumbersIf}
use Rattle.fv_files.specs.Calls.{RemovesFile, TakesByRemoval}
use Rattle.fv_charge.specs.declared.delta.Delta.{Delta}
use Rattle.fv_charge.specs.declared.ledger.Ledger.{Ledger}
use Rattle.fv_charge.specs.Changes.{IsDeltaOf}
use Rattle.fv_charge.specs.Ledgers.{IsLedgerOf}
use Rattle.fv_volmap.specs.Slots.{Volume as Maps}
use Rattle.fv_pool.specs.declared.pool.Pool.{Pool}
use Rattle.fv_volume.specs.declared.state.VolumeState.{VolumeState}
use Rattle.fv_pool.specs.Calls.{Reads}
use Rattle.fv_volume.specs.Calls.{Changes, HasWithin}
use Rattle.fv_volume.specs.Changing.{AcceptsRemoval, IsDeltaBy}
use Rattle.fv_volume.specs.Numbering.{LacksFile}
use Rattle.fv_volume.specs.OneVolume.{tables_of, shows, standing_for, volume_for, IsReady, IsStanding}
use Rattle.fv_pool.specs.Tables.{standing_by}
use Rattle.fv_volume.proofs.FoundFiles.{file_found, FoundFile}
use Rattle.fv_volume.proofs.Calling.{done_leaves, done_moves, done_next, done_places, done_says, is_done, left_numbers, LeavesTrees, Parts}
use Rattle.fv_volume.proofs.Changed.{made_standing, made_volume}
use Rattle.fv_volume.proofs.Charging.{rm_change, rm_delta}
use Rattle.fv_volume.proofs.Numbered.{first_named, removed_numbered, rm_files}
use Rattle.fv_volume.proofs.Charged.{made_moves}
use Rattle.fv_volume.proofs.SettledTables.{next_is_new}
use Rattle.fv_volume.proofs.KeptTables.{is_alone}
use Rattle.fv_volume.proofs.OneVolumes.{still_table}
use Rattle.fv_volume.proofs.SharedChanges.{PlacesAltered}

module _ (d e f : Disk) (p q r : Pool) (first : Reads d p e q) (second : Reads e q f r) (x : VolumeState) (is : IsStanding d p x) (ready : IsReady d p x) (others : ℕ) (name : List ℕ) (info : Info) (known : Option Delta)
    (accepts : AcceptsRemoval d p x others name info known) (map : Maps) (files : Option Files) (so : LeavesTrees e f q r x map files)
    (removes : RemovesFile (standing_for e q x) (standing_by (under (shows e q (record x { map = map }))) x.active files) info.number (x.now + 1)) (count : ℕ)
    (takes : TakesByRemoval (standing_for e q x) info.number (x.now + 1) count) (by : Delta) (is_by : IsDeltaBy x.ledger known count by) where
  abbrev seen : FoundFile d e p q x name info.number
  seen = file_found d e p q first x is name info accepts.first

  abbrev table : ℕ → Table
  table = rm (table_told (standing_for d p x)) info.number

  made : table_told (standing_by (under (shows e q (record x { map = map }))) x.active files) ≡ table (x.now + 1)
  made = removes x.now seen.well ∙ ap (λ (s : Standing). rm (table_told s) info.number (x.now + 1)) (still_table d e p q first x)

  taken_is : count ≡ taken_by_rm (table_told (standing_for d p x)) info.number seen.its
  taken_is = takes x.now seen.its (omega arith) seen.well seen.later ∙ ap (λ (s : Standing). taken_by_rm (table_told s) info.number seen.its) (still_table d e p q first x)

  low : tables_of x ≡ [] → count ≤ x.ledger.charge
  low none =
      let left = rm_charge (volume_for d p x) (is_alone d p x none) is.table info.number seen.its seen.in_table in
      let same = is.ledger.charged in
      let taken = taken_is in
      omega (arith, left, same, taken)

  its_delta : IsDeltaOf (volume_for d p x) (stamped (volume_for d p x) table) by
  its_delta = rm_delta (volume_for d p x) is.table (next_is_new d p x is ready.labelled) is.reserves by info.number seen.its seen.in_table
      (made_moves d p x ready known count (staying (volume_for d p x) (rm_places (table_told (standing_for d p x)) info.number seen.its)) (taken_by_rm (table_told (standing_for d p x)) info.number seen.its) by (accepts.moves seen.its seen.there) is_by
      (λ none. none_stay (volume_for d p x) (is_alone d p x none) (rm_places (table_told (standing_for d p x)) info.number seen.its)) taken_is low)

  module _ (now : ℕ) (ledger : Ledger) (numbers : Option FileNumbers) (lacks : LacksFile x.numbers numbers name info.number) (next : now ≡ x.now + 1) where
    abbrev done : VolumeState
    done = record x { map = map; files = files; now = now; ledger = ledger; numbers = numbers; changed = true }

    -- no file has the name any more, and its number is free
    numbered : AreNumbersIf numbers (table (x.now + 1))
    numbered = removed_numbered (table_told (standing_for d p x)) (table (x.now + 1)) info.number seen.its seen.in_table (rm_files (table_told (standing_for d p x)) info.number (x.now + 1)) x.numbers numbers is.numbers (subst (λ (n : List ℕ). LacksFile x.numbers numbers n info.number) (sym (first_named (standing_for d p x) name info accepts.first)) lacks)

    pub rm_volume : volume_for f r done ≡ stamped (volume_for d p x) table
    rm_volume = made_volume d e f p q r first second x is map so.slots files so.told so.trees now ledger numbers table next made

    pub rm_standing : PlacesAltered e q x map files → ((v w : Volume) → IsLedgerOf v x.ledger → IsDeltaOf v w by → IsLedgerOf w ledger) → IsStanding f r done
    rm_standing places moves = made_standing d e f p q r first second x is map so.slots files so.told so.trees now ledger numbers table next made places
        (rm_well x.now (x.now + 1) (table_told (standing_for d p x)) info.number (omega arith) is.table)
        (rm_unreserved (table_told (standing_for d p x)) is.reserves info.number (x.now + 1))
        (moves (volume_for d p x) (stamped (volume_for d p x) table) is.ledger its_delta)
        numbered

    pub rm_changes : Changes (HasWithin x.name (volume_for d p x) others p.found.blocks) (Remove x.name name) x.name (volume_for d p x) (volume_for f r done) (Ok tt)
    rm_changes = record {
      agrees = λ m has. accepts.accepted m has;
      becomes = λ m has. rm_change m x.name name (volume_for d p x) has info.number seen.its seen.named ∙ ap (λ v. Becomes x.name v) (sym rm_volume);
      stays = tt;
    }

-- the parts of a removal
module _ (d e f : Disk) (p q r : Pool) (x v w y : VolumeState) (by : Delta) (count : ℕ) (parts : Parts {T = ℕ} d e f p q r x v w y (Ok count) by) (is : IsStanding d p x) (ready : IsReady d p x) (others : ℕ) (name : List ℕ) (info : Info) (known : Option Delta)
    (accepts : AcceptsRemoval d p x others name info known) (removes : IsStanding e q v → RemovesFile (standing_for e q v) (standing_for e q w) info.number (v.now + 1)) (takes : IsStanding e q v → TakesByRemoval (standing_for e q v) info.number (v.now + 1) count)
    (is_by : IsDeltaBy x.ledger known count by) (lacks : LacksFile w.numbers y.numbers name info.number) where
  lacks_now : LacksFile x.numbers y.numbers name info.number
  lacks_now = subst (λ (o : Option FileNumbers). LacksFile o y.numbers name info.number) (left_numbers d e f p q r x v w y (Ok count) by parts) lacks

  so : LeavesTrees e f q r x w.map w.files
  so = done_leaves d e f p q r x v w y (Ok count) by parts is

  gone : RemovesFile (standing_for e q x) (standing_by (under (shows e q (record x { map = w.map }))) x.active w.files) info.number (x.now + 1)
  gone = done_says d e f p q r x v w y (Ok count) by parts is (λ s t n. RemovesFile s t info.number n) removes

  fewer : TakesByRemoval (standing_for e q x) info.number (x.now + 1) count
  fewer = done_says d e f p q r x v w y (Ok count) by parts is (λ s t n. TakesByRemoval s info.number n count) takes

  its_next : y.now ≡ x.now + 1
  its_next = done_next d e f p q r x v w y (Ok count) by parts

  pub rm_stands : IsStanding f r y
  rm_stands = subst (λ (z : VolumeState). IsStanding f r z) (sym (is_done d e f p q r x v w y (Ok count) by parts))
      (rm_standing d e f p q r parts.first parts.alters.reads x is ready others name info known accepts w.map w.files so gone count fewer by is_by y.now y.ledger y.numbers lacks_now its_next
      (done_places d e f p q r x v w y (Ok count) by parts is) (done_moves d e f p q r x v w y (Ok count) by parts))

  pub rm_is : Changes (HasWithin x.name (volume_for d p x) others p.found.blocks) (Remove x.name name) x.name (volume_for d p x) (volume_for f r y) (Ok tt)
  rm_is = subst (λ (z : VolumeState). Changes (HasWithin x.name (volume_for d p x) others p.found.blocks) (Remove x.name name) x.name (volume_for d p x) (volume_for f r z) (Ok tt)) (sym (is_done d e f p q r x v w y (Ok count) by parts))
      (rm_changes d e f p q r parts.first parts.alters.reads x is ready others name info known accepts w.map w.files so gone count fewer by is_by y.now y.ledger y.numbers lacks_now its_next)
