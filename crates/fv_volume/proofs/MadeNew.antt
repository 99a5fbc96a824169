-- A file that was made is the machine's.
use Rattle.std.proofs.Common.{◌≡◌, ℕ, ◌+◌, true, List, Option, sym, ap, subst, ◌∙◌, arith}
use Rattle.std.specs.Prelude.{Ok}
use Rattle.fv_disk.specs.Shown.{Shown as Disk}
use Rattle.fv_model.specs.declared.commands.Command.TheVariants.{New}
use Rattle.fv_model.specs.Tables.{Table, new}
use Rattle.fv_model.specs.Volumes.{Volume}
use Rattle.fv_model.specs.Effects.{Becomes, stamped}
use Rattle.fv_laws.specs.Positions.{HasNoReserve}
use Rattle.fv_laws.proofs.PathCharges.{new_unreserved}
use Rattle.fv_laws.proofs.Tables.{new_well}
use Rattle.fv_tables.specs.Told.{Standing, table_told}
use Rattle.fv_tree.specs.Standing.{under}
use Rattle.fv_files.specs.declared.files.Files.{Files}
use Rattle.fv_files.specs.declared.numbers.FileNumbers.{FileNumbers}
use Rattle.fv_files.specs.Numbering.{AreNumbersIf}
use Rattle.fv_charge.specs.declared.delta.Delta.{Delta}
use Rattle.fv_charge.specs.declared.ledger.Ledger.{Ledger}
use Rattle.fv_charge.specs.Changes.{IsDeltaOf}
use Rattle.fv_charge.specs.Ledgers.{IsLedgerOf}
use Rattle.fv_volmap.specs.Slots.{Volume as Maps}
use Rattle.fv_pool.specs.declared.pool.Pool.{Pool}
use Rattle.fv_volume.specs.declared.state.VolumeState.{VolumeState}
use Rattle.fv_pool.specs.Calls.{Reads}
use Rattle.fv_volume.specs.Calls.{Changes, HasBeside}
use Rattle.fv_volume.specs.Changing.{AcceptsNew}
use Rattle.fv_volume.specs.Numbering.{TellsFile}
use Rattle.fv_volume.specs.OneVolume.{shows, standing_for, table_for, volume_for, IsReady, IsStanding}
use Rattle.fv_pool.specs.Tables.{standing_by}
use Rattle.fv_volume.proofs.Calling.{done_leaves, done_moves, done_next, done_places, done_says, is_done, left_numbers, LeavesTrees, Parts}
use Rattle.fv_volume.proofs.Changed.{made_standing, made_volume}
use Rattle.fv_volume.proofs.Charging.{new_change, new_delta}
use Rattle.fv_volume.proofs.Numbered.{made_numbered}
use Rattle.fv_volume.proofs.SettledTables.{next_is_new}
use Rattle.fv_volume.proofs.OneVolumes.{still_table}
use Rattle.fv_volume.proofs.SharedChanges.{PlacesAltered}

module _ (d e f : Disk) (p q r : Pool) (first : Reads d p e q) (second : Reads e q f r) (x : VolumeState) (is : IsStanding d p x) (ready : IsReady d p x) (others : ℕ) (name : List ℕ) (reserve number : ℕ) (none : reserve ≡ 0) (by : Delta)
    (accepts : AcceptsNew d p x others name reserve number by) (map : Maps) (files : Option Files) (so : LeavesTrees e f q r x map files)
    (written : table_told (standing_by (under (shows e q (record x { map = map }))) x.active files) ≡ new (table_for e q x) name reserve (x.now + 1)) where
  abbrev table : ℕ → Table
  table = new (table_for d p x) name reserve

  made : table_told (standing_by (under (shows e q (record x { map = map }))) x.active files) ≡ table (x.now + 1)
  made = written ∙ ap (λ (s : Standing). new (table_told s) name reserve (x.now + 1)) (still_table d e p q first x)

  its_delta : IsDeltaOf (volume_for d p x) (stamped (volume_for d p x) table) by
  its_delta = subst (λ k. IsDeltaOf (volume_for d p x) (stamped (volume_for d p x) (new (table_for d p x) name k)) by) (sym none)
      (new_delta (volume_for d p x) is.table (next_is_new d p x is ready.labelled) is.reserves by name accepts.moves)

  module _ (now : ℕ) (ledger : Ledger) (numbers : Option FileNumbers) (tells : TellsFile x.numbers numbers name number) (next : now ≡ x.now + 1) where
    abbrev done : VolumeState
    done = record x { map = map; files = files; now = now; ledger = ledger; numbers = numbers; changed = true }

    -- the new file has the name, and its number is taken
    numbered : AreNumbersIf numbers (table (x.now + 1))
    numbered = made_numbered (standing_for d p x) name reserve (x.now + 1) number accepts.free accepts.none x.numbers numbers is.numbers tells

    pub new_volume : volume_for f r done ≡ stamped (volume_for d p x) table
    new_volume = made_volume d e f p q r first second x is map so.slots files so.told so.trees now ledger numbers table next made

    pub new_standing : PlacesAltered e q x map files → ((v w : Volume) → IsLedgerOf v x.ledger → IsDeltaOf v w by → IsLedgerOf w ledger) → IsStanding f r done
    new_standing places moves = made_standing d e f p q r first second x is map so.slots files so.told so.trees now ledger numbers table next made places
        (new_well x.now (x.now + 1) (table_for d p x) name reserve accepts.near (omega arith) is.table accepts.none accepts.few)
        (subst (λ k. HasNoReserve (new (table_for d p x) name k (x.now + 1))) (sym none) (new_unreserved (table_for d p x) is.reserves name (x.now + 1)))
        (moves (volume_for d p x) (stamped (volume_for d p x) table) is.ledger its_delta)
        numbered

    pub new_changes : Changes (HasBeside x.name (volume_for d p x) others p.found.blocks) (New x.name name reserve) x.name (volume_for d p x) (volume_for f r done) (Ok tt)
    new_changes = record {
      agrees = λ m has. accepts.accepted m has;
      becomes = λ m has. new_change m x.name name (volume_for d p x) has reserve ∙ ap (λ v. Becomes x.name v) (sym new_volume);
      stays = tt;
    }

-- the parts of a new file
module _ (d e f : Disk) (p q r : Pool) (x v w y : VolumeState) (by : Delta) (parts : Parts {T = Unit {0}} d e f p q r x v w y (Ok tt) by) (is : IsStanding d p x) (ready : IsReady d p x) (others : ℕ) (name : List ℕ) (reserve number : ℕ) (none : reserve ≡ 0)
    (accepts : AcceptsNew d p x others name reserve number by) (written : IsStanding e q v → table_for e q w ≡ new (table_for e q v) name reserve (v.now + 1)) (tells : TellsFile w.numbers y.numbers name number) where
  tells_now : TellsFile x.numbers y.numbers name number
  tells_now = subst (λ (o : Option FileNumbers). TellsFile o y.numbers name number) (left_numbers d e f p q r x v w y (Ok tt) by parts) tells

  so : LeavesTrees e f q r x w.map w.files
  so = done_leaves d e f p q r x v w y (Ok tt) by parts is

  its_table : table_told (standing_by (under (shows e q (record x { map = w.map }))) x.active w.files) ≡ new (table_for e q x) name reserve (x.now + 1)
  its_table = done_says d e f p q r x v w y (Ok tt) by parts is (λ s t n. table_told t ≡ new (table_told s) name reserve n) written

  next : y.now ≡ x.now + 1
  next = done_next d e f p q r x v w y (Ok tt) by parts

  pub new_stands : IsStanding f r y
  new_stands = subst (λ (z : VolumeState). IsStanding f r z) (sym (is_done d e f p q r x v w y (Ok tt) by parts))
      (new_standing d e f p q r parts.first parts.alters.reads x is ready others name reserve number none by accepts w.map w.files so its_table y.now y.ledger y.numbers tells_now next (done_places d e f p q r x v w y (Ok tt) by parts is) (done_moves d e f p q r x v w y (Ok tt) by parts))

  pub new_is : Changes (HasBeside x.name (volume_for d p x) others p.found.blocks) (New x.name name reserve) x.name (volume_for d p x) (volume_for f r y) (Ok tt)
  new_is = subst (λ (z : VolumeState). Changes (HasBeside x.name (volume_for d p x) others p.found.blocks) (New x.name name reserve) x.name (volume_for d p x) (volume_for f r z) (Ok tt)) (sym (is_done d e f p q r x v w y (Ok tt) by parts))
      (new_changes d e f p q r parts.first parts.alters.reads x is ready others name reserve number none by accepts w.map w.files so its_table y.now y.ledger y.numbers tells_now next)
