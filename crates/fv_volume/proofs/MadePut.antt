-- A write that was made is the machine's.
use Rattle.std.proofs.Common.{◌≡◌, ℕ, ◌+◌, true, List, Option, refl, sym, ap, subst, ◌∙◌, arith}
use Rattle.std.specs.Prelude.{Ok}
use Rattle.fv_disk.specs.Shown.{Shown as Disk}
use Rattle.fv_model.specs.declared.commands.Command.TheVariants.{Put}
use Rattle.fv_model.specs.Tables.{Table, file_put, put}
use Rattle.fv_model.specs.Volumes.{Volume}
use Rattle.fv_model.specs.Effects.{Becomes, stamped}
use Rattle.fv_laws.proofs.PathCharges.{put_unreserved}
use Rattle.fv_laws.proofs.Tables.{put_well}
use Rattle.fv_tables.specs.Told.{Standing, table_told}
use Rattle.fv_tree.specs.Standing.{under}
use Rattle.fv_inode.specs.declared.info.Info.{Info}
use Rattle.fv_files.specs.declared.files.Files.{Files}
use Rattle.fv_files.specs.declared.numbers.FileNumbers.{FileNumbers}
use Rattle.fv_files.specs.Numbering.{AreNumbersIf}
use Rattle.fv_files.specs.Calls.{WritesCell}
use Rattle.fv_charge.specs.declared.delta.Delta.{Delta}
use Rattle.fv_charge.specs.declared.ledger.Ledger.{Ledger}
use Rattle.fv_charge.specs.Changes.{IsDeltaOf}
use Rattle.fv_charge.specs.Ledgers.{IsLedgerOf}
use Rattle.fv_volmap.specs.Slots.{Volume as Maps}
use Rattle.fv_pool.specs.declared.pool.Pool.{Pool}
use Rattle.fv_volume.specs.declared.state.VolumeState.{VolumeState}
use Rattle.fv_pool.specs.Calls.{Reads}
use Rattle.fv_volume.specs.Calls.{Changes, HasBeside}
use Rattle.fv_volume.specs.Changing.{AcceptsPut}
use Rattle.fv_volume.specs.OneVolume.{shows, standing_for, volume_for, IsReady, IsStanding}
use Rattle.fv_pool.specs.Tables.{standing_by}
use Rattle.fv_volume.proofs.FoundFiles.{file_found, FoundFile}
use Rattle.fv_volume.proofs.Calling.{done_leaves, done_moves, done_next, done_places, done_says, is_done, left_numbers, LeavesTrees, Parts}
use Rattle.fv_volume.proofs.Changed.{made_standing, made_volume}
use Rattle.fv_volume.proofs.Charging.{put_change, put_delta}
use Rattle.fv_volume.proofs.Numbered.{put_files, still_numbered}
use Rattle.fv_volume.proofs.SettledTables.{next_is_new}
use Rattle.fv_volume.proofs.OneVolumes.{still_table}
use Rattle.fv_volume.proofs.SharedChanges.{PlacesAltered}

module _ (d e f : Disk) (p q r : Pool) (first : Reads d p e q) (second : Reads e q f r) (x : VolumeState) (is : IsStanding d p x) (ready : IsReady d p x) (others : ℕ) (name : List ℕ) (i : ℕ) (content : List ℕ) (info : Info) (by : Delta)
    (accepts : AcceptsPut d p x others name i info by) (map : Maps) (files : Option Files) (so : LeavesTrees e f q r x map files)
    (written : WritesCell (standing_for e q x) (standing_by (under (shows e q (record x { map = map }))) x.active files) info.number i (x.now + 1) content) where
  abbrev seen : FoundFile d e p q x name info.number
  seen = file_found d e p q first x is name info accepts.first

  abbrev table : ℕ → Table
  table = put (table_told (standing_for d p x)) info.number seen.its i content

  made : table_told (standing_by (under (shows e q (record x { map = map }))) x.active files) ≡ table (x.now + 1)
  made =
      written seen.its seen.later
      ∙ ap (λ (s : Standing). put (table_told s) info.number seen.its i content (x.now + 1)) (still_table d e p q first x)

  its_delta : IsDeltaOf (volume_for d p x) (stamped (volume_for d p x) table) by
  its_delta = put_delta (volume_for d p x) is.table (next_is_new d p x is ready.labelled) is.reserves by info.number seen.its i content seen.in_table (accepts.moves seen.its seen.there)

  module _ (now : ℕ) (ledger : Ledger) (numbers : Option FileNumbers) (same : numbers ≡ x.numbers) (next : now ≡ x.now + 1) where
    abbrev done : VolumeState
    done = record x { map = map; files = files; now = now; ledger = ledger; numbers = numbers; changed = true }

    -- each file has its name and its number still
    numbered : AreNumbersIf numbers (table (x.now + 1))
    numbered = subst (λ (o : Option FileNumbers). AreNumbersIf o (table (x.now + 1))) (sym same) (still_numbered (table_told (standing_for d p x)) (table (x.now + 1)) info.number seen.its (file_put seen.its i content (x.now + 1)) seen.in_table refl (put_files (table_told (standing_for d p x)) info.number seen.its i content (x.now + 1)) x.numbers is.numbers)

    pub put_volume : volume_for f r done ≡ stamped (volume_for d p x) table
    put_volume = made_volume d e f p q r first second x is map so.slots files so.told so.trees now ledger numbers table next made

    pub put_standing : PlacesAltered e q x map files → ((v w : Volume) → IsLedgerOf v x.ledger → IsDeltaOf v w by → IsLedgerOf w ledger) → IsStanding f r done
    put_standing places moves = made_standing d e f p q r first second x is map so.slots files so.told so.trees now ledger numbers table next made places
        (put_well x.now (x.now + 1) (table_told (standing_for d p x)) info.number seen.its i content accepts.near (omega arith) is.table seen.in_table)
        (put_unreserved (table_told (standing_for d p x)) is.reserves info.number seen.its i content (x.now + 1) seen.in_table)
        (moves (volume_for d p x) (stamped (volume_for d p x) table) is.ledger its_delta)
        numbered

    pub put_changes : Changes (HasBeside x.name (volume_for d p x) others p.found.blocks) (Put x.name name i content) x.name (volume_for d p x) (volume_for f r done) (Ok tt)
    put_changes = record {
      agrees = λ m has. accepts.accepted content m has;
      becomes = λ m has. put_change m x.name name (volume_for d p x) has info.number seen.its seen.named i content ∙ ap (λ v. Becomes x.name v) (sym put_volume);
      stays = tt;
    }

-- the parts of a write
module _ (d e f : Disk) (p q r : Pool) (x v w y : VolumeState) (by : Delta) (parts : Parts {T = Unit {0}} d e f p q r x v w y (Ok tt) by) (is : IsStanding d p x) (ready : IsReady d p x) (others : ℕ) (name : List ℕ) (i : ℕ) (content : List ℕ) (info : Info)
    (accepts : AcceptsPut d p x others name i info by) (written : IsStanding e q v → WritesCell (standing_for e q v) (standing_for e q w) info.number i (v.now + 1) content) (kept : y.numbers ≡ w.numbers) where
  same_numbers : y.numbers ≡ x.numbers
  same_numbers = kept ∙ left_numbers d e f p q r x v w y (Ok tt) by parts

  so : LeavesTrees e f q r x w.map w.files
  so = done_leaves d e f p q r x v w y (Ok tt) by parts is

  cell : WritesCell (standing_for e q x) (standing_by (under (shows e q (record x { map = w.map }))) x.active w.files) info.number i (x.now + 1) content
  cell = done_says d e f p q r x v w y (Ok tt) by parts is (λ s t n. WritesCell s t info.number i n content) written

  next : y.now ≡ x.now + 1
  next = done_next d e f p q r x v w y (Ok tt) by parts

  pub put_stands : IsStanding f r y
  put_stands = subst (λ (z : VolumeState). IsStanding f r z) (sym (is_done d e f p q r x v w y (Ok tt) by parts))
      (put_standing d e f p q r parts.first parts.alters.reads x is ready others name i content info by accepts w.map w.files so cell y.now y.ledger y.numbers same_numbers next (done_places d e f p q r x v w y (Ok tt) by parts is) (done_moves d e f p q r x v w y (Ok tt) by parts))

  pub put_is : Changes (HasBeside x.name (volume_for d p x) others p.found.blocks) (Put x.name name i content) x.name (volume_for d p x) (volume_for f r y) (Ok tt)
  put_is = subst (λ (z : VolumeState). Changes (HasBeside x.name (volume_for d p x) others p.found.blocks) (Put x.name name i content) x.name (volume_for d p x) (volume_for f r z) (Ok tt)) (sym (is_done d e f p q r x v w y (Ok tt) by parts))
      (put_changes d e f p q r parts.first parts.alters.reads x is ready others name i content info by accepts w.map w.files so cell y.now y.ledger y.numbers same_numbers next)
