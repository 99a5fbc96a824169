-- A volume with nothing of its active table in memory, whose table lies whole in slot 0 of its maps: it stands on the blocks that the volume
-- holds, what is in use is led to, and that is stored well.
use Rattle.std.proofs.Common.{◌≡◌, ℕ, Bool, true, false, not, Option, Some, None, refl, sym, ap, subst, ◌∙◌, arith}
use Rattle.std.specs.Prelude.{All, ◌==◌, map}
use Rattle.std.specs.List.{list_all}
use Rattle.std.specs.Option.{option_map}
use Rattle.std.proofs.lemmas.Bool.Decides.{nat_tests}
use Rattle.fv_disk.specs.Shown.{Shown as Disk}
use Rattle.fv_codec.specs.declared.inode.InodeRecord.{InodeRecord}
use Rattle.fv_codec.specs.declared.pointer.Pointer.{Pointer}
use Rattle.fv_codec.specs.Blocks.{greatest_word}
use Rattle.fv_laws.specs.Positions.{HasNoReserve}
use Rattle.fv_image.specs.ReachRules.{are_distinct}
use Rattle.fv_laws.specs.WellFormed.{IsWellTable}
use Rattle.fv_tables.specs.Kept.{AgreeOnTable}
use Rattle.fv_tables.specs.Reached.{Item, items, is_listed}
use Rattle.fv_tables.specs.Spelled.{Under, pointer_at, stored}
use Rattle.fv_tables.specs.Told.{standing_at, table_told}
use Rattle.fv_tables.proofs.Items.{from_trees}
use Rattle.fv_tables.proofs.Listed.{picked, picked_all, picked_is}
use Rattle.fv_tables.proofs.Tables.{kept_table}
use Rattle.fv_tree.specs.Beside.{unread}
use Rattle.fv_tree.specs.Sources.{Shown, Use}
use Rattle.fv_tree.specs.Standing.{under as blocks_of}
use Rattle.fv_files.specs.declared.files.Files.{Files}
use Rattle.fv_files.specs.Apart.{AreLed, LeadsFrom, LeadsIn, stored_trees}
use Rattle.fv_files.specs.Numbering.{AreNumbersIf}
use Rattle.fv_files.specs.Tables.{AreReached}
use Rattle.fv_charge.specs.Ledgers.{IsLedgerOf}
use Rattle.fv_pool.specs.declared.pool.Pool.{Pool}
use Rattle.fv_volume.specs.declared.state.VolumeState.{VolumeState}
use Rattle.fv_pool.specs.Lending.{IsTold}
use Rattle.fv_pool.specs.Tables.{standing_by, AreLaidBy, AreSoundBy, AreLedBy, AreStoredBy}
use Rattle.fv_volume.specs.OneVolume.{blocks_in, shows, table_for, trees_for, volume_for, IsKeptTable, IsStanding, RootStands, tables_of}
use Rattle.fv_volume.specs.Sharing.{AreShared}
use Rattle.fv_volume.specs.Placing.{IsLedTo, IsStoredWell}
use Rattle.fv_pool.proofs.OverBlocks.{over_keeps, over_reached, over_stored}
use Rattle.fv_volume.proofs.ActiveSlot.{active_has, active_uses}
use Rattle.fv_pool.proofs.Shows.{use_none}
use Rattle.fv_volume.proofs.SnapReads.{slot_held}

-- ---- what no tree leads to isn't listed

module _ (blocks : Under) (levels : ℕ) (root : Pointer) (v : ℕ) (nobody : (a : Option ℕ) → LeadsFrom (stored_trees blocks levels root) a v → ⊥) where
  other : (a b : ℕ) → (a ≡ b → ⊥) → not (a == b) ≡ true
  other a b differ = let isnt : (a == b) ≡ false = grind (arith, nat_tests, differ) in ap not isnt

  pub unlisted : is_listed (items (standing_at blocks levels root)) v ≡ false
  unlisted = by (is_listed (items (standing_at blocks levels root)) v) refl
    where
      all : list_all (λ (e : Item). not (e.pointer.vvbn == v)) (items (standing_at blocks levels root)) ≡ true
      all = from_trees (λ (e : Item). not (e.pointer.vvbn == v)) (standing_at blocks levels root)
          (λ level place some. other (pointer_at (stored blocks greatest_word levels root) level place).vvbn v
          (λ same. nobody None (record { level = level; place = place; leads = record { some = some; placed = refl; vvbn = same } })))
          (λ n r found level place some. other (pointer_at (stored blocks n r.levels r.root) level place).vvbn v
          (λ same. nobody (Some n) (subst (λ (o : Option InodeRecord). LeadsIn (option_map (λ r. unread (stored blocks n r.levels r.root)) o) v) (sym found)
          (record { level = level; place = place; leads = record { some = some; placed = refl; vvbn = same } }))))

      by : (b : Bool) → is_listed (items (standing_at blocks levels root)) v ≡ b → b ≡ false
      by false e = refl
      by true e =
          let test = picked_all (λ (e : Item). not (e.pointer.vvbn == v)) (items (standing_at blocks levels root)) v e all in
          let same = picked_is (items (standing_at blocks levels root)) v e in
          let met : ((picked (items (standing_at blocks levels root)) v).pointer.vvbn == v) ≡ true = grind (arith, nat_tests, same) in
          absurd (wrong (sym (ap not met) ∙ test))
        where
          wrong : false ≡ true → ⊥
          wrong e = cc

-- ---- the active table

module _ (disk : Disk) (pool : Pool) (x : VolumeState) (active : RootStands disk pool x 0 x.active) where
  abbrev shown : Shown
  shown = shows disk pool x

  abbrev blocks : Under
  blocks = blocks_in disk pool x 0

  abbrev whole : Under
  whole = blocks_of shown

  -- what slot 0 has of its table the volume holds
  pub agrees : AgreeOnTable blocks whole x.active.levels x.active.root
  agrees = record {
    inode = λ level place some. slot_held disk pool x 0 (pointer_at (stored blocks greatest_word x.active.levels x.active.root) level place).vvbn (active.trees.inode.held level place some);
    files = λ n f found level place some. slot_held disk pool x 0 (pointer_at (stored blocks n f.levels f.root) level place).vvbn ((active.trees.files n f found).held level place some);
  }

  root_reached : AreReached whole shown.used x.active.levels x.active.root
  root_reached = over_reached blocks whole x.active.levels x.active.root agrees shown.used
      (subst (λ (uses : ℕ → Option Use). AreReached blocks uses x.active.levels x.active.root) (active_uses disk pool x) active.trees)

  root_led : AreLed shown.used (stored_trees whole x.active.levels x.active.root)
  root_led v nobody =
      let none = unlisted blocks x.active.levels x.active.root v (λ a leads. nobody a (over_keeps blocks whole x.active.levels x.active.root agrees a v leads)) in
      use_none x.map pool.containers x.slot v (sym (active_has x.map v) ∙ active.reach v ∙ none)

  module _ (none : x.files ≡ None) where
    -- The table of the volume is told as in its slot.
    pub root_table : table_for disk pool x ≡ table_told (standing_at blocks x.active.levels x.active.root)
    root_table = ap (λ (o : Option Files). table_told (standing_by whole x.active o)) none ∙ kept_table blocks whole x.active.levels x.active.root agrees

    pub root_trees : AreSoundBy whole shown.used x.active x.files
    root_trees = subst (AreSoundBy whole shown.used x.active) (sym none) root_reached

    -- What is in use is led to,
    pub root_leads : IsLedTo disk pool x
    root_leads = subst (AreLedBy whole shown.used x.active) (sym none) root_led

    -- and stored well.
    pub root_well : IsStoredWell disk pool x
    root_well = subst (AreStoredBy x.known whole x.active) (sym none) (over_stored blocks whole x.active.levels x.active.root agrees x.known active.well)

    -- So it stands for a volume of the machine, where the names of its snapshots differ, its tables share as they have to, and its ledger is right.
    pub root_standing : IsTold disk pool x.map x.slot → All (IsKeptTable disk pool x) (tables_of x) → are_distinct (map (λ q. q.name) x.snapshots) ≡ true
        → AreShared (trees_for disk pool x) (blocks_in disk pool x) (tables_of x) → IsLedgerOf (volume_for disk pool x) x.ledger → AreNumbersIf x.numbers (table_for disk pool x) → IsStanding disk pool x
    root_standing told kept names shared ledger numbered = record {
      told = told;
      table = subst (IsWellTable x.now) (sym root_table) active.table;
      reserves = subst HasNoReserve (sym root_table) active.reserves;
      kept = kept;
      names = names;
      shared = shared;
      ledger = ledger;
      trees = root_trees;
      laid = subst (AreLaidBy whole) (sym none) tt;
      numbers = numbered;
    }
