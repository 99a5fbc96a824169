-- What a change of a volume's table by a call over what is lent leaves: the table was taken, changed and put back.
use Rattle.std.proofs.Common.{◌≡◌, ◌+◌, ℕ, Bool, Option, Some, IfOk, OnErr, OnOk, true, refl, sym, subst, arith}
use Rattle.std.specs.Prelude.{Result, IfSome}
use Rattle.fv_disk.specs.Shown.{Shown as Disk}
use Rattle.fv_disk.specs.declared.fault.BlockFault.{BlockFault}
use Rattle.fv_laws.specs.WellFormed.{IsWellTable}
use Rattle.fv_tables.specs.Told.{Standing, table_told}
use Rattle.fv_files.specs.declared.files.Files.{Files}
use Rattle.fv_files.specs.Tables.{changed, loaded_trees, table_in, AreSound, AreStanding, IsStoredOn}
use Rattle.fv_files.specs.Trees.{standing_in}
use Rattle.fv_files.specs.Apart.{AreLed, Trees}
use Rattle.fv_tables.specs.Spelled.{Under}
use Rattle.fv_tree.specs.Sources.{Use}
use Rattle.fv_tree.specs.Standing.{under}
use Rattle.fv_files.specs.Altering.{AltersTrees}
use Rattle.fv_files.specs.Pending.{pending_in}
use Rattle.fv_volmap.specs.Slots.{Volume as Maps}
use Rattle.fv_pool.specs.declared.pool.Pool.{Pool}
use Rattle.fv_volume.specs.declared.state.VolumeState.{VolumeState}
use Rattle.fv_pool.specs.Calls.{BlockCause, GivesUp, HasWellTable, LeavesTable, Reads, TellsTable}
use Rattle.fv_volume.specs.declared.tables.TableAsked.TheVariants.{Active}
use Rattle.fv_volume.specs.Asking.{OpensAs, TellsActive}
use Rattle.fv_volume.specs.Changing.{AltersTable}
use Rattle.fv_pool.specs.Lending.{IsTold, lent_for, sees}
use Rattle.fv_pool.specs.Tables.{standing_by, AreSoundBy, pending_of, AreLedBy, AreStoredBy}
use Rattle.fv_volume.specs.OneVolume.{home_in, shows, standing_for, IsStanding}
use Rattle.fv_pool.proofs.CallCauses.{cause_for}
use Rattle.fv_volume.proofs.Calling.{ifok_with, onok_with, same_maps}
use Rattle.fv_volume.proofs.OneVolumes.{still_told}
use Rattle.fv_volume.proofs.RightTables.{active_tells, opened_tells}
use Rattle.fv_pool.proofs.TakenTrees.{taken_laid, taken_trees}

module _ (d : Disk) (p : Pool) (x : VolumeState) (f : Files) (takes : (blocks : Under) → standing_in blocks (changed f) ≡ standing_by blocks x.active x.files)
    (trees : (blocks : Under) (used : ℕ → Option Use) → AreSoundBy blocks used x.active x.files → AreSound blocks used f) (opens : OpensAs x.active x.files f Active) where
  table : table_in (shows d p x) f ≡ standing_for d p x
  table = takes (under (shows d p x))

  sound : IsStanding d p x → AreStanding (shows d p x) f
  sound is = trees (under (shows d p x)) (shows d p x).used is.trees

  -- what is told of it
  pub is_told : TellsActive d p x → TellsTable d p x.map (home_in x) f
  is_told tells = opened_tells d p x Active f opens tells

  -- and it is a machine's where the volume stands
  pub is_well : IsStanding d p x → HasWellTable (shows d p x) f
  is_well is = (x.now, subst (λ (s : Standing). IsWellTable x.now (table_told s)) (sym table) is.table)

  -- the cause of a call that is told no more
  pub told_cause : {T : Type 0} (faults : ℕ) (result : Result T BlockFault) → BlockCause (TellsTable d p x.map (home_in x) f) (table_in (shows d p x) f) (lent_for p x.map d 0 (home_in x) 0) faults result
      → BlockCause (TellsActive d p x) (standing_for d p x) (lent_for p x.map d 0 (home_in x) 0) faults result
  told_cause faults result cause = cause_for (TellsActive d p x) (TellsTable d p x.map (home_in x) f) is_told (lent_for p x.map d 0 (home_in x) 0) faults (table_in (shows d p x) f) (standing_for d p x) result table cause

  -- Or of something that is known of the table, too, where what is told gives it.
  module _ (Known : Standing → Type 0) (known : TellsActive d p x → Known (standing_for d p x)) where
    abbrev pub IsGiven : Type 0
    IsGiven = TellsTable d p x.map (home_in x) f × Known (table_in (shows d p x) f)

    by_tells : TellsActive d p x → IsGiven
    by_tells tells = (is_told tells, subst Known (sym table) (known tells))

    pub is_given : IsStanding d p x → IsGiven
    is_given is = by_tells (active_tells d p x is)

    pub given_cause : {T : Type 0} (faults : ℕ) (result : Result T BlockFault) → BlockCause IsGiven (table_in (shows d p x) f) (lent_for p x.map d 0 (home_in x) 0) faults result
        → BlockCause (TellsActive d p x) (standing_for d p x) (lent_for p x.map d 0 (home_in x) 0) faults result
    given_cause faults result cause = cause_for (TellsActive d p x) IsGiven by_tells (lent_for p x.map d 0 (home_in x) 0) faults (table_in (shows d p x) f) (standing_for d p x) result table cause

    -- what is said of the table that was taken is said of the volume's
    pub given_says : (says : Standing → Type 0) → (IsGiven → says (table_in (shows d p x) f)) → IsStanding d p x → says (standing_for d p x)
    given_says says made is = subst says table (made (is_given is))

    module _ {T : Type 0} (result : Result T BlockFault) where
      pub taken_says : (says : Standing → Type 0) → (IsGiven → OnOk result (AreStanding (shows d p x) f → says (table_in (shows d p x) f))) → IsStanding d p x → OnOk result (says (standing_for d p x))
      taken_says says made is = subst (λ (s : Standing). OnOk result (says s)) table (onok_with _ result (sound is) (made (is_given is)))

      pub taken_counts : (says : Standing → T → Type 0) → (IsGiven → IfOk result (λ n. AreStanding (shows d p x) f → says (table_in (shows d p x) f) n)) → IsStanding d p x → IfOk result (says (standing_for d p x))
      taken_counts says made is = subst (λ (s : Standing). IfOk result (says s)) table (ifok_with _ result (sound is) (made (is_given is)))

      -- the volume with the table and the map that the call left, where the table is as the call asks
      pub taken_alters : (Asked : Type 0) (asked : IsStanding d p x → Asked) (held : IfSome x.files (λ g. f ≡ g)) (led : (blocks : Under) (used : ℕ → Option Use) → AreLedBy blocks used x.active x.files → AreLed used (loaded_trees blocks f))
          (well : (known : Bool) (blocks : Under) → AreStoredBy known blocks x.active x.files → IsStoredOn known blocks f) (taken : pending_in f ≡ pending_of x.files) (e : Disk) (q : Pool) (map : Maps) (g : Files)
          → LeavesTable IsGiven Asked (shows d p x) (sees p map d (home_in x)) f g (x.now + 1) result → GivesUp x.map map → Reads d p e q → (IsGiven → IsTold e q map x.slot)
          → AltersTable d p e q x (record x { map = map; files = Some g; changed = true }) result
      taken_alters Asked asked held led well taken e q map g leaves maps reads told = record {
        same = refl;
        maps = maps;
        reads = reads;
        told = λ is. told (is_given is);
        trees = λ is. leaves.stands (is_given is) (asked is) (sound is);
        alters = λ is. subst (λ (t : Trees). AltersTrees (x.now + 1) t (loaded_trees (under (sees p map d (home_in x))) g)) (taken_trees (under (shows d p x)) x.active x.files f table held) (leaves.alters (is_given is) (asked is) (sound is));
        laid = λ is. leaves.laid (is_given is) (asked is) (sound is) (taken_laid (under (shows d p x)) x.active x.files f table held is.laid);
        failed = λ tells. subst (λ (s : Standing). OnErr result (table_told (table_in (sees p map d (home_in x)) g) ≡ table_told s)) table (leaves.failed (by_tells tells));
        led = λ is was. leaves.led (is_given is) (asked is) (sound is) (led (under (shows d p x)) (shows d p x).used was);
        well = λ is was. leaves.stored (is_given is) (asked is) (sound is) x.known (well x.known (under (shows d p x)) was);
        room = λ is. let grown = leaves.room (is_given is) (asked is) (sound is) in omega (arith, taken, grown);
      }

      -- a change that leaves the maps
      pub kept_alters : (held : IfSome x.files (λ g. f ≡ g)) (led : (blocks : Under) (used : ℕ → Option Use) → AreLedBy blocks used x.active x.files → AreLed used (loaded_trees blocks f))
          (well : (known : Bool) (blocks : Under) → AreStoredBy known blocks x.active x.files → IsStoredOn known blocks f) (taken : pending_in f ≡ pending_of x.files) (e : Disk) (q : Pool) (map : Maps) (g : Files)
          → LeavesTable IsGiven (Unit {0}) (shows d p x) (sees p map d (home_in x)) f g (x.now + 1) result → map ≡ x.map → Reads d p e q
          → AltersTable d p e q x (record x { map = map; files = Some g; changed = true }) result
      kept_alters held led well taken e q map g leaves same reads = taken_alters (Unit {0}) (λ is. tt) held led well taken e q map g leaves (same_maps x.map map same) reads
          (λ given. subst (λ (m : Maps). IsTold e q m x.slot) (sym same) (still_told d e p q reads x given.0.0))
