-- What a change of a table leaves, over the blocks that are left of what a session lends.
use Rattle.std.proofs.Common.{◌≡◌, ◌≤◌, ◌+◌, ℕ, Bool, Option, subst}
use Rattle.std.specs.Prelude.{Result, Ok, Err, OnOk, OnErr}
use Rattle.std.specs.FinMap as fin
use Rattle.fv_disk.specs.declared.fault.BlockFault.{BlockFault}
use Rattle.fv_tables.specs.Spelled.{Under}
use Rattle.fv_tables.specs.Told.{table_told}
use Rattle.fv_tree.specs.Sources.{Use}
use Rattle.fv_tree.specs.Standing.{under}
use Rattle.fv_files.specs.declared.files.Files.{Files}
use Rattle.fv_files.specs.Altering.{AltersPlaces, AltersTrees, AreLaid}
use Rattle.fv_files.specs.Calls as files
use Rattle.fv_files.specs.Apart.{AreLed}
use Rattle.fv_files.specs.Pending.{pending_in}
use Rattle.fv_files.specs.Tables.{changed, loaded_trees, table_in, AreSound, AreStanding, IsLed, IsStored, IsStoredOn}
use Rattle.fv_files.specs.Trees.{standing_in}
use Rattle.fv_pool.specs.BlocksOver.{block_of, held_entry}
use Rattle.fv_pool.specs.Calls.{LeavesTable}
use Rattle.fv_pool.specs.Dropping.{DropsOver}
use Rattle.fv_pool.specs.Lending.{Lent, below, sees, shown_over, use_under}

module _ (old new : Lent) (drops : DropsOver old new) where
  -- the blocks and what is in use, by the maps alone
  pub left_over : under (shown_over new) ≡ under (sees old.pool new.map old.disk old.home)
  left_over = λ j v. fin.get (below 1048576 (λ w. block_of (drops.kept j) (drops.only_reads.stays.reads j) (held_entry new.map (drops.containers j) (drops.home j).slot w))) v

  pub left_used : (shown_over new).used ≡ (sees old.pool new.map old.disk old.home).used
  left_used = λ j. use_under new.map (drops.containers j) (drops.home j).slot

  left_standing : (g : Files) → AreStanding (shown_over new) g → AreStanding (sees old.pool new.map old.disk old.home) g
  left_standing g is = subst (λ (u : ℕ → Option Use). AreSound (under (sees old.pool new.map old.disk old.home)) u g) left_used (subst (λ (u : Under). AreSound u (shown_over new).used g) left_over is)

  left_led : (g : Files) → IsLed (shown_over new) g → IsLed (sees old.pool new.map old.disk old.home) g
  left_led g is = subst (λ (u : ℕ → Option Use). AreLed u (loaded_trees (under (sees old.pool new.map old.disk old.home)) g)) left_used (subst (λ (u : Under). AreLed (shown_over new).used (loaded_trees u g)) left_over is)

  left_stored : (known : Bool) (g : Files) → IsStored known (shown_over new) g → IsStored known (sees old.pool new.map old.disk old.home) g
  left_stored known g is = subst (λ (u : Under). IsStoredOn known u g) left_over is

  -- what it did to the places of its trees
  left_altered : (f g : Files) (stamp : ℕ) → AltersTrees stamp (loaded_trees (under (shown_over old)) f) (loaded_trees (under (shown_over new)) g) → AltersTrees stamp (loaded_trees (under (shown_over old)) f) (loaded_trees (under (sees old.pool new.map old.disk old.home)) g)
  left_altered f g stamp alters = subst (λ (u : Under). AltersTrees stamp (loaded_trees (under (shown_over old)) f) (loaded_trees u g)) left_over alters

  left_laid : (g : Files) → AreLaid (under (shown_over new)) g → AreLaid (under (sees old.pool new.map old.disk old.home)) g
  left_laid g laid = subst (λ (u : Under). AreLaid u g) left_over laid

  -- `well` is asked of the table, and gives what the files asked of it.
  module _ {T : Type 0} (told asked well : Type 0) (f g : Files) (stamp : ℕ) (fails : BlockFault → Type 0) (holds : well → asked) (led : told → well → files.KeepsLed (shown_over old) (shown_over new) f g)
      (fits : told → well → AreStanding (shown_over old) f → pending_in g ≤ pending_in f + 14) where
    left_fault : (r : Result T BlockFault) → files.Changes told asked (shown_over old) (shown_over new) f g fails r → AltersPlaces told asked (shown_over old) (shown_over new) f g stamp r → LeavesTable told well (shown_over old) (sees old.pool new.map old.disk old.home) f g stamp r
    left_fault (Ok x) changes alters = record {
      stands = λ t w is. left_standing g (changes.stands t (holds w) is);
      failed = λ t. tt;
      led = λ t w is reached. left_led g (led t w is reached);
      stored = λ t w is known stored. left_stored known g (changes.stored t (holds w) is known stored);
      alters = λ t w is. left_altered f g stamp (alters.alters t (holds w) is);
      laid = λ t w is was. left_laid g (alters.laid t (holds w) is was);
      room = fits;
    }
    left_fault (Err e) changes alters = record {
      stands = λ t w is. left_standing g (changes.stands t (holds w) is);
      failed = λ t. subst (λ (u : Under). table_told (standing_in u (changed g)) ≡ table_told (table_in (shown_over old) f)) left_over (changes.failed t);
      led = λ t w is reached. left_led g (led t w is reached);
      stored = λ t w is known stored. left_stored known g (changes.stored t (holds w) is known stored);
      alters = λ t w is. left_altered f g stamp (alters.alters t (holds w) is);
      laid = λ t w is was. left_laid g (alters.laid t (holds w) is was);
      room = fits;
    }

pub leaves_table : {T : Type 0} (told asked well : Type 0) (old new : Lent) → DropsOver old new → (f g : Files) (stamp : ℕ) (fails : BlockFault → Type 0) (r : Result T BlockFault) → files.Changes told asked (shown_over old) (shown_over new) f g fails r
    → AltersPlaces told asked (shown_over old) (shown_over new) f g stamp r → (well → asked) → (told → well → files.KeepsLed (shown_over old) (shown_over new) f g) → (told → well → AreStanding (shown_over old) f → pending_in g ≤ pending_in f + 14)
    → LeavesTable told well (shown_over old) (sees old.pool new.map old.disk old.home) f g stamp r
leaves_table told asked well old new drops f g stamp fails r changes alters holds led fits = left_fault old new drops told asked well f g stamp fails holds led fits r changes alters

-- what holds of an answer by its two sides
pub both_sides : {T E : Type 0} (P : Type 0) (r : Result T E) → OnErr r P → OnOk r P → P
both_sides P (Ok x) failed done = done
both_sides P (Err e) failed done = failed

pub onok_well : {T E S : Type 0} (W : ℕ → Type 0) (P : Type 0) (r : Result T E) → S → (now : ℕ) → W now → OnOk r (S → (n : ℕ) → W n → P) → OnOk r P
onok_well W P (Ok x) s now w done = done s now w
onok_well W P (Err e) s now w done = tt
