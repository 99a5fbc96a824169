-- What calls of a tree in memory, with a change of its file's record, leave of a table.
use Rattle.std.proofs.Common.{◌≡◌, ◌≤◌, ℕ, ◌+◌, Bool, true, nat_le, List, Result, Ok, Err, sym, ap, subst, ◌∙◌, ⊎_elim, arith, ◌/◌}
use Rattle.std.specs.Prelude.{Option, Some, None, is_some}
use Rattle.std.specs.Option.{option_map}
use Rattle.std.specs.BTreeMap as maps
use Rattle.fv_disk.specs.declared.fault.BlockFault.{BlockFault}
use Rattle.fv_codec.specs.declared.inode.InodeRecord.{InodeRecord}
use Rattle.fv_tables.specs.Spelled.{Under}
use Rattle.fv_tables.specs.Told.{file_at, records_each}
use Rattle.fv_tree.specs.declared.kept.Tree.{Tree}
use Rattle.fv_tree.specs.Sources.{Shown, IsUntouched}
use Rattle.fv_tree.specs.Standing.{standing, under, Fails}
use Rattle.fv_tree.specs.Flushing.{Stands, loaded, changed_of}
use Rattle.fv_tree.specs.Leading.{LeadsNoMore}
use Rattle.fv_tree.specs.Removal.{Removal}
use Rattle.fv_tree.specs.Releasing.{IsDropped}
use Rattle.fv_tree.specs.Erasing.{HoldsCells}
use Rattle.fv_tree.specs.Beside.{LeadsTo, Spares}
use Rattle.fv_tree.proofs.Beside.{loading_spares, removal_spares}
use Rattle.fv_inode.specs.declared.file.InodeFile.{InodeFile}
use Rattle.fv_inode.specs.Changing.{Rewrites}
use Rattle.fv_files.specs.declared.files.Files.{Files}
use Rattle.fv_files.specs.Apart.{IsAsSaid}
use Rattle.fv_files.specs.Tables.{tree_in, AreStanding, IsStored, loaded_trees}
use Rattle.fv_files.specs.Calls.{Changes, KeepsLed, KeptFails, PutsKept, CutsKept}
use Rattle.fv_files.specs.Pending.{pending_trees}
use Rattle.fv_files.proofs.Beside.{LetsGo, UsesNoMore, loading_lets_go, loading_uses}
use Rattle.fv_files.proofs.Looked.{counts_failed}
use Rattle.fv_files.proofs.Stored.{held_said, loaded_said, released_said, stamped_said}
use Rattle.fv_tree.proofs.Brought.{some_same}
use Rattle.fv_files.proofs.Changed.{with_trees, failed_told, kept_led, kept_stands, both_led, both_stand, owned_stands, owned_stored, kept_stored, both_stored, both_alter, both_laid, kept_laid, kept_leave}
use Rattle.fv_tree.specs.Altering.{AltersHeld}
use Rattle.fv_files.specs.Altering.{AltersPlaces}
use Rattle.fv_files.proofs.Altered.{leaves_match, only_leaves_trees}

-- a call of a tree that only loads
pub loaded_spares : (old new : Shown) (t u : Tree) → IsUntouched old new → LeadsNoMore (loaded old t) (loaded new u) → Spares old new (LeadsTo (loaded old t)) (LeadsTo (loaded new u))
loaded_spares old new t u same no_more = loading_spares old new (LeadsTo (loaded old t)) (LeadsTo (loaded new u)) same.held same.used
    (λ v led. record { level = led.level; place = led.place; leads = no_more led.level led.place v led.leads })

-- the tree in memory under a number is one
at_tree : (f : Files) (n : ℕ) (t : Tree) (P : Tree → Type 0) → tree_in f n ≡ Some t → P t → (w : Tree) → tree_in f n ≡ Some w → P w
at_tree f n t P is fact w at = subst P (some_same t w (sym is ∙ at)) fact

-- a change of the record of a file, over any blocks
pub record Restates (f : Files) (i : InodeFile) (n s : ℕ) (change : InodeRecord → InodeRecord) : Type 0 where
  pub rewrites : (blocks : Under) → Rewrites (standing blocks f.inode.tree) (standing blocks i.tree) n s (option_map change (file_at (standing blocks f.inode.tree) n))
  pub alters : AltersHeld f.inode.tree i.tree s
  pub marked : changed_of i.tree 0 (n / records_each) ≡ true

pub none_some : {X : Type 0} (o : Option X) → o ≡ None → is_some o ≡ true → ⊥
none_some o none some = let wrong : is_some o ≡ true = some in absurd (so (sym wrong ∙ ap is_some none))
  where
    so : true ≡ is_some {T = ℕ} None → ⊥
    so e = cc

pub same_room : (old new : Shown) → IsUntouched old new → old.room ≤ new.room
same_room old new untouched = let same = untouched.room in omega (arith, same)

-- what a removal of cells drops goes out of use
module _ (told calls : Type 0) (old new : Shown) (t u : Tree) (gone : ℕ → Bool) (start s count : ℕ) (is : Removal told calls old new t u gone start s (Ok count)) (tells : told) where
  pub removal_goes : Stands old t → LetsGo new (LeadsTo (loaded old t)) (LeadsTo (loaded new u))
  removal_goes stood v none some led = ⊎_elim
      (λ now. none (record { level = led.level; place = led.place; leads = now }))
      (λ out. none_some (new.used v) out some)
      (is.lets_go tells stood led.level led.place v led.leads)

  pub removal_uses : UsesNoMore old new (LeadsTo (loaded old t)) (LeadsTo (loaded new u))
  removal_uses v was now none = (is.released tells).unused v none

-- ---- a cell is written

module _ (told well : Type 0) (old new : Shown) (f : Files) (m : maps.BTreeMap ℕ Tree) (n index s : ℕ) (block : List ℕ) where
  -- what the tree leads to is as its pointers say
  put_said : (r : Result Unit BlockFault) (puts : PutsKept told old new f.trees m n index s block r) → told → AreStanding old f → (known : Bool) → IsStored known old f → IsAsSaid known (loaded new puts.next)
  put_said r puts tells sound known was =
      let stood = owned_stands old f n puts.tree puts.becomes.was sound in
      stamped_said known old new puts.tree puts.next puts.owner stood (puts.stands tells stood) puts.untouched.held (puts.stored_well tells) (puts.tells tells) s (puts.alters tells)
      (owned_stored known old f n puts.tree puts.becomes.was sound was)

  pub put_failed : (e : BlockFault) → PutsKept told old new f.trees m n index s block (Err e) → Changes {T = Unit {0}} told well old new f (with_trees f m) (KeptFails told old new f n) (Err e)
  put_failed e puts = record {
    failed = λ tells. failed_told old new f m n puts.tree puts.next puts.becomes puts.untouched.held (puts.failed tells);
    untouched = puts.untouched;
    stands = λ tells asked sound. kept_stands old new f m n puts.tree puts.next puts.becomes sound (loaded_spares old new puts.tree puts.next puts.untouched (puts.leads tells)) puts.owner
        (puts.stands tells (owned_stands old f n puts.tree puts.becomes.was sound));
    stored = λ tells asked sound known was. kept_stored old new f m n puts.tree puts.next puts.becomes sound (loaded_spares old new puts.tree puts.next puts.untouched (puts.leads tells)) known (put_said (Err e) puts tells sound known was) was;
    strays = λ tells sound. puts.untouched.strays;
    room = same_room old new puts.untouched;
    counts = puts.counts;
    cause = at_tree f n puts.tree (λ t. Fails told (standing (under old) t) old new e) puts.becomes.was puts.cause;
  }

  pub put_done : (i : InodeFile) (change : InodeRecord → InodeRecord) (x : Unit {0}) → PutsKept told old new f.trees m n index s block (Ok x) → Restates f i n s change
      → Changes {T = Unit {0}} told well old new f (record { inode = i; trees = m; alloc = f.alloc }) (KeptFails told old new f n) (Ok x)
  put_done i change x puts is = record {
    failed = λ tells. tt;
    untouched = tt;
    stands = λ tells asked sound. both_stand old new f m n puts.tree puts.next puts.becomes i s change is.rewrites is.alters.owner is.alters.sound is.alters.leads is.alters.keeps_ready sound (loaded_spares old new puts.tree puts.next puts.untouched (puts.leads tells)) puts.owner
        (puts.stands tells (owned_stands old f n puts.tree puts.becomes.was sound));
    stored = λ tells asked sound known was. both_stored old new f m n puts.tree puts.next puts.becomes i s change is.rewrites is.alters.owner is.alters.sound is.alters.leads is.alters.keeps_ready sound (loaded_spares old new puts.tree puts.next puts.untouched (puts.leads tells)) puts.owner
        (puts.stands tells (owned_stands old f n puts.tree puts.becomes.was sound)) known (held_said known f.inode.tree i.tree s is.alters) (put_said (Ok x) puts tells sound known was) was;
    strays = λ tells sound. puts.untouched.strays;
    room = same_room old new puts.untouched;
    counts = puts.counts;
    cause = tt;
  }

  -- what happens to the places of the table's trees
  pub put_table_failed : (e : BlockFault) → PutsKept told old new f.trees m n index s block (Err e) → AltersPlaces {T = Unit {0}} told well old new f (with_trees f m) s (Err e)
  put_table_failed e puts =
      let spares = λ (tells : told). loaded_spares old new puts.tree puts.next puts.untouched (puts.leads tells) in record {
        alters = λ tells asked sound. only_leaves_trees s (loaded_trees (under old) f) (loaded_trees (under new) (with_trees f m)) (kept_leave old new f m n puts.tree puts.next puts.becomes sound (spares tells) (puts.leaves tells));
        leaves = λ tells sound. kept_leave old new f m n puts.tree puts.next puts.becomes sound (spares tells) (puts.leaves tells);
        laid = λ tells asked sound. kept_laid old new f m n puts.tree puts.next puts.becomes sound (spares tells) (λ q. leaves_match (loaded old puts.tree) (loaded new puts.next) q (puts.leaves tells));
      }

  pub put_table_done : (i : InodeFile) (change : InodeRecord → InodeRecord) (x : Unit {0}) → PutsKept told old new f.trees m n index s block (Ok x) → Restates f i n s change
      → AltersPlaces {T = Unit {0}} told well old new f (record { inode = i; trees = m; alloc = f.alloc }) s (Ok x)
  put_table_done i change x puts is =
      let spares = λ (tells : told). loaded_spares old new puts.tree puts.next puts.untouched (puts.leads tells) in record {
        alters = λ tells asked sound. both_alter old new f m n puts.tree puts.next puts.becomes i s change is.rewrites is.alters.owner is.alters.sound is.alters.leads is.alters.keeps_ready sound (spares tells) puts.owner
            (puts.stands tells (owned_stands old f n puts.tree puts.becomes.was sound)) (puts.alters tells) (is.alters.alters (under new));
        leaves = λ tells. tt;
        laid = λ tells asked sound. both_laid old new f m n puts.tree puts.next puts.becomes i s change is.rewrites is.alters.owner is.alters.sound is.alters.leads is.alters.keeps_ready sound (spares tells) (is.alters.alters (under new)) is.marked;
      }

  -- what is in use is led to, and what differs is little more
  module _ (r : Result Unit BlockFault) (puts : PutsKept told old new f.trees m n index s block r) where
    put_goes : told → LetsGo new (LeadsTo (loaded old puts.tree)) (LeadsTo (loaded new puts.next))
    put_goes tells = loading_lets_go new (LeadsTo (loaded old puts.tree)) (LeadsTo (loaded new puts.next)) (λ v led. record { level = led.level; place = led.place; leads = puts.keeps tells led.level led.place v led.leads })

    put_uses : UsesNoMore old new (LeadsTo (loaded old puts.tree)) (LeadsTo (loaded new puts.next))
    put_uses = loading_uses old new (LeadsTo (loaded old puts.tree)) (LeadsTo (loaded new puts.next)) puts.untouched.used

    pub put_led_alone : told → KeepsLed old new f (with_trees f m)
    put_led_alone tells sound led = kept_led old new f m n puts.tree puts.next puts.becomes sound (loaded_spares old new puts.tree puts.next puts.untouched (puts.leads tells)) (put_goes tells) put_uses led

    pub put_led : (i : InodeFile) (change : InodeRecord → InodeRecord) → Restates f i n s change → told → KeepsLed old new f (record { inode = i; trees = m; alloc = f.alloc })
    put_led i change is tells sound led = both_led old new f m n puts.tree puts.next puts.becomes i s change is.rewrites is.alters.owner is.alters.sound is.alters.leads is.alters.keeps_ready sound (loaded_spares old new puts.tree puts.next puts.untouched (puts.leads tells)) puts.owner
        (puts.stands tells (owned_stands old f n puts.tree puts.becomes.was sound)) is.alters.keeps (put_goes tells) put_uses led

    pub put_pending : pending_trees m ≤ pending_trees f.trees + 6
    put_pending = let sum = puts.becomes.sum in let most = puts.rises.pending in omega (arith, sum, most)

-- ---- cells are removed

module _ (told calls well : Type 0) (old new : Shown) (f : Files) (m : maps.BTreeMap ℕ Tree) (n length start s : ℕ) where
  pub cut_failed : {T : Type 0} (e : BlockFault) → CutsKept told calls old new f.trees m n length start s (Err e) → Changes {T = T} told well old new f (with_trees f m) (KeptFails told old new f n) (Err e)
  cut_failed e cuts = let is = cuts.removal in record {
    failed = λ tells. failed_told old new f m n cuts.tree cuts.next cuts.becomes is.untouched.held (is.failed tells);
    untouched = is.untouched;
    stands = λ tells asked sound.
        let stood = owned_stands old f n cuts.tree cuts.becomes.was sound in
        kept_stands old new f m n cuts.tree cuts.next cuts.becomes sound (loaded_spares old new cuts.tree cuts.next is.untouched (is.leads tells stood)) is.owner (is.stands tells stood);
    stored = λ tells asked sound known was.
        let stood = owned_stands old f n cuts.tree cuts.becomes.was sound in
        kept_stored old new f m n cuts.tree cuts.next cuts.becomes sound (loaded_spares old new cuts.tree cuts.next is.untouched (is.leads tells stood)) known
        (loaded_said known old new cuts.tree cuts.next is.owner stood (is.stands tells stood) is.untouched.held (is.stored_well tells stood) (is.tells tells stood) (is.leaves tells) (owned_stored known old f n cuts.tree cuts.becomes.was sound was)) was;
    strays = λ tells sound. is.untouched.strays;
    room = is.room;
    counts = counts_failed {S = ℕ} old new (Err e) e is.counts;
    cause = at_tree f n cuts.tree (λ t. Fails told (standing (under old) t) old new e) cuts.becomes.was is.cause;
  }

  module _ (count : ℕ) (cuts : CutsKept told calls old new f.trees m n length start s (Ok count)) (tells : told) (sound : AreStanding old f) where
    pub cut_stood : Stands old cuts.tree
    cut_stood = owned_stands old f n cuts.tree cuts.becomes.was sound

    pub cut_spares : Spares old new (LeadsTo (loaded old cuts.tree)) (LeadsTo (loaded new cuts.next))
    cut_spares = removal_spares old new cuts.tree cuts.next (cuts.removal.released tells) (cuts.removal.leads tells cut_stood)

    pub cut_said : (known : Bool) → IsStored known old f → IsAsSaid known (loaded new cuts.next)
    cut_said known was = released_said known old new cuts.tree cuts.next (IsDropped (under old) cuts.tree cuts.next) cuts.removal.owner cut_stood (cuts.removal.stands tells cut_stood) (cuts.removal.released tells) (cuts.removal.stored_well tells cut_stood)
        (cuts.removal.tells tells cut_stood) s (cuts.removal.alters tells cut_stood) (owned_stored known old f n cuts.tree cuts.becomes.was sound was)

  pub cut_done : (i : InodeFile) (change : InodeRecord → InodeRecord) (count : ℕ) → CutsKept told calls old new f.trees m n length start s (Ok count) → Restates f i n s change
      → Changes {T = ℕ} told well old new f (record { inode = i; trees = m; alloc = f.alloc }) (KeptFails told old new f n) (Ok count)
  cut_done i change count cuts is = record {
    failed = λ tells. tt;
    untouched = tt;
    stands = λ tells asked sound. both_stand old new f m n cuts.tree cuts.next cuts.becomes i s change is.rewrites is.alters.owner is.alters.sound is.alters.leads is.alters.keeps_ready sound (cut_spares count cuts tells sound) cuts.removal.owner (cuts.removal.stands tells (cut_stood count cuts tells sound));
    stored = λ tells asked sound known was. both_stored old new f m n cuts.tree cuts.next cuts.becomes i s change is.rewrites is.alters.owner is.alters.sound is.alters.leads is.alters.keeps_ready sound (cut_spares count cuts tells sound) cuts.removal.owner (cuts.removal.stands tells (cut_stood count cuts tells sound))
        known (held_said known f.inode.tree i.tree s is.alters) (cut_said count cuts tells sound known was) was;
    strays = λ tells sound. cuts.removal.strays tells (cut_stood count cuts tells sound);
    room = cuts.removal.room;
    counts = cuts.removal.counts;
    cause = tt;
  }

  -- what happens to the places of the table's trees
  pub cut_table_failed : {T : Type 0} (e : BlockFault) → CutsKept told calls old new f.trees m n length start s (Err e) → AltersPlaces {T = T} told well old new f (with_trees f m) s (Err e)
  cut_table_failed e cuts =
      let is = cuts.removal in
      let spares = λ (tells : told) (sound : AreStanding old f). loaded_spares old new cuts.tree cuts.next is.untouched (is.leads tells (owned_stands old f n cuts.tree cuts.becomes.was sound)) in record {
        alters = λ tells asked sound. only_leaves_trees s (loaded_trees (under old) f) (loaded_trees (under new) (with_trees f m)) (kept_leave old new f m n cuts.tree cuts.next cuts.becomes sound (spares tells sound) (is.leaves tells));
        leaves = λ tells sound. kept_leave old new f m n cuts.tree cuts.next cuts.becomes sound (spares tells sound) (is.leaves tells);
        laid = λ tells asked sound. kept_laid old new f m n cuts.tree cuts.next cuts.becomes sound (spares tells sound) (λ q. leaves_match (loaded old cuts.tree) (loaded new cuts.next) q (is.leaves tells));
      }

  pub cut_table_done : (i : InodeFile) (change : InodeRecord → InodeRecord) (count : ℕ) → CutsKept told calls old new f.trees m n length start s (Ok count) → Restates f i n s change
      → AltersPlaces {T = ℕ} told well old new f (record { inode = i; trees = m; alloc = f.alloc }) s (Ok count)
  cut_table_done i change count cuts is = record {
    alters = λ tells asked sound. both_alter old new f m n cuts.tree cuts.next cuts.becomes i s change is.rewrites is.alters.owner is.alters.sound is.alters.leads is.alters.keeps_ready sound (cut_spares count cuts tells sound) cuts.removal.owner
        (cuts.removal.stands tells (cut_stood count cuts tells sound)) (cuts.removal.alters tells (cut_stood count cuts tells sound)) (is.alters.alters (under new));
    leaves = λ tells. tt;
    laid = λ tells asked sound. both_laid old new f m n cuts.tree cuts.next cuts.becomes i s change is.rewrites is.alters.owner is.alters.sound is.alters.leads is.alters.keeps_ready sound (cut_spares count cuts tells sound) (is.alters.alters (under new)) is.marked;
  }

  -- what is in use is led to, and what differs is little more
  pub cut_led_failed : (e : BlockFault) → CutsKept told calls old new f.trees m n length start s (Err e) → told → KeepsLed old new f (with_trees f m)
  cut_led_failed e cuts tells sound led =
      let is = cuts.removal in
      let stood = owned_stands old f n cuts.tree cuts.becomes.was sound in
      kept_led old new f m n cuts.tree cuts.next cuts.becomes sound (loaded_spares old new cuts.tree cuts.next is.untouched (is.leads tells stood))
      (λ v none some leads. ⊎_elim
      (λ now. none (record { level = leads.level; place = leads.place; leads = now }))
      (λ out. none_some (new.used v) out some)
      (is.lets_go tells stood leads.level leads.place v leads.leads))
      (loading_uses old new (LeadsTo (loaded old cuts.tree)) (LeadsTo (loaded new cuts.next)) is.untouched.used) led

  pub cut_led : (i : InodeFile) (change : InodeRecord → InodeRecord) (count : ℕ) → CutsKept told calls old new f.trees m n length start s (Ok count) → Restates f i n s change → told → KeepsLed old new f (record { inode = i; trees = m; alloc = f.alloc })
  cut_led i change count cuts is tells sound led =
      both_led old new f m n cuts.tree cuts.next cuts.becomes i s change is.rewrites is.alters.owner is.alters.sound is.alters.leads is.alters.keeps_ready sound (cut_spares count cuts tells sound) cuts.removal.owner (cuts.removal.stands tells (cut_stood count cuts tells sound)) is.alters.keeps
      (removal_goes told calls old new cuts.tree cuts.next (nat_le length) start s count cuts.removal tells (cut_stood count cuts tells sound))
      (removal_uses told calls old new cuts.tree cuts.next (nat_le length) start s count cuts.removal tells) led

  pub cut_pending : (e : BlockFault) → CutsKept told calls old new f.trees m n length start s (Err e) → pending_trees m ≤ pending_trees f.trees
  cut_pending e cuts = let sum = cuts.becomes.sum in let most = cuts.removal.pending in omega (arith, sum, most)

  pub cut_pending_done : (count : ℕ) (cuts : CutsKept told calls old new f.trees m n length start s (Ok count)) → told → AreStanding old f → HoldsCells (standing (under old) cuts.tree) → pending_trees m ≤ pending_trees f.trees + 3
  cut_pending_done count cuts tells sound holds = let sum = cuts.becomes.sum in let most = cuts.pending tells (cut_stood count cuts tells sound) holds in omega (arith, sum, most)
