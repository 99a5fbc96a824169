-- A file's tree is placed, its root laid into an inode block, and the tree goes from memory.
use Rattle.std.proofs.Common.{◌≡◌, ◌≢◌, ℕ, true, false, cond, nat_eq, inl, inr, Ok, Result, refl, sym, ap, subst, ◌∙◌, ⊎_elim, arith, ◌/◌, Bool}
use Rattle.std.specs.Prelude.{Option, Some, None, is_some}
use Rattle.std.specs.Option.{option_map}
use Rattle.std.specs.Ordering.{nat_cmp}
use Rattle.std.specs.BTreeMap as maps
use Rattle.std.specs.FinMap as fin
use Rattle.std.proofs.lemmas.Bool.Decides.{nat_tests}
use Rattle.std.proofs.lemmas.Result.{IfErr-weaker}
use Rattle.fv_disk.specs.declared.fault.BlockFault.{BlockFault}
use Rattle.fv_disk.specs.declared.fault.BlockFault.TheVariants.{DiskFault, Damaged, Memory}
use Rattle.fv_codec.specs.declared.pointer.Pointer.{Pointer}
use Rattle.fv_codec.specs.declared.inode.InodeRecord.{InodeRecord}
use Rattle.fv_tables.specs.Spelled.{stored, pointer_at, Rooted}
use Rattle.fv_tables.specs.Told.{AreTold, file_at, tree_or, tree_of, records_each}
use Rattle.fv_tables.specs.Kept.{IsPlacedTable}
use Rattle.fv_tree.specs.declared.kept.Tree.{Tree}
use Rattle.fv_tree.specs.Sources.{Shown, HasCause, IsCalm, IsUntouched}
use Rattle.fv_tree.specs.Standing.{standing, under}
use Rattle.fv_tree.specs.Flushing.{ReachesOnce, Flushes, IsPlaced, Stands, loaded, loaded_over, changed_of}
use Rattle.fv_tree.specs.Leading.{LeadsNoMore}
use Rattle.fv_tree.specs.Readying.{KeepsReady}
use Rattle.fv_tree.specs.Beside.{unread, LeadsTo, Spares, loaded_on}
use Rattle.fv_tree.proofs.Beside.{flush_spares, loading_spares, unread_sound}
use Rattle.fv_tree.proofs.Causes.{calm_then, counts_then}
use Rattle.fv_tree.proofs.Unchanged.{unchanged_placed}
use Rattle.fv_tree.proofs.Gone.{is_memory}
use Rattle.fv_tree.proofs.Leading.{flush_keeps, flush_leads}
use Rattle.fv_inode.specs.declared.file.InodeFile.{InodeFile}
use Rattle.fv_inode.specs.Files.{rooted, with_root}
use Rattle.fv_inode.specs.Changing.{SetsRoot}
use Rattle.fv_inode.proofs.Alike.{alike_itself}
use Rattle.fv_inode.proofs.Indexed.{rooted_indexes}
use Rattle.fv_inode.proofs.Placed.{keeps_others, rooted_table}
use Rattle.fv_files.specs.declared.files.Files.{Files}
use Rattle.fv_files.specs.Apart.{LeadsAny, LeadsIn, LeadsFrom, StandsIn, StoredIn, IsAsSaid}
use Rattle.fv_files.specs.Tables.{table_in, tree_in, file_loaded, loaded_trees, AreStanding, IsLed, IsStored}
use Rattle.fv_files.specs.Calls.{Becomes, KeepsStored, SparesOthers}
use Rattle.fv_files.specs.Failing.{FilesFail}
use Rattle.fv_files.specs.Flushing.{FlushFails, HasRoot, LayFails, LaysTrees, holding}
use Rattle.fv_files.specs.Pending.{FitsTable}
use Rattle.fv_files.proofs.Looked.{Held, fails_after}
use Rattle.fv_tree.proofs.Brought.{some_same}
use Rattle.fv_files.proofs.Tables.{placed_alike, placed_then}
use Rattle.fv_files.proofs.Beside.{LetsGo, UsesNoMore, loading_lets_go, loading_uses, reread_leads, spares_on, spares_then, unread_leads}
use Rattle.fv_files.proofs.Stored.{reread_stored}
use Rattle.fv_files.proofs.Kept.{own_tree_is, file_led, file_spares, file_stands, file_stored, led_on_blocks, sound_on, stored_on_blocks, rest_leave}
use Rattle.fv_files.proofs.Changed.{with_trees, with_inode, kept_inode, kept_led, kept_others, kept_spares, kept_stands, kept_stored, own_told, record_led, record_spares, record_stands, record_stored, kept_tree_is}
use Rattle.fv_files.proofs.Steps.{none_some}
use Rattle.fv_files.proofs.Whole.{none_there}
use Rattle.std.proofs.lemmas.Bool.{both_ways, cases_eq}
use Rattle.fv_tree.specs.Altering.{Leaves}
use Rattle.fv_tree.proofs.Altered.{leaves_itself, only_leaves}
use Rattle.fv_files.specs.Altering.{AreLaid, LeavesIn, LeavesTrees, FlushesPlaces}
use Rattle.fv_files.proofs.Altered.{laid_by, leaves_as, leaves_in_itself, leaves_of, places_trees_then, still_changed}

-- ---- a tree is flushed

pub flushed_spares : {hides : Bool} (old new : Shown) (t u : Tree) → Stands old t → Flushes hides (loaded old t) old.used (loaded new u) new.used → Spares old new (LeadsTo (loaded old t)) (LeadsTo (loaded new u))
flushed_spares old new t u stands flushes = flush_spares old new (loaded old t) (loaded new u) refl refl flushes
    (λ level place v led. ⊎_elim (λ placed. inl placed) (λ was. inr was.0) (flush_leads old new t u stands flushes level place v led))

-- a block that was placed is led to
placed_led : {hides : Bool} (old new : Shown) (t u : Tree) → Flushes hides (loaded old t) old.used (loaded new u) new.used → (v : ℕ) → IsPlaced (loaded old t) (loaded new u) v → LeadsTo (loaded new u) v
placed_led old new t u flushes v placed =
    let some : (pointer_at (loaded new u).tree placed.level placed.place).stamp ≢ 0 = (λ none. placed.flushed.some (sym (flushes.stamps placed.level placed.place) ∙ none)) in record {
      level = placed.level;
      place = placed.place;
      leads = record {
        some = some;
        placed = unchanged_placed (loaded new u) new.used flushes.sound (is_memory new u) placed.level placed.place placed.flushed.done some;
        vvbn = placed.vvbn;
      };
    }

-- and one that was replaced, and isn't led to, is out of use
pub flush_goes : {hides : Bool} (old new : Shown) (t u : Tree) → Stands old t → Flushes hides (loaded old t) old.used (loaded new u) new.used → LetsGo new (LeadsTo (loaded old t)) (LeadsTo (loaded new u))
flush_goes old new t u stood flushes v none some led = ⊎_elim
    (λ now. none (record { level = led.level; place = led.place; leads = now }))
    (λ replaced. none_some (new.used v) (flushes.gone v replaced (λ placed. none (placed_led old new t u flushes v placed))) some)
    (flush_keeps old new t u stood flushes led.level led.place v led.leads)

pub flush_uses : {hides : Bool} (old new : Shown) (t u : Tree) → Flushes hides (loaded old t) old.used (loaded new u) new.used → UsesNoMore old new (LeadsTo (loaded old t)) (LeadsTo (loaded new u))
flush_uses old new t u flushes v was now none =
    (flushes.others v (λ replaced. was (record { level = replaced.level; place = replaced.place; leads = replaced.leads })) (λ placed. now (placed_led old new t u flushes v placed))).1 ∙ none

module _ {hides : Bool} (old new : Shown) (f : Files) (m : maps.BTreeMap ℕ Tree) (n : ℕ) (t u : Tree) (becomes : Becomes f.trees m n t u) (sound : AreStanding old f) (stood : Stands old t) (flushes : Flushes hides (loaded old t) old.used (loaded new u) new.used) where
  pub kept_placed : IsPlacedTable (table_in old f) (table_in new (with_trees f m))
  kept_placed = placed_alike (table_in old f) (table_in new (with_trees f m)) n (kept_inode old new f m n t u becomes sound (flushed_spares old new t u stood flushes))
      (kept_others old new f m n t u becomes sound (flushed_spares old new t u stood flushes)) (λ r at. own_told old new f m n t u becomes flushes.alike r)

  pub kept_flush_led : IsLed old f → IsLed new (with_trees f m)
  kept_flush_led = kept_led old new f m n t u becomes sound (flushed_spares old new t u stood flushes) (flush_goes old new t u stood flushes) (flush_uses old new t u flushes)

  pub kept_flush_spares : SparesOthers old new f (with_trees f m)
  kept_flush_spares = kept_spares old new f m n t u becomes sound (flushed_spares old new t u stood flushes)

  pub kept_flush_stored : (known : Bool) → IsAsSaid known (loaded new u) → IsStored known old f → IsStored known new (with_trees f m)
  kept_flush_stored known = kept_stored old new f m n t u becomes sound (flushed_spares old new t u stood flushes) known

  pub kept_stood : u.owner ≡ t.owner → AreStanding new (with_trees f m)
  kept_stood owner = kept_stands old new f m n t u becomes sound (flushed_spares old new t u stood flushes) owner flushes.sound

-- ---- its root is laid into the inode block

module _ (old new : Shown) (f : Files) (i : InodeFile) (n levels : ℕ) (root : Pointer) (u : Tree) (kept : tree_in f n ≡ Some u) (untouched : IsUntouched old new) (sets : SetsRoot (rooted old f.inode) (rooted new i) n levels root) where
  abbrev h : Files
  h = with_inode f i

  own_still : (r : InodeRecord) → AreTold (tree_of (table_in old f) n r) (tree_of (table_in new h) n (with_root levels root r))
  own_still r =
      let here : tree_of (table_in new h) n (with_root levels root r) ≡ standing (under new) u = ap (λ o. tree_or (option_map (standing (under new)) o) (stored (under new) n levels root)) kept in
      let was : tree_of (table_in old f) n r ≡ standing (under old) u = ap (λ o. tree_or (option_map (standing (under old)) o) (stored (under old) n r.levels r.root)) kept in
      let same : standing (under new) u ≡ standing (under old) u = (λ j. standing (λ v. fin.get (untouched.held j) v) u) in
      subst (AreTold (tree_of (table_in old f) n r)) (sym (here ∙ same ∙ sym was)) (record { levels = refl; stamps = λ level place. refl; blocks = λ index. refl })

  pub root_placed : IsPlacedTable (table_in old f) (table_in new h)
  root_placed = rooted_table (table_in old f) (table_in new h) n levels root sets
      (keeps_others (table_in old f) (table_in new h) n (λ j v. fin.get (untouched.held j) v) (λ k differs j. option_map (standing (λ v. fin.get (untouched.held j) v)) (tree_in f k)))
      (λ r at. own_still r)

  pub root_stands : i.tree.owner ≡ f.inode.tree.owner → (Stands old f.inode.tree → Stands new i.tree) → LeadsNoMore (loaded old f.inode.tree) (loaded new i.tree) → KeepsReady f.inode.tree i.tree → AreStanding old f → AreStanding new h
  root_stands owner stands no_more keeps_ready sound =
      record_stands new f i n 0 u kept (with_root levels root)
      (λ k. subst (λ (m : Held). file_at (rooted new i) k ≡ cond (nat_eq k n) (option_map (with_root levels root) (file_at (standing (λ v. fin.get m v) f.inode.tree) n)) (file_at (standing (λ v. fin.get m v) f.inode.tree) k)) (sym untouched.held) (sets.files k))
      owner (stands (sound.trees None)) (subst (λ (m : Held). LeadsNoMore (loaded_over (λ v. fin.get m v) f.inode.tree) (loaded new i.tree)) (sym untouched.held) no_more) keeps_ready
      (sound_on f old new untouched.held untouched.used sound)

  pub root_led : LeadsNoMore (loaded old f.inode.tree) (loaded new i.tree) → LeadsNoMore (loaded new i.tree) (loaded old f.inode.tree) → AreStanding old f → IsLed old f → IsLed new h
  root_led no_more keeps sound led =
      record_led new f i n 0 u kept (with_root levels root)
      (λ k. subst (λ (m : Held). file_at (rooted new i) k ≡ cond (nat_eq k n) (option_map (with_root levels root) (file_at (standing (λ v. fin.get m v) f.inode.tree) n)) (file_at (standing (λ v. fin.get m v) f.inode.tree) k)) (sym untouched.held) (sets.files k))
      (subst (λ (m : Held). LeadsNoMore (loaded_over (λ v. fin.get m v) f.inode.tree) (loaded new i.tree)) (sym untouched.held) no_more)
      (subst (λ (m : Held). LeadsNoMore (loaded new i.tree) (loaded_over (λ v. fin.get m v) f.inode.tree)) (sym untouched.held) keeps)
      (sound_on f old new untouched.held untouched.used sound)
      (led_on_blocks f old new untouched.held untouched.used led)

  pub root_spares : LeadsNoMore (loaded old f.inode.tree) (loaded new i.tree) → AreStanding old f → SparesOthers old new f h
  root_spares no_more sound =
      spares_on old new f (LeadsAny (loaded_trees (under new) h)) untouched.held untouched.used
      (record_spares new f i n 0 u kept (with_root levels root)
      (λ k. subst (λ (m : Held). file_at (rooted new i) k ≡ cond (nat_eq k n) (option_map (with_root levels root) (file_at (standing (λ v. fin.get m v) f.inode.tree) n)) (file_at (standing (λ v. fin.get m v) f.inode.tree) k)) (sym untouched.held) (sets.files k))
      (subst (λ (m : Held). LeadsNoMore (loaded_over (λ v. fin.get m v) f.inode.tree) (loaded new i.tree)) (sym untouched.held) no_more)
      (sound_on f old new untouched.held untouched.used sound))

  pub root_stored : (known : Bool) → (IsAsSaid known (loaded old f.inode.tree) → IsAsSaid known (loaded new i.tree)) → LeadsNoMore (loaded old f.inode.tree) (loaded new i.tree) → AreStanding old f → IsStored known old f → IsStored known new h
  root_stored known well no_more sound was =
      record_stored new f i n 0 u kept (with_root levels root)
      (λ k. subst (λ (m : Held). file_at (rooted new i) k ≡ cond (nat_eq k n) (option_map (with_root levels root) (file_at (standing (λ v. fin.get m v) f.inode.tree) n)) (file_at (standing (λ v. fin.get m v) f.inode.tree) k)) (sym untouched.held) (sets.files k))
      known (well (was.trees None)) (λ _. rooted_indexes (rooted old f.inode) (rooted new i) n levels root sets was.inodes)
      (subst (λ (m : Held). LeadsNoMore (loaded_over (λ v. fin.get m v) f.inode.tree) (loaded new i.tree)) (sym untouched.held) no_more)
      (sound_on f old new untouched.held untouched.used sound)
      (stored_on_blocks known f old new untouched.held was)

  -- where the inode cell had changed, nothing of the table's trees changed
  pub root_leave : Leaves (loaded old f.inode.tree) (loaded new i.tree) → LeadsNoMore (loaded old f.inode.tree) (loaded new i.tree) → AreStanding old f → LeavesTrees (loaded_trees (under old) f) (loaded_trees (under new) h)
  root_leave inode no_more sound None = inode
  root_leave inode no_more sound (Some k) =
      rest_leave old new f h n (λ k differs. refl) other_files sound
      (loading_spares old new (LeadsTo (loaded old f.inode.tree)) (LeadsTo (loaded new i.tree)) untouched.held untouched.used (λ v led. record { level = led.level; place = led.place; leads = no_more led.level led.place v led.leads }))
      own_root k
    where
      other_files : (k : ℕ) → k ≢ n → file_at (rooted new i) k ≡ file_at (rooted old f.inode) k
      other_files k differs = sets.files k ∙ (let test : nat_eq k n ≡ false = grind (arith, nat_tests, differs) in ap (λ b. cond b (option_map (with_root levels root) (file_at (rooted old f.inode) n)) (file_at (rooted old f.inode) k)) test)

      moved : (o : Option InodeRecord) → option_map (λ r. file_loaded (under new) n r (Some u)) (option_map (with_root levels root) o) ≡ option_map (loaded_on (under new)) (option_map (λ r. file_loaded (under old) n r (Some u)) o)
      moved None = refl
      moved (Some r) = refl

      own_root : loaded_trees (under new) h (Some n) ≡ option_map (loaded_on (under new)) (loaded_trees (under old) f (Some n))
      own_root =
          let test : nat_eq n n ≡ true = grind (arith, nat_tests) in
          let at : file_at (rooted new i) n ≡ option_map (with_root levels root) (file_at (rooted old f.inode) n) = sets.files n ∙ ap (λ b. cond b (option_map (with_root levels root) (file_at (rooted old f.inode) n)) (file_at (rooted old f.inode) n)) test in
          subst (λ o. option_map (λ r. file_loaded (under new) n r o) (file_at (rooted new i) n) ≡ option_map (loaded_on (under new)) (option_map (λ r. file_loaded (under old) n r o) (file_at (rooted old f.inode) n))) (sym kept)
          (ap (option_map (λ r. file_loaded (under new) n r (Some u))) at ∙ moved (file_at (rooted old f.inode) n))

  pub root_laid : Leaves (loaded old f.inode.tree) (loaded new i.tree) → LeadsNoMore (loaded old f.inode.tree) (loaded new i.tree) → AreStanding old f → changed_of f.inode.tree 0 (n / records_each) ≡ true → AreLaid (under old) f → AreLaid (under new) h
  root_laid inode no_more sound marked laid = laid_by (under old) (under new) f h laid (λ k w q is at.
      let still = still_changed 0 (under old) (under new) f.inode.tree i.tree k q (only_leaves 0 (loaded old f.inode.tree) (loaded new i.tree) inode) at in
      ⊎_elim
      (λ (same : k ≡ n). inl (still (ap (λ m. changed_of f.inode.tree 0 (m / records_each)) same ∙ marked)))
      (λ (differs : k ≢ n).
      let test : nat_eq k n ≡ false = grind (arith, nat_tests, differs) in
      let file : file_at (rooted old f.inode) k ≡ Some q = sym (sets.files k ∙ ap (λ b. cond b (option_map (with_root levels root) (file_at (rooted old f.inode) n)) (file_at (rooted old f.inode) k)) test) ∙ at in
      inr (record {
        tree = w;
        was = is;
        file = file;
        leaves = leaves_of (loaded_trees (under old) f (Some k)) (loaded_trees (under new) h (Some k)) (loaded old w) (loaded new w) (kept_tree_is (under old) f k w q is file) (kept_tree_is (under new) h k w q is at) (root_leave inode no_more sound (Some k));
        cell = still;
      }))
      (cases_eq k n))

-- ---- it goes from memory

module _ (source : Shown) (f : Files) (m : maps.BTreeMap ℕ Tree) (n levels : ℕ) (root : Pointer) (u : Tree) (kept : tree_in f n ≡ Some u) (gone : (k : ℕ) → maps.get nat_cmp m k ≡ cond (nat_eq k n) None (maps.get nat_cmp f.trees k))
    (sound : AreStanding source f) (own : HasRoot (file_at (rooted source f.inode) n) levels root) (is : standing (under source) u ≡ stored (under source) n levels root) (reaches : ReachesOnce source.used (stored (under source) n levels root)) where
  abbrev g : Files
  g = with_trees f m

  others : (k : ℕ) → k ≢ n → tree_in g k ≡ tree_in f k
  others k differs = gone k ∙ (let test : nat_eq k n ≡ false = grind (arith, nat_tests, differs) in ap (λ b. cond b None (maps.get nat_cmp f.trees k)) test)

  none : tree_in g n ≡ None
  none = gone n ∙ (let test : nat_eq n n ≡ true = grind (arith, nat_tests) in ap (λ b. cond b None (maps.get nat_cmp f.trees n)) test)

  spelled : stored (under source) n own.file.levels own.file.root ≡ stored (under source) n levels root
  spelled = λ i. stored (under source) n (own.levels_is i) (own.root_is i)

  was_tree : loaded_trees (under source) f (Some n) ≡ Some (loaded_over (under source) u)
  was_tree = own_tree_is (under source) f n own.file own.is ∙ ap (λ o. Some (file_loaded (under source) n own.file o)) kept

  now_tree : loaded_trees (under source) g (Some n) ≡ Some (unread (stored (under source) n levels root))
  now_tree = own_tree_is (under source) g n own.file own.is ∙ ap (λ o. Some (file_loaded (under source) n own.file o)) none ∙ ap (λ t. Some (unread t)) spelled

  own_as : (r : InodeRecord) → file_at (rooted source f.inode) n ≡ Some r → AreTold (tree_of (table_in source f) n r) (tree_of (table_in source g) n r)
  own_as r at =
      let same : r ≡ own.file = some_same r own.file (sym at ∙ own.is) in
      let here : tree_of (table_in source g) n r ≡ stored (under source) n r.levels r.root = ap (λ o. tree_or (option_map (standing (under source)) o) (stored (under source) n r.levels r.root)) none in
      let was : tree_of (table_in source f) n r ≡ standing (under source) u = ap (λ o. tree_or (option_map (standing (under source)) o) (stored (under source) n r.levels r.root)) kept in
      let path : tree_of (table_in source g) n r ≡ tree_of (table_in source f) n r = here ∙ ap (λ (q : InodeRecord). stored (under source) n q.levels q.root) same ∙ spelled ∙ sym is ∙ sym was in
      subst (AreTold (tree_of (table_in source f) n r)) (sym path) (record { levels = refl; stamps = λ level place. refl; blocks = λ index. refl })

  pub gone_placed : IsPlacedTable (table_in source f) (table_in source g)
  gone_placed = placed_alike (table_in source f) (table_in source g) n (alike_itself (rooted source f.inode))
      (keeps_others (table_in source f) (table_in source g) n refl (λ k differs. ap (option_map (standing (under source))) (others k differs))) own_as

  pub gone_led : IsLed source f → IsLed source g
  gone_led = file_led source source f g n refl others sound
      (loading_spares source source (LeadsFrom (loaded_trees (under source) f) (Some n)) (LeadsFrom (loaded_trees (under source) g) (Some n)) refl refl
      (λ v led. subst (λ o. LeadsIn o v) (sym was_tree) (reread_leads (under source) u n levels root is v (subst (λ o. LeadsIn o v) now_tree led))))
      (loading_lets_go source (LeadsFrom (loaded_trees (under source) f) (Some n)) (LeadsFrom (loaded_trees (under source) g) (Some n))
      (λ v led. subst (λ o. LeadsIn o v) (sym now_tree) (unread_leads (under source) u (stored (under source) n levels root) is v (subst (λ o. LeadsIn o v) was_tree led))))
      (loading_uses source source (LeadsFrom (loaded_trees (under source) f) (Some n)) (LeadsFrom (loaded_trees (under source) g) (Some n)) refl)

  pub gone_spares : SparesOthers source source f g
  gone_spares = file_spares source source f g n refl others sound
      (loading_spares source source (LeadsFrom (loaded_trees (under source) f) (Some n)) (LeadsFrom (loaded_trees (under source) g) (Some n)) refl refl
      (λ v led. subst (λ o. LeadsIn o v) (sym was_tree) (reread_leads (under source) u n levels root is v (subst (λ o. LeadsIn o v) now_tree led))))

  pub gone_stored : (known : Bool) → IsStored known source f → IsStored known source g
  gone_stored known was = file_stored source source f g n refl others sound
      (loading_spares source source (LeadsFrom (loaded_trees (under source) f) (Some n)) (LeadsFrom (loaded_trees (under source) g) (Some n)) refl refl
      (λ v led. subst (λ o. LeadsIn o v) (sym was_tree) (reread_leads (under source) u n levels root is v (subst (λ o. LeadsIn o v) now_tree led))))
      known (subst (StoredIn known) (sym now_tree) (reread_stored known (under source) u n levels root is (subst (StoredIn known) was_tree (was.trees (Some n))))) was

  -- nothing of the table's trees changed, where no place of it differed from its block
  still_there : (o p : Option Tree) (k : ℕ) → p ≡ o → LeavesIn (option_map (λ r. file_loaded (under source) k r o) (file_at (rooted source f.inode) k)) (option_map (λ r. file_loaded (under source) k r p) (file_at (rooted source f.inode) k))
  still_there o p k same = subst (λ (q : Option Tree). LeavesIn (option_map (λ r. file_loaded (under source) k r o) (file_at (rooted source f.inode) k)) (option_map (λ r. file_loaded (under source) k r q) (file_at (rooted source f.inode) k))) (sym same) (leaves_in_itself (option_map (λ r. file_loaded (under source) k r o) (file_at (rooted source f.inode) k)))

  reread_leaves : ((level place : ℕ) → changed_of u level place ≡ false) → Leaves (loaded_over (under source) u) (unread (stored (under source) n levels root))
  reread_leaves done = record {
    levels = ap (λ (s : Rooted). s.levels) (sym is);
    root = ap (λ (s : Rooted). s.root) (sym is);
    places = λ level place. inr (record { pointer = ap (λ (s : Rooted). pointer_at s level place) (sym is); changed = sym (done level place) });
  }

  pub gone_leave : ((level place : ℕ) → changed_of u level place ≡ false) → LeavesTrees (loaded_trees (under source) f) (loaded_trees (under source) g)
  gone_leave done None = leaves_itself (loaded source f.inode.tree)
  gone_leave done (Some k) = ⊎_elim
      (λ (same : k ≡ n). subst (λ m. LeavesIn (loaded_trees (under source) f (Some m)) (loaded_trees (under source) g (Some m))) (sym same)
      (leaves_as (loaded_trees (under source) f (Some n)) (loaded_trees (under source) g (Some n)) (loaded_over (under source) u) (unread (stored (under source) n levels root)) was_tree now_tree (reread_leaves done)))
      (λ (differs : k ≢ n). still_there (tree_in f k) (tree_in g k) k (others k differs))
      (cases_eq k n)

  pub gone_laid : AreLaid (under source) f → AreLaid (under source) g
  gone_laid laid k w q at file = ⊎_elim
      (λ (same : k ≡ n). absurd (both_ways (is_some (tree_in g n)) (ap is_some none) (ap (λ j. is_some (tree_in g j)) (sym same) ∙ ap is_some at)))
      (λ (differs : k ≢ n). laid k w q (sym (others k differs) ∙ at) file)
      (cases_eq k n)

  pub gone_stands : AreStanding source g
  gone_stands = file_stands source source f g n refl others sound
      (loading_spares source source (LeadsFrom (loaded_trees (under source) f) (Some n)) (LeadsFrom (loaded_trees (under source) g) (Some n)) refl refl
      (λ v led. subst (λ o. LeadsIn o v) (sym was_tree) (reread_leads (under source) u n levels root is v (subst (λ o. LeadsIn o v) now_tree led))))
      (subst (StandsIn source.used) (sym now_tree) (unread_sound source.used (stored (under source) n levels root) (λ level place. refl) (λ index. refl) reaches))
      (λ w at. absurd (not_some (tree_in g n) w none at))
      (λ there. none_there (tree_in g n) none there)
    where
      not_some : (o : Option Tree) (w : Tree) → o ≡ None → o ≡ Some w → ⊥
      not_some o w none some = let wrong : false ≡ true = sym (ap is_some none) ∙ ap is_some some in cc

-- ---- one step after another

pub table_spares_then : (old mid new : Shown) (f g h : Files) → SparesOthers old mid f g → SparesOthers mid new g h → SparesOthers old new f h
table_spares_then old mid new f g h = spares_then old mid new (LeadsAny (loaded_trees (under old) f)) (LeadsAny (loaded_trees (under mid) g)) (LeadsAny (loaded_trees (under new) h))

pub cause_later : (old mid new : Shown) (e : BlockFault) → IsCalm old mid → HasCause mid new e → HasCause old new e
cause_later old mid new DiskFault calm h = (rw (← calm.faults) h.0, h.1 ∙ calm.damages)
cause_later old mid new (Damaged at want found) calm h = (h.0 ∙ calm.faults, (rw (← calm.damages) h.1.0, h.1.1))
cause_later old mid new Memory calm h = calm_then old mid new calm h

module _ (told : Type 0) (old mid new : Shown) (f g h : Files) where
  lay_fails : {S : Type 0} (x : S) (e : BlockFault) → LaysTrees told old mid f g (Ok x) → LayFails told mid new g e → LayFails told old new f e
  lay_fails x e first lay = record {
    held = lay.held;
    table = lay.table;
    placed = λ tells sound. placed_then (table_in old f) (table_in mid g) (table_in (holding old lay.held) lay.table) (first.placed tells sound) (lay.placed tells (first.stands tells sound));
    fails = fails_after told (table_in (holding old lay.held) lay.table) (holding old lay.held) (holding mid lay.held) new e (record { faults = first.counts.calm.faults; damages = first.counts.calm.damages; spent = first.counts.calm.spent }) refl lay.fails;
  }

  flush_fails : {S : Type 0} (x : S) (e : BlockFault) → LaysTrees told old mid f g (Ok x) → FlushFails told mid new g e → FlushFails told old new f e
  flush_fails x e first fails = ⊎_elim
      (λ cause. inl (cause_later old mid new e first.counts.calm cause))
      (λ lay. inr (lay_fails x e first lay))
      fails

  fits_then : FitsTable old f mid g → FitsTable mid g new h → FitsTable old f new h
  fits_then one two =
      let fewer_one = one.fewer in
      let fewer_two = two.fewer in
      let room_one = one.room in
      let room_two = two.room in record { fewer = omega (arith, fewer_one, fewer_two); room = omega (arith, room_one, room_two) }

  pub lays_then : {S T : Type 0} (x : S) (r : Result T BlockFault) → LaysTrees told old mid f g (Ok x) → LaysTrees told mid new g h r → LaysTrees told old new f h r
  lays_then x r first second = record {
    placed = λ tells sound. placed_then (table_in old f) (table_in mid g) (table_in new h) (first.placed tells sound) (second.placed tells (first.stands tells sound));
    stands = λ tells sound. second.stands tells (first.stands tells sound);
    led = λ tells sound led. second.led tells (first.stands tells sound) (first.led tells sound led);
    spares = λ tells sound. table_spares_then old mid new f g h (first.spares tells sound) (second.spares tells (first.stands tells sound));
    strays = λ tells sound. second.strays tells (first.stands tells sound) ∙ first.strays tells sound;
    fits = λ tells sound. fits_then (first.fits tells sound) (second.fits tells (first.stands tells sound));
    enough = λ tells sound room. let one = (first.fits tells sound).room in second.enough tells (first.stands tells sound) (omega (arith, one, room));
    counts = counts_then old mid new r first.counts.calm second.counts;
    cause = IfErr-weaker r _ _ (λ e fails. flush_fails x e first fails) second.cause;
    source = λ tells sound. IfErr-weaker r _ _ (λ e cause. cause_later old mid new e first.counts.calm cause) (second.source tells (first.stands tells sound));
  }

  pub stores_then : {S : Type 0} (x : S) (known : Bool) → LaysTrees told old mid f g (Ok x) → told → (AreStanding old f → AreLaid (under old) f → AreLaid (under mid) g) → KeepsStored known old mid f g → KeepsStored known mid new g h → KeepsStored known old new f h
  stores_then x known lays tells keeps_laid first second sound led laid was = second (lays.stands tells sound) (lays.led tells sound led) (keeps_laid sound laid) (first sound led laid was)

-- what happens to the places of the table's trees
pub places_then : {S : Type 0} (told : Type 0) (first_free next_free free : ℕ → Type 0) → ((v : ℕ) → first_free v → free v) → ((v : ℕ) → next_free v → free v) → (old mid new : Shown) (f g h : Files) (x : S)
    → LaysTrees told old mid f g (Ok x) → FlushesPlaces told first_free old mid f g → FlushesPlaces told next_free mid new g h → FlushesPlaces told free old new f h
places_then told first_free next_free free sooner later old mid new f g h x lays first second = record {
  anew = λ tells sound laid. places_trees_then first_free next_free free sooner later (loaded_trees (under old) f) (loaded_trees (under mid) g) (loaded_trees (under new) h) (first.anew tells sound laid) (second.anew tells (lays.stands tells sound) (first.laid tells sound laid));
  laid = λ tells sound laid. second.laid tells (lays.stands tells sound) (first.laid tells sound laid);
}

-- a call of the inode file that failed in the middle
pub laid_failed : (told : Type 0) (old mid new : Shown) (f h : Files) (e : BlockFault) → IsCalm old mid → (told → AreStanding old f → IsPlacedTable (table_in old f) (table_in mid h)) → FilesFail told (table_in mid h) mid new e → LayFails told old new f e
laid_failed told old mid new f h e calm placed fails = record {
  held = mid.held;
  table = h;
  placed = placed;
  fails = fails_after told (table_in mid h) (holding old mid.held) mid new e (record { faults = calm.faults; damages = calm.damages; spent = calm.spent }) refl fails;
}

pub lay_failed : (told : Type 0) (old mid new : Shown) (f h : Files) (e : BlockFault) → IsCalm old mid → (told → AreStanding old f → IsPlacedTable (table_in old f) (table_in mid h)) → FilesFail told (table_in mid h) mid new e → FlushFails told old new f e
lay_failed told old mid new f h e calm placed fails = inr (laid_failed told old mid new f h e calm placed fails)
