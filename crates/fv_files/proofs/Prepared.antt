-- A file that is held ready for a change, and the change after it.
use Rattle.std.proofs.Common.{◌≡◌, ◌≢◌, ◌≤◌, ◌+◌, ℕ, ◌/◌, Bool, true, false, cond, nat_eq, arith, inl, inr, List, Result, Ok, Err, refl, sym, ap, subst, ◌∙◌, ⊎_elim}
use Rattle.std.specs.Prelude.{Option, Some, None, is_some, IfOk, IsErrAnd}
use Rattle.std.specs.Option.{option_map}
use Rattle.std.specs.Ordering.{nat_cmp}
use Rattle.std.specs.BTreeMap as maps
use Rattle.std.specs.FinMap as fin
use Rattle.std.proofs.lemmas.Bool.{cases_eq}
use Rattle.std.proofs.lemmas.Bool.Decides.{nat_tests}
use Rattle.std.proofs.lemmas.Result.{on_err_weaker, IfErr-weaker}
use Rattle.fv_disk.specs.declared.fault.BlockFault.{BlockFault}
use Rattle.fv_codec.specs.declared.inode.InodeRecord.{InodeRecord}
use Rattle.fv_model.specs.Tables.{Table, put, cut, rm}
use Rattle.fv_laws.specs.WellFormed.{IsWellTable}
use Rattle.fv_tables.specs.Spelled.{Under, Rooted, stored, pointer_at}
use Rattle.fv_tables.specs.Told.{AreTold, records_each, file_at, Standing, tree_or, tree_of, file_in, table_told}
use Rattle.fv_tables.specs.Kept.{IsPlacedTable}
use Rattle.fv_tables.proofs.Tables.{files_told, placed_table}
use Rattle.fv_tree.specs.declared.kept.Tree.{Tree}
use Rattle.fv_tree.specs.Sources.{Shown, IsUntouched}
use Rattle.fv_tree.specs.Standing.{standing, under, Fails}
use Rattle.fv_tree.specs.Writing.{IsAlike}
use Rattle.fv_tree.specs.Flushing.{IsSound, ReachesOnce, loaded, loaded_over, Stands}
use Rattle.fv_tree.specs.Leading.{LeadsNoMore}
use Rattle.fv_tree.specs.Readying.{IsReady, KeepsReady}
use Rattle.fv_tree.specs.Beside.{unread, LeadsTo}
use Rattle.fv_tree.proofs.Beside.{loading_spares, unread_reaches}
use Rattle.fv_tree.proofs.Causes.{counts_then, fails_later, untouched_then}
use Rattle.fv_inode.specs.declared.info.Info.{Info}
use Rattle.fv_inode.specs.declared.file.InodeFile.{InodeFile}
use Rattle.fv_inode.specs.Files.{rooted}
use Rattle.fv_inode.specs.Failing.{OnlyLoads}
use Rattle.fv_inode.specs.Readying.{IsReadyFile}
use Rattle.fv_inode.proofs.Alike.{alike_itself}
use Rattle.fv_inode.proofs.Indexed.{alike_indexes}
use Rattle.fv_inode.proofs.Placed.{keeps_others}
use Rattle.fv_inode.proofs.Slots.{alike_files}
use Rattle.fv_files.specs.declared.files.Files.{Files}
use Rattle.fv_files.specs.Apart.{LeadsIn, LeadsFrom, StandsIn, StoredIn, IsAsSaid}
use Rattle.fv_files.specs.Tables.{table_in, tree_in, tree_known, file_loaded, loaded_trees, AreStanding, IsInfoOf, IsLed, IsStored, IsTold}
use Rattle.fv_files.specs.Failing.{FilesFail, Looks}
use Rattle.fv_laws.specs.Positions.{taken_by_rm}
use Rattle.fv_files.specs.Calls.{WritesCell, CutsFile, RemovesFile, TakesByCut, TakesByRemoval, Changes, Holds, IsUnread, KeepsLed, KeptFails, Prepares, SparesOthers}
use Rattle.fv_files.proofs.Beside.{loading_lets_go, loading_uses, reread_leads, unread_leads}
use Rattle.fv_files.proofs.Looked.{Held, counts_failed, counts_done, handed_on, looks_inode}
use Rattle.fv_tree.proofs.Brought.{some_same}
use Rattle.fv_files.proofs.Tables.{file_tree, kept_known, placed_alike, same_placed, stored_known}
use Rattle.fv_files.proofs.Kept.{own_tree_is, moved_tree, same_trees, file_led, file_stands, file_stored, inode_led, inode_spares, inode_stands, inode_stored, rest_leave}
use Rattle.fv_files.proofs.Stored.{loaded_said, unread_stored}
use Rattle.fv_files.proofs.Changed.{with_trees, with_inode, kept_tree_is}
use Rattle.fv_files.proofs.Steps.{same_room}
use Rattle.fv_tree.specs.Altering.{Leaves}
use Rattle.fv_files.specs.Altering.{AltersPlaces, AreLaid, LeavesIn, LeavesTrees, MatchesRecord}
use Rattle.fv_tree.proofs.Altered.{leaves_itself, only_leaves}
use Rattle.fv_tree.proofs.Stays.{unchanged}
use Rattle.fv_files.proofs.Altered.{laid_by, leaves_alters_trees, leaves_as, leaves_in_itself, leaves_of, leaves_trees_then, only_leaves_trees, still_changed}

-- ---- what is said of a table that is told as another is said of that one

module _ (x w y : Standing) (same : table_told w ≡ table_told x) where
  same_in : (n : ℕ) → file_in w n ≡ file_in x n
  same_in n = sym (files_told w n) ∙ ap (λ (t : Table). fin.get t.files n) same ∙ files_told x n

  pub writes_from : (n i s : ℕ) (block : List ℕ) → WritesCell w y n i s block → WritesCell x y n i s block
  writes_from n i s block is f there = is f (same_in n ∙ there) ∙ ap (λ (t : Table). put t n f i block s) same

  pub cuts_from : (n length s : ℕ) → CutsFile w y n length s → CutsFile x y n length s
  cuts_from n length s is now f well there = is now f (subst (IsWellTable now) (sym same) well) (same_in n ∙ there) ∙ ap (λ (t : Table). cut t n f length s) same

  pub removes_from : (n s : ℕ) → RemovesFile w y n s → RemovesFile x y n s
  removes_from n s is now well = is now (subst (IsWellTable now) (sym same) well) ∙ ap (λ (t : Table). rm t n s) same

  pub cut_counts_from : (n length s count : ℕ) → TakesByCut w n length s count → TakesByCut x n length s count
  cut_counts_from n length s count is now f le well there = is now f le (subst (IsWellTable now) (sym same) well) (same_in n ∙ there)

  pub removal_counts_from : (n s count : ℕ) → TakesByRemoval w n s count → TakesByRemoval x n s count
  removal_counts_from n s count is now f le well there = is now f le (subst (IsWellTable now) (sym same) well) (same_in n ∙ there) ∙ ap (λ (t : Table). taken_by_rm t n f) same

-- ---- a change after that

module _ (told well : Type 0) (old mid : Shown) (f g : Files) (info : Info) where
  -- it failed
  pub prepared_failed : {T : Type 0} (e : BlockFault) → Prepares told old mid f g info (Err e) → Changes {T = T} told well old mid f g (FilesFail told (table_in old f) old mid) (Err e)
  prepared_failed e first = record {
    failed = first.same;
    untouched = first.looks.untouched;
    stands = λ tells asked. first.stands tells;
    stored = λ tells asked sound known. first.stored tells sound known;
    strays = λ tells sound. first.looks.untouched.strays;
    room = same_room old mid first.looks.untouched;
    counts = counts_failed {S = Bool} old mid (Err e) e first.looks.counts;
    cause = first.looks.cause;
  }

  -- it is all that was done
  pub prepared_alone : {T : Type 0} (there : Bool) (x : T) → Prepares told old mid f g info (Ok there) → Changes told well old mid f g (FilesFail told (table_in old f) old mid) (Ok x)
  prepared_alone there x first = record {
    failed = λ tells. tt;
    untouched = tt;
    stands = λ tells asked. first.stands tells;
    stored = λ tells asked sound known. first.stored tells sound known;
    strays = λ tells sound. first.looks.untouched.strays;
    room = same_room old mid first.looks.untouched;
    counts = counts_done old mid there x first.looks.counts;
    cause = tt;
  }

  has_tree : (o : Option Tree) → is_some o ≡ true → (tree : Tree) × (o ≡ Some tree)
  has_tree None e = absurd cc
  has_tree (Some t) e = (t, refl)

  module _ (new : Shown) (h : Files) (there : Bool) (first : Prepares told old mid f g info (Ok there)) (yes_ : there ≡ true) (is : told → IsInfoOf (rooted old f.inode) info) where
    tree_failed : (e : BlockFault) → KeptFails told mid new g info.number e → FilesFail told (table_in old f) old new e
    tree_failed e fails =
        let kept = has_tree (tree_in g info.number) (first.kept yes_) in
        let known = first.tree kept.0 kept.1 in
        let here : Fails told (standing (under old) kept.0) mid new e = subst (λ (m : Held). Fails told (standing (λ v. fin.get m v) kept.0) mid new e) first.looks.untouched.held (fails kept.0 kept.1) in
        inr (record {
          tree = tree_known (table_in old f) info;
          of_file = λ tells. file_tree (table_in old f) info (is tells);
          fails = subst (λ t. Fails told t old new e) known (fails_later told (standing (under old) kept.0) old mid new e first.looks.counts.calm first.looks.untouched.held here);
        })

    pub prepared_then : {T : Type 0} (after : Type 0) → (told → well → after) → (r : Result T BlockFault) → Changes told after mid new g h (KeptFails told mid new g info.number) r → Changes told well old new f h (FilesFail told (table_in old f) old new) r
    prepared_then after so r second = record {
      failed = λ tells. on_err_weaker r (λ same. same ∙ first.same tells) (second.failed tells);
      untouched = on_err_weaker r (λ same. untouched_then old mid new first.looks.untouched same) second.untouched;
      stands = λ tells asked sound. second.stands tells (so tells asked) (first.stands tells sound);
      stored = λ tells asked sound known was. second.stored tells (so tells asked) (first.stands tells sound) known (first.stored tells sound known was);
      strays = λ tells sound. second.strays tells (first.stands tells sound) ∙ first.looks.untouched.strays;
      room = (let one = first.looks.untouched.room in let two = second.room in omega (arith, one, two));
      counts = counts_then old mid new r first.looks.counts.calm second.counts;
      cause = IfErr-weaker r _ _ (λ e fails. tree_failed e fails) second.cause;
    }

-- what happens to the places of the table's trees
module _ (told well : Type 0) (old mid : Shown) (f g : Files) (info : Info) (s : ℕ) where
  pub table_failed : {T : Type 0} (e : BlockFault) → Prepares told old mid f g info (Err e) → AltersPlaces {T = T} told well old mid f g s (Err e)
  table_failed e first = record {
    alters = λ tells asked sound. only_leaves_trees s (loaded_trees (under old) f) (loaded_trees (under mid) g) (first.leaves tells sound);
    leaves = first.leaves;
    laid = λ tells asked. first.laid tells;
  }

  pub table_alone : {T : Type 0} (there : Bool) (x : T) → Prepares told old mid f g info (Ok there) → AltersPlaces told well old mid f g s (Ok x)
  table_alone there x first = record {
    alters = λ tells asked sound. only_leaves_trees s (loaded_trees (under old) f) (loaded_trees (under mid) g) (first.leaves tells sound);
    leaves = λ tells. tt;
    laid = λ tells asked. first.laid tells;
  }

  pub table_then : {T : Type 0} (new : Shown) (h : Files) (there : Bool) → Prepares told old mid f g info (Ok there) → (after : Type 0) → (told → well → after) → (r : Result T BlockFault) → AltersPlaces told after mid new g h s r → AltersPlaces told well old new f h s r
  table_then new h there first after so r second = record {
    alters = λ tells asked sound. leaves_alters_trees s (loaded_trees (under old) f) (loaded_trees (under mid) g) (loaded_trees (under new) h) (first.leaves tells sound) (second.alters tells (so tells asked) (first.stands tells sound));
    leaves = λ tells. on_err_weaker r (λ is sound. leaves_trees_then (loaded_trees (under old) f) (loaded_trees (under mid) g) (loaded_trees (under new) h) (first.leaves tells sound) (is (first.stands tells sound))) (second.leaves tells);
    laid = λ tells asked sound laid. second.laid tells (so tells asked) (first.stands tells sound) (first.laid tells sound laid);
  }

-- ---- the same of the call that hands a fault on

module _ {T : Type 0} (told well : Type 0) (old mid : Shown) (f g : Files) (info : Info) (r : Result T BlockFault) (e : BlockFault) (is : IsErrAnd r (λ fault. fault ≡ e)) (first : Prepares told old mid f g info (Err e)) where
  pub changes_handed : Changes told well old mid f g (FilesFail told (table_in old f) old mid) r
  changes_handed = handed_on (Changes told well old mid f g (FilesFail told (table_in old f) old mid)) e r is (prepared_failed told well old mid f g info e first)

  pub table_handed : (s : ℕ) → AltersPlaces told well old mid f g s r
  table_handed s = handed_on (AltersPlaces told well old mid f g s) e r is (table_failed told well old mid f g info s e first)

pub prepared_led : (told : Type 0) (old mid : Shown) (f g : Files) (info : Info) (r : Result Bool BlockFault) → Prepares told old mid f g info r → told → KeepsLed old mid f g
prepared_led told old mid f g info r first tells = first.led tells

pub led_after : (told : Type 0) (old mid new : Shown) (f g h : Files) (info : Info) (r : Result Bool BlockFault) → Prepares told old mid f g info r → (told → KeepsLed mid new g h) → told → KeepsLed old new f h
led_after told old mid new f g h info r first second tells sound led = second tells (first.stands tells sound) (first.led tells sound led)

-- what the preparation adds to the pending blocks is within what a change may add
pub few_pending : (a b : ℕ) → a ≤ b + 4 → a ≤ b + 14
few_pending a b le = omega (arith, le)

-- ---- the inode file holds more in memory

module _ (old new : Shown) (f g : Files) (untouched : IsUntouched old new) (alike : IsAlike (rooted old f.inode) (rooted new g.inode)) (trees : (k : ℕ) → tree_in g k ≡ tree_in f k) where
  pub readied_placed : IsPlacedTable (table_in old f) (table_in new g)
  readied_placed = same_placed (table_in old f) (table_in new g) alike (λ j v. fin.get (untouched.held j) v) (λ k j. option_map (standing (λ v. fin.get (untouched.held j) v)) (trees k j))

  pub readied_told : IsTold old f new g
  readied_told = placed_table (table_in old f) (table_in new g) readied_placed

  pub readied_stands : g.inode.tree.owner ≡ f.inode.tree.owner → (Stands old f.inode.tree → Stands new g.inode.tree) → LeadsNoMore (loaded old f.inode.tree) (loaded new g.inode.tree) → KeepsReady f.inode.tree g.inode.tree → AreStanding old f → AreStanding new g
  readied_stands owner stands no_more keeps_ready sound =
      let files = alike_files (rooted old f.inode) (rooted new g.inode) alike in
      inode_stands old new f g 0 (λ k differs. trees k) (λ k differs. files k) sound
      (loading_spares old new (LeadsTo (loaded old f.inode.tree)) (LeadsTo (loaded new g.inode.tree)) untouched.held untouched.used (λ v led. record { level = led.level; place = led.place; leads = no_more led.level led.place v led.leads }))
      (same_trees (under old) (under new) f g 0 (trees 0) (files 0)) owner (stands (sound.trees None))
      (λ t at. let own = sound.owners 0 t (sym (trees 0) ∙ at) in (own.0, ap is_some (files 0) ∙ own.1))
      (λ k there. keeps_ready (k / records_each) (sound.ready k (ap is_some (sym (trees k)) ∙ there)))

  pub readied_spares : LeadsNoMore (loaded old f.inode.tree) (loaded new g.inode.tree) → AreStanding old f → SparesOthers old new f g
  readied_spares no_more sound =
      let files = alike_files (rooted old f.inode) (rooted new g.inode) alike in
      inode_spares old new f g 0 (λ k differs. trees k) (λ k differs. files k) sound
      (loading_spares old new (LeadsTo (loaded old f.inode.tree)) (LeadsTo (loaded new g.inode.tree)) untouched.held untouched.used (λ v led. record { level = led.level; place = led.place; leads = no_more led.level led.place v led.leads }))
      (same_trees (under old) (under new) f g 0 (trees 0) (files 0))

  pub readied_stored : (known : Bool) → (IsAsSaid known (loaded old f.inode.tree) → IsAsSaid known (loaded new g.inode.tree)) → LeadsNoMore (loaded old f.inode.tree) (loaded new g.inode.tree) → AreStanding old f → IsStored known old f → IsStored known new g
  readied_stored known well no_more sound was =
      let files = alike_files (rooted old f.inode) (rooted new g.inode) alike in
      inode_stored old new f g 0 (λ k differs. trees k) (λ k differs. files k) sound
      (loading_spares old new (LeadsTo (loaded old f.inode.tree)) (LeadsTo (loaded new g.inode.tree)) untouched.held untouched.used (λ v led. record { level = led.level; place = led.place; leads = no_more led.level led.place v led.leads }))
      (same_trees (under old) (under new) f g 0 (trees 0) (files 0)) known (well (was.trees None)) (alike_indexes (rooted old f.inode) (rooted new g.inode) alike) was

  pub readied_led : LeadsNoMore (loaded old f.inode.tree) (loaded new g.inode.tree) → LeadsNoMore (loaded new g.inode.tree) (loaded old f.inode.tree) → AreStanding old f → IsLed old f → IsLed new g
  readied_led no_more keeps sound =
      let files = alike_files (rooted old f.inode) (rooted new g.inode) alike in
      inode_led old new f g 0 (λ k differs. trees k) (λ k differs. files k) sound
      (loading_spares old new (LeadsTo (loaded old f.inode.tree)) (LeadsTo (loaded new g.inode.tree)) untouched.held untouched.used (λ v led. record { level = led.level; place = led.place; leads = no_more led.level led.place v led.leads }))
      (inl (moved_tree (under old) (under new) f g 0 (trees 0) (files 0)))
      (loading_lets_go new (LeadsTo (loaded old f.inode.tree)) (LeadsTo (loaded new g.inode.tree)) (λ v led. record { level = led.level; place = led.place; leads = keeps led.level led.place v led.leads }))
      (loading_uses old new (LeadsTo (loaded old f.inode.tree)) (LeadsTo (loaded new g.inode.tree)) untouched.used)

  -- nothing of the table's trees changed
  pub readied_leave : Leaves (loaded old f.inode.tree) (loaded new g.inode.tree) → LeadsNoMore (loaded old f.inode.tree) (loaded new g.inode.tree) → AreStanding old f → LeavesTrees (loaded_trees (under old) f) (loaded_trees (under new) g)
  readied_leave inode no_more sound None = inode
  readied_leave inode no_more sound (Some k) =
      let files = alike_files (rooted old f.inode) (rooted new g.inode) alike in
      rest_leave old new f g 0 (λ k differs. trees k) (λ k differs. files k) sound
      (loading_spares old new (LeadsTo (loaded old f.inode.tree)) (LeadsTo (loaded new g.inode.tree)) untouched.held untouched.used (λ v led. record { level = led.level; place = led.place; leads = no_more led.level led.place v led.leads }))
      (moved_tree (under old) (under new) f g 0 (trees 0) (files 0)) k

  pub readied_laid : Leaves (loaded old f.inode.tree) (loaded new g.inode.tree) → LeadsNoMore (loaded old f.inode.tree) (loaded new g.inode.tree) → AreStanding old f → AreLaid (under old) f → AreLaid (under new) g
  readied_laid inode no_more sound laid = laid_by (under old) (under new) f g laid (λ k u q is at.
      let was = sym (trees k) ∙ is in
      let file = sym (alike_files (rooted old f.inode) (rooted new g.inode) alike k) ∙ at in
      inr (record {
        tree = u;
        was = was;
        file = file;
        leaves = leaves_of (loaded_trees (under old) f (Some k)) (loaded_trees (under new) g (Some k)) (loaded old u) (loaded new u) (kept_tree_is (under old) f k u q was file) (kept_tree_is (under new) g k u q is at) (readied_leave inode no_more sound (Some k));
        cell = still_changed 0 (under old) (under new) f.inode.tree g.inode.tree k q (only_leaves 0 (loaded old f.inode.tree) (loaded new g.inode.tree) inode) at;
      }))

-- ---- the tree of a file comes into memory

module _ (source : Shown) (f : Files) (m : maps.BTreeMap ℕ Tree) (info : Info) (t : Tree) (is : IsInfoOf (rooted source f.inode) info) (none : tree_in f info.number ≡ None) (stored_is : IsUnread t info) (now : maps.get nat_cmp m info.number ≡ Some t)
    (others : (k : ℕ) → k ≢ info.number → maps.get nat_cmp m k ≡ maps.get nat_cmp f.trees k) where
  abbrev g : Files
  g = with_trees f m

  abbrev n : ℕ
  n = info.number

  own_stored : (blocks : Under) → standing blocks t ≡ stored blocks n is.file.levels is.file.root
  own_stored blocks = stored_is.is blocks ∙ ap (λ (v : Info). stored blocks n v.levels v.root) is.told

  was_tree : loaded_trees (under source) f (Some n) ≡ Some (unread (stored (under source) n is.file.levels is.file.root))
  was_tree = own_tree_is (under source) f n is.file is.there ∙ ap (λ o. Some (file_loaded (under source) n is.file o)) none

  now_tree : loaded_trees (under source) g (Some n) ≡ Some (loaded_over (under source) t)
  now_tree = own_tree_is (under source) g n is.file is.there ∙ ap (λ o. Some (file_loaded (under source) n is.file o)) now

  own_told : (r : InodeRecord) → file_at (rooted source f.inode) n ≡ Some r → AreTold (tree_of (table_in source f) n r) (tree_of (table_in source g) n r)
  own_told r at =
      let same : r ≡ is.file = some_same r is.file (sym at ∙ is.there) in
      let here : tree_of (table_in source g) n r ≡ standing (under source) t = ap (λ o. tree_or (option_map (standing (under source)) o) (stored (under source) n r.levels r.root)) now in
      let was : tree_of (table_in source f) n r ≡ stored (under source) n r.levels r.root = ap (λ o. tree_or (option_map (standing (under source)) o) (stored (under source) n r.levels r.root)) none in
      let path : tree_of (table_in source g) n r ≡ tree_of (table_in source f) n r = here ∙ own_stored (under source) ∙ ap (λ (q : InodeRecord). stored (under source) n q.levels q.root) (sym same) ∙ sym was in
      subst (AreTold (tree_of (table_in source f) n r)) (sym path) (record { levels = refl; stamps = λ level place. refl; blocks = λ index. refl })

  pub held_told : IsTold source f source g
  held_told = placed_table (table_in source f) (table_in source g) (placed_alike (table_in source f) (table_in source g) n (alike_itself (rooted source f.inode))
      (keeps_others (table_in source f) (table_in source g) n refl (λ k differs. ap (option_map (standing (under source))) (others k differs))) own_told)

  pub held_stands : IsReady f.inode.tree (info.number / records_each) → AreStanding source f → AreStanding source g
  held_stands ready sound =
      let was : IsSound source.used (unread (stored (under source) n is.file.levels is.file.root)) = subst (StandsIn source.used) was_tree (sound.trees (Some n)) in
      let reached = unread_reaches source.used (stored (under source) n is.file.levels is.file.root) was in
      let stands : IsSound source.used (loaded_over (under source) t) = stored_is.stands (under source) source.used (subst (λ (v : Info). ReachesOnce source.used (stored (under source) n v.levels v.root)) (sym is.told) reached) in
      file_stands source source f g n refl others sound
      (loading_spares source source (LeadsFrom (loaded_trees (under source) f) (Some n)) (LeadsFrom (loaded_trees (under source) g) (Some n)) refl refl
      (λ v led. subst (λ o. LeadsIn o v) (sym was_tree) (unread_leads (under source) t (stored (under source) n is.file.levels is.file.root) (own_stored (under source)) v (subst (λ o. LeadsIn o v) now_tree led))))
      (subst (StandsIn source.used) (sym now_tree) stands)
      (λ u at. (ap (λ (x : Tree). x.owner) (some_same u t (sym at ∙ now)) ∙ ap (λ (s : Rooted). s.owner) (stored_is.is (under source)), ap is_some is.there))
      (λ _. ready)

  pub held_stored : (known : Bool) → AreStanding source f → IsStored known source f → IsStored known source g
  held_stored known sound well =
      let was : IsAsSaid known (unread (stored (under source) n is.file.levels is.file.root)) = subst (StoredIn known) was_tree (well.trees (Some n)) in
      file_stored source source f g n refl others sound
      (loading_spares source source (LeadsFrom (loaded_trees (under source) f) (Some n)) (LeadsFrom (loaded_trees (under source) g) (Some n)) refl refl
      (λ v led. subst (λ o. LeadsIn o v) (sym was_tree) (unread_leads (under source) t (stored (under source) n is.file.levels is.file.root) (own_stored (under source)) v (subst (λ o. LeadsIn o v) now_tree led))))
      known (subst (StoredIn known) (sym now_tree) (unread_stored known (under source) t (stored (under source) n is.file.levels is.file.root) (own_stored (under source)) was)) well

  pub held_led : AreStanding source f → IsLed source f → IsLed source g
  held_led sound =
      file_led source source f g n refl others sound
      (loading_spares source source (LeadsFrom (loaded_trees (under source) f) (Some n)) (LeadsFrom (loaded_trees (under source) g) (Some n)) refl refl
      (λ v led. subst (λ o. LeadsIn o v) (sym was_tree) (unread_leads (under source) t (stored (under source) n is.file.levels is.file.root) (own_stored (under source)) v (subst (λ o. LeadsIn o v) now_tree led))))
      (loading_lets_go source (LeadsFrom (loaded_trees (under source) f) (Some n)) (LeadsFrom (loaded_trees (under source) g) (Some n))
      (λ v led. subst (λ o. LeadsIn o v) (sym now_tree) (reread_leads (under source) t n is.file.levels is.file.root (own_stored (under source)) v (subst (λ o. LeadsIn o v) was_tree led))))
      (loading_uses source source (LeadsFrom (loaded_trees (under source) f) (Some n)) (LeadsFrom (loaded_trees (under source) g) (Some n)) refl)

  -- nothing of the table's trees changed
  still_there : (o p : Option Tree) (k : ℕ) → p ≡ o → LeavesIn (option_map (λ r. file_loaded (under source) k r o) (file_at (rooted source f.inode) k)) (option_map (λ r. file_loaded (under source) k r p) (file_at (rooted source f.inode) k))
  still_there o p k same = subst (λ (q : Option Tree). LeavesIn (option_map (λ r. file_loaded (under source) k r o) (file_at (rooted source f.inode) k)) (option_map (λ r. file_loaded (under source) k r q) (file_at (rooted source f.inode) k))) (sym same) (leaves_in_itself (option_map (λ r. file_loaded (under source) k r o) (file_at (rooted source f.inode) k)))

  unread_leaves : Leaves (unread (stored (under source) n is.file.levels is.file.root)) (loaded_over (under source) t)
  unread_leaves = record {
    levels = ap (λ (s : Rooted). s.levels) (own_stored (under source));
    root = ap (λ (s : Rooted). s.root) (own_stored (under source));
    places = λ level place. inr (record { pointer = ap (λ (s : Rooted). pointer_at s level place) (own_stored (under source)); changed = unchanged t stored_is.pending level place });
  }

  pub held_leave : LeavesTrees (loaded_trees (under source) f) (loaded_trees (under source) g)
  held_leave None = leaves_itself (loaded source f.inode.tree)
  held_leave (Some k) = ⊎_elim
      (λ (same : k ≡ n). subst (λ m. LeavesIn (loaded_trees (under source) f (Some m)) (loaded_trees (under source) g (Some m))) (sym same)
      (leaves_as (loaded_trees (under source) f (Some n)) (loaded_trees (under source) g (Some n)) (unread (stored (under source) n is.file.levels is.file.root)) (loaded_over (under source) t) was_tree now_tree unread_leaves))
      (λ (differs : k ≢ n). still_there (tree_in f k) (tree_in g k) k (others k differs))
      (cases_eq k n)

  pub held_laid : AreLaid (under source) f → AreLaid (under source) g
  held_laid laid k u q at file = ⊎_elim
      (λ (same : k ≡ n).
      let it : t ≡ u = some_same t u (sym now ∙ ap (tree_in g) (sym same) ∙ at) in
      let own : is.file ≡ q = some_same is.file q (sym is.there ∙ ap (file_at (rooted source f.inode)) (sym same) ∙ file) in
      inr (subst (λ (w : Tree). MatchesRecord (loaded_over (under source) w) q) it (subst (MatchesRecord (loaded_over (under source) t)) own (record {
        levels = ap (λ (s : Rooted). s.levels) (own_stored (under source));
        root = ap (λ (s : Rooted). s.root) (own_stored (under source));
        still = λ level place. inr (unchanged t stored_is.pending level place);
      }))))
      (λ (differs : k ≢ n). laid k u q (sym (others k differs) ∙ at) file)
      (cases_eq k n)

-- ---- holding a tree

holds_found : (m : maps.BTreeMap ℕ Tree) (info : Info) (o : Option Tree) → maps.get nat_cmp m info.number ≡ o → is_some o ≡ true → Holds m m info
holds_found m info None at there = absurd (grind (arith, there))
holds_found m info (Some t) at there = record { tree = t; now = at; others = λ k differs. refl; from = inl at }

pub holds_already : (m : maps.BTreeMap ℕ Tree) (info : Info) → is_some (maps.get nat_cmp m info.number) ≡ true → Holds m m info
holds_already m info there = holds_found m info (maps.get nat_cmp m info.number) refl there

none_is : (o : Option Tree) → is_some o ≡ false → o ≡ None
none_is None e = refl
none_is (Some t) e = absurd (grind (arith, e))

pub holds_new : (m n : maps.BTreeMap ℕ Tree) (info : Info) (t : Tree) → is_some (maps.get nat_cmp m info.number) ≡ false → IsUnread t info
    → ((k : ℕ) → maps.get nat_cmp n k ≡ cond (nat_eq k info.number) (Some t) (maps.get nat_cmp m k)) → Holds m n info
holds_new m n info t none unread inserted = record {
  tree = t;
  now = inserted info.number ∙ (let test : nat_eq info.number info.number ≡ true = grind (arith, nat_tests) in ap (λ b. cond b (Some t) (maps.get nat_cmp m info.number)) test);
  others = λ k differs. inserted k ∙ (let test : nat_eq k info.number ≡ false = grind (arith, nat_tests, differs) in ap (λ b. cond b (Some t) (maps.get nat_cmp m k)) test);
  from = inr (none_is (maps.get nat_cmp m info.number) none, unread);
}

-- ---- a file is held ready

-- The inode file holds it ready, or a call of it failed.
module _ {T : Type 0} (told : Type 0) (old new : Shown) (f : Files) (i : InodeFile) (m : maps.BTreeMap ℕ Tree) (info : Info) (r : Result T BlockFault) (loads : OnlyLoads told old new f.inode.tree i.tree r)
    (alike : told → IsAlike (rooted old f.inode) (rooted new i)) (leaves : told → Leaves (loaded old f.inode.tree) (loaded new i.tree)) (trees : (k : ℕ) → maps.get nat_cmp m k ≡ maps.get nat_cmp f.trees k) (is : told → IsInfoOf (rooted old f.inode) info) where
  abbrev half : Files
  half = record { inode = i; trees = m; alloc = f.alloc }

  pub half_same : told → IsTold old f new half
  half_same tells = readied_told old new f half loads.looks.untouched (alike tells) trees

  pub half_stands : told → AreStanding old f → AreStanding new half
  half_stands tells = readied_stands old new f half loads.looks.untouched (alike tells) trees loads.owner (loads.stands tells) (loads.leads tells) loads.keeps_ready

  pub half_stored : told → AreStanding old f → (known : Bool) → IsStored known old f → IsStored known new half
  half_stored tells sound known =
      let stood = sound.trees None in
      readied_stored old new f half loads.looks.untouched (alike tells) trees known
      (loaded_said known old new f.inode.tree i.tree loads.owner stood (loads.stands tells stood) loads.looks.untouched.held (loads.stored_well tells) (loads.tells tells) (leaves tells)) (loads.leads tells) sound

  pub half_led : told → KeepsLed old new f half
  half_led tells sound led = readied_led old new f half loads.looks.untouched (alike tells) trees (loads.leads tells) (loads.keeps tells) sound led

  pub half_leave : told → AreStanding old f → LeavesTrees (loaded_trees (under old) f) (loaded_trees (under new) half)
  half_leave tells = readied_leave old new f half loads.looks.untouched (alike tells) trees (leaves tells) (loads.leads tells)

  pub half_laid : told → AreStanding old f → AreLaid (under old) f → AreLaid (under new) half
  half_laid tells = readied_laid old new f half loads.looks.untouched (alike tells) trees (leaves tells) (loads.leads tells)

  pub half_known : told → IsInfoOf (rooted new i) info
  half_known tells = let known = is tells in record { file = known.file; there = alike_files (rooted old f.inode) (rooted new i) (alike tells) info.number ∙ known.there; told = known.told }

  pub half_tree : (t : Tree) → tree_in half info.number ≡ Some t → standing (under old) t ≡ tree_known (table_in old f) info
  half_tree t at = sym (kept_known (under old) f info t (sym (trees info.number) ∙ at))

  -- as it was where no more is done
  pub half_prepares : (q : Result Bool BlockFault) → Looks told (table_in old f) old new q → (told → IfOk q (λ there. there ≡ true)) → IfOk q (λ there. there ≡ true → IsReadyFile i info.number) → IfOk q (λ there. there ≡ true → is_some (maps.get nat_cmp m info.number) ≡ true)
      → Prepares told old new f half info q
  half_prepares q looks found ready kept = record {
    same = half_same;
    alike = alike;
    stands = half_stands;
    stored = half_stored;
    led = half_led;
    leaves = half_leave;
    laid = half_laid;
    looks = looks;
    found = found;
    known = half_known;
    ready = ready;
    kept = kept;
    tree = half_tree;
  }

-- and the tree is held
module _ (told : Type 0) (old new : Shown) (f : Files) (i : InodeFile) (m : maps.BTreeMap ℕ Tree) (info : Info) (loads : OnlyLoads told old new f.inode.tree i.tree (Ok true)) (alike : told → IsAlike (rooted old f.inode) (rooted new i)) (leaves : told → Leaves (loaded old f.inode.tree) (loaded new i.tree))
    (is : told → IsInfoOf (rooted old f.inode) info) (ready : IsReadyFile i info.number) (holds : Holds f.trees m info) where
  abbrev whole : Files
  whole = record { inode = i; trees = m; alloc = f.alloc }

  done : Looks {T = Bool} told (table_in old f) old new (Ok true)
  done = looks_inode told (table_in old f) old new (Ok true) loads.looks

  kept_so : is_some (maps.get nat_cmp m info.number) ≡ true
  kept_so = ap is_some holds.now

  pub held_prepares : Prepares told old new f whole info (Ok true)
  held_prepares = ⊎_elim already first holds.from
    where
      already : maps.get nat_cmp f.trees info.number ≡ Some holds.tree → Prepares told old new f whole info (Ok true)
      already was = half_prepares told old new f i m info (Ok true) loads alike leaves same is (Ok true) done (λ tells. refl) (λ yes_. ready) (λ yes_. kept_so)
        where
          same : (k : ℕ) → maps.get nat_cmp m k ≡ maps.get nat_cmp f.trees k
          same k = ⊎_elim (λ (here : k ≡ info.number). ap (maps.get nat_cmp m) here ∙ holds.now ∙ sym was ∙ ap (maps.get nat_cmp f.trees) (sym here)) (λ (differs : k ≢ info.number). holds.others k differs) (cases_eq k info.number)

      first : (maps.get nat_cmp f.trees info.number ≡ None) × IsUnread holds.tree info → Prepares told old new f whole info (Ok true)
      first new_one =
          let half_way = with_inode f i in
          let known = half_known told old new f i f.trees info (Ok true) loads alike leaves (λ k. refl) is in record {
            same = λ tells. held_told new half_way m info holds.tree (known tells) new_one.0 new_one.1 holds.now holds.others ∙ half_same told old new f i f.trees info (Ok true) loads alike leaves (λ k. refl) is tells;
            alike = alike;
            stands = λ tells sound. held_stands new half_way m info holds.tree (known tells) new_one.0 new_one.1 holds.now holds.others ready.way (half_stands told old new f i f.trees info (Ok true) loads alike leaves (λ k. refl) is tells sound);
            stored = λ tells sound all was. held_stored new half_way m info holds.tree (known tells) new_one.0 new_one.1 holds.now holds.others all (half_stands told old new f i f.trees info (Ok true) loads alike leaves (λ k. refl) is tells sound)
                (half_stored told old new f i f.trees info (Ok true) loads alike leaves (λ k. refl) is tells sound all was);
            led = λ tells sound led. held_led new half_way m info holds.tree (known tells) new_one.0 new_one.1 holds.now holds.others (half_stands told old new f i f.trees info (Ok true) loads alike leaves (λ k. refl) is tells sound)
                (half_led told old new f i f.trees info (Ok true) loads alike leaves (λ k. refl) is tells sound led);
            leaves = λ tells sound. leaves_trees_then (loaded_trees (under old) f) (loaded_trees (under new) half_way) (loaded_trees (under new) whole) (half_leave told old new f i f.trees info (Ok true) loads alike leaves (λ k. refl) is tells sound)
                (held_leave new half_way m info holds.tree (known tells) new_one.0 new_one.1 holds.now holds.others);
            laid = λ tells sound laid. held_laid new half_way m info holds.tree (known tells) new_one.0 new_one.1 holds.now holds.others (half_laid told old new f i f.trees info (Ok true) loads alike leaves (λ k. refl) is tells sound laid);
            looks = done;
            found = λ tells. refl;
            known = known;
            ready = λ yes_. ready;
            kept = λ yes_. kept_so;
            tree = λ t at. ap (standing (under old)) (some_same t holds.tree (sym at ∙ holds.now)) ∙ new_one.1.is (under old) ∙ sym (stored_known (under old) f info new_one.0);
          }
