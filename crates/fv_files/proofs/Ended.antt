-- The end of a table's flush: the inode file is placed, and nothing is in memory.
use Rattle.std.proofs.Common.{◌≡◌, ℕ, Bool, true, false, inl, Ok, Err, Result, refl, sym, ap, subst, ◌∙◌, arith}
use Rattle.std.specs.Prelude.{Option, Some, None, is_some, IfOk, IfErr, OnOk}
use Rattle.std.specs.Option.{option_map}
use Rattle.std.specs.BTreeMap as maps
use Rattle.std.proofs.lemmas.Result.{IfErr-weaker, on_ok_weaker}
use Rattle.fv_disk.specs.declared.fault.BlockFault.{BlockFault}
use Rattle.fv_codec.specs.declared.pointer.Pointer.{Pointer}
use Rattle.fv_codec.specs.Blocks.{IsPointer, greatest_word}
use Rattle.fv_tables.specs.Spelled.{stored}
use Rattle.fv_tables.specs.Told.{file_at, standing_at}
use Rattle.fv_tables.specs.Kept.{IsPlacedTable}
use Rattle.fv_tree.specs.Sources.{Shown, Counts, HasCause}
use Rattle.fv_tree.specs.Standing.{standing, under}
use Rattle.fv_tree.specs.Costs.{pending, Fits, IsEnough}
use Rattle.fv_tree.specs.Flushing.{Flushes, IsLeft, ReachesOnce, Stands, loaded}
use Rattle.fv_tree.specs.Stored.{HasPlaces, IsStoredWell, KeepsPlaces, TellsPlaces}
use Rattle.fv_tree.specs.Unknown.{KnowsRoots}
use Rattle.fv_tree.specs.Beside.{unread}
use Rattle.fv_tree.proofs.Beside.{unread_reaches}
use Rattle.fv_tree.proofs.Unknown.{keeps_unknown}
use Rattle.fv_inode.specs.declared.file.InodeFile.{InodeFile}
use Rattle.fv_inode.specs.Files.{rooted, NamesIndexes}
use Rattle.fv_inode.proofs.Indexed.{alike_indexes}
use Rattle.fv_inode.proofs.Slots.{alike_files}
use Rattle.fv_files.specs.declared.files.Files.{Files}
use Rattle.fv_files.specs.Apart.{LeadsIn, LeadsFrom, StandsIn, IsAsSaid, StoredIn, AreLed, stored_trees}
use Rattle.fv_files.specs.Tables.{table_in, tree_in, file_loaded, loaded_trees, AreReached, AreStanding, IsLed, IsStored, IsStoredUnder}
use Rattle.fv_files.specs.Calls.{KeepsStored, StoresUnder, SparesOthers}
use Rattle.fv_files.specs.Flushing.{FlushesTable, LaysTrees}
use Rattle.fv_files.specs.Pending.{FitsTable}
use Rattle.fv_files.proofs.Tables.{placed_alike}
use Rattle.fv_files.proofs.Stored.{places_of, reread_stored}
use Rattle.fv_files.proofs.Roots.{table_roots}
use Rattle.fv_files.proofs.Kept.{moved_tree, same_trees, records_told, inode_led, inode_spares, inode_stands, inode_stored, rest_leave}
use Rattle.fv_files.proofs.Changed.{with_inode}
use Rattle.fv_files.proofs.Beside.{reread_leads, unread_leads}
use Rattle.fv_files.proofs.Laid.{flush_goes, flush_uses, flushed_spares, lays_then, stores_then}
use Rattle.fv_files.proofs.Sums.{no_cost}
use Rattle.fv_files.proofs.Whole.{no_trees, none_there}
use Rattle.fv_tree.specs.Altering.{PlacesAnew}
use Rattle.fv_files.specs.Altering.{AreLaid, PlacesIn, FlushesPlaces}
use Rattle.fv_files.proofs.Altered.{leaves_places, none_laid}

-- what the flush of an inode file answers and does
pub record Places (told : Type 0) (old new : Shown) (i j : InodeFile) (r : Result Pointer BlockFault) : Type 0 where
  pub flushes : told → Stands old i.tree → Flushes false (loaded old i.tree) old.used (loaded new j.tree) new.used
  pub stored_well : told → Stands old i.tree → IsStoredWell (loaded old i.tree) → IsStoredWell (loaded new j.tree)
  pub tells : told → Stands old i.tree → HasPlaces new.used → KnowsRoots (loaded old i.tree) → TellsPlaces (loaded old i.tree) → TellsPlaces (loaded new j.tree)
  pub strays : told → Stands old i.tree → new.strays ≡ old.strays
  pub left : IsLeft i.tree j.tree
  pub fits : told → Stands old i.tree → Fits old i.tree new j.tree
  pub enough : told → Stands old i.tree → IsEnough (pending i.tree) old.room r
  pub nothing : OnOk r (pending j.tree ≡ 0)
  pub root : IfOk r (λ root. root ≡ j.tree.root)
  pub pointer : IfOk r IsPointer
  pub spelled : IfOk r (λ root. rooted new j ≡ stored (under new) i.tree.owner i.tree.levels root)
  pub reaches : told → IfOk r (λ root. Stands old i.tree → ReachesOnce new.used (stored (under new) i.tree.owner i.tree.levels root))
  pub counts : Counts old new r
  pub cause : IfErr r (HasCause old new)

module _ (told : Type 0) (old new : Shown) (f : Files) (i : InodeFile) (r : Result Pointer BlockFault) (is : Places told old new f.inode i r) (empty : maps.btree_map_len f.trees ≡ 0) where
  abbrev h : Files
  h = with_inode f i

  module _ (tells : told) (sound : AreStanding old f) where
    files : (k : ℕ) → file_at (rooted new i) k ≡ file_at (rooted old f.inode) k
    files = alike_files (rooted old f.inode) (rooted new i) (is.flushes tells (sound.trees None)).alike

    last_placed : IsPlacedTable (table_in old f) (table_in new h)
    last_placed = placed_alike (table_in old f) (table_in new h) 0 (is.flushes tells (sound.trees None)).alike
        (records_told old new f h 0 (λ k differs. refl) (λ k differs. files k) sound (flushed_spares old new f.inode.tree i.tree (sound.trees None) (is.flushes tells (sound.trees None))))
        (records_told old new f h 1 (λ k differs. refl) (λ k differs. files k) sound (flushed_spares old new f.inode.tree i.tree (sound.trees None) (is.flushes tells (sound.trees None))) 0 (λ e. cc))

    pub last_led : IsLed old f → IsLed new h
    last_led = inode_led old new f h 0 (λ k differs. refl) (λ k differs. files k) sound (flushed_spares old new f.inode.tree i.tree (sound.trees None) (is.flushes tells (sound.trees None)))
        (inl (moved_tree (under old) (under new) f h 0 refl (files 0)))
        (flush_goes old new f.inode.tree i.tree (sound.trees None) (is.flushes tells (sound.trees None)))
        (flush_uses old new f.inode.tree i.tree (is.flushes tells (sound.trees None)))

    last_spares : SparesOthers old new f h
    last_spares = inode_spares old new f h 0 (λ k differs. refl) (λ k differs. files k) sound (flushed_spares old new f.inode.tree i.tree (sound.trees None) (is.flushes tells (sound.trees None)))
        (same_trees (under old) (under new) f h 0 refl (files 0))

    -- what the inode file leads to is as its pointers say
    last_said : (known : Bool) → (known ≡ true → KeepsPlaces old new) → IsLed old f → IsStored known old f → IsAsSaid known (loaded new i.tree)
    last_said known places led was =
        let stands = sound.trees None in
        let own : IsAsSaid known (loaded old f.inode.tree) = was.trees None in record {
          positions = is.stored_well tells stands own.positions;
          leads = keeps_unknown (loaded old f.inode.tree) (loaded new i.tree) old.used new.used (is.flushes tells stands) stands own.leads;
          places = λ all.
              let each : IsStored true old f = subst (λ b. IsStored b old f) all was in
              is.tells tells stands (places all (places_of old f sound led each)) (table_roots old f (no_trees f empty) each) (own.places all);
        }

    pub last_stored : (known : Bool) → (known ≡ true → KeepsPlaces old new) → IsLed old f → IsStored known old f → IsStored known new h
    last_stored known places led was = inode_stored old new f h 0 (λ k differs. refl) (λ k differs. files k) sound (flushed_spares old new f.inode.tree i.tree (sound.trees None) (is.flushes tells (sound.trees None)))
        (same_trees (under old) (under new) f h 0 refl (files 0))
        known (last_said known places led was)
        (alike_indexes (rooted old f.inode) (rooted new i) (is.flushes tells (sound.trees None)).alike) was

    last_fits : FitsTable old f new h
    last_fits =
        let fits = is.fits tells (sound.trees None) in
        let fewer = fits.fewer in
        let room = fits.room in record { fewer = omega (arith, fewer); room = omega (arith, room) }

    pub last_stands : AreStanding new h
    last_stands = inode_stands old new f h 0 (λ k differs. refl) (λ k differs. files k) sound (flushed_spares old new f.inode.tree i.tree (sound.trees None) (is.flushes tells (sound.trees None)))
        (same_trees (under old) (under new) f h 0 refl (files 0)) is.left.owner (is.flushes tells (sound.trees None)).sound
        (λ t at. let own = sound.owners 0 t at in (own.0, ap is_some (files 0) ∙ own.1))
        (λ k there. none_there (tree_in f k) (no_trees f empty k) there)

  pub last_lays : LaysTrees told old new f h r
  last_lays = record {
    placed = last_placed;
    stands = last_stands;
    led = last_led;
    spares = last_spares;
    strays = λ tells sound. is.strays tells (sound.trees None);
    fits = last_fits;
    enough = λ tells sound room. is.enough tells (sound.trees None) (omega (arith, room));
    counts = is.counts;
    cause = IfErr-weaker r _ _ (λ e cause. inl cause) is.cause;
    source = λ tells sound. is.cause;
  }

  -- what it does to the places of the table's trees
  pub last_places : (free : ℕ → Type 0) → (told → Stands old f.inode.tree → PlacesAnew (loaded old f.inode.tree) free (loaded new i.tree)) → FlushesPlaces told free old new f h
  last_places free anew = record {
    anew = λ tells sound laid a. at tells sound a;
    laid = λ tells sound laid. none_laid (under new) h (no_trees h empty);
  }
    where
      at : told → AreStanding old f → (a : Option ℕ) → PlacesIn free (loaded_trees (under old) f a) (loaded_trees (under new) h a)
      at tells sound None = anew tells (sound.trees None)
      at tells sound (Some k) = leaves_places free (loaded_trees (under old) f (Some k)) (loaded_trees (under new) h (Some k))
          (rest_leave old new f h 0 (λ k differs. refl) (λ k differs. files tells sound k) sound (flushed_spares old new f.inode.tree i.tree (sound.trees None) (is.flushes tells (sound.trees None))) (moved_tree (under old) (under new) f h 0 refl (files tells sound 0)) k)

-- ---- at Ok

module _ (told : Type 0) (old new : Shown) (f : Files) (i : InodeFile) (root : Pointer) (is : Places told old new f.inode i (Ok root)) (empty : maps.btree_map_len f.trees ≡ 0) (tells : told) (sound : AreStanding old f) where
  abbrev g : Files
  g = with_inode f i

  none : (n : ℕ) → tree_in g n ≡ None
  none = no_trees g empty

  spelled : rooted new i ≡ stored (under new) greatest_word i.tree.levels root
  spelled = is.spelled ∙ (λ j. stored (under new) (sound.owner j) (sym is.left.levels j) root)

  pub ends_stored : table_in new g ≡ standing_at (under new) i.tree.levels root
  ends_stored = λ j. record { inode = spelled j; trees = λ n. option_map (standing (under new)) (none n j) }

  now : AreStanding new g
  now = last_stands told old new f i (Ok root) is empty tells sound

  file_is : (n : ℕ) → loaded_trees (under new) g (Some n) ≡ stored_trees (under new) i.tree.levels root (Some n)
  file_is n = λ j. option_map (λ r. file_loaded (under new) n r (none n j)) (file_at (spelled j) n)

  led : (a : Option ℕ) (v : ℕ) → LeadsFrom (stored_trees (under new) i.tree.levels root) a v → LeadsFrom (loaded_trees (under new) g) a v
  led None v leads = reread_leads (under new) i.tree greatest_word i.tree.levels root spelled v leads
  led (Some n) v leads = subst (λ o. LeadsIn o v) (sym (file_is n)) leads

  pub ends_reached : AreReached (under new) new.used i.tree.levels root
  ends_reached = record {
    inode = subst (ReachesOnce new.used) (λ j. stored (under new) (sound.owner j) (sym is.left.levels j) root) (is.reaches tells (sound.trees None));
    files = λ n r at. unread_reaches new.used (stored (under new) n r.levels r.root) (subst (StandsIn new.used) (file_is n ∙ ap (option_map (λ r. unread (stored (under new) n r.levels r.root))) at) (now.trees (Some n)));
    apart = λ a b v differs one other. now.apart a b v differs (led a v one) (led b v other);
  }

  pub ends_led : IsLed old f → AreLed new.used (stored_trees (under new) i.tree.levels root)
  ends_led before v none = last_led told old new f i (Ok root) is empty tells sound before v (λ a leads. none a (there a v leads))
    where
      there : (a : Option ℕ) (v : ℕ) → LeadsFrom (loaded_trees (under new) g) a v → LeadsFrom (stored_trees (under new) i.tree.levels root) a v
      there None v leads = unread_leads (under new) i.tree (stored (under new) greatest_word i.tree.levels root) spelled v leads
      there (Some n) v leads = subst (λ o. LeadsIn o v) (file_is n) leads

  pub ends_under : (known : Bool) → (known ≡ true → KeepsPlaces old new) → IsLed old f → IsStored known old f → IsStoredUnder known (under new) i.tree.levels root
  ends_under known places before was = let here = last_stored told old new f i (Ok root) is empty tells sound known places before was in record {
    trees = under_root here;
    inodes = subst NamesIndexes spelled here.inodes;
  }
    where
      under_root : IsStored known new g → (a : Option ℕ) → StoredIn known (stored_trees (under new) i.tree.levels root a)
      under_root here None = reread_stored known (under new) i.tree greatest_word i.tree.levels root spelled (here.trees None)
      under_root here (Some n) = subst (StoredIn known) (file_is n) (here.trees (Some n))

-- ---- the whole flush

at_ok : {P : Pointer → Type 0} (r : Result Pointer BlockFault) → ((root : Pointer) → r ≡ Ok root → P root) → IfOk r P
at_ok (Ok root) so = so root refl
at_ok (Err e) so = tt

on_ok : {P : Type 0} (r : Result Pointer BlockFault) → P → OnOk r P
on_ok (Ok root) p = p
on_ok (Err e) p = tt

pub flush_done : (told : Type 0) (old mid new : Shown) (f g : Files) (i : InodeFile) (r : Result Pointer BlockFault) → LaysTrees {T = Unit {0}} told old mid f g (Ok tt) → maps.btree_map_len g.trees ≡ 0 → Places told mid new g.inode i r → FlushesTable told old new f (with_inode g i) r
flush_done told old mid new f g i r first empty is = record {
  lays = lays_then told old mid new f g (with_inode g i) tt r first (last_lays told mid new g i r is empty);
  root = is.root;
  pointer = is.pointer;
  none = on_ok r (no_trees (with_inode g i) empty);
  nothing = on_ok_weaker r (λ done. let all = no_cost g.trees empty in omega (arith, done, all)) is.nothing;
  levels = λ tells sound. is.left.levels ∙ (first.placed tells sound).levels;
  stored = λ tells. at_ok r (λ root done sound. ends_stored told mid new g i root (subst (Places told mid new g.inode i) done is) empty tells (first.stands tells sound));
  reached = λ tells. at_ok r (λ root done sound. ends_reached told mid new g i root (subst (Places told mid new g.inode i) done is) empty tells (first.stands tells sound));
  stored_led = λ tells. at_ok r (λ root done sound led. ends_led told mid new g i root (subst (Places told mid new g.inode i) done is) empty tells (first.stands tells sound) (first.led tells sound led));
}

-- and what is led to is as the pointers say
module _ (told : Type 0) (old mid new : Shown) (f g : Files) (i : InodeFile) (r : Result Pointer BlockFault) (first : LaysTrees {T = Unit {0}} told old mid f g (Ok tt)) (empty : maps.btree_map_len g.trees ≡ 0) (is : Places told mid new g.inode i r)
    (tells : told) (laid : AreStanding old f → AreLaid (under old) f → AreLaid (under mid) g) (known : Bool) (keeps : KeepsStored known old mid f g) (places : known ≡ true → KeepsPlaces mid new) where
  pub flush_stores : KeepsStored known old new f (with_inode g i)
  flush_stores = stores_then told old mid new f g (with_inode g i) tt known first tells laid keeps (λ sound led laid was. last_stored told mid new g i r is empty tells sound known places led was)

  pub flush_under : IfOk r (λ root. StoresUnder known old f (under new) i.tree.levels root)
  flush_under = at_ok r (λ root done sound led before was.
      ends_under told mid new g i root (subst (Places told mid new g.inode i) done is) empty tells (first.stands tells sound) known places (first.led tells sound led) (keeps sound led before was))

-- no tree was placed any more
pub flush_failed : (told : Type 0) (old new : Shown) (f g : Files) (e : BlockFault) → LaysTrees {T = Pointer} told old new f g (Err e) → FlushesTable told old new f g (Err e)
flush_failed told old new f g e lays = record {
  lays = lays;
  root = tt;
  pointer = tt;
  none = tt;
  nothing = tt;
  levels = λ tells sound. (lays.placed tells sound).levels;
  stored = λ tells. tt;
  reached = λ tells. tt;
  stored_led = λ tells. tt;
}
