-- The flush of a table, step by step: a file's tree, the root of it, and last the inode file.
use Rattle.std.proofs.Common.{◌≡◌, ◌≤◌, ◌+◌, ℕ, Bool, true, false, cond, nat_eq, inl, Ok, Err, Result, refl, sym, ap, subst, ◌∙◌, ⊎_elim, arith, ◌/◌}
use Rattle.std.specs.Prelude.{Option, Some, None, is_some, IfErr}
use Rattle.std.specs.Option.{option_map}
use Rattle.std.specs.Ordering.{nat_cmp}
use Rattle.std.specs.BTreeMap as maps
use Rattle.std.specs.FinMap as fin
use Rattle.std.proofs.lemmas.Bool.Decides.{nat_tests}
use Rattle.std.proofs.lemmas.Result.{IfErr-weaker}
use Rattle.fv_disk.specs.declared.fault.BlockFault.{BlockFault}
use Rattle.fv_disk.specs.declared.fault.BlockFault.TheVariants.{DiskFault, Damaged, Memory}
use Rattle.fv_codec.specs.declared.pointer.Pointer.{Pointer}
use Rattle.fv_codec.specs.declared.inode.InodeRecord.{InodeRecord}
use Rattle.fv_tables.specs.Spelled.{Under, Rooted, stored}
use Rattle.fv_tables.specs.Told.{file_at, records_each}
use Rattle.fv_tables.specs.Kept.{IsPlacedTable}
use Rattle.fv_tree.specs.declared.kept.Tree.{Tree}
use Rattle.fv_tree.specs.Sources.{Shown, Counts, HasCause, IsDamaged}
use Rattle.fv_tree.specs.Standing.{standing, under}
use Rattle.fv_tree.specs.Writing.{IsAlike}
use Rattle.fv_tree.specs.Costs.{pending}
use Rattle.fv_tree.specs.Flushing.{ReachesOnce, Stands, changed_of, loaded}
use Rattle.fv_tree.specs.Stored.{KeepsPlaces}
use Rattle.fv_tree.proofs.Unknown.{keeps_unknown}
use Rattle.fv_tree.proofs.Causes.{calm_itself, counts_then}
use Rattle.fv_inode.specs.declared.file.InodeFile.{InodeFile}
use Rattle.fv_inode.specs.Files.{rooted, info_of, with_root}
use Rattle.fv_inode.specs.declared.info.Info.{Info}
use Rattle.fv_inode.specs.Failing.{OnlyLoads}
use Rattle.fv_inode.specs.Failing as inodes
use Rattle.fv_inode.proofs.Alike.{alike_itself}
use Rattle.fv_inode.proofs.Looked.{loads_none, loads_leaves}
use Rattle.fv_inode.specs.Changing.{SetsRoot}
use Rattle.fv_files.specs.declared.files.Files.{Files}
use Rattle.fv_files.specs.Tables.{table_in, tree_in, loaded_trees, AreStanding, IsLed, IsStored}
use Rattle.fv_tree.proofs.Beside.{loading_spares}
use Rattle.fv_files.specs.Apart.{IsAsSaid, LeadsAny}
use Rattle.fv_files.specs.Calls.{KeepsStored, SparesOthers}
use Rattle.fv_files.specs.Flushing.{FlushesKept, HasRoot, LaysTrees, KeptAnew, KeptKeeps}
use Rattle.fv_files.specs.Pending.{pending_trees, tree_cost, FitsTable}
use Rattle.fv_files.proofs.Looked.{Held, counts_done, counts_failed}
use Rattle.fv_files.proofs.Tables.{placed_then}
use Rattle.fv_files.proofs.Stored.{loaded_said, places_of}
use Rattle.fv_files.proofs.Changed.{with_trees, with_inode, owned_stands, owned_stored, has_record, kept_laid, kept_place, kept_there}
use Rattle.fv_files.proofs.Prepared.{readied_led, readied_placed, readied_spares, readied_stands, readied_stored, readied_laid, readied_leave}
use Rattle.fv_files.proofs.Sums.{most_cost}
use Rattle.fv_files.proofs.Laid.{kept_flush_led, kept_flush_spares, kept_flush_stored, kept_placed, kept_stood, root_led, root_placed, root_spares, root_stands, root_stored, gone_led, gone_placed, gone_spares, gone_stands, gone_stored, lay_failed, table_spares_then, flushed_spares, gone_laid, gone_leave, root_laid, root_leave}
use Rattle.fv_tree.specs.Altering.{Leaves}
use Rattle.fv_tree.proofs.Stays.{unchanged}
use Rattle.fv_files.specs.Altering.{AreLaid, FlushesKeep, FlushesPlaces, LeavesTrees}
use Rattle.fv_files.proofs.Altered.{leaves_in_itself, leaves_places, leaves_places_trees, leaves_trees_then, places_match, places_trees_then}
use Rattle.fv_files.proofs.Unplaced.{placed_stamps, unplaced_then}

-- ---- no memory

memory_alone : (e : BlockFault) → e ≡ Memory → IsDamaged e → ⊥
memory_alone DiskFault is damaged = damaged
memory_alone (Damaged at want found) is damaged = cc
memory_alone Memory is damaged = damaged

memory_cause : {T : Type 0} (told : Type 0) (t : Rooted) (old new : Shown) (r : Result T BlockFault) → IfErr r (λ e. e ≡ Memory) → IfErr r (inodes.InodeFails told t old new) → IfErr r (HasCause old new)
memory_cause told t old new (Ok x) is fails = tt
memory_cause told t old new (Err e) is fails = subst (HasCause old new) (sym is) (⊎_elim (λ calm. calm) (λ shape. shape.0) (subst (inodes.InodeFails told t old new) is fails))

-- ---- the inode file holds more in memory, or a call of it failed

module _ {T : Type 0} (told : Type 0) (old new : Shown) (f : Files) (i : InodeFile) (r : Result T BlockFault) (loads : OnlyLoads told old new f.inode.tree i.tree r) (alike : told → IsAlike (rooted old f.inode) (rooted new i))
    (fewer : pending i.tree ≤ pending f.inode.tree) (memory : told → AreStanding old f → IfErr r (λ e. e ≡ Memory)) where
  abbrev h : Files
  h = with_inode f i

  pub ready_lays : LaysTrees told old new f h r
  ready_lays = record {
    placed = λ tells sound. readied_placed old new f h loads.looks.untouched (alike tells) (λ k. refl);
    stands = λ tells sound. readied_stands old new f h loads.looks.untouched (alike tells) (λ k. refl) loads.owner (loads.stands tells) (loads.leads tells) loads.keeps_ready sound;
    led = λ tells sound led. readied_led old new f h loads.looks.untouched (alike tells) (λ k. refl) (loads.leads tells) (loads.keeps tells) sound led;
    spares = λ tells sound. readied_spares old new f h loads.looks.untouched (alike tells) (λ k. refl) (loads.leads tells) sound;
    strays = λ tells sound. loads.looks.untouched.strays;
    fits = λ tells sound. let same = loads.looks.untouched.room in record { fewer = omega (arith, fewer); room = omega (arith, fewer, same) };
    enough = λ tells sound room. IfErr-weaker r _ _ memory_alone (memory tells sound);
    counts = loads.looks.counts;
    cause = IfErr-weaker r _ _ (λ e fails. lay_failed told old old new f f e (calm_itself old) (λ tells sound. placed_self) (inl fails)) loads.looks.cause;
    source = λ tells sound. memory_cause told (rooted old f.inode) old new r (memory tells sound) loads.looks.cause;
  }
    where
      placed_self : IsPlacedTable (table_in old f) (table_in old f)
      placed_self = readied_placed old old f f (record { held = refl; used = refl; strays = refl; room = refl; cost = refl; right = λ v pvbn is. is }) (record { levels = refl; stamps = λ level place. refl; blocks = λ index. refl }) (λ k. refl)

  pub ready_places : (free : ℕ → Type 0) → (told → Leaves (loaded old f.inode.tree) (loaded new i.tree)) → FlushesPlaces told free old new f h
  ready_places free leaves = record {
    anew = λ tells sound laid. leaves_places_trees free (loaded_trees (under old) f) (loaded_trees (under new) h) (readied_leave old new f h loads.looks.untouched (alike tells) (λ k. refl) (leaves tells) (loads.leads tells) sound);
    laid = λ tells. readied_laid old new f h loads.looks.untouched (alike tells) (λ k. refl) (leaves tells) (loads.leads tells);
  }

  pub ready_stores : (known : Bool) → (told → Leaves (loaded old f.inode.tree) (loaded new i.tree)) → told → KeepsStored known old new f h
  ready_stores known leaves tells sound led laid =
      let stands = sound.trees None in
      readied_stored old new f h loads.looks.untouched (alike tells) (λ k. refl) known
      (loaded_said known old new f.inode.tree i.tree loads.owner stands (loads.stands tells stands) loads.looks.untouched.held (loads.stored_well tells) (loads.tells tells) (leaves tells)) (loads.leads tells) sound

-- the inode file was only read
pub look_lays : {T : Type 0} (told : Type 0) (old new : Shown) (f : Files) (r : Result T BlockFault) → inodes.Looks told (rooted old f.inode) old new r → (told → AreStanding old f → IfErr r (λ e. e ≡ Memory)) → LaysTrees told old new f f r
look_lays told old new f r looks memory = ready_lays told old new f f.inode r (loads_none told f.inode.tree old new r looks)
    (λ tells. subst (λ (h : Held). IsAlike (rooted old f.inode) (standing (λ v. fin.get h v) f.inode.tree)) (sym looks.untouched.held) (alike_itself (rooted old f.inode))) (omega arith) memory

pub look_places : {T : Type 0} (told : Type 0) (free : ℕ → Type 0) (old new : Shown) (f : Files) (r : Result T BlockFault) → inodes.Looks told (rooted old f.inode) old new r → FlushesPlaces told free old new f f
look_places told free old new f r looks =
    let loads = loads_none told f.inode.tree old new r looks in
    let alike : IsAlike (rooted old f.inode) (rooted new f.inode) = subst (λ (h : Held). IsAlike (rooted old f.inode) (standing (λ v. fin.get h v) f.inode.tree)) (sym looks.untouched.held) (alike_itself (rooted old f.inode)) in
    let leaves = loads_leaves f.inode.tree old new looks.untouched.held in record {
      anew = λ tells sound laid. leaves_places_trees free (loaded_trees (under old) f) (loaded_trees (under new) f) (readied_leave old new f f looks.untouched alike (λ k. refl) leaves (loads.leads tells) sound);
      laid = λ tells. readied_laid old new f f looks.untouched alike (λ k. refl) leaves (loads.leads tells);
    }

-- and it has no file of a number
pub look_none : (old : Shown) (f : Files) (n : ℕ) (o : Option Info) → is_some o ≡ false → o ≡ option_map (info_of n) (file_at (rooted old f.inode) n) → is_some (file_at (rooted old f.inode) n) ≡ true → ⊥
look_none old f n o none is some = at (file_at (rooted old f.inode) n) some (sym (ap is_some is) ∙ none)
  where
    at : (r : Option InodeRecord) → is_some r ≡ true → is_some (option_map (info_of n) r) ≡ false → ⊥
    at None some none = cc
    at (Some r) some none = cc

-- nothing is done
pub lays_self : (told : Type 0) (old : Shown) (f : Files) → LaysTrees {T = Unit {0}} told old old f f (Ok tt)
lays_self told old f = record {
  placed = λ tells sound. readied_placed old old f f (record { held = refl; used = refl; strays = refl; room = refl; cost = refl; right = λ v pvbn is. is }) (record { levels = refl; stamps = λ level place. refl; blocks = λ index. refl }) (λ k. refl);
  stands = λ tells sound. sound;
  led = λ tells sound led. led;
  spares = λ tells sound. loading_spares old old (LeadsAny (loaded_trees (under old) f)) (LeadsAny (loaded_trees (under old) f)) refl refl (λ v led. led);
  strays = λ tells sound. refl;
  fits = λ tells sound. record { fewer = omega arith; room = omega arith };
  enough = λ tells sound room. tt;
  source = λ tells sound. tt;
  counts = record { faults = omega arith; damages = omega arith; spent = omega arith; calm = calm_itself old };
  cause = tt;
}

pub places_self : (told : Type 0) (free : ℕ → Type 0) (old : Shown) (f : Files) → FlushesPlaces told free old old f f
places_self told free old f = record {
  anew = λ tells sound laid a. leaves_places free (loaded_trees (under old) f a) (loaded_trees (under old) f a) (leaves_in_itself (loaded_trees (under old) f a));
  laid = λ tells sound laid. laid;
}

pub places_astray : (told : Type 0) (free : ℕ → Type 0) (old new : Shown) (f g : Files) → (told → AreStanding old f → ⊥) → FlushesPlaces told free old new f g
places_astray told free old new f g never = record { anew = λ tells sound. absurd (never tells sound); laid = λ tells sound. absurd (never tells sound) }

pub lays_failed : {S T : Type 0} (told : Type 0) (old new : Shown) (f g : Files) (e : BlockFault) → LaysTrees {T = S} told old new f g (Err e) → LaysTrees {T = T} told old new f g (Err e)
lays_failed {S} told old new f g e is = record { placed = is.placed; stands = is.stands; led = is.led; spares = is.spares; strays = is.strays; fits = is.fits; enough = is.enough; source = is.source; counts = counts_failed {S = S} old new (Err e) e is.counts; cause = is.cause }

-- a table that stands on its blocks has a file for each tree in memory
pub strayed : (old : Shown) (f : Files) (n : ℕ) → is_some (tree_in f n) ≡ true → AreStanding old f → is_some (file_at (rooted old f.inode) n) ≡ true
strayed old f n there sound = at (tree_in f n) refl there
  where
    at : (o : Option Tree) → tree_in f n ≡ o → is_some o ≡ true → is_some (file_at (rooted old f.inode) n) ≡ true
    at None is none = absurd (grind (arith, none))
    at (Some t) is some = (sound.owners n t is).1

-- so without one nothing is said of content
pub lays_astray : {T : Type 0} (told : Type 0) (old new : Shown) (f g : Files) (x : T) → Counts {E = BlockFault} old new (Ok x) → (told → AreStanding old f → ⊥) → LaysTrees {T = Unit {0}} told old new f g (Ok tt)
lays_astray told old new f g x counts never = record {
  placed = λ tells sound. absurd (never tells sound);
  stands = λ tells sound. absurd (never tells sound);
  led = λ tells sound led. absurd (never tells sound);
  spares = λ tells sound. absurd (never tells sound);
  strays = λ tells sound. absurd (never tells sound);
  fits = λ tells sound. absurd (never tells sound);
  enough = λ tells sound room. tt;
  source = λ tells sound. tt;
  counts = counts_done old new x tt counts;
  cause = tt;
}

-- ---- a file's tree is placed

module _ (told : Type 0) (old mid : Shown) (f : Files) (m : maps.BTreeMap ℕ Tree) (n : ℕ) (r : Result Pointer BlockFault) (kept : FlushesKept told old mid f.trees m n r) where
  abbrev g : Files
  g = with_trees f m

  kept_fits : told → AreStanding old f → FitsTable old f mid g
  kept_fits tells sound =
      let fits = kept.fits tells (owned_stands old f n kept.tree kept.becomes.was sound) in
      let fewer = fits.fewer in
      let room = fits.room in
      let sum = kept.becomes.sum in record { fewer = omega (arith, fewer, sum); room = omega (arith, room, sum) }

  pub kept_lays : LaysTrees told old mid f g r
  kept_lays = record {
    placed = λ tells sound. let stood = owned_stands old f n kept.tree kept.becomes.was sound in kept_placed old mid f m n kept.tree kept.next kept.becomes sound stood (kept.flushes tells stood);
    stands = λ tells sound. let stood = owned_stands old f n kept.tree kept.becomes.was sound in kept_stood old mid f m n kept.tree kept.next kept.becomes sound stood (kept.flushes tells stood) kept.left.owner;
    led = λ tells sound. let stood = owned_stands old f n kept.tree kept.becomes.was sound in kept_flush_led old mid f m n kept.tree kept.next kept.becomes sound stood (kept.flushes tells stood);
    spares = λ tells sound. let stood = owned_stands old f n kept.tree kept.becomes.was sound in kept_flush_spares old mid f m n kept.tree kept.next kept.becomes sound stood (kept.flushes tells stood);
    strays = λ tells sound. kept.strays tells (owned_stands old f n kept.tree kept.becomes.was sound);
    fits = kept_fits;
    enough = λ tells sound room.
        let most = most_cost f.trees n kept.tree kept.becomes.was in
        kept.enough tells (owned_stands old f n kept.tree kept.becomes.was sound) (omega (arith, most, room));
    source = λ tells sound. kept.cause;
    counts = kept.counts;
    cause = IfErr-weaker r _ _ (λ e fails. inl fails) kept.cause;
  }

  pub kept_places : (free : ℕ → Type 0) → (told → KeptAnew free old mid f.trees m n) → FlushesPlaces told free old mid f g
  kept_places free anew = record {
    anew = λ tells sound laid.
        let stood = owned_stands old f n kept.tree kept.becomes.was sound in
        kept_place old mid f m n kept.tree kept.next kept.becomes sound (flushed_spares old mid kept.tree kept.next stood (kept.flushes tells stood)) free (anew tells kept.tree kept.next kept.becomes.was kept.becomes.now stood);
    laid = λ tells sound.
        let stood = owned_stands old f n kept.tree kept.becomes.was sound in
        let flushes = kept.flushes tells stood in
        kept_laid old mid f m n kept.tree kept.next kept.becomes sound (flushed_spares old mid kept.tree kept.next stood flushes)
        (λ q. places_match (loaded old kept.tree) (loaded mid kept.next) free q kept.left.levels flushes.stamps kept.left.root (anew tells kept.tree kept.next kept.becomes.was kept.becomes.now stood));
  }

  pub kept_keeps : (keep : ℕ → Type 0) → (told → KeptKeeps keep old mid f.trees m n) → FlushesKeep told keep old mid f g
  kept_keeps keep keeps = λ tells sound laid v none.
      let stood = owned_stands old f n kept.tree kept.becomes.was sound in
      keeps tells kept.tree kept.next kept.becomes.was kept.becomes.now stood v
      (λ placed. none (kept_there old mid f m n kept.tree kept.next kept.becomes sound (flushed_spares old mid kept.tree kept.next stood (kept.flushes tells stood)) v placed))

  pub kept_stores : (known : Bool) → told → (known ≡ true → KeepsPlaces old mid) → KeepsStored known old mid f g
  kept_stores known tells places sound led laid was =
      let stood = owned_stands old f n kept.tree kept.becomes.was sound in
      let flushes = kept.flushes tells stood in
      let own : IsAsSaid known (loaded old kept.tree) = owned_stored known old f n kept.tree kept.becomes.was sound was in
      kept_flush_stored old mid f m n kept.tree kept.next kept.becomes sound stood flushes known (record {
        positions = kept.stored_well tells stood own.positions;
        leads = keeps_unknown (loaded old kept.tree) (loaded mid kept.next) old.used mid.used flushes stood own.leads;
        places = λ all. kept.tells tells stood (sound.owners n kept.tree kept.becomes.was).0 (places all (places_of old f sound led (subst (λ b. IsStored b old f) all was))) (own.places all);
      }) was

-- its root was laid, and it goes from memory
module _ (told : Type 0) (old mid new : Shown) (f : Files) (m last : maps.BTreeMap ℕ Tree) (i : InodeFile) (n levels : ℕ) (root : Pointer) (kept : FlushesKept told old mid f.trees m n (Ok root)) (levels_is : (t : Tree) → maps.get nat_cmp f.trees n ≡ Some t → levels ≡ t.levels)
    (loads : OnlyLoads {T = Unit {0}} told mid new f.inode.tree i.tree (Ok tt)) (set : told → is_some (file_at (rooted mid f.inode) n) ≡ true → SetsRoot (rooted mid f.inode) (rooted new i) n levels root) (more : pending i.tree ≤ pending f.inode.tree + 4)
    (gone : (k : ℕ) → maps.get nat_cmp last k ≡ cond (nat_eq k n) None (maps.get nat_cmp m k)) (cost : (t : Tree) → maps.get nat_cmp m n ≡ Some t → pending_trees last + tree_cost t ≡ pending_trees m) where
  abbrev two : Files
  two = with_trees f m

  abbrev three : Files
  three = with_inode two i

  abbrev four : Files
  four = with_trees three last

  first : LaysTrees told old mid f two (Ok root)
  first = kept_lays told old mid f m n (Ok root) kept

  module _ (tells : told) (sound : AreStanding old f) where
    there : is_some (file_at (rooted mid f.inode) n) ≡ true
    there = strayed mid two n (ap is_some kept.becomes.now) (first.stands tells sound)

    sets : SetsRoot (rooted mid f.inode) (rooted new i) n levels root
    sets = set tells there

    own : HasRoot (file_at (rooted new i) n) levels root
    own =
        let was = has_record (file_at (rooted mid f.inode) n) there in
        let test : nat_eq n n ≡ true = grind (arith, nat_tests) in record {
          file = with_root levels root was.file;
          is = sets.files n ∙ ap (λ b. cond b (option_map (with_root levels root) (file_at (rooted mid f.inode) n)) (file_at (rooted mid f.inode) n)) test ∙ ap (option_map (with_root levels root)) was.is;
          levels_is = refl;
          root_is = refl;
        }

    stood : Stands old kept.tree
    stood = owned_stands old f n kept.tree kept.becomes.was sound

    same_spelling : (blocks : Under) → stored blocks kept.tree.owner kept.tree.levels root ≡ stored blocks n levels root
    same_spelling blocks = λ j. stored blocks ((sound.owners n kept.tree kept.becomes.was).0 j) (sym (levels_is kept.tree kept.becomes.was) j) root

    spelled : standing (under new) kept.next ≡ stored (under new) n levels root
    spelled = subst (λ (h : Held). standing (λ v. fin.get h v) kept.next ≡ stored (λ v. fin.get h v) n levels root) (sym loads.looks.untouched.held) (kept.spelled ∙ same_spelling (under mid))

    reached : ReachesOnce new.used (stored (under new) n levels root)
    reached =
        subst (λ (h : Held). ReachesOnce new.used (stored (λ v. fin.get h v) n levels root)) (sym loads.looks.untouched.held)
        (subst (λ used. ReachesOnce used (stored (under mid) n levels root)) (sym loads.looks.untouched.used) (subst (ReachesOnce mid.used) (same_spelling (under mid)) (kept.reaches tells stood)))

    placed_two : AreStanding mid two
    placed_two = first.stands tells sound

    placed_three : AreStanding new three
    placed_three = root_stands mid new two i n levels root kept.next kept.becomes.now loads.looks.untouched sets loads.owner (loads.stands tells) (loads.leads tells) loads.keeps_ready placed_two

    later_placed : IsPlacedTable (table_in mid two) (table_in new four)
    later_placed = placed_then (table_in mid two) (table_in new three) (table_in new four) (root_placed mid new two i n levels root kept.next kept.becomes.now loads.looks.untouched sets)
        (gone_placed new three last n levels root kept.next kept.becomes.now gone placed_three own spelled reached)

    all_placed : IsPlacedTable (table_in old f) (table_in new four)
    all_placed = placed_then (table_in old f) (table_in mid two) (table_in new four) (first.placed tells sound) later_placed

    all_led : IsLed old f → IsLed new four
    all_led led = gone_led new three last n levels root kept.next kept.becomes.now gone placed_three own spelled reached
        (root_led mid new two i n levels root kept.next kept.becomes.now loads.looks.untouched sets (loads.leads tells) (loads.keeps tells) placed_two (first.led tells sound led))

    all_spares : SparesOthers old new f four
    all_spares = table_spares_then old new new f three four
        (table_spares_then old mid new f two three (first.spares tells sound) (root_spares mid new two i n levels root kept.next kept.becomes.now loads.looks.untouched sets (loads.leads tells) placed_two))
        (gone_spares new three last n levels root kept.next kept.becomes.now gone placed_three own spelled reached)

    all_fits : FitsTable old f new four
    all_fits =
        let fits = kept.fits tells stood in
        let fewer = fits.fewer in
        let room = fits.room in
        let same = loads.looks.untouched.room in
        let sum = kept.becomes.sum in
        let out = cost kept.next kept.becomes.now in record { fewer = omega (arith, sum, out, more); room = omega (arith, room, same, sum, out, more) }

  pub lay_done : LaysTrees {T = Unit {0}} told old new f four (Ok tt)
  lay_done = record {
    placed = all_placed;
    stands = λ tells sound. gone_stands new three last n levels root kept.next kept.becomes.now gone (placed_three tells sound) (own tells sound) (spelled tells sound) (reached tells sound);
    led = all_led;
    spares = all_spares;
    strays = λ tells sound. loads.looks.untouched.strays ∙ first.strays tells sound;
    fits = all_fits;
    enough = λ tells sound room. tt;
    source = λ tells sound. tt;
    counts = counts_then old mid new (Ok tt) first.counts.calm loads.looks.counts;
    cause = tt;
  }

  -- What it does to the places of the table's trees: where the tree isn't as its record said, the inode cell had changed.
  module _ (first_free free : ℕ → Type 0) (anew : told → KeptAnew first_free old mid f.trees m n) (sooner : (v : ℕ) → first_free v → free v) (other : (r : InodeRecord) → file_at (rooted old f.inode) n ≡ Some r → r.levels ≡ levels → r.root ≡ root → told → ⊥)
      (leaves : told → Stands mid f.inode.tree → changed_of f.inode.tree 0 (n / records_each) ≡ true → Leaves (loaded mid f.inode.tree) (loaded new i.tree)) where
    first_places : FlushesPlaces told first_free old mid f two
    first_places = kept_places told old mid f m n (Ok root) kept first_free anew

    module _ (tells : told) (sound : AreStanding old f) (laid : AreLaid (under old) f) where
      marked : changed_of f.inode.tree 0 (n / records_each) ≡ true
      marked =
          let was = has_record (file_at (rooted old f.inode) n) (strayed old f n (ap is_some kept.becomes.was) sound) in
          let stands = stood tells sound in
          let flushes = kept.flushes tells stands in
          ⊎_elim (λ before. before)
          (λ matches.
          let now = places_match (loaded old kept.tree) (loaded mid kept.next) first_free was.file kept.left.levels flushes.stamps kept.left.root (anew tells kept.tree kept.next kept.becomes.was kept.becomes.now stands) matches in
          let same_levels : was.file.levels ≡ levels = sym now.levels ∙ kept.left.levels ∙ sym (levels_is kept.tree kept.becomes.was) in
          let same_root : was.file.root ≡ root = sym now.root ∙ ap (λ (s : Rooted). s.root) kept.spelled in
          absurd (other was.file was.is same_levels same_root tells))
          (laid n kept.tree was.file kept.becomes.was was.is)

      inode_leaves : Leaves (loaded mid f.inode.tree) (loaded new i.tree)
      inode_leaves = leaves tells ((placed_two tells sound).trees None) marked

      -- What the inode file leads to stays as its pointers say: for a cell that changed there is nothing to show.
      inode_said : (known : Bool) → IsAsSaid known (loaded mid f.inode.tree) → IsAsSaid known (loaded new i.tree)
      inode_said known =
          let stands = (placed_two tells sound).trees None in
          loaded_said known mid new f.inode.tree i.tree loads.owner stands (loads.stands tells stands) loads.looks.untouched.held (loads.stored_well tells) (loads.tells tells) inode_leaves

      done : (level place : ℕ) → changed_of kept.next level place ≡ false
      done = unchanged kept.next kept.nothing

      two_laid : AreLaid (under mid) two
      two_laid = first_places.laid tells sound laid

      later_leave : LeavesTrees (loaded_trees (under mid) two) (loaded_trees (under new) four)
      later_leave = leaves_trees_then (loaded_trees (under mid) two) (loaded_trees (under new) three) (loaded_trees (under new) four)
          (root_leave mid new two i n levels root kept.next kept.becomes.now loads.looks.untouched (sets tells sound) inode_leaves (loads.leads tells) (placed_two tells sound))
          (gone_leave new three last n levels root kept.next kept.becomes.now gone (placed_three tells sound) (own tells sound) (spelled tells sound) (reached tells sound) done)

    pub lay_places : FlushesPlaces told free old new f four
    lay_places = record {
      anew = λ tells sound laid.
          let x = loaded_trees (under old) f in
          let y = loaded_trees (under mid) two in
          let w = loaded_trees (under new) four in
          places_trees_then first_free first_free free sooner sooner x y w (first_places.anew tells sound laid) (leaves_places_trees first_free y w (later_leave tells sound laid));
      laid = λ tells sound laid. gone_laid new three last n levels root kept.next kept.becomes.now gone (placed_three tells sound) (own tells sound) (spelled tells sound) (reached tells sound)
          (root_laid mid new two i n levels root kept.next kept.becomes.now loads.looks.untouched (sets tells sound) (inode_leaves tells sound laid) (loads.leads tells) (placed_two tells sound) (marked tells sound laid) (two_laid tells sound laid));
    }

    -- what is led to stays as its pointers say
    pub lay_stores : (known : Bool) → told → (known ≡ true → KeepsPlaces old mid) → KeepsStored known old new f four
    lay_stores known tells places sound led laid was =
        gone_stored new three last n levels root kept.next kept.becomes.now gone (placed_three tells sound) (own tells sound) (spelled tells sound) (reached tells sound) known
        (root_stored mid new two i n levels root kept.next kept.becomes.now loads.looks.untouched (sets tells sound) known
        (inode_said tells sound laid known) (loads.leads tells) (placed_two tells sound)
        (kept_stores told old mid f m n (Ok root) kept known tells places sound led laid was))

    -- and what it leaves under a VVBN
    pub lay_keeps : (first_keep next_keep keep : ℕ → Type 0) → ((v : ℕ) → first_keep v → next_keep v → keep v) → (told → KeptKeeps first_keep old mid f.trees m n) → ((v : ℕ) → next_keep v) → FlushesKeep told keep old new f four
    lay_keeps first_keep next_keep keep both keeps all = λ tells sound laid.
        let x = loaded_trees (under old) f in
        let y = loaded_trees (under mid) two in
        let w = loaded_trees (under new) four in
        unplaced_then x y w first_free first_free first_keep next_keep keep both (placed_stamps old mid f two (first.placed tells sound)) (placed_stamps mid new two four (later_placed tells sound)) (first_places.anew tells sound laid)
        (leaves_places_trees first_free y w (later_leave tells sound laid)) (kept_keeps told old mid f m n (Ok root) kept first_keep keeps tells sound laid) (λ v none. all v)
