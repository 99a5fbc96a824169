-- A file's tree is placed, and its record has its root already: the tree goes from memory, and the inode block stays.
use Rattle.std.proofs.Common.{◌≡◌, ◌+◌, ℕ, Bool, true, false, cond, nat_eq, Ok, refl, sym, ap, subst, ◌∙◌, arith, ◌≤◌, Err, Result}
use Rattle.fv_files.proofs.Kept.{stored_on_blocks}
use Rattle.fv_inode.specs.Readying.{IsReadyFile}
use Rattle.fv_tree.specs.Writing.{IsAlike}
use Rattle.fv_tree.specs.Costs.{pending}
use Rattle.fv_inode.specs.Failing.{OnlyLoads, Looks}
use Rattle.fv_inode.specs.declared.file.InodeFile.{InodeFile}
use Rattle.fv_disk.specs.declared.fault.BlockFault.TheVariants.{Memory}
use Rattle.fv_disk.specs.declared.fault.BlockFault.{BlockFault}
use Rattle.std.specs.Prelude.{Option, Some, None, is_some}
use Rattle.std.specs.Option.{option_map}
use Rattle.std.specs.Ordering.{nat_cmp}
use Rattle.std.specs.BTreeMap as maps
use Rattle.fv_codec.specs.declared.inode.InodeRecord.{InodeRecord}
use Rattle.fv_codec.specs.declared.pointer.Pointer.{Pointer}
use Rattle.fv_tables.specs.Spelled.{Under, stored}
use Rattle.fv_tables.specs.Told.{file_at}
use Rattle.fv_tables.specs.Kept.{IsPlacedTable}
use Rattle.fv_tree.specs.declared.kept.Tree.{Tree}
use Rattle.fv_tree.specs.Sources.{Shown}
use Rattle.fv_tree.specs.Standing.{standing, under}
use Rattle.fv_tree.specs.Flushing.{ReachesOnce, Stands}
use Rattle.fv_tree.specs.Stored.{KeepsPlaces}
use Rattle.fv_inode.specs.declared.info.Info.{Info}
use Rattle.fv_inode.specs.Files.{rooted, info_of}
use Rattle.fv_inode.proofs.Slots.{alike_files}
use Rattle.fv_files.specs.declared.files.Files.{Files}
use Rattle.fv_files.specs.Tables.{table_in, AreStanding, IsLed, IsStored, loaded_trees}
use Rattle.fv_files.specs.Calls.{KeepsStored, SparesOthers}
use Rattle.fv_files.specs.Flushing.{FlushesKept, HasRoot, LaysTrees, KeptAnew, KeptKeeps}
use Rattle.fv_files.specs.Pending.{pending_trees, tree_cost, FitsTable}
use Rattle.fv_tree.proofs.Brought.{some_same}
use Rattle.fv_files.proofs.Tables.{placed_then, alike}
use Rattle.fv_files.proofs.Looked.{counts_done}
use Rattle.fv_files.proofs.Changed.{with_trees, owned_stands, kept_inode, own_ready, with_inode}
use Rattle.fv_files.proofs.Flushed.{kept_keeps, kept_lays, kept_stores, kept_places, ready_lays, ready_places, ready_stores, look_lays, look_places}
use Rattle.fv_files.proofs.Laid.{flushed_spares, gone_led, gone_placed, gone_spares, gone_stands, gone_stored, table_spares_then, gone_laid, gone_leave, lays_then, places_then, stores_then}
use Rattle.fv_tree.proofs.Stays.{unchanged}
use Rattle.fv_files.specs.Altering.{AreLaid, FlushesKeep, FlushesPlaces, LeavesTrees}
use Rattle.fv_files.proofs.Altered.{leaves_places_trees, places_trees_then}
use Rattle.fv_files.proofs.Unplaced.{placed_stamps, unplaced_then, keeps_then}

-- what is known of a file says its root
pub root_told : (n : ℕ) (info : Info) (o : Option InodeRecord) → Some info ≡ option_map (info_of n) o → HasRoot o info.levels info.root
root_told n info None is = let wrong : true ≡ false = ap is_some is in cc
root_told n info (Some r) is = let same : info ≡ info_of n r = some_same info (info_of n r) is in record {
  file = r;
  is = refl;
  levels_is = ap (λ (i : Info). i.levels) (sym same);
  root_is = ap (λ (i : Info). i.root) (sym same);
}

-- the same root, of as many levels
pub same_root : (o : Option InodeRecord) (info : Info) (levels : ℕ) (root : Pointer) → info.levels ≡ levels → info.root ≡ root → HasRoot o info.levels info.root → HasRoot o levels root
same_root o info levels root levels_is root_is has = record { file = has.file; is = has.is; levels_is = has.levels_is ∙ levels_is; root_is = has.root_is ∙ root_is }

module _ (told : Type 0) (old mid : Shown) (f : Files) (m last : maps.BTreeMap ℕ Tree) (n levels : ℕ) (root : Pointer) (kept : FlushesKept told old mid f.trees m n (Ok root)) (levels_is : (t : Tree) → maps.get nat_cmp f.trees n ≡ Some t → levels ≡ t.levels)
    (was : told → HasRoot (file_at (rooted old f.inode) n) levels root) (gone : (k : ℕ) → maps.get nat_cmp last k ≡ cond (nat_eq k n) None (maps.get nat_cmp m k)) (cost : (t : Tree) → maps.get nat_cmp m n ≡ Some t → pending_trees last + tree_cost t ≡ pending_trees m) where
  abbrev two : Files
  two = with_trees f m

  abbrev three : Files
  three = with_trees two last

  first : LaysTrees told old mid f two (Ok root)
  first = kept_lays told old mid f m n (Ok root) kept

  module _ (tells : told) (sound : AreStanding old f) where
    stood : Stands old kept.tree
    stood = owned_stands old f n kept.tree kept.becomes.was sound

    own : HasRoot (file_at (rooted mid f.inode) n) levels root
    own = let has = was tells in record {
      file = has.file;
      is = alike_files (rooted old f.inode) (rooted mid f.inode) (kept_inode old mid f m n kept.tree kept.next kept.becomes sound (flushed_spares old mid kept.tree kept.next stood (kept.flushes tells stood))) n ∙ has.is;
      levels_is = has.levels_is;
      root_is = has.root_is;
    }

    same_spelling : (blocks : Under) → stored blocks kept.tree.owner kept.tree.levels root ≡ stored blocks n levels root
    same_spelling blocks = λ j. stored blocks ((sound.owners n kept.tree kept.becomes.was).0 j) (sym (levels_is kept.tree kept.becomes.was) j) root

    spelled : standing (under mid) kept.next ≡ stored (under mid) n levels root
    spelled = kept.spelled ∙ same_spelling (under mid)

    reached : ReachesOnce mid.used (stored (under mid) n levels root)
    reached = subst (ReachesOnce mid.used) (same_spelling (under mid)) (kept.reaches tells stood)

    placed_two : AreStanding mid two
    placed_two = first.stands tells sound

    later_placed : IsPlacedTable (table_in mid two) (table_in mid three)
    later_placed = gone_placed mid two last n levels root kept.next kept.becomes.now gone placed_two own spelled reached

    later_leave : LeavesTrees (loaded_trees (under mid) two) (loaded_trees (under mid) three)
    later_leave = gone_leave mid two last n levels root kept.next kept.becomes.now gone placed_two own spelled reached (unchanged kept.next kept.nothing)

    all_placed : IsPlacedTable (table_in old f) (table_in mid three)
    all_placed = placed_then (table_in old f) (table_in mid two) (table_in mid three) (first.placed tells sound) later_placed

    all_led : IsLed old f → IsLed mid three
    all_led led = gone_led mid two last n levels root kept.next kept.becomes.now gone placed_two own spelled reached (first.led tells sound led)

    all_spares : SparesOthers old mid f three
    all_spares = table_spares_then old mid mid f two three (first.spares tells sound) (gone_spares mid two last n levels root kept.next kept.becomes.now gone placed_two own spelled reached)

    all_stored : (known : Bool) → (known ≡ true → KeepsPlaces old mid) → IsLed old f → AreLaid (under old) f → IsStored known old f → IsStored known mid three
    all_stored known places led laid well = gone_stored mid two last n levels root kept.next kept.becomes.now gone placed_two own spelled reached known
        (kept_stores told old mid f m n (Ok root) kept known tells places sound led laid well)

    all_fits : FitsTable old f mid three
    all_fits =
        let fits = kept.fits tells stood in
        let fewer = fits.fewer in
        let room = fits.room in
        let sum = kept.becomes.sum in
        let out = cost kept.next kept.becomes.now in record { fewer = omega (arith, fewer, sum, out); room = omega (arith, room, sum, out) }

  pub pass_done : LaysTrees {T = Unit {0}} told old mid f three (Ok tt)
  pass_done = record {
    placed = all_placed;
    stands = λ tells sound. gone_stands mid two last n levels root kept.next kept.becomes.now gone (placed_two tells sound) (own tells sound) (spelled tells sound) (reached tells sound);
    led = all_led;
    spares = all_spares;
    strays = λ tells sound. first.strays tells sound;
    fits = all_fits;
    enough = λ tells sound room. tt;
    source = λ tells sound. tt;
    counts = counts_done old mid root tt first.counts;
    cause = tt;
  }

  pub pass_stores : (known : Bool) → told → (known ≡ true → KeepsPlaces old mid) → KeepsStored known old mid f three
  pass_stores known tells places sound = all_stored tells sound known places

  -- what it does to the places of the table's trees
  module _ (free : ℕ → Type 0) (anew : told → KeptAnew free old mid f.trees m n) where
    first_places : FlushesPlaces told free old mid f two
    first_places = kept_places told old mid f m n (Ok root) kept free anew

    pub pass_places : FlushesPlaces told free old mid f three
    pass_places = record {
      anew = λ tells sound laid. places_trees_then free free free (λ v is. is) (λ v is. is) (loaded_trees (under old) f) (loaded_trees (under mid) two) (loaded_trees (under mid) three) (first_places.anew tells sound laid)
          (leaves_places_trees free (loaded_trees (under mid) two) (loaded_trees (under mid) three) (later_leave tells sound));
      laid = λ tells sound laid. gone_laid mid two last n levels root kept.next kept.becomes.now gone (placed_two tells sound) (own tells sound) (spelled tells sound) (reached tells sound) (first_places.laid tells sound laid);
    }

    -- and what it leaves under a VVBN
    pub pass_keeps : (keep : ℕ → Type 0) → (told → KeptKeeps keep old mid f.trees m n) → FlushesKeep told keep old mid f three
    pass_keeps keep keeps = λ tells sound laid.
        let x = loaded_trees (under old) f in
        let y = loaded_trees (under mid) two in
        let z = loaded_trees (under mid) three in
        unplaced_then x y z free free keep (λ v. Unit {0}) keep (λ v is all. is) (placed_stamps old mid f two (first.placed tells sound)) (placed_stamps mid mid two three (later_placed tells sound)) (first_places.anew tells sound laid)
        (leaves_places_trees free y z (later_leave tells sound)) (kept_keeps told old mid f m n (Ok root) kept keep keeps tells sound laid) (λ v none. tt)

-- the tree was placed, and its root couldn't be set in the table, whose inode file was only loaded
module _ {T : Type 0} (told : Type 0) (old mid new : Shown) (f : Files) (m : maps.BTreeMap ℕ Tree) (i : InodeFile) (n : ℕ) (root : Pointer) (e : BlockFault) (kept : FlushesKept told old mid f.trees m n (Ok root))
    (loads : OnlyLoads {T = T} told mid new f.inode.tree i.tree (Err e)) (fewer : pending i.tree ≤ pending f.inode.tree) (ready : told → IsReadyFile f.inode n → e ≡ Memory) where
  unset_alike : told → IsAlike (rooted mid f.inode) (rooted new i)
  unset_alike tells = alike (rooted mid f.inode) (rooted new i) (loads.failed tells)

  unset_memory : told → AreStanding mid (with_trees f m) → e ≡ Memory
  unset_memory tells sound = ready tells (own_ready mid (with_trees f m) n (ap is_some kept.becomes.now) sound)

  unset_first : LaysTrees told old mid f (with_trees f m) (Ok root)
  unset_first = kept_lays told old mid f m n (Ok root) kept

  unset_next : LaysTrees {T = T} told mid new (with_trees f m) (with_inode (with_trees f m) i) (Err e)
  unset_next = ready_lays told mid new (with_trees f m) i (Err e) loads unset_alike fewer unset_memory

  pub unset_lays : LaysTrees {T = T} told old new f (with_inode (with_trees f m) i) (Err e)
  unset_lays = lays_then told old mid new f (with_trees f m) (with_inode (with_trees f m) i) root (Err e) unset_first unset_next

  pub unset_stores : (first : ℕ → Type 0) → (told → KeptAnew first old mid f.trees m n) → (known : Bool) → told → (known ≡ true → KeepsPlaces old mid) → KeepsStored known old new f (with_inode (with_trees f m) i)
  unset_stores first anew known tells places = stores_then told old mid new f (with_trees f m) (with_inode (with_trees f m) i) root known unset_first tells ((kept_places told old mid f m n (Ok root) kept first anew).laid tells)
      (kept_stores told old mid f m n (Ok root) kept known tells places) (ready_stores told mid new (with_trees f m) i (Err e) loads unset_alike fewer unset_memory known loads.leaves tells)

  pub unset_places : (first free : ℕ → Type 0) → ((v : ℕ) → first v → free v) → (told → KeptAnew first old mid f.trees m n) → FlushesPlaces told free old new f (with_inode (with_trees f m) i)
  unset_places first free sooner anew = places_then told first first free sooner sooner old mid new f (with_trees f m) (with_inode (with_trees f m) i) root unset_first (kept_places told old mid f m n (Ok root) kept first anew)
      (ready_places told mid new (with_trees f m) i (Err e) loads unset_alike fewer unset_memory first loads.leaves)

  pub unset_keeps : (free first next keep : ℕ → Type 0) → ((v : ℕ) → first v → next v → keep v) → (told → KeptAnew free old mid f.trees m n) → (told → KeptKeeps first old mid f.trees m n) → ((v : ℕ) → next v)
      → FlushesKeep told keep old new f (with_inode (with_trees f m) i)
  unset_keeps free first next keep both anew keeps more = keeps_then told free free first next keep both old mid new f (with_trees f m) (with_inode (with_trees f m) i) root (Err e) unset_first unset_next
      (kept_places told old mid f m n (Ok root) kept free anew) (ready_places told mid new (with_trees f m) i (Err e) loads unset_alike fewer unset_memory free loads.leaves)
      (kept_keeps told old mid f m n (Ok root) kept first keeps) (λ tells sound laid v none. more v)

-- the record was looked for, and then the trees are laid
module _ {S T : Type 0} (told : Type 0) (old mid new : Shown) (f g : Files) (x : S) (r : Result T BlockFault) (looks : Looks told (rooted old f.inode) old mid (Ok x)) (lays : LaysTrees told mid new f g r) where
  found_first : LaysTrees told old mid f f (Ok x)
  found_first = look_lays told old mid f (Ok x) looks (λ tells sound. tt)

  pub found_lays : LaysTrees told old new f g r
  found_lays = lays_then told old mid new f f g x r found_first lays

  pub found_stores : (known : Bool) → told → KeepsStored known mid new f g → KeepsStored known old new f g
  found_stores known tells stores = stores_then told old mid new f f g x known found_first tells ((look_places told (λ v. Unit {0}) old mid f (Ok x) looks).laid tells)
      (λ sound led laid. stored_on_blocks known f old mid looks.untouched.held) stores

  pub found_places : (next free : ℕ → Type 0) → ((v : ℕ) → next v → free v) → FlushesPlaces told next mid new f g → FlushesPlaces told free old new f g
  found_places next free later places = places_then told free next free (λ v is. is) later old mid new f f g x found_first (look_places told free old mid f (Ok x) looks) places

  pub found_keeps : (free first next keep : ℕ → Type 0) → ((v : ℕ) → first v → next v → keep v) → FlushesPlaces told free mid new f g → ((v : ℕ) → first v) → FlushesKeep told next mid new f g → FlushesKeep told keep old new f g
  found_keeps free first next keep both places kept keeps =
      keeps_then told free free first next keep both old mid new f f g x r found_first lays (look_places told free old mid f (Ok x) looks) places (λ tells sound laid v none. kept v) keeps
