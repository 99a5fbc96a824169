-- A table of which the tree of one file in memory changed, and then its record.
use Rattle.std.proofs.Common.{◌≡◌, ◌≢◌, ℕ, ◌/◌, Bool, true, false, cond, nat_eq, inl, inr, refl, sym, ap, subst, ◌∙◌, ⊎_elim, arith}
use Rattle.std.specs.Prelude.{Option, Some, None, is_some}
use Rattle.std.specs.Option.{option_map}
use Rattle.std.specs.BTreeMap as maps
use Rattle.std.specs.FinMap as fin
use Rattle.std.proofs.lemmas.Bool.{cases_eq}
use Rattle.std.proofs.lemmas.Bool.Decides.{nat_tests}
use Rattle.fv_codec.specs.declared.inode.InodeRecord.{InodeRecord}
use Rattle.fv_tables.specs.Spelled.{Under, stored}
use Rattle.fv_tables.specs.Told.{AreTold, records_each, file_at, tree_or, tree_of}
use Rattle.fv_tables.proofs.Tables.{placed_table}
use Rattle.fv_tree.specs.declared.kept.Tree.{Tree}
use Rattle.fv_tree.specs.Sources.{Shown, Use}
use Rattle.fv_tree.specs.Standing.{standing, under}
use Rattle.fv_tree.specs.Writing.{IsAlike, Remains}
use Rattle.fv_tree.specs.Flushing.{IsPlaced, IsSound, changed_of, loaded, loaded_over, Stands}
use Rattle.fv_tree.specs.Altering.{Alters, Leaves, PlacesAnew}
use Rattle.fv_tree.specs.Leading.{LeadsNoMore}
use Rattle.fv_tree.specs.Readying.{KeepsReady}
use Rattle.fv_tree.specs.Beside.{loaded_on, LeadsTo, Spares}
use Rattle.fv_tree.proofs.Beside.{loading_spares}
use Rattle.fv_inode.specs.declared.file.InodeFile.{InodeFile}
use Rattle.fv_inode.specs.Files.{rooted, NamesIndexes}
use Rattle.fv_inode.proofs.Indexed.{rewritten_indexes}
use Rattle.fv_inode.specs.Changing.{Rewrites}
use Rattle.fv_inode.specs.Readying.{IsReadyFile}
use Rattle.fv_inode.proofs.Readied.{holds_there}
use Rattle.fv_inode.proofs.Alike.{alike_itself}
use Rattle.fv_inode.proofs.Placed.{KeepsOthers, keeps_others}
use Rattle.fv_files.specs.declared.files.Files.{Files}
use Rattle.fv_files.specs.Apart.{LeadsIn, LeadsFrom, StandsIn, StoredIn, IsAsSaid}
use Rattle.fv_files.specs.Tables.{table_in, tree_in, file_loaded, loaded_trees, AreStanding, IsLed, IsStored, IsTold}
use Rattle.fv_files.specs.Calls.{Becomes, SparesOthers}
use Rattle.fv_files.proofs.Looked.{Held}
use Rattle.fv_tree.proofs.Brought.{some_same}
use Rattle.fv_files.proofs.Tables.{alike, placed_alike}
use Rattle.fv_files.specs.Altering.{AltersTrees, AreLaid, IsPlacedIn, LeavesIn, LeavesTrees, MatchesRecord, PlacesIn, PlacesTrees}
use Rattle.fv_files.proofs.Altered.{AltersBoth, IsLeftLaid, both_as, both_in, both_then, laid_by, leaves_as, leaves_both, leaves_match, leaves_of, leaves_places, places_as, still_changed}
use Rattle.fv_files.proofs.Beside.{some_differ, same_or, IsOther, LetsGo, UsesNoMore, loading_lets_go, loading_uses, spares_as}
use Rattle.fv_files.proofs.Kept.{others_leave, rest_leave, own_tree_is, inode_alike, files_same, others_told, file_led, file_spares, file_stands, file_stored, inode_led, inode_spares, inode_stands, inode_stored}

-- a table with other trees, or with another inode file
abbrev pub with_trees : Files → maps.BTreeMap ℕ Tree → Files
with_trees f m = record { inode = f.inode; trees = m; alloc = f.alloc }

abbrev pub with_inode : Files → InodeFile → Files
with_inode f i = record { inode = i; trees = f.trees; alloc = f.alloc }

pub record HasRecord (o : Option InodeRecord) : Type 0 where
  pub file : InodeRecord
  pub is : o ≡ Some file

pub has_record : (o : Option InodeRecord) → is_some o ≡ true → HasRecord o
has_record None e = absurd (grind (arith, e))
has_record (Some r) e = record { file = r; is = refl }

-- ---- the tree of a file that is in memory

-- it is that of the table, where there is a record
pub kept_tree_is : (blocks : Under) (f : Files) (n : ℕ) (t : Tree) (r : InodeRecord) → tree_in f n ≡ Some t → file_at (standing blocks f.inode.tree) n ≡ Some r → loaded_trees blocks f (Some n) ≡ Some (loaded_over blocks t)
kept_tree_is blocks f n t r is at = own_tree_is blocks f n r at ∙ ap (λ o. Some (file_loaded blocks n r o)) is

-- the table leads with it nowhere else
pub kept_leads : (blocks : Under) (f : Files) (n : ℕ) (t : Tree) → tree_in f n ≡ Some t → (v : ℕ) → LeadsFrom (loaded_trees blocks f) (Some n) v → LeadsTo (loaded_over blocks t) v
kept_leads blocks f n t is v led = at (file_at (standing blocks f.inode.tree) n) (subst (λ o. LeadsIn (option_map (λ r. file_loaded blocks n r o) (file_at (standing blocks f.inode.tree) n)) v) is led)
  where
    at : (o : Option InodeRecord) → LeadsIn (option_map (λ r. file_loaded blocks n r (Some t)) o) v → LeadsTo (loaded_over blocks t) v
    at None led = absurd led
    at (Some r) led = led

-- and stands on its blocks
pub owned_stands : (source : Shown) (f : Files) (n : ℕ) (t : Tree) → tree_in f n ≡ Some t → AreStanding source f → Stands source t
owned_stands source f n t is sound =
    let there = has_record (file_at (rooted source f.inode) n) (sound.owners n t is).1 in
    subst (StandsIn source.used) (kept_tree_is (under source) f n t there.file is there.is) (sound.trees (Some n))

-- and leads to what its pointers say
pub owned_stored : (known : Bool) (source : Shown) (f : Files) (n : ℕ) (t : Tree) → tree_in f n ≡ Some t → AreStanding source f → IsStored known source f → IsAsSaid known (loaded source t)
owned_stored known source f n t is sound well =
    let there = has_record (file_at (rooted source f.inode) n) (sound.owners n t is).1 in
    subst (StoredIn known) (kept_tree_is (under source) f n t there.file is there.is) (well.trees (Some n))

-- and its record is ready
pub own_ready : (source : Shown) (f : Files) (n : ℕ) → is_some (tree_in f n) ≡ true → AreStanding source f → IsReadyFile f.inode n
own_ready source f n there sound = holds_there (under source) f.inode.tree n (sound.ready n there) (at (tree_in f n) refl there)
  where
    at : (o : Option Tree) → tree_in f n ≡ o → is_some o ≡ true → is_some (file_at (rooted source f.inode) n) ≡ true
    at None is some = absurd (grind (arith, some))
    at (Some t) is some = (sound.owners n t is).1

module _ (old new : Shown) (f : Files) (m : maps.BTreeMap ℕ Tree) (n : ℕ) (t u : Tree) (becomes : Becomes f.trees m n t u) where
  abbrev g : Files
  g = with_trees f m

  told_by : (blocks : Under) (h : Files) (w : Tree) (r : InodeRecord) → tree_in h n ≡ Some w → tree_or (option_map (standing blocks) (tree_in h n)) (stored blocks n r.levels r.root) ≡ standing blocks w
  told_by blocks h w r is = ap (λ o. tree_or (option_map (standing blocks) o) (stored blocks n r.levels r.root)) is

  -- it is seen as before
  pub own_told : IsAlike (standing (under old) t) (standing (under new) u) → (r : InodeRecord) → AreTold (tree_of (table_in old f) n r) (tree_of (table_in new g) n r)
  own_told same r = subst (λ a. AreTold a (tree_of (table_in new g) n r)) (sym (told_by (under old) f t r becomes.was))
      (subst (AreTold (standing (under old) t)) (sym (told_by (under new) g u r becomes.now)) (record { levels = same.levels; stamps = same.stamps; blocks = same.blocks }))

  -- A call of it that failed left the map, and the table is told as before.
  pub failed_told : new.held ≡ old.held → Remains (standing (under old) t) (standing (under new) u) → IsTold old f new g
  failed_told held remains =
      placed_table (table_in old f) (table_in new g) (placed_alike (table_in old f) (table_in new g) n
      same_inode
      (keeps_others (table_in old f) (table_in new g) n (λ j v. fin.get (held j) v) (λ k differs. trees_same k differs))
      (λ r at. own_told (alike (standing (under old) t) (standing (under new) u) remains) r))
    where
      same_inode : IsAlike (rooted old f.inode) (rooted new f.inode)
      same_inode = subst (λ (h : Held). IsAlike (rooted old f.inode) (standing (λ v. fin.get h v) f.inode.tree)) (sym held) (alike_itself (rooted old f.inode))

      trees_same : (k : ℕ) → k ≢ n → option_map (standing (under new)) (tree_in g k) ≡ option_map (standing (under old)) (tree_in f k)
      trees_same k differs = λ j. option_map (standing (λ v. fin.get (held j) v)) (becomes.others k differs j)

  module _ (sound : AreStanding old f) (spares : Spares old new (LeadsTo (loaded old t)) (LeadsTo (loaded new u))) where
    owned : (t.owner ≡ n) × (is_some (file_at (rooted old f.inode) n) ≡ true)
    owned = sound.owners n t becomes.was

    was_there : HasRecord (file_at (rooted old f.inode) n)
    was_there = has_record (file_at (rooted old f.inode) n) owned.1

    was_tree : loaded_trees (under old) f (Some n) ≡ Some (loaded old t)
    was_tree = kept_tree_is (under old) f n t was_there.file becomes.was was_there.is

    own_spares : Spares old new (LeadsFrom (loaded_trees (under old) f) (Some n)) (LeadsFrom (loaded_trees (under new) g) (Some n))
    own_spares = spares_as old new (LeadsTo (loaded old t)) (LeadsTo (loaded new u)) (LeadsFrom (loaded_trees (under old) f) (Some n)) (LeadsFrom (loaded_trees (under new) g) (Some n)) spares
        (λ v led. subst (λ o. LeadsIn o v) (sym was_tree) led) (kept_leads (under new) g n u becomes.now)

    -- The inode file is seen as before, and the other files are told as before.
    pub kept_inode : IsAlike (rooted old f.inode) (rooted new f.inode)
    kept_inode = inode_alike old new f g n refl becomes.others sound own_spares

    pub kept_others : KeepsOthers (table_in old f) (table_in new g) n
    kept_others = others_told old new f g n refl becomes.others sound own_spares

    pub kept_stands : u.owner ≡ t.owner → Stands new u → AreStanding new g
    kept_stands owner stands =
        let same = files_same old new f g n refl becomes.others sound own_spares in
        file_stands old new f g n refl becomes.others sound own_spares
        (subst (StandsIn new.used) (sym (kept_tree_is (under new) g n u was_there.file becomes.now (same n ∙ was_there.is))) stands)
        (λ w at. (ap (λ (x : Tree). x.owner) (some_same w u (sym at ∙ becomes.now)) ∙ owner ∙ owned.0, owned.1))
        (λ _. sound.ready n (ap is_some becomes.was))

    now_tree : loaded_trees (under new) g (Some n) ≡ Some (loaded new u)
    now_tree = kept_tree_is (under new) g n u was_there.file becomes.now (files_same old new f g n refl becomes.others sound own_spares n ∙ was_there.is)

    pub kept_stored : (known : Bool) → IsAsSaid known (loaded new u) → IsStored known old f → IsStored known new g
    kept_stored known well = file_stored old new f g n refl becomes.others sound own_spares known (subst (StoredIn known) (sym now_tree) well)

    -- what happens to the places of that tree happens to the table's
    pub kept_leave : Leaves (loaded old t) (loaded new u) → LeavesTrees (loaded_trees (under old) f) (loaded_trees (under new) g)
    kept_leave is b = ⊎_elim
        (λ (same : b ≡ Some n). subst (λ a. LeavesIn (loaded_trees (under old) f a) (loaded_trees (under new) g a)) (sym same) (leaves_as (loaded_trees (under old) f (Some n)) (loaded_trees (under new) g (Some n)) (loaded old t) (loaded new u) was_tree now_tree is))
        (λ (differs : b ≢ Some n). others_leave old new f g n refl becomes.others sound own_spares b differs)
        (same_or b (Some n))

    pub kept_alter : (s : ℕ) → Alters s (loaded old t) (loaded new u) → (b : Option ℕ) → AltersBoth s (loaded_trees (under old) f b) (loaded_trees (under new) g b)
    kept_alter s is b = ⊎_elim
        (λ (same : b ≡ Some n). subst (λ a. AltersBoth s (loaded_trees (under old) f a) (loaded_trees (under new) g a)) (sym same) (both_as s (loaded_trees (under old) f (Some n)) (loaded_trees (under new) g (Some n)) (loaded old t) (loaded new u) was_tree now_tree is))
        (λ (differs : b ≢ Some n). leaves_both s (loaded_trees (under old) f b) (loaded_trees (under new) g b) (others_leave old new f g n refl becomes.others sound own_spares b differs))
        (same_or b (Some n))

    pub kept_place : (free : ℕ → Type 0) → PlacesAnew (loaded old t) free (loaded new u) → PlacesTrees free (loaded_trees (under old) f) (loaded_trees (under new) g)
    kept_place free is b = ⊎_elim
        (λ (same : b ≡ Some n). subst (λ a. PlacesIn free (loaded_trees (under old) f a) (loaded_trees (under new) g a)) (sym same) (places_as free (loaded_trees (under old) f (Some n)) (loaded_trees (under new) g (Some n)) (loaded old t) (loaded new u) was_tree now_tree is))
        (λ (differs : b ≢ Some n). leaves_places free (loaded_trees (under old) f b) (loaded_trees (under new) g b) (others_leave old new f g n refl becomes.others sound own_spares b differs))
        (same_or b (Some n))

    -- a block of it that was placed is one of the table's
    pub kept_there : (v : ℕ) → IsPlaced (loaded old t) (loaded new u) v → IsPlacedIn (loaded_trees (under old) f) (loaded_trees (under new) g) v
    kept_there v placed = record { tree = Some n; old = loaded old t; new = loaded new u; was = was_tree; now = now_tree; placed = placed }

    -- the tree of another file
    kept_files : (k : ℕ) → file_at (rooted new f.inode) k ≡ file_at (rooted old f.inode) k
    kept_files = files_same old new f g n refl becomes.others sound own_spares

    pub kept_other : (k : ℕ) (w : Tree) (q : InodeRecord) → k ≢ n → tree_in g k ≡ Some w → file_at (rooted new f.inode) k ≡ Some q → IsLeftLaid (under old) (under new) f g k w q
    kept_other k w q differs is at =
        let was = sym (becomes.others k differs) ∙ is in
        let file = sym (kept_files k) ∙ at in record {
          tree = w;
          was = was;
          file = file;
          leaves = leaves_of (loaded_trees (under old) f (Some k)) (loaded_trees (under new) g (Some k)) (loaded old w) (loaded new w) (kept_tree_is (under old) f k w q was file) (kept_tree_is (under new) g k w q is at)
              (others_leave old new f g n refl becomes.others sound own_spares (Some k) (some_differ k n differs));
          cell = λ before. before;
        }

    -- Each tree in memory is as its record says, or its inode cell changed.
    pub kept_laid : ((q : InodeRecord) → MatchesRecord (loaded old t) q → MatchesRecord (loaded new u) q) → AreLaid (under old) f → AreLaid (under new) g
    kept_laid own laid k w q is at = ⊎_elim
        (λ (same : k ≡ n).
        let here : file_at (rooted old f.inode) n ≡ Some q = sym (kept_files n) ∙ ap (file_at (rooted new f.inode)) (sym same) ∙ at in
        let it : u ≡ w = some_same u w (sym becomes.now ∙ ap (tree_in g) (sym same) ∙ is) in
        ⊎_elim
        (λ before. inl (ap (λ m. changed_of f.inode.tree 0 (m / records_each)) same ∙ before))
        (λ matches. inr (subst (λ (v : Tree). MatchesRecord (loaded new v) q) it (own q matches)))
        (laid n t q becomes.was here))
        (λ (differs : k ≢ n).
        let left = kept_other k w q differs is at in
        ⊎_elim
        (λ before. inl before)
        (λ matches. inr (leaves_match (loaded old left.tree) (loaded new w) q left.leaves matches))
        (laid k left.tree q left.was left.file))
        (cases_eq k n)

    pub kept_spares : SparesOthers old new f g
    kept_spares = file_spares old new f g n refl becomes.others sound own_spares

    pub kept_led : LetsGo new (LeadsTo (loaded old t)) (LeadsTo (loaded new u)) → UsesNoMore old new (LeadsTo (loaded old t)) (LeadsTo (loaded new u)) → IsLed old f → IsLed new g
    kept_led lets_go no_more = file_led old new f g n refl becomes.others sound own_spares
        (λ v none some led. lets_go v (λ now. none (subst (λ o. LeadsIn o v) (sym now_tree) now)) some (subst (λ o. LeadsIn o v) was_tree led))
        (λ v was now. no_more v (λ led. was (subst (λ o. LeadsIn o v) (sym was_tree) led)) (λ led. now (subst (λ o. LeadsIn o v) (sym now_tree) led)))

-- ---- the record of a file of which the tree is in memory

module _ (source : Shown) (f : Files) (i : InodeFile) (n s : ℕ) (u : Tree) (kept : tree_in f n ≡ Some u) (change : InodeRecord → InodeRecord)
    (files : (k : ℕ) → file_at (rooted source i) k ≡ cond (nat_eq k n) (option_map change (file_at (rooted source f.inode) n)) (file_at (rooted source f.inode) k)) where
  abbrev h : Files
  h = with_inode f i

  pub other_records : (k : ℕ) → k ≢ n → file_at (rooted source i) k ≡ file_at (rooted source f.inode) k
  other_records k differs = files k ∙ (let test : nat_eq k n ≡ false = grind (arith, nat_tests, differs) in ap (λ b. cond b (option_map change (file_at (rooted source f.inode) n)) (file_at (rooted source f.inode) k)) test)

  pub own_record : file_at (rooted source i) n ≡ option_map change (file_at (rooted source f.inode) n)
  own_record = files n ∙ (let test : nat_eq n n ≡ true = grind (arith, nat_tests) in ap (λ b. cond b (option_map change (file_at (rooted source f.inode) n)) (file_at (rooted source f.inode) n)) test)

  still : (o : Option InodeRecord) → option_map (λ r. file_loaded (under source) n r (Some u)) (option_map change o) ≡ option_map (loaded_on (under source)) (option_map (λ r. file_loaded (under source) n r (Some u)) o)
  still None = refl
  still (Some r) = refl

  own_moved : loaded_trees (under source) h (Some n) ≡ option_map (loaded_on (under source)) (loaded_trees (under source) f (Some n))
  own_moved = subst (λ o. option_map (λ r. file_loaded (under source) n r o) (file_at (rooted source i) n) ≡ option_map (loaded_on (under source)) (option_map (λ r. file_loaded (under source) n r o) (file_at (rooted source f.inode) n))) (sym kept)
      (ap (option_map (λ r. file_loaded (under source) n r (Some u))) own_record ∙ still (file_at (rooted source f.inode) n))

  own_same : IsOther (under source) (loaded_trees (under source) f (Some n)) (loaded_trees (under source) h (Some n))
  own_same = inl own_moved

  is_there : (o : Option InodeRecord) → is_some o ≡ true → is_some (option_map change o) ≡ true
  is_there None e = e
  is_there (Some r) e = refl

  -- What is in use is led to,
  pub record_led : LeadsNoMore (loaded source f.inode.tree) (loaded source i.tree) → LeadsNoMore (loaded source i.tree) (loaded source f.inode.tree) → AreStanding source f → IsLed source f → IsLed source h
  record_led no_more keeps sound = inode_led source source f h n (λ k differs. refl) other_records sound
      (loading_spares source source (LeadsTo (loaded source f.inode.tree)) (LeadsTo (loaded source i.tree)) refl refl (λ v led. record { level = led.level; place = led.place; leads = no_more led.level led.place v led.leads }))
      (inl own_moved)
      (loading_lets_go source (LeadsTo (loaded source f.inode.tree)) (LeadsTo (loaded source i.tree)) (λ v led. record { level = led.level; place = led.place; leads = keeps led.level led.place v led.leads }))
      (loading_uses source source (LeadsTo (loaded source f.inode.tree)) (LeadsTo (loaded source i.tree)) refl)

  -- and all trees stand on their blocks.
  pub record_stands : i.tree.owner ≡ f.inode.tree.owner → Stands source i.tree → LeadsNoMore (loaded source f.inode.tree) (loaded source i.tree) → KeepsReady f.inode.tree i.tree → AreStanding source f → AreStanding source h
  record_stands owner stands no_more keeps_ready sound =
      inode_stands source source f h n (λ k differs. refl) other_records sound
      (loading_spares source source (LeadsTo (loaded source f.inode.tree)) (LeadsTo (loaded source i.tree)) refl refl (λ v led. record { level = led.level; place = led.place; leads = no_more led.level led.place v led.leads }))
      own_same owner stands
      (λ t at. let own = sound.owners n t at in (own.0, ap is_some own_record ∙ is_there (file_at (rooted source f.inode) n) own.1))
      (λ k there. keeps_ready (k / records_each) (sound.ready k there))

  pub record_spares : LeadsNoMore (loaded source f.inode.tree) (loaded source i.tree) → AreStanding source f → SparesOthers source source f h
  record_spares no_more sound =
      inode_spares source source f h n (λ k differs. refl) other_records sound
      (loading_spares source source (LeadsTo (loaded source f.inode.tree)) (LeadsTo (loaded source i.tree)) refl refl (λ v led. record { level = led.level; place = led.place; leads = no_more led.level led.place v led.leads }))
      own_same

  pub record_stored : (known : Bool) → IsAsSaid known (loaded source i.tree) → (NamesIndexes (rooted source f.inode) → NamesIndexes (rooted source i)) → LeadsNoMore (loaded source f.inode.tree) (loaded source i.tree) → AreStanding source f → IsStored known source f → IsStored known source h
  record_stored known well named no_more sound =
      inode_stored source source f h n (λ k differs. refl) other_records sound
      (loading_spares source source (LeadsTo (loaded source f.inode.tree)) (LeadsTo (loaded source i.tree)) refl refl (λ v led. record { level = led.level; place = led.place; leads = no_more led.level led.place v led.leads }))
      own_same known well named

-- ---- both, one after the other

-- the record changed, and all trees of files are as before
pub record_alter : (source : Shown) (f : Files) (i : InodeFile) (n s : ℕ) (u : Tree) → tree_in f n ≡ Some u → (change : InodeRecord → InodeRecord)
    → ((k : ℕ) → file_at (rooted source i) k ≡ cond (nat_eq k n) (option_map change (file_at (rooted source f.inode) n)) (file_at (rooted source f.inode) k)) → LeadsNoMore (loaded source f.inode.tree) (loaded source i.tree) → Alters s (loaded source f.inode.tree) (loaded source i.tree)
    → AreStanding source f → (b : Option ℕ) → AltersBoth s (loaded_trees (under source) f b) (loaded_trees (under source) (with_inode f i) b)
record_alter source f i n s u kept change files no_more alters sound None = alters
record_alter source f i n s u kept change files no_more alters sound (Some k) =
    leaves_both s (loaded_trees (under source) f (Some k)) (loaded_trees (under source) (with_inode f i) (Some k)) (rest_leave source source f (with_inode f i) n (λ k differs. refl) (other_records source f i n s u kept change files) sound
    (loading_spares source source (LeadsTo (loaded source f.inode.tree)) (LeadsTo (loaded source i.tree)) refl refl (λ v led. record { level = led.level; place = led.place; leads = no_more led.level led.place v led.leads }))
    (own_moved source f i n s u kept change files) k)

module _ (old new : Shown) (f : Files) (m : maps.BTreeMap ℕ Tree) (n : ℕ) (t u : Tree) (becomes : Becomes f.trees m n t u) (i : InodeFile) (s : ℕ) (change : InodeRecord → InodeRecord)
    (rewrites : (blocks : Under) → Rewrites (standing blocks f.inode.tree) (standing blocks i.tree) n s (option_map change (file_at (standing blocks f.inode.tree) n))) (owner : i.tree.owner ≡ f.inode.tree.owner)
    (sound_i : (blocks : Under) (used : ℕ → Option Use) → IsSound used (loaded_over blocks f.inode.tree) → IsSound used (loaded_over blocks i.tree)) (leads : (blocks : Under) → LeadsNoMore (loaded_over blocks f.inode.tree) (loaded_over blocks i.tree)) (keeps_ready : KeepsReady f.inode.tree i.tree) where
  pub both_stand : AreStanding old f → Spares old new (LeadsTo (loaded old t)) (LeadsTo (loaded new u)) → u.owner ≡ t.owner → Stands new u → AreStanding new (record { inode = i; trees = m; alloc = f.alloc })
  both_stand sound spares same stands =
      let kept = kept_stands old new f m n t u becomes sound spares same stands in
      record_stands new (with_trees f m) i n s u becomes.now change (rewrites (under new)).files owner (sound_i (under new) new.used (kept.trees None)) (leads (under new)) keeps_ready kept

  pub both_led : AreStanding old f → Spares old new (LeadsTo (loaded old t)) (LeadsTo (loaded new u)) → u.owner ≡ t.owner → Stands new u → ((blocks : Under) → LeadsNoMore (loaded_over blocks i.tree) (loaded_over blocks f.inode.tree))
      → LetsGo new (LeadsTo (loaded old t)) (LeadsTo (loaded new u)) → UsesNoMore old new (LeadsTo (loaded old t)) (LeadsTo (loaded new u)) → IsLed old f → IsLed new (record { inode = i; trees = m; alloc = f.alloc })
  both_led sound spares same stands keeps lets_go no_more led =
      record_led new (with_trees f m) i n s u becomes.now change (rewrites (under new)).files (leads (under new)) (keeps (under new)) (kept_stands old new f m n t u becomes sound spares same stands)
      (kept_led old new f m n t u becomes sound spares lets_go no_more led)

  pub both_stored : AreStanding old f → Spares old new (LeadsTo (loaded old t)) (LeadsTo (loaded new u)) → u.owner ≡ t.owner → Stands new u → (known : Bool)
      → ((blocks : Under) (used : ℕ → Option Use) → IsSound used (loaded_over blocks f.inode.tree) → IsAsSaid known (loaded_over blocks f.inode.tree) → IsAsSaid known (loaded_over blocks i.tree)) → IsAsSaid known (loaded new u) → IsStored known old f
      → IsStored known new (record { inode = i; trees = m; alloc = f.alloc })
  both_stored sound spares same stands known record_well well was =
      let kept = kept_stands old new f m n t u becomes sound spares same stands in
      let half = kept_stored old new f m n t u becomes sound spares known well was in
      record_stored new (with_trees f m) i n s u becomes.now change (rewrites (under new)).files known (record_well (under new) new.used (kept.trees None) (half.trees None)) (rewritten_indexes (rooted new f.inode) (rooted new i) n s _ (rewrites (under new))) (leads (under new)) kept half

  -- the places of the tree and of the inode file got the stamp, or are as before
  pub both_alter : AreStanding old f → Spares old new (LeadsTo (loaded old t)) (LeadsTo (loaded new u)) → u.owner ≡ t.owner → Stands new u → Alters s (loaded old t) (loaded new u) → Alters s (loaded new f.inode.tree) (loaded new i.tree)
      → AltersTrees s (loaded_trees (under old) f) (loaded_trees (under new) (record { inode = i; trees = m; alloc = f.alloc }))
  both_alter sound spares same stands own inode b =
      let x = loaded_trees (under old) f in
      let y = loaded_trees (under new) (with_trees f m) in
      let z = loaded_trees (under new) (record { inode = i; trees = m; alloc = f.alloc }) in
      both_in s (x b) (z b) (both_then s (x b) (y b) (z b) (kept_alter old new f m n t u becomes sound spares s own b)
      (record_alter new (with_trees f m) i n s u becomes.now change (rewrites (under new)).files (leads (under new)) inode (kept_stands old new f m n t u becomes sound spares same stands) b))

  -- and as the inode cell of the file changed, each tree in memory is still as its record says, or its inode cell changed
  pub both_laid : AreStanding old f → Spares old new (LeadsTo (loaded old t)) (LeadsTo (loaded new u)) → Alters s (loaded new f.inode.tree) (loaded new i.tree) → changed_of i.tree 0 (n / records_each) ≡ true → AreLaid (under old) f
      → AreLaid (under new) (record { inode = i; trees = m; alloc = f.alloc })
  both_laid sound spares inode marked laid = laid_by (under old) (under new) f (record { inode = i; trees = m; alloc = f.alloc }) laid (λ k w q is at. ⊎_elim
      (λ (here : k ≡ n). inl (ap (λ j. changed_of i.tree 0 (j / records_each)) here ∙ marked))
      (λ (differs : k ≢ n).
      let left = kept_other old new f m n t u becomes sound spares k w q differs is (sym (other_records new (with_trees f m) i n s u becomes.now change (rewrites (under new)).files k differs) ∙ at) in
      inr (record { tree = left.tree; was = left.was; file = left.file; leaves = left.leaves; cell = still_changed s (under new) (under new) f.inode.tree i.tree k q inode at }))
      (cases_eq k n))
