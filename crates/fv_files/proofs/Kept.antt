-- Tables that stand on their blocks, where the tree of one file or the inode file changed.
use Rattle.std.proofs.Common.{◌≡◌, ◌≢◌, ℕ, ◌/◌, Bool, true, inl, refl, sym, ap, subst, ◌∙◌, ⊎_elim}
use Rattle.std.specs.Prelude.{Option, Some, None, is_some}
use Rattle.std.specs.Option.{option_map}
use Rattle.std.proofs.lemmas.Bool.{cases_eq}
use Rattle.std.specs.FinMap as fin
use Rattle.fv_codec.specs.declared.inode.InodeRecord.{InodeRecord}
use Rattle.fv_tables.specs.Spelled.{Under, stored}
use Rattle.fv_tables.specs.Told.{AreTold, records_each, file_at, tree_or}
use Rattle.fv_tables.specs.Kept.{over}
use Rattle.fv_tree.specs.declared.kept.Tree.{Tree}
use Rattle.fv_tree.specs.Sources.{Shown}
use Rattle.fv_tree.specs.Standing.{standing, under}
use Rattle.fv_tree.specs.Writing.{IsAlike}
use Rattle.fv_tree.specs.Flushing.{Loaded, loaded, Stands}
use Rattle.fv_tree.specs.Beside.{loaded_on, LeadsTo, Spares}
use Rattle.fv_tree.specs.Readying.{IsReady}
use Rattle.fv_inode.specs.declared.file.InodeFile.{InodeFile}
use Rattle.fv_inode.specs.Files.{rooted, NamesIndexes}
use Rattle.fv_inode.proofs.Indexed.{alike_indexes}
use Rattle.fv_inode.proofs.Slots.{alike_files}
use Rattle.fv_inode.proofs.Placed.{KeepsOthers}
use Rattle.fv_files.specs.declared.files.Files.{Files}
use Rattle.fv_files.specs.Apart.{LeadsFrom, StandsIn, StoredIn, AreLed, IsAsSaid}
use Rattle.fv_files.specs.Tables.{table_in, tree_in, file_loaded, loaded_trees, AreSound, AreStanding, IsLed, IsStored, IsStoredOn}
use Rattle.fv_files.specs.Altering.{LeavesIn}
use Rattle.fv_files.specs.Calls.{SparesOthers}
use Rattle.fv_files.proofs.Stored.{stored_still}
use Rattle.fv_files.proofs.Looked.{Held}
use Rattle.fv_files.proofs.Beside.{IsOther, KeepsIn, LetsGo, UsesNoMore, led_on, other_in_leaves, some_differ, spares_all, trees_laid, other_tree, stand_still, lie_apart}

pub sound_on : (f : Files) (old new : Shown) → new.held ≡ old.held → new.used ≡ old.used → AreStanding old f → AreStanding new f
sound_on f old new held used stands =
    subst (λ (h : Held). AreSound (λ v. fin.get h v) new.used f) (sym held) (subst (λ u. AreSound (under old) u f) (sym used) stands)

pub led_on_blocks : (f : Files) (old new : Shown) → new.held ≡ old.held → new.used ≡ old.used → IsLed old f → IsLed new f
led_on_blocks f old new held used led =
    subst (λ (h : Held). AreLed new.used (loaded_trees (λ v. fin.get h v) f)) (sym held) (subst (λ u. AreLed u (loaded_trees (under old) f)) (sym used) led)

pub stored_on_blocks : (known : Bool) (f : Files) (old new : Shown) → new.held ≡ old.held → IsStored known old f → IsStored known new f
stored_on_blocks known f old new held = subst (λ (h : Held). IsStoredOn known (λ v. fin.get h v) f) (sym held)

-- ---- trees of files

abbrev pub tree_at : Under → ℕ → Option Tree → Option InodeRecord → Option Loaded
tree_at blocks n o r = option_map (λ r. file_loaded blocks n r o) r

-- the tree of a file of which the record is known
pub own_tree_is : (blocks : Under) (f : Files) (n : ℕ) (r : InodeRecord) → file_at (standing blocks f.inode.tree) n ≡ Some r → loaded_trees blocks f (Some n) ≡ Some (file_loaded blocks n r (tree_in f n))
own_tree_is blocks f n r is = ap (option_map (λ r. file_loaded blocks n r (tree_in f n))) is

-- over other blocks
on_blocks : (old new : Under) (n : ℕ) (o : Option Tree) (r : Option InodeRecord) → tree_at new n o r ≡ option_map (loaded_on new) (tree_at old n o r)
on_blocks old new n o None = refl
on_blocks old new n None (Some r) = refl
on_blocks old new n (Some t) (Some r) = refl

pub moved_tree : (old new : Under) (f g : Files) (n : ℕ) → tree_in g n ≡ tree_in f n → file_at (standing new g.inode.tree) n ≡ file_at (standing old f.inode.tree) n → loaded_trees new g (Some n) ≡ option_map (loaded_on new) (loaded_trees old f (Some n))
moved_tree old new f g n tree file = (λ i. tree_at new n (tree i) (file i)) ∙ on_blocks old new n (tree_in f n) (file_at (standing old f.inode.tree) n)

pub same_trees : (old new : Under) (f g : Files) (n : ℕ) → tree_in g n ≡ tree_in f n → file_at (standing new g.inode.tree) n ≡ file_at (standing old f.inode.tree) n → IsOther new (loaded_trees old f (Some n)) (loaded_trees new g (Some n))
same_trees old new f g n tree file = inl (moved_tree old new f g n tree file)

-- and as a table is told by them
told_tree : (old new : Under) (n : ℕ) (r : InodeRecord) (o p : Option Tree) → p ≡ o → IsAlike (file_loaded old n r o).tree (over new (file_loaded old n r o).tree)
    → AreTold (tree_or (option_map (standing old) o) (stored old n r.levels r.root)) (tree_or (option_map (standing new) p) (stored new n r.levels r.root))
told_tree old new n r None p same alike = subst (λ p. AreTold (stored old n r.levels r.root) (tree_or (option_map (standing new) p) (stored new n r.levels r.root))) (sym same)
    (record { levels = alike.levels; stamps = alike.stamps; blocks = alike.blocks })
told_tree old new n r (Some t) p same alike = subst (λ p. AreTold (standing old t) (tree_or (option_map (standing new) p) (stored new n r.levels r.root))) (sym same)
    (record { levels = alike.levels; stamps = alike.stamps; blocks = alike.blocks })

-- ---- the tree of a file changed

module _ (old new : Shown) (f g : Files) (n : ℕ) (inode : g.inode ≡ f.inode) (trees : (k : ℕ) → k ≢ n → tree_in g k ≡ tree_in f k) (sound : AreStanding old f)
    (spares : Spares old new (LeadsFrom (loaded_trees (under old) f) (Some n)) (LeadsFrom (loaded_trees (under new) g) (Some n))) where
  -- The inode file is seen as before,
  pub inode_alike : IsAlike (rooted old f.inode) (rooted new g.inode)
  inode_alike = subst (λ (i : InodeFile). IsAlike (rooted old f.inode) (rooted new i)) (sym inode)
      (other_tree old new (loaded_trees (under old) f) (loaded_trees (under new) g) (Some n) (trees_laid (under old) f) sound.trees sound.apart spares None (λ e. cc) (loaded old f.inode.tree) refl)

  pub files_same : (k : ℕ) → file_at (rooted new g.inode) k ≡ file_at (rooted old f.inode) k
  files_same = alike_files (rooted old f.inode) (rooted new g.inode) inode_alike

  -- the other files are told as before,
  pub others_told : KeepsOthers (table_in old f) (table_in new g) n
  others_told k differs r at = told_tree (under old) (under new) k r (tree_in f k) (tree_in g k) (trees k differs)
      (other_tree old new (loaded_trees (under old) f) (loaded_trees (under new) g) (Some n) (trees_laid (under old) f) sound.trees sound.apart spares (Some k) (some_differ k n differs) (file_loaded (under old) k r (tree_in f k)) (own_tree_is (under old) f k r at))

  others : (b : Option ℕ) → b ≢ Some n → IsOther (under new) (loaded_trees (under old) f b) (loaded_trees (under new) g b)
  others None differs = inl (λ i. Some (loaded new (inode i).tree))
  others (Some k) differs = same_trees (under old) (under new) f g k (trees k (λ e. differs (ap (λ m. Some m) e))) (files_same k)

  keeps : (b : Option ℕ) → b ≢ Some n → KeepsIn (under new) (loaded_trees (under old) f b) (loaded_trees (under new) g b)
  keeps None differs = inl (λ i. Some (loaded new (inode i).tree))
  keeps (Some k) differs = inl (moved_tree (under old) (under new) f g k (trees k (λ e. differs (ap (λ m. Some m) e))) (files_same k))

  -- nothing of the other trees changed,
  moved : (b : Option ℕ) → b ≢ Some n → loaded_trees (under new) g b ≡ option_map (loaded_on (under new)) (loaded_trees (under old) f b)
  moved None differs = λ i. Some (loaded new (inode i).tree)
  moved (Some k) differs = moved_tree (under old) (under new) f g k (trees k (λ e. differs (ap (λ m. Some m) e))) (files_same k)

  pub others_leave : (b : Option ℕ) → b ≢ Some n → LeavesIn (loaded_trees (under old) f b) (loaded_trees (under new) g b)
  others_leave b differs = other_in_leaves old new (loaded_trees (under old) f) (loaded_trees (under new) g) (Some n) (trees_laid (under old) f) sound.trees sound.apart spares b differs (moved b differs)

  -- what is in use is led to,
  pub file_led : LetsGo new (LeadsFrom (loaded_trees (under old) f) (Some n)) (LeadsFrom (loaded_trees (under new) g) (Some n)) → UsesNoMore old new (LeadsFrom (loaded_trees (under old) f) (Some n)) (LeadsFrom (loaded_trees (under new) g) (Some n)) → IsLed old f → IsLed new g
  file_led = led_on old new (loaded_trees (under old) f) (loaded_trees (under new) g) (Some n) (trees_laid (under old) f) sound.trees sound.apart spares keeps

  -- what isn't the table's stays,
  pub file_spares : SparesOthers old new f g
  file_spares = spares_all old new (loaded_trees (under old) f) (loaded_trees (under new) g) (Some n) (trees_laid (under old) f) sound.trees sound.apart spares others

  -- what it leads to is as its pointers say,
  pub file_stored : (known : Bool) → StoredIn known (loaded_trees (under new) g (Some n)) → IsStored known old f → IsStored known new g
  file_stored known own was = record {
    trees = stored_still known old new (loaded_trees (under old) f) (loaded_trees (under new) g) (Some n) (trees_laid (under old) f) sound.trees sound.apart spares others own was.trees;
    inodes = alike_indexes (rooted old f.inode) (rooted new g.inode) inode_alike was.inodes;
  }

  -- and all trees stand on their blocks.
  pub file_stands : StandsIn new.used (loaded_trees (under new) g (Some n)) → ((t : Tree) → tree_in g n ≡ Some t → (t.owner ≡ n) × (is_some (file_at (rooted old f.inode) n) ≡ true)) → (is_some (tree_in g n) ≡ true → IsReady f.inode.tree (n / records_each)) → AreStanding new g
  file_stands own owner own_ready = record {
    owner = ap (λ (i : InodeFile). i.tree.owner) inode ∙ sound.owner;
    owners = λ k t at. ⊎_elim
        (λ (same : k ≡ n). let is = owner t (ap (tree_in g) (sym same) ∙ at) in (is.0 ∙ sym same, ap is_some (files_same k ∙ ap (file_at (rooted old f.inode)) same) ∙ is.1))
        (λ (differs : k ≢ n). let is = sound.owners k t (sym (trees k differs) ∙ at) in (is.0, ap is_some (files_same k) ∙ is.1))
        (cases_eq k n);
    trees = stand_still old new (loaded_trees (under old) f) (loaded_trees (under new) g) (Some n) (trees_laid (under old) f) sound.trees sound.apart spares others own;
    apart = lie_apart old new (loaded_trees (under old) f) (loaded_trees (under new) g) (Some n) (trees_laid (under old) f) sound.trees sound.apart spares others;
    ready = λ k there. subst (λ (i : InodeFile). IsReady i.tree (k / records_each)) (sym inode) (⊎_elim
        (λ (same : k ≡ n). subst (λ m. IsReady f.inode.tree (m / records_each)) (sym same) (own_ready (ap (λ m. is_some (tree_in g m)) (sym same) ∙ there)))
        (λ (differs : k ≢ n). sound.ready k (ap is_some (sym (trees k differs)) ∙ there))
        (cases_eq k n));
  }

-- ---- the inode file changed, and the record of one file with it

module _ (old new : Shown) (f g : Files) (n : ℕ) (trees : (k : ℕ) → k ≢ n → tree_in g k ≡ tree_in f k) (files : (k : ℕ) → k ≢ n → file_at (rooted new g.inode) k ≡ file_at (rooted old f.inode) k) (sound : AreStanding old f)
    (spares : Spares old new (LeadsTo (loaded old f.inode.tree)) (LeadsTo (loaded new g.inode.tree))) where
  -- The other files are told as before,
  pub records_told : KeepsOthers (table_in old f) (table_in new g) n
  records_told k differs r at = told_tree (under old) (under new) k r (tree_in f k) (tree_in g k) (trees k differs)
      (other_tree old new (loaded_trees (under old) f) (loaded_trees (under new) g) None (trees_laid (under old) f) sound.trees sound.apart spares (Some k) (λ e. cc) (file_loaded (under old) k r (tree_in f k)) (own_tree_is (under old) f k r at))

  -- nothing of their trees changed,
  pub records_leave : (k : ℕ) → k ≢ n → LeavesIn (loaded_trees (under old) f (Some k)) (loaded_trees (under new) g (Some k))
  records_leave k differs = other_in_leaves old new (loaded_trees (under old) f) (loaded_trees (under new) g) None (trees_laid (under old) f) sound.trees sound.apart spares (Some k) (λ e. cc) (moved_tree (under old) (under new) f g k (trees k differs) (files k differs))

  pub rest_leave : loaded_trees (under new) g (Some n) ≡ option_map (loaded_on (under new)) (loaded_trees (under old) f (Some n)) → (k : ℕ) → LeavesIn (loaded_trees (under old) f (Some k)) (loaded_trees (under new) g (Some k))
  rest_leave own k = ⊎_elim
      (λ (same : k ≡ n). subst (λ m. LeavesIn (loaded_trees (under old) f (Some m)) (loaded_trees (under new) g (Some m))) (sym same)
      (other_in_leaves old new (loaded_trees (under old) f) (loaded_trees (under new) g) None (trees_laid (under old) f) sound.trees sound.apart spares (Some n) (λ e. cc) own))
      (λ (differs : k ≢ n). records_leave k differs)
      (cases_eq k n)

  -- what is in use is led to,
  module _ (own : KeepsIn (under new) (loaded_trees (under old) f (Some n)) (loaded_trees (under new) g (Some n))) where
    rest_keeps : (b : Option ℕ) → b ≢ None → KeepsIn (under new) (loaded_trees (under old) f b) (loaded_trees (under new) g b)
    rest_keeps None differs = absurd (differs refl)
    rest_keeps (Some k) differs = ⊎_elim
        (λ (same : k ≡ n). subst (λ m. KeepsIn (under new) (loaded_trees (under old) f (Some m)) (loaded_trees (under new) g (Some m))) (sym same) own)
        (λ (unlike : k ≢ n). inl (moved_tree (under old) (under new) f g k (trees k unlike) (files k unlike)))
        (cases_eq k n)

    pub inode_led : LetsGo new (LeadsTo (loaded old f.inode.tree)) (LeadsTo (loaded new g.inode.tree)) → UsesNoMore old new (LeadsTo (loaded old f.inode.tree)) (LeadsTo (loaded new g.inode.tree)) → IsLed old f → IsLed new g
    inode_led = led_on old new (loaded_trees (under old) f) (loaded_trees (under new) g) None (trees_laid (under old) f) sound.trees sound.apart spares rest_keeps

  -- and all trees stand on their blocks.
  module _ (own : IsOther (under new) (loaded_trees (under old) f (Some n)) (loaded_trees (under new) g (Some n))) where
    rest : (b : Option ℕ) → b ≢ None → IsOther (under new) (loaded_trees (under old) f b) (loaded_trees (under new) g b)
    rest None differs = absurd (differs refl)
    rest (Some k) differs = ⊎_elim
        (λ (same : k ≡ n). subst (λ m. IsOther (under new) (loaded_trees (under old) f (Some m)) (loaded_trees (under new) g (Some m))) (sym same) own)
        (λ (unlike : k ≢ n). same_trees (under old) (under new) f g k (trees k unlike) (files k unlike))
        (cases_eq k n)

    pub inode_spares : SparesOthers old new f g
    inode_spares = spares_all old new (loaded_trees (under old) f) (loaded_trees (under new) g) None (trees_laid (under old) f) sound.trees sound.apart spares rest

    pub inode_stored : (known : Bool) → IsAsSaid known (loaded new g.inode.tree) → (NamesIndexes (rooted old f.inode) → NamesIndexes (rooted new g.inode)) → IsStored known old f → IsStored known new g
    inode_stored known own named was = record {
      trees = stored_still known old new (loaded_trees (under old) f) (loaded_trees (under new) g) None (trees_laid (under old) f) sound.trees sound.apart spares rest own was.trees;
      inodes = named was.inodes;
    }

    pub inode_stands : g.inode.tree.owner ≡ f.inode.tree.owner → Stands new g.inode.tree → ((t : Tree) → tree_in g n ≡ Some t → (t.owner ≡ n) × (is_some (file_at (rooted new g.inode) n) ≡ true)) → ((k : ℕ) → is_some (tree_in g k) ≡ true → IsReady g.inode.tree (k / records_each)) → AreStanding new g
    inode_stands owner stands of_own ready = record {
      owner = owner ∙ sound.owner;
      owners = λ k t at. ⊎_elim
          (λ (same : k ≡ n). let is = of_own t (ap (tree_in g) (sym same) ∙ at) in (is.0 ∙ sym same, ap (λ m. is_some (file_at (rooted new g.inode) m)) same ∙ is.1))
          (λ (differs : k ≢ n). let is = sound.owners k t (sym (trees k differs) ∙ at) in (is.0, ap is_some (files k differs) ∙ is.1))
          (cases_eq k n);
      trees = stand_still old new (loaded_trees (under old) f) (loaded_trees (under new) g) None (trees_laid (under old) f) sound.trees sound.apart spares rest stands;
      apart = lie_apart old new (loaded_trees (under old) f) (loaded_trees (under new) g) None (trees_laid (under old) f) sound.trees sound.apart spares rest;
      ready = ready;
    }
