-- What a flush of a table leaves under each VVBN where it placed no block: step by step, and where the VVBN isn't in use afterwards.
use Rattle.std.proofs.Common.{◌≡◌, ◌≢◌, ℕ, inl, inr, Ok, Result, refl, sym, ap, subst, ◌∙◌}
use Rattle.std.specs.Prelude.{Option, Some, None}
use Rattle.std.specs.Option.{option_map}
use Rattle.fv_disk.specs.declared.fault.BlockFault.{BlockFault}
use Rattle.fv_codec.specs.declared.inode.InodeRecord.{InodeRecord}
use Rattle.fv_codec.specs.declared.pointer.Pointer.{Pointer}
use Rattle.fv_tables.specs.Spelled.{Under, stored, pointer_at}
use Rattle.fv_tables.specs.Told.{file_at, tree_of, tree_or}
use Rattle.fv_tables.specs.Kept.{IsPlacedFile, IsPlacedTable}
use Rattle.fv_tree.specs.declared.kept.Tree.{Tree}
use Rattle.fv_tree.specs.Sources.{Shown, Use}
use Rattle.fv_tree.specs.Standing.{standing, under}
use Rattle.fv_tree.specs.Flushing.{Loaded, IsPlaced, IsRight, IsSound, Stands, kind_for, loaded}
use Rattle.fv_tree.specs.Altering.{PlacesAnew}
use Rattle.fv_tree.proofs.Cases.{false_is_true}
use Rattle.fv_tree.proofs.Erased.{stands_as}
use Rattle.fv_tree.proofs.Unchanged.{unchanged_placed}
use Rattle.fv_inode.specs.declared.file.InodeFile.{InodeFile}
use Rattle.fv_inode.specs.Files.{rooted}
use Rattle.fv_files.specs.declared.files.Files.{Files}
use Rattle.fv_files.specs.Apart.{Trees, StandsIn}
use Rattle.fv_files.specs.Tables.{table_in, tree_in, file_loaded, loaded_trees, AreStanding}
use Rattle.fv_files.specs.Altering.{AreLaid, FlushesKeep, FlushesPlaces, IsPlacedIn, KeepsUnplaced, PlacesIn, PlacesTrees}
use Rattle.fv_files.specs.Flushing.{LaysTrees}
use Rattle.fv_tree.proofs.Brought.{some_same}
use Rattle.fv_files.proofs.Beside.{IsLaidIn, trees_laid}
use Rattle.fv_files.proofs.Changed.{with_inode}

-- ---- one tree

-- what was placed first stays where it is
still_placed : (a b c : Loaded) (free : ℕ → Type 0) → PlacesAnew b free c → ((level place : ℕ) → (pointer_at a.tree level place).stamp ≢ 0 → (pointer_at c.tree level place).stamp ≢ 0) → (v : ℕ) → IsPlaced a b v → IsPlaced a c v
still_placed a b c free second stamps v is = elim (second is.level is.place) [
  | inl hole ↦ absurd (stamps is.level is.place is.flushed.some hole)
  | inr (inl now) ↦ false_is_true (b.changed is.level is.place) is.flushed.done now.was
  | inr (inr same) ↦ record {
    level = is.level;
    place = is.place;
    flushed = record { was = is.flushed.was; done = same.changed ∙ is.flushed.done; some = is.flushed.some };
    vvbn = ap (λ (p : Pointer). p.vvbn) same.pointer ∙ is.vvbn;
  }
]

-- and what is placed later had changed before
later_placed : (a b c : Loaded) (free : ℕ → Type 0) → PlacesAnew a free b → (v : ℕ) → IsPlaced b c v → IsPlaced a c v
later_placed a b c free first v is = elim (first is.level is.place) [
  | inl hole ↦ absurd (is.flushed.some hole)
  | inr (inl was) ↦ false_is_true (b.changed is.level is.place) was.done is.flushed.was
  | inr (inr same) ↦ record {
    level = is.level;
    place = is.place;
    flushed = record { was = sym same.changed ∙ is.flushed.was; done = is.flushed.done; some = λ none. is.flushed.some (ap (λ (p : Pointer). p.stamp) same.pointer ∙ none) };
    vvbn = is.vvbn;
  }
]

-- ---- all trees

-- each place that is led to stays so
abbrev pub KeepsStamps : Trees → Trees → Type 0
KeepsStamps x y = (a : Option ℕ) (s r : Loaded) → x a ≡ Some s → y a ≡ Some r → (level place : ℕ) → (pointer_at s.tree level place).stamp ≢ 0 → (pointer_at r.tree level place).stamp ≢ 0

module _ (x y z : Trees) where
  still_there : (free : ℕ → Type 0) → KeepsStamps x y → KeepsStamps y z → PlacesTrees free y z → (v : ℕ) → IsPlacedIn x y v → IsPlacedIn x z v
  still_there free first second places v is = at (z is.tree) refl (subst (λ o. PlacesIn free o (z is.tree)) is.now (places is.tree))
    where
      at : (o : Option Loaded) → z is.tree ≡ o → PlacesIn free (Some is.new) o → IsPlacedIn x z v
      at None end anew = absurd anew
      at (Some r) end anew = record {
        tree = is.tree;
        old = is.old;
        new = r;
        was = is.was;
        now = end;
        placed = still_placed is.old is.new r free anew (λ level place some. second is.tree is.new r is.now end level place (first is.tree is.old is.new is.was is.now level place some)) v is.placed;
      }

  later_there : (free : ℕ → Type 0) → PlacesTrees free x y → (v : ℕ) → IsPlacedIn y z v → IsPlacedIn x z v
  later_there free places v is = at (x is.tree) refl (subst (PlacesIn free (x is.tree)) is.was (places is.tree))
    where
      at : (o : Option Loaded) → x is.tree ≡ o → PlacesIn free o (Some is.old) → IsPlacedIn x z v
      at None start anew = absurd anew
      at (Some s) start anew = record { tree = is.tree; old = s; new = is.new; was = start; now = is.now; placed = later_placed s is.old is.new free anew v is.placed }

  -- two steps leave what both do
  pub unplaced_then : (first_free next_free first_keep next_keep keep : ℕ → Type 0) → ((v : ℕ) → first_keep v → next_keep v → keep v) → KeepsStamps x y → KeepsStamps y z → PlacesTrees first_free x y → PlacesTrees next_free y z
      → KeepsUnplaced first_keep x y → KeepsUnplaced next_keep y z → KeepsUnplaced keep x z
  unplaced_then first_free next_free first_keep next_keep keep both first_stamps next_stamps first_places next_places first next v none =
      both v (first v (λ is. none (still_there next_free first_stamps next_stamps next_places v is))) (next v (λ is. none (later_there first_free first_places v is)))

-- ---- tables

-- the tree of a file, as a table has it
tree_same : (blocks : Under) (n : ℕ) (r : InodeRecord) (o : Option Tree) → (file_loaded blocks n r o).tree ≡ tree_or (option_map (standing blocks) o) (stored blocks n r.levels r.root)
tree_same blocks n r None = refl
tree_same blocks n r (Some t) = refl

-- where blocks were only placed anew, each place that is led to stays so
module _ (old new : Shown) (f g : Files) (is : IsPlacedTable (table_in old f) (table_in new g)) where
  pub placed_stamps : KeepsStamps (loaded_trees (under old) f) (loaded_trees (under new) g)
  placed_stamps None s r was now level place some =
      subst (λ (q : Loaded). (pointer_at q.tree level place).stamp ≢ 0) (some_same (loaded new g.inode.tree) r now) (stands_as (pointer_at (rooted new g.inode) level place) (pointer_at (rooted old f.inode) level place) (is.stamps level place)
      (subst (λ (q : Loaded). (pointer_at q.tree level place).stamp ≢ 0) (sym (some_same (loaded old f.inode.tree) s was)) some))
  placed_stamps (Some n) s r was now level place some = at (file_at (rooted old f.inode) n) (file_at (rooted new g.inode) n) (is.files n) was now
    where
      at : (o p : Option InodeRecord) → IsPlacedFile (table_in old f) (table_in new g) n o p → option_map (λ q. file_loaded (under old) n q (tree_in f n)) o ≡ Some s → option_map (λ q. file_loaded (under new) n q (tree_in g n)) p ≡ Some r
          → (pointer_at r.tree level place).stamp ≢ 0
      at None p file start end = cc
      at (Some q) None file start end = cc
      at (Some q) (Some w) file start end =
          let before : tree_of (table_in old f) n q ≡ s.tree = sym (tree_same (under old) n q (tree_in f n)) ∙ ap (λ (l : Loaded). l.tree) (some_same (file_loaded (under old) n q (tree_in f n)) s start) in
          let after : tree_of (table_in new g) n w ≡ r.tree = sym (tree_same (under new) n w (tree_in g n)) ∙ ap (λ (l : Loaded). l.tree) (some_same (file_loaded (under new) n w (tree_in g n)) r end) in
          subst (λ t. (pointer_at t level place).stamp ≢ 0) after (stands_as (pointer_at (tree_of (table_in new g) n w) level place) (pointer_at (tree_of (table_in old f) n q) level place) (file.1.stamps level place)
          (subst (λ t. (pointer_at t level place).stamp ≢ 0) (sym before) some))

-- an inode file is placed
pub inode_keeps : (told : Type 0) (keep : ℕ → Type 0) (old new : Shown) (f : Files) (i : InodeFile) → (told → Stands old f.inode.tree → (v : ℕ) → (IsPlaced (loaded old f.inode.tree) (loaded new i.tree) v → ⊥) → keep v) → FlushesKeep told keep old new f (with_inode f i)
inode_keeps told keep old new f i keeps = λ tells sound laid v none. keeps tells (sound.trees None) v (λ placed. none (record { tree = None; old = loaded old f.inode.tree; new = loaded new i.tree; was = refl; now = refl; placed = placed }))

-- one step after another
pub keeps_then : {S T : Type 0} (told : Type 0) (first_free next_free first_keep next_keep keep : ℕ → Type 0) → ((v : ℕ) → first_keep v → next_keep v → keep v) → (old mid new : Shown) (f g h : Files) (x : S) (r : Result T BlockFault)
    → LaysTrees told old mid f g (Ok x) → LaysTrees told mid new g h r → FlushesPlaces told first_free old mid f g → FlushesPlaces told next_free mid new g h → FlushesKeep told first_keep old mid f g → FlushesKeep told next_keep mid new g h → FlushesKeep told keep old new f h
keeps_then told first_free next_free first_keep next_keep keep both old mid new f g h x r lays ends first_places next_places first next = λ tells sound laid.
    let stands = lays.stands tells sound in
    let still = first_places.laid tells sound laid in
    unplaced_then (loaded_trees (under old) f) (loaded_trees (under mid) g) (loaded_trees (under new) h) first_free next_free first_keep next_keep keep both (placed_stamps old mid f g (lays.placed tells sound)) (placed_stamps mid new g h (ends.placed tells stands))
    (first_places.anew tells sound laid) (next_places.anew tells stands still) (first tells sound laid) (next tells stands still)

-- ---- what isn't in use

not_right : (kind : ℕ) (p : Pointer) (o : Option Use) → o ≡ None → IsRight kind p o → ⊥
not_right kind p o none right = subst (IsRight kind p) none right

-- a block that was placed is in use
pub placed_used : (old new : Shown) (f g : Files) → IsPlacedTable (table_in old f) (table_in new g) → AreStanding new g → (v : ℕ) → new.used v ≡ None → IsPlacedIn (loaded_trees (under old) f) (loaded_trees (under new) g) v → ⊥
placed_used old new f g table stands v none is =
    let level = is.placed.level in
    let place = is.placed.place in
    let sound : IsSound new.used is.new = subst (StandsIn new.used) is.now (stands.trees is.tree) in
    let laid : IsLaidIn (under new) (Some is.new) = subst (IsLaidIn (under new)) is.now (trees_laid (under new) g is.tree) in
    let some : (pointer_at is.new.tree level place).stamp ≢ 0 = placed_stamps old new f g table is.tree is.old is.new is.was is.now level place is.placed.flushed.some in
    let placed = unchanged_placed is.new new.used sound (record { nodes = laid.1.nodes; cells = laid.1.cells }) level place is.placed.flushed.done some in
    not_right (kind_for is.new.tree.owner level) (pointer_at is.new.tree level place) (new.used v) none (sound.used level place v (record { some = some; placed = placed; vvbn = is.placed.vvbn }))

-- so under a VVBN that isn't in use afterwards all stays
pub keeps_unused : {T : Type 0} (told : Type 0) (keep : ℕ → Type 0) (old new : Shown) (f g : Files) (r : Result T BlockFault) → LaysTrees told old new f g r → FlushesKeep told keep old new f g
    → told → AreStanding old f → AreLaid (under old) f → (v : ℕ) → new.used v ≡ None → keep v
keeps_unused told keep old new f g r lays keeps tells sound laid v none = keeps tells sound laid v (placed_used old new f g (lays.placed tells sound) (lays.stands tells sound) v none)
