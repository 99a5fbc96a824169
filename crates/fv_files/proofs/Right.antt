-- Trees of a table whose pointers are right: each file's is, and they stay so.
use Rattle.std.proofs.Common.{◌≡◌, ℕ, refl, sym, subst, ◌∙◌, ⊎_elim}
use Rattle.std.specs.Prelude.{Option, Some, None}
use Rattle.std.specs.Ordering.{nat_cmp}
use Rattle.std.specs.BTreeMap as maps
use Rattle.std.specs.FinMap as fin
use Rattle.fv_tables.specs.Spelled.{Under, pointer_at, stored}
use Rattle.fv_tree.specs.declared.kept.Tree.{Tree}
use Rattle.fv_tree.specs.Sources.{Shown, Use, IsUntouched}
use Rattle.fv_tree.specs.Standing.{standing, under}
use Rattle.fv_tree.specs.Flushing.{Loaded}
use Rattle.fv_tree.specs.Places.{AreRight, HasRightPlaces, IsReadable, MayRead, TrustsAll}
use Rattle.fv_tree.proofs.Brought.{some_same}
use Rattle.fv_tree.proofs.Right.{may_read_on, right_on, sound_may_read, sound_right, unread_may_read, unread_right}
use Rattle.fv_inode.specs.declared.info.Info.{Info}
use Rattle.fv_files.specs.declared.files.Files.{Files}
use Rattle.fv_files.specs.Apart.{StandsIn}
use Rattle.fv_files.specs.Calls.{Holds}
use Rattle.fv_files.specs.Tables.{loaded_trees, tree_in, IsInfoOf}
use Rattle.fv_files.specs.Right.{known_loaded, AreReadableTrees, HasRightFile, HasRightKept, HasRightTrees, IsReadableFile, ReadableIn, RightIn}
use Rattle.fv_files.proofs.Stays.{known_is}

-- the tree of a file of which this is known
pub right_known : (source : Shown) (f : Files) (info : Info) → IsInfoOf (standing (under source) f.inode.tree) info → HasRightTrees source f → HasRightFile source f info
right_known source f info is right = subst (RightIn source.right) (known_is (under source) f info (tree_in f info.number) is refl) (right (Some info.number))

-- the one in memory
pub right_kept : (source : Shown) (f : Files) (info : Info) → HasRightFile source f info → HasRightKept source (tree_in f info.number)
right_kept source f info right t at = subst (λ o. AreRight source.right (known_loaded (under source) info o)) at right

-- or else the one to which its record leads
pub right_stored : (source : Shown) (f : Files) (info : Info) (t : Tree) → HasRightFile source f info → tree_in f info.number ≡ None → standing (under source) t ≡ stored (under source) info.number info.levels info.root → HasRightPlaces source t
right_stored source f info t right none is =
    unread_right source.right (under source) t (stored (under source) info.number info.levels info.root) is (subst (λ o. AreRight source.right (known_loaded (under source) info o)) none right)

-- The pointers of each tree of a table that stands on its blocks are right, where what is in use has the place that is told of it.
pub stands_right : (right : ℕ → ℕ → Type 0) (used : ℕ → Option Use) → ((v : ℕ) → right v 0) → ((v : ℕ) (x : Use) → used v ≡ Some x → right v x.pvbn) → (o : Option Loaded) → StandsIn used o → RightIn right o
stands_right right used unknown told None stands = tt
stands_right right used unknown told (Some s) stands = sound_right right used s unknown told stands

-- So are those over a source that is read by any pointer.
trusted_in : (right : ℕ → ℕ → Type 0) → ((v pvbn : ℕ) → right v pvbn) → (o : Option Loaded) → RightIn right o
trusted_in right trusts None = tt
trusted_in right trusts (Some s) = λ level place v led. trusts v (pointer_at s.tree level place).pvbn

pub trusted_trees : {B : Type 0} (shown : B → Shown) → TrustsAll shown → (blocks : B) (f : Files) → HasRightTrees (shown blocks) f
trusted_trees shown trusts blocks f a = trusted_in (shown blocks).right (trusts blocks) (loaded_trees (under (shown blocks)) f a)

-- after calls that only load
still_right : (old new : ℕ → ℕ → Type 0) (o : Option Loaded) → ((v pvbn : ℕ) → old v pvbn → new v pvbn) → RightIn old o → RightIn new o
still_right old new None still right = tt
still_right old new (Some s) still right = λ level place v led. still v _ (right level place v led)

pub trees_on : (old new : Shown) (f : Files) → IsUntouched old new → HasRightTrees old f → HasRightTrees new f
trees_on old new f untouched right a =
    let held : under old ≡ under new = λ j v. fin.get (sym untouched.held j) v in
    still_right old.right new.right (loaded_trees (under new) f a) untouched.right (subst (λ (u : Under). RightIn old.right (loaded_trees u f a)) held (right a))

-- The tree of a file is held in memory.
module _ (old new : Shown) (f : Files) (m : maps.BTreeMap ℕ Tree) (info : Info) (untouched : IsUntouched old new) (is : IsInfoOf (standing (under old) f.inode.tree) info) (right : HasRightTrees old f) where
  known : HasRightFile old f info
  known = right_known old f info is right

  -- those in memory are as before
  pub right_same : ((k : ℕ) → maps.get nat_cmp m k ≡ maps.get nat_cmp f.trees k) → HasRightKept new (maps.get nat_cmp m info.number)
  right_same same t at = right_on old new t untouched (right_kept old f info known t (sym (same info.number) ∙ at))

  pub right_held : Holds f.trees m info → HasRightKept new (maps.get nat_cmp m info.number)
  right_held holds t at = subst (HasRightPlaces new) (some_same holds.tree t (sym holds.now ∙ at)) (right_on old new holds.tree untouched (⊎_elim (λ was. right_kept old f info known holds.tree was) (λ unread. right_stored old f info holds.tree known unread.0 (unread.1.is (under old))) holds.from))

-- ---- trees that may be read by their pointers alone

-- their pointers are right
pub right_in : (right : ℕ → ℕ → Type 0) (o : Option Loaded) → ReadableIn right o → RightIn right o
right_in right None may = tt
right_in right (Some s) may = may.pointers

pub readable_right : (source : Shown) (f : Files) → AreReadableTrees source f → HasRightTrees source f
readable_right source f may a = right_in source.right (loaded_trees (under source) f a) (may a)

-- the tree of a file of which this is known
pub readable_known : (source : Shown) (f : Files) (info : Info) → IsInfoOf (standing (under source) f.inode.tree) info → AreReadableTrees source f → IsReadableFile source f info
readable_known source f info is may = subst (ReadableIn source.right) (known_is (under source) f info (tree_in f info.number) is refl) (may (Some info.number))

-- the one in memory
pub readable_kept : (source : Shown) (f : Files) (info : Info) → IsReadableFile source f info → (t : Tree) → tree_in f info.number ≡ Some t → IsReadable source t
readable_kept source f info may t at = subst (λ o. MayRead source.right (known_loaded (under source) info o)) at may

-- or else the one to which its record leads
pub readable_stored : (source : Shown) (f : Files) (info : Info) (t : Tree) → IsReadableFile source f info → tree_in f info.number ≡ None → standing (under source) t ≡ stored (under source) info.number info.levels info.root → IsReadable source t
readable_stored source f info t may none is =
    unread_may_read source.right (under source) t (stored (under source) info.number info.levels info.root) is (λ level place. refl) (λ index. refl) (subst (λ o. MayRead source.right (known_loaded (under source) info o)) none may).pointers

-- Each tree of a table that stands on its blocks may be, where what is in use has the place that is told of it.
pub stands_readable : (right : ℕ → ℕ → Type 0) (used : ℕ → Option Use) → ((v : ℕ) → right v 0) → ((v : ℕ) (x : Use) → used v ≡ Some x → right v x.pvbn) → (o : Option Loaded) → StandsIn used o → ReadableIn right o
stands_readable right used unknown told None stands = tt
stands_readable right used unknown told (Some s) stands = sound_may_read right used s unknown told stands

-- after calls that only load
still_readable : (old new : ℕ → ℕ → Type 0) (o : Option Loaded) → ((v pvbn : ℕ) → old v pvbn → new v pvbn) → ReadableIn old o → ReadableIn new o
still_readable old new None still may = tt
still_readable old new (Some s) still may = may_read_on old new s still may

pub readable_on : (old new : Shown) (f : Files) → IsUntouched old new → AreReadableTrees old f → AreReadableTrees new f
readable_on old new f untouched may a =
    let held : under old ≡ under new = λ j v. fin.get (sym untouched.held j) v in
    still_readable old.right new.right (loaded_trees (under new) f a) untouched.right (subst (λ (u : Under). ReadableIn old.right (loaded_trees u f a)) held (may a))
