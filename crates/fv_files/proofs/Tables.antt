-- Tables of which trees are in memory: what is known of a file, and tables that are told alike or of which a file was written.
use Rattle.std.proofs.Common.{◌≡◌, ◌≢◌, ℕ, ◌+◌, max, Bool, true, false, cond, List, refl, sym, ap, subst, ◌∙◌, arith, ⊎_elim, Result}
use Rattle.fv_disk.specs.declared.fault.BlockFault.{BlockFault}
use Rattle.fv_tree.specs.Sources.{Counts, IsUntouched, Shown}
use Rattle.fv_tree.specs.Calls.{LoadsFrom}
use Rattle.std.specs.Prelude.{Option, Some, None, IfErr}
use Rattle.std.specs.Option.{option_map}
use Rattle.std.specs.FinMap as fin
use Rattle.std.proofs.lemmas.Bool.{cases_eq}
use Rattle.fv_codec.specs.declared.inode.InodeRecord.{InodeRecord}
use Rattle.fv_model.specs.Tables.{File, put}
use Rattle.fv_tables.specs.Spelled.{Under, Rooted, stored, block_at}
use Rattle.fv_tables.specs.Told.{AreTold, tree_told, cells_told, file_at, Standing, tree_or, tree_of, file_told, file_in, table_told}
use Rattle.fv_tables.specs.Kept.{IsPlacedFile, IsPlacedTable}
use Rattle.fv_tables.proofs.Tables.{stamps_told, blocks_told, placed_table}
use Rattle.fv_tree.specs.declared.kept.Tree.{Tree}
use Rattle.fv_tree.specs.Standing.{standing, Fails, under}
use Rattle.fv_tree.specs.Writing.{IsAlike, Remains, Writes}
use Rattle.fv_inode.specs.declared.info.Info.{Info}
use Rattle.fv_inode.specs.Files.{with_info, IsFirst}
use Rattle.fv_inode.specs.Changing.{Rewrites}
use Rattle.fv_inode.proofs.Slots.{alike_files}
use Rattle.fv_inode.proofs.Machines.{shown}
use Rattle.fv_inode.proofs.Placed.{KeepsOthers, keeps_others}
use Rattle.fv_inode.proofs.Told.{put_told}
use Rattle.fv_tree.proofs.Brought.{some_same}
use Rattle.fv_files.specs.declared.files.Files.{Files}
use Rattle.fv_files.specs.Trees.{standing_in}
use Rattle.fv_files.specs.Tables.{changed, tree_in, IsInfoOf, tree_known}
use Rattle.fv_files.specs.Failing.{IsFileTree}
use Rattle.fv_files.specs.Calls.{longer, or_zeros, GivesCell, WritesCell}

-- ---- what is known of a file

pub file_there : (x : Standing) (n : ℕ) (r : InodeRecord) → file_at x.inode n ≡ Some r → file_in x n ≡ Some (file_told (tree_of x n r) r)
unfolding file_in
file_there x n r is = ap (option_map (λ r. file_told (tree_of x n r) r)) is

pub file_is : (x : Standing) (n : ℕ) (r : InodeRecord) → file_at x.inode n ≡ Some r → (f : File) → file_in x n ≡ Some f → f ≡ file_told (tree_of x n r) r
file_is x n r there f is = some_same f (file_told (tree_of x n r) r) (sym is ∙ file_there x n r there)

pub known_tree : (x : Standing) (info : Info) (is : IsInfoOf x.inode info) → tree_known x info ≡ tree_of x info.number is.file
known_tree x info is = ap (λ (v : Info). tree_or (x.trees info.number) (stored x.inode.under info.number v.levels v.root)) is.told

pub file_tree : (x : Standing) (info : Info) → IsInfoOf x.inode info → IsFileTree x (tree_known x info)
file_tree x info is = record { number = info.number; file = is.file; there = is.there; tree = known_tree x info is }

-- that tree, where it is in memory and where it isn't
pub kept_known : (u : Under) (f : Files) (info : Info) (t : Tree) → tree_in f info.number ≡ Some t → tree_known (standing_in u (changed f)) info ≡ standing u t
kept_known u f info t is = ap (λ o. tree_or (option_map (standing u) o) (stored u info.number info.levels info.root)) is

pub stored_known : (u : Under) (f : Files) (info : Info) → tree_in f info.number ≡ None → tree_known (standing_in u (changed f)) info ≡ stored u info.number info.levels info.root
stored_known u f info none = ap (λ o. tree_or (option_map (standing u) o) (stored u info.number info.levels info.root)) none

-- a tree with the root that the table has is what is known of its file, and fails as that does
pub stored_is : (u : Under) (f : Files) (info : Info) (t : Rooted) → t ≡ stored u info.number info.levels info.root → tree_in f info.number ≡ None → t ≡ tree_known (standing_in u (changed f)) info
stored_is u f info t is none = is ∙ sym (stored_known u f info none)

pub stored_cause : {T : Type 0} (told : Type 0) (old new : Shown) (f : Files) (info : Info) (t : Rooted) (r : Result T BlockFault) → t ≡ stored (under old) info.number info.levels info.root → tree_in f info.number ≡ None
    → IfErr r (Fails told t old new) → IfErr r (Fails told (tree_known (standing_in (under old) (changed f)) info) old new)
stored_cause told old new f info t r is none cause = subst (λ t. IfErr r (Fails told t old new)) (stored_is (under old) f info t is none) cause

pub stored_loads : {T : Type 0} {reading : Type 0} (told : Type 0) (old new : Shown) (f : Files) (info : Info) (t : Rooted) (r : Result T BlockFault) → t ≡ stored (under old) info.number info.levels info.root → tree_in f info.number ≡ None
    → IsUntouched old new → reading → Counts old new r → IfErr r (Fails told t old new) → LoadsFrom reading (Fails told (tree_known (standing_in (under old) (changed f)) info) old new) old new r
stored_loads told old new f info t r is none untouched reads counts cause = record { untouched = untouched; reads = reads; counts = counts; cause = stored_cause told old new f info t r is none cause }

-- of a file that a look-up found
pub first_info : (t : Rooted) (name : List ℕ) (info : Info) → IsFirst t name info → IsInfoOf t info
first_info t name info is = record { file = is.file; there = is.there; told = is.told }

cell_told : (t : Rooted) (r : InodeRecord) (i : ℕ) → fin.get (file_told t r).blocks i ≡ block_at t i
unfolding file_told
cell_told t r i = blocks_told t i

-- a block that was read from the tree of a file is the file's
pub given : (x : Standing) (info : Info) (i : ℕ) (into : List ℕ) (o : Option (List ℕ)) → IsInfoOf x.inode info → block_at (tree_known x info) i ≡ o → into ≡ or_zeros o → GivesCell x info.number i into
given x info i into o is read zeros f file =
    zeros
    ∙ ap or_zeros (sym read ∙ ap (λ t. block_at t i) (known_tree x info is) ∙ sym (cell_told (tree_of x info.number is.file) is.file i))
    ∙ ap (λ (g : File). or_zeros (fin.get g.blocks i)) (sym (file_is x info.number is.file is.there f file))

pub hole_read : (b : Bool) (block : List ℕ) → b ≡ false → cond b (Some block) None ≡ None
hole_read b block e = ap (λ b. cond b (Some block) None) e

pub cell_read : (b : Bool) (block : List ℕ) → b ≡ true → cond b (Some block) None ≡ Some block
cell_read b block e = ap (λ b. cond b (Some block) None) e

-- ---- tables that are told alike

pub alike : (t u : Rooted) → Remains t u → IsAlike t u
unfolding tree_told
alike t u remains = let shows = remains (tree_told t) (cells_told t) (shown t) in record {
  levels = sym shows.levels;
  stamps = λ level place. sym (shows.stamps level place) ∙ stamps_told t level place;
  blocks = λ index. sym (shows.blocks index) ∙ blocks_told t index;
}

-- The inode file is seen as before, and so is the tree of each file.
module _ (x y : Standing) (n : ℕ) (same : IsAlike x.inode y.inode) (others : KeepsOthers x y n) (own : (r : InodeRecord) → file_at x.inode n ≡ Some r → AreTold (tree_of x n r) (tree_of y n r)) where
  each : (k : ℕ) (r : InodeRecord) → file_at x.inode k ≡ Some r → AreTold (tree_of x k r) (tree_of y k r)
  each k r at = ⊎_elim
      (λ (here : k ≡ n). subst (λ m. AreTold (tree_of x m r) (tree_of y m r)) (sym here) (own r (ap (file_at x.inode) (sym here) ∙ at)))
      (λ (differs : k ≢ n). others k differs r at)
      (cases_eq k n)

  same_of : (k : ℕ) (o : Option InodeRecord) → file_at x.inode k ≡ o → IsPlacedFile x y k o o
  same_of k None e = tt
  same_of k (Some r) e = (record { name_length = refl; name = refl; length = refl; reserve = refl }, each k r e)

  pub placed_alike : IsPlacedTable x y
  placed_alike = record {
    levels = same.levels;
    stamps = same.stamps;
    files = λ k. subst (IsPlacedFile x y k (file_at x.inode k)) (sym (alike_files x.inode y.inode same k)) (same_of k (file_at x.inode k) refl);
  }

-- ---- tables of which only places differ, one after another

told_then : (t u v : Rooted) → AreTold t u → AreTold u v → AreTold t v
told_then t u v one two = record { levels = two.levels ∙ one.levels; stamps = λ level place. two.stamps level place ∙ one.stamps level place; blocks = λ index. two.blocks index ∙ one.blocks index }

files_then : (x y z : Standing) (n : ℕ) (o p q : Option InodeRecord) → IsPlacedFile x y n o p → IsPlacedFile y z n p q → IsPlacedFile x z n o q
files_then x y z n None None None one two = tt
files_then x y z n (Some r) (Some s) (Some u) one two = (
  record { name_length = two.0.name_length ∙ one.0.name_length; name = two.0.name ∙ one.0.name; length = two.0.length ∙ one.0.length; reserve = two.0.reserve ∙ one.0.reserve },
  told_then (tree_of x n r) (tree_of y n s) (tree_of z n u) one.1 two.1,
)
files_then x y z n None (Some s) q one two = absurd one
files_then x y z n (Some r) None q one two = absurd one
files_then x y z n None None (Some u) one two = absurd two
files_then x y z n (Some r) (Some s) None one two = absurd two

pub placed_then : (x y z : Standing) → IsPlacedTable x y → IsPlacedTable y z → IsPlacedTable x z
placed_then x y z one two = record {
  levels = two.levels ∙ one.levels;
  stamps = λ level place. two.stamps level place ∙ one.stamps level place;
  files = λ n. files_then x y z n (file_at x.inode n) (file_at y.inode n) (file_at z.inode n) (one.files n) (two.files n);
}

-- The inode file is seen as before, and the trees in memory are the same.
pub same_placed : (x y : Standing) → IsAlike x.inode y.inode → y.inode.under ≡ x.inode.under → ((k : ℕ) → y.trees k ≡ x.trees k) → IsPlacedTable x y
same_placed x y same under trees =
    placed_alike x y 0 same (keeps_others x y 0 under (λ k differs. trees k)) (λ r at. keeps_others x y 1 under (λ k differs. trees k) 0 (λ e. omega (arith, e)) r at)

pub same_table : (x y : Standing) → IsAlike x.inode y.inode → y.inode.under ≡ x.inode.under → ((k : ℕ) → y.trees k ≡ x.trees k) → table_told y ≡ table_told x
same_table x y same under trees = placed_table x y (same_placed x y same under trees)

-- ---- a file is written

module _ (x y : Standing) (info : Info) (i s : ℕ) (block : List ℕ) (is : IsInfoOf x.inode info)
    (rewrites : Rewrites x.inode y.inode info.number s (option_map (with_info (longer info i)) (file_at x.inode info.number)))
    (under : y.inode.under ≡ x.inode.under) (trees : (k : ℕ) → k ≢ info.number → y.trees k ≡ x.trees k) (u : Rooted) (own : y.trees info.number ≡ Some u) (writes : Writes (tree_known x info) u i s block) where
  abbrev r : InodeRecord
  r = is.file

  abbrev q : InodeRecord
  q = with_info (longer info i) r

  pub wrote : WritesCell x y info.number i s block
  wrote f file =
      put_told x y info.number i s block r (longer info i)
      (subst (Rewrites x.inode y.inode info.number s) (ap (option_map (with_info (longer info i))) is.there) rewrites)
      (ap (λ (v : Info). max v.length (i + 1)) is.told)
      (ap (λ (v : Info). v.reserve) is.told)
      (keeps_others x y info.number under trees)
      (subst (λ t. Writes t (tree_of y info.number q) i s block) (known_tree x info is)
      (subst (λ v. Writes (tree_known x info) v i s block) (sym (ap (λ o. tree_or o (stored y.inode.under info.number q.levels q.root)) own)) writes))
      ∙ ap (λ g. put (table_told x) info.number g i block s) (sym (file_is x info.number r is.there f file))
