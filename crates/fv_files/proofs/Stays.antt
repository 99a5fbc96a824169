-- Which blocks over the cells of a table are shared, by the pointers of its trees.
use Rattle.std.proofs.Common.{◌≡◌, ℕ, Bool, refl, sym, ap, ◌∙◌}
use Rattle.std.specs.Prelude.{Option, Some, None}
use Rattle.std.specs.Option.{option_map}
use Rattle.fv_tables.specs.Spelled.{Under, stored}
use Rattle.fv_tree.specs.declared.kept.Tree.{Tree}
use Rattle.fv_tree.specs.Standing.{standing}
use Rattle.fv_tree.specs.Flushing.{loaded_over}
use Rattle.fv_tree.specs.Beside.{unread}
use Rattle.fv_tree.specs.Costs.{pending}
use Rattle.fv_tree.specs.Counting.{staying_all, staying_at}
use Rattle.fv_tree.proofs.Stays.{all_unread, staying_unread}
use Rattle.fv_inode.specs.declared.info.Info.{Info}
use Rattle.fv_files.specs.declared.files.Files.{Files}
use Rattle.fv_files.specs.Tables.{file_loaded, loaded_trees, tree_in, IsInfoOf}
use Rattle.fv_files.specs.Right.{known_loaded}
use Rattle.fv_files.specs.Sharing.{staying_in, staying_of}

-- it is the tree of a file of which this is known
pub known_is : (blocks : Under) (f : Files) (info : Info) (o : Option Tree) → IsInfoOf (standing blocks f.inode.tree) info → tree_in f info.number ≡ o → loaded_trees blocks f (Some info.number) ≡ Some (known_loaded blocks info o)
known_is blocks f info o is held =
    (λ j. option_map (λ r. file_loaded blocks info.number r (held j)) (is.there j)) ∙ same o
  where
    same : (o : Option Tree) → Some (file_loaded blocks info.number is.file o) ≡ Some (known_loaded blocks info o)
    same None = ap (λ (v : Info). Some (unread (stored blocks info.number v.levels v.root))) (sym is.told)
    same (Some t) = refl

-- over a cell of a file whose tree isn't in memory
pub stored_staying : (blocks : Under) (f : Files) (info : Info) (t : Tree) (shared : ℕ → Bool) (i count : ℕ) → IsInfoOf (standing blocks f.inode.tree) info → tree_in f info.number ≡ None
    → standing blocks t ≡ stored blocks info.number info.levels info.root → pending t ≡ 0 → count ≡ staying_at (loaded_over blocks t) shared i → count ≡ staying_in (loaded_trees blocks f (Some info.number)) shared i
stored_staying blocks f info t shared i count is held stands none counts =
    counts ∙ staying_unread blocks t shared i none ∙ ap (λ s. staying_at (unread s) shared i) stands ∙ ap (λ o. staying_in o shared i) (sym (known_is blocks f info None is held))

-- and of its whole tree
pub stored_all : (blocks : Under) (f : Files) (info : Info) (t : Tree) (shared : ℕ → Bool) (count : ℕ) → IsInfoOf (standing blocks f.inode.tree) info → tree_in f info.number ≡ None
    → standing blocks t ≡ stored blocks info.number info.levels info.root → pending t ≡ 0 → count ≡ staying_all (loaded_over blocks t) shared → count ≡ staying_of (loaded_trees blocks f (Some info.number)) shared
stored_all blocks f info t shared count is held stands none counts =
    counts ∙ all_unread blocks t shared none ∙ ap (λ s. staying_all (unread s) shared) stands ∙ ap (λ o. staying_of o shared) (sym (known_is blocks f info None is held))
