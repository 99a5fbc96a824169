-- What a change of a table replaces though it stays charged is counted by the pointers of the table's trees, where the blocks that are shared
-- are those of the ids that stay charged.
use Rattle.std.proofs.Common.{◌≡◌, ℕ, ◌+◌, ◌-◌, ◌*◌, ◌/◌, ◌^◌, Bool, refl, sym, ap, ◌∙◌, arith}
use Rattle.std.specs.Prelude.{Option, Some, None, count_by}
use Rattle.std.specs.List.{range_with_len}
use Rattle.std.specs.Option.{option_map}
use Rattle.std.specs.FinMap as fin
use Rattle.fv_codec.specs.declared.inode.InodeRecord.{InodeRecord}
use Rattle.fv_model.specs.Trees.{fan}
use Rattle.fv_model.specs.Tables.{File, inode_cell, free_number}
use Rattle.fv_model.specs.Places.{OfFile, InodeFile, placed}
use Rattle.fv_model.specs.Volumes.{Volume}
use Rattle.fv_laws.specs.WellFormed.{IsWellTable}
use Rattle.fv_laws.specs.Positions.{rm_places, staying}
use Rattle.fv_laws.specs.Paths.{new_path, put_path}
use Rattle.fv_laws.specs.Settled.{is_settled, settled_all, settled_over}
use Rattle.fv_laws.proofs.Ranges.{counted_same}
use Rattle.fv_laws.proofs.Settled.{new_staying, put_staying}
use Rattle.fv_laws.proofs.SettledFiles.{rm_staying}
use Rattle.fv_tables.specs.Spelled.{Under, Rooted, stored}
use Rattle.fv_tables.specs.Told.{tree_told, tree_of, tree_or, file_at, file_in, table_told, Standing}
use Rattle.fv_tables.proofs.Tables.{files_told}
use Rattle.fv_tree.specs.declared.kept.Tree.{Tree}
use Rattle.fv_tree.specs.Flushing.{Loaded}
use Rattle.fv_tree.specs.Counting.{is_staying, staying_at, staying_under}
use Rattle.fv_tree.specs.Standing.{standing}
use Rattle.fv_tree.proofs.Spans.{sum_same}
use Rattle.fv_inode.proofs.Told.{inode_told}
use Rattle.fv_files.specs.declared.files.Files.{Files}
use Rattle.fv_files.specs.Trees.{standing_in}
use Rattle.fv_files.specs.Tables.{changed, file_loaded, loaded_trees, tree_in}
use Rattle.fv_files.specs.Sharing.{owner_in, staying_in, staying_of, staying_by_put, staying_by_new, staying_by_removal, SettlesShared}
use Rattle.fv_files.proofs.Adding.{file_tree_is}

levels_told : (t : Rooted) → (tree_told t).levels ≡ t.levels
unfolding tree_told
levels_told t = refl

module _ (x : Volume) (blocks : Under) (f : Files) (shared : ℕ → Bool) (told : x.active ≡ table_told (standing_in blocks (changed f))) (are : SettlesShared x (loaded_trees blocks f) shared) where
  abbrev table : Standing
  table = standing_in blocks (changed f)

  -- over a cell of a tree
  over : (o : Option ℕ) (s : Loaded) → loaded_trees blocks f o ≡ Some s → (levels : ℕ) → levels ≡ s.tree.levels → (i : ℕ) → staying_at s shared i ≡ settled_over x (owner_in o) levels i
  unfolding staying_at
  over o s there levels same i =
      counted_same (λ k. is_staying s shared k (i / fan ^ k)) (λ k. is_settled x (placed (owner_in o) (k, i / fan ^ k))) 0 (s.tree.levels + 1) (λ k low high. sym (are.each o s there k (i / fan ^ k)))
      ∙ ap (λ n. settled_over x (owner_in o) n i) (sym same)

  inode_levels : x.active.inode.levels ≡ f.inode.tree.levels
  inode_levels = ap (λ t. t.inode.levels) told ∙ ap (λ t. t.levels) (sym (inode_told table)) ∙ levels_told (standing blocks f.inode.tree)

  pub over_inode : (n : ℕ) → staying_in (loaded_trees blocks f None) shared (inode_cell n) ≡ settled_over x InodeFile x.active.inode.levels (inode_cell n)
  over_inode n = over None _ refl x.active.inode.levels inode_levels (inode_cell n)

  -- in a whole tree
  all_of : (o : Option ℕ) (s : Loaded) → loaded_trees blocks f o ≡ Some s → (levels : ℕ) → levels ≡ s.tree.levels → staying_of (Some s) shared ≡ settled_all x (owner_in o) levels
  unfolding staying_under
  all_of o s there levels same =
      sum_same (λ k. count_by (is_staying s shared k) (range_with_len (0 * fan ^ (s.tree.levels - k)) (fan ^ (s.tree.levels - k))))
      (λ k. count_by (λ p. is_settled x (placed (owner_in o) (k, p))) (range_with_len 0 (fan ^ (s.tree.levels - k))))
      0 (s.tree.levels + 1) (λ k low high. each k)
      ∙ ap (λ n. settled_all x (owner_in o) n) (sym same)
    where
      each : (k : ℕ) → count_by (is_staying s shared k) (range_with_len (0 * fan ^ (s.tree.levels - k)) (fan ^ (s.tree.levels - k))) ≡ count_by (λ p. is_settled x (placed (owner_in o) (k, p))) (range_with_len 0 (fan ^ (s.tree.levels - k)))
      each k =
          let start : 0 * fan ^ (s.tree.levels - k) ≡ 0 = omega arith in
          ap (λ a. count_by (is_staying s shared k) (range_with_len a (fan ^ (s.tree.levels - k)))) start
          ∙ counted_same (is_staying s shared k) (λ p. is_settled x (placed (owner_in o) (k, p))) 0 (fan ^ (s.tree.levels - k)) (λ p low high. sym (are.each o s there k p))

  -- a new file
  pub new_stays : (now : ℕ) → IsWellTable now x.active → staying_by_new (loaded_trees blocks f) shared (free_number x.active) ≡ staying x (new_path x.active)
  new_stays now well = over_inode (free_number x.active) ∙ sym (new_staying x now well)

  module _ (n : ℕ) (r : InodeRecord) (at : file_at (standing blocks f.inode.tree) n ≡ Some r) (file : File) (there : fin.get x.active.files n ≡ Some file) where
    there_in : file_in table n ≡ Some file
    there_in = sym (files_told table n) ∙ ap (λ t. fin.get t.files n) (sym told) ∙ there

    abbrev pub own : Loaded
    own = file_loaded blocks n r (tree_in f n)

    pub here : loaded_trees blocks f (Some n) ≡ Some own
    here = ap (option_map (λ r. file_loaded blocks n r (tree_in f n))) at

    pub tree_is : (o : Option Tree) → (file_loaded blocks n r o).tree ≡ tree_or (option_map (standing blocks) o) (stored blocks n r.levels r.root)
    tree_is None = refl
    tree_is (Some t) = refl

    pub levels_are : file.tree.levels ≡ own.tree.levels
    levels_are = ap (λ t. t.levels) (file_tree_is table n r at file there_in) ∙ levels_told (tree_of table n r) ∙ ap (λ (t : Rooted). t.levels) (sym (tree_is (tree_in f n)))

    over_file : (i : ℕ) → staying_in (loaded_trees blocks f (Some n)) shared i ≡ settled_over x (OfFile n) file.tree.levels i
    over_file i = ap (λ o. staying_in o shared i) here ∙ over (Some n) own here file.tree.levels levels_are i

    -- a write of one of its blocks
    pub put_stays : (now : ℕ) → IsWellTable now x.active → (i : ℕ) → staying_by_put (loaded_trees blocks f) shared n i ≡ staying x (put_path x.active n file i)
    put_stays now well i = (λ j. over_file i j + over_inode n j) ∙ sym (put_staying x now well n file i there)

    all_file : staying_of (loaded_trees blocks f (Some n)) shared ≡ settled_all x (OfFile n) file.tree.levels
    all_file = ap (λ o. staying_of o shared) here ∙ all_of (Some n) own here file.tree.levels levels_are

    -- its removal
    pub rm_stays : (now : ℕ) → IsWellTable now x.active → staying_by_removal (loaded_trees blocks f) shared n ≡ staying x (rm_places x.active n file)
    rm_stays now well = (λ j. all_file j + over_inode n j) ∙ sym (rm_staying x now well n file there)
