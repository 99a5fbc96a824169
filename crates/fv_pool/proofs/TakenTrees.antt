-- The trees of a table of which nothing is in memory are those under its root.
use Rattle.std.proofs.Common.{◌≡◌, ℕ, Bool, true, false, Option, Some, None, refl, sym, ap, subst, ◌∙◌}
use Rattle.std.specs.Prelude.{if◌then◌else◌, ◌==◌, IfSome}
use Rattle.std.specs.Option.{option_map}
use Rattle.std.specs.Ordering.{nat_cmp}
use Rattle.std.specs.BTreeMap as maps
use Rattle.fv_codec.specs.declared.pointer.Pointer.{Pointer}
use Rattle.fv_codec.specs.Blocks.{greatest_word}
use Rattle.fv_model.specs.Trees.{spot_cmp}
use Rattle.fv_tables.specs.Spelled.{Under, Rooted as Tree, stored}
use Rattle.fv_tables.specs.Told.{Standing, file_at, standing_at}
use Rattle.fv_tree.specs.declared.kept.KeptCell.{KeptCell}
use Rattle.fv_tree.specs.declared.kept.KeptNode.{KeptNode}
use Rattle.fv_tree.specs.declared.kept.Tree.{Tree as Kept}
use Rattle.fv_tree.specs.Flushing.{cell_changed, cell_placed, changed_of, node_changed, node_placed, placed_of}
use Rattle.fv_tree.specs.Standing.{standing}
use Rattle.fv_files.specs.declared.files.Files.{Files}
use Rattle.fv_files.specs.Apart.{stored_trees}
use Rattle.fv_files.specs.Tables.{changed, file_loaded, loaded_trees, tree_in}
use Rattle.fv_files.specs.Trees.{standing_in}
use Rattle.fv_files.specs.Altering.{AreLaid}
use Rattle.fv_pool.specs.declared.rooted.Rooted.{Rooted}
use Rattle.fv_pool.specs.Tables.{standing_by, AreLaidBy, trees_by}

none_of : {X Y : Type 0} (f : X → Y) (o : Option X) → option_map f o ≡ None → o ≡ None
none_of f None is = refl
none_of f (Some x) is = absurd cc

module _ (blocks : Under) (f : Files) (levels : ℕ) (root : Pointer) (is : standing_in blocks (changed f) ≡ standing_at blocks levels root) where
  inode : standing blocks f.inode.tree ≡ stored blocks greatest_word levels root
  inode = ap (λ (s : Standing). s.inode) is

  none : (n : ℕ) → tree_in f n ≡ None
  none n = none_of (standing blocks) (tree_in f n) (ap (λ (s : Standing). s.trees n) is)

  no_node : (level place : ℕ) → maps.get spot_cmp f.inode.tree.nodes (level, place) ≡ None
  no_node level place = none_of (λ kept. kept.children) (maps.get spot_cmp f.inode.tree.nodes (level, place)) (ap (λ (t : Tree). t.nodes level place) inode)

  no_cell : (index : ℕ) → maps.get nat_cmp f.inode.tree.cells index ≡ None
  no_cell index = none_of (λ kept. kept.block.value) (maps.get nat_cmp f.inode.tree.cells index) (ap (λ (t : Tree). t.cells index) inode)

  -- what is said of a cell and of a node that isn't there is said of each
  absent : (on_cell : Option KeptCell → Bool) (on_node : Option KeptNode → Bool) (b : Bool) → on_cell None ≡ b → on_node None ≡ b → (level place : ℕ)
      → (if level == 0 then on_cell (maps.get nat_cmp f.inode.tree.cells place) else on_node (maps.get spot_cmp f.inode.tree.nodes (level, place))) ≡ b
  absent on_cell on_node b cell node level place = by (level == 0)
    where
      by : (t : Bool) → (if t then on_cell (maps.get nat_cmp f.inode.tree.cells place) else on_node (maps.get spot_cmp f.inode.tree.nodes (level, place))) ≡ b
      by true = ap on_cell (no_cell place) ∙ cell
      by false = ap on_node (no_node level place) ∙ node

  still : (level place : ℕ) → changed_of f.inode.tree level place ≡ false
  still = absent cell_changed node_changed false refl refl

  laid : (level place : ℕ) → placed_of f.inode.tree level place ≡ true
  laid = absent cell_placed node_placed true refl refl

  each : (a : Option ℕ) → loaded_trees blocks f a ≡ stored_trees blocks levels root a
  each None = λ i. Some (record { tree = inode i; changed = λ level place. still level place i; placed = λ level place. laid level place i })
  each (Some n) = λ i. option_map (λ r. file_loaded blocks n r (none n i)) (file_at (inode i) n)

  pub stored_now : loaded_trees blocks f ≡ stored_trees blocks levels root
  stored_now = λ i a. each a i

-- So those of the table that was taken out of a volume are the volume's.
pub taken_trees : (blocks : Under) (root : Rooted) (files : Option Files) (f : Files) → standing_in blocks (changed f) ≡ standing_by blocks root files → IfSome files (λ g. f ≡ g) → loaded_trees blocks f ≡ trees_by blocks root files
taken_trees blocks root None f is held = stored_now blocks f root.levels root.root is
taken_trees blocks root (Some g) f is held = ap (loaded_trees blocks) held

-- It is as laid as the volume's was.
pub taken_laid : (blocks : Under) (root : Rooted) (files : Option Files) (f : Files) → standing_in blocks (changed f) ≡ standing_by blocks root files → IfSome files (λ g. f ≡ g) → AreLaidBy blocks files → AreLaid blocks f
taken_laid blocks root None f is held was = λ n t r there found. absurd (not_there (sym (none blocks f root.levels root.root is n) ∙ there))
  where
    not_there : {t : Kept} → ◌≡◌ {A = Option Kept} None (Some t) → ⊥
    not_there e = cc
taken_laid blocks root (Some g) f is held was = subst (AreLaid blocks) (sym held) was
