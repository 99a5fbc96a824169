-- The steps of a write on the tree in memory, as they are to the tree over its blocks.
use Rattle.std.proofs.Common.{◌≡◌, ℕ, ◌/◌, ◌^◌, cond, List, Some, refl, ap, ◌∙◌, arith, nat_eq}
use Rattle.std.specs.Option.{option_map}
use Rattle.std.specs.BTreeMap as tree
use Rattle.std.specs.Ordering.{nat_cmp}
use Rattle.fv_model.specs.Trees.{fan, Spot}
use Rattle.fv_tree.specs.declared.kept.Tree.{Tree}
use Rattle.fv_tree.specs.declared.kept.KeptNode.{KeptNode}
use Rattle.fv_tree.specs.declared.kept.KeptCell.{KeptCell}
use Rattle.fv_tree.specs.Spelled.{Under}
use Rattle.fv_tree.specs.Standing.{standing, cell_in, children_in, IsSameButCells}
use Rattle.fv_tree.specs.Writing.{HasNewLevels, Stamps, stamped, stamped_in, slot_of}
use Rattle.fv_tree.proofs.Stamped.{StampsWay}

-- stamps, where only cells came into memory before
pub stamps_way : (blocks : Under) (t v u : Tree) (i s : ℕ) → IsSameButCells t v → Stamps v u i s → StampsWay (standing blocks t) (standing blocks u) i s
stamps_way blocks t v u i s same stamps = record {
  owner = stamps.owner ∙ same.owner;
  under = refl;
  levels = stamps.levels ∙ same.levels;
  root = stamps.root ∙ ap (λ r. stamped r s) same.root;
  way = λ level low high. stamps.way level low (omega (arith, high, same.levels)) ∙ ap (λ (nodes : tree.BTreeMap Spot KeptNode). option_map (stamped_in (slot_of i level) s) (children_in nodes level (i / fan ^ level))) same.nodes;
  others = λ level place differs. stamps.others level place differs ∙ ap (λ (nodes : tree.BTreeMap Spot KeptNode). children_in nodes level place) same.nodes;
}

-- the content of a cell, through stamps
pub stamped_cells : (t v u : Tree) (i s : ℕ) (block : List ℕ) → ((j : ℕ) → cell_in v j ≡ cond (nat_eq j i) (Some block) (cell_in t j)) → u.cells ≡ v.cells → (j : ℕ) → cell_in u j ≡ cond (nat_eq j i) (Some block) (cell_in t j)
stamped_cells t v u i s block put same j = ap (λ (cells : tree.BTreeMap ℕ KeptCell). option_map (λ (kept : KeptCell). kept.block.value) (tree.get nat_cmp cells j)) same ∙ put j

-- new levels, where nothing but nodes counts
pub moved : (t u v : Tree) (levels i s : ℕ) → v.nodes ≡ u.nodes → HasNewLevels t u levels i s → HasNewLevels t v levels i s
moved t u v levels i s e has = record {
  old_nodes = λ k q le differs. ap (λ (nodes : tree.BTreeMap Spot KeptNode). children_in nodes k q) e ∙ has.old_nodes k q le differs;
  way = λ k low high first. ap (λ (nodes : tree.BTreeMap Spot KeptNode). children_in nodes k (i / fan ^ k)) e ∙ has.way k low high first;
  grown = λ cell k lt le. let node = has.grown cell k lt le in record {
    pointers = node.pointers;
    node = ap (λ (nodes : tree.BTreeMap Spot KeptNode). children_in nodes k 0) e ∙ node.node;
    long = node.long;
    lowest = node.lowest;
    higher = node.higher;
    others = node.others;
  };
}
