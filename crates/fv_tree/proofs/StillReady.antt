-- Cells that are ready stay so while nodes come into memory, cells are put there and marks get stamps.
use Rattle.std.proofs.Common.{◌≡◌, ◌≢◌, ◌≤◌, ◌<◌, ℕ, ◌+◌, ◌/◌, ◌^◌, inl, inr, ◌⊎◌, Bool, true, false, cond, List, Option, Some, is_some, nat_eq, refl, sym, ap, subst, ◌∙◌, arith}
use Rattle.std.specs.Option.{option_map}
use Rattle.std.specs.Ordering.{nat_cmp}
use Rattle.std.specs.BTreeMap as tree
use Rattle.std.proofs.lemmas.Bool.{cases_eq}
use Rattle.fv_codec.specs.declared.pointer.Pointer.{Pointer}
use Rattle.fv_model.specs.Trees.{fan, Spot, spot_cmp}
use Rattle.fv_tree.specs.declared.kept.Tree.{Tree}
use Rattle.fv_tree.specs.declared.kept.KeptNode.{KeptNode}
use Rattle.fv_tree.specs.declared.kept.KeptCell.{KeptCell}
use Rattle.fv_tree.specs.Standing.{node_in, cell_in, IsSameBut, IsSameButCells}
use Rattle.fv_tree.specs.Writing.{Stamps}
use Rattle.fv_tree.specs.Carried.{kept_at}
use Rattle.fv_tree.specs.Flushing.{pointer_in}
use Rattle.fv_tree.specs.Readying.{IsReady, KeepsReady}
use Rattle.fv_tree.proofs.Gone.{map_some}
use Rattle.fv_tree.proofs.Readied.{has_way, pointer_as, stamps_lead, way_as}
use Rattle.fv_tree.proofs.Stamped.{above}

pub node_there : (t : Tree) (level place : ℕ) (xs : List Pointer) → node_in t level place ≡ Some xs → is_some (kept_at t level place) ≡ true
node_there t level place xs node = ap is_some (map_some (λ (kept : KeptNode). kept.children) (kept_at t level place) xs node).1

pub cell_still : (t u : Tree) (i : ℕ) → u.cells ≡ t.cells → is_some (cell_in t i) ≡ true → is_some (cell_in u i) ≡ true
cell_still t u i cells is = ap (λ (m : tree.BTreeMap ℕ KeptCell). is_some (option_map (λ (kept : KeptCell). kept.block.value) (tree.get nat_cmp m i))) cells ∙ is

-- where all nodes over the cell stay
pub way_ready : (t u : Tree) (i : ℕ) → u.levels ≡ t.levels → u.root ≡ t.root → is_some (cell_in u i) ≡ true
    → ((level : ℕ) → 1 ≤ level → level ≤ t.levels → kept_at u level (i / fan ^ level) ≡ kept_at t level (i / fan ^ level)) → IsReady t i → IsReady u i
way_ready t u i levels root cell nodes ready = record {
  covers = subst (λ n. i < fan ^ n) (sym levels) ready.covers;
  cell = cell;
  way = λ level le none. ready.way level (omega (arith, le, levels)) (ap (λ (p : Pointer). p.stamp) (sym (pointer_as t u level (i / fan ^ level) levels root
      (λ lt. ap (node_in u (level + 1)) (above i level) ∙ ap (option_map (λ (kept : KeptNode). kept.children)) (nodes (level + 1) (omega arith) (omega (arith, lt))) ∙ ap (node_in t (level + 1)) (sym (above i level))))) ∙ none);
}

-- where one node comes into memory that wasn't there, or to which nothing leads
pub step_ready : (t u : Tree) (level place : ℕ) → IsSameBut t u → ((k q : ℕ) → (k ≢ level) ⊎ (q ≢ place) → kept_at u k q ≡ kept_at t k q)
    → ((pointer_in t level place).stamp ≢ 0 → is_some (kept_at t level place) ≡ true → kept_at u level place ≡ kept_at t level place) → KeepsReady t u
step_ready t u level place fields others own i ready = way_ready t u i fields.levels fields.root (cell_still t u i fields.cells ready.cell) nodes ready
  where
    nodes : (k : ℕ) → 1 ≤ k → k ≤ t.levels → kept_at u k (i / fan ^ k) ≡ kept_at t k (i / fan ^ k)
    nodes k low le = elim (cases_eq k level) [
      | inr differs ↦ others k (i / fan ^ k) (inl differs)
      | inl at ↦ elim (cases_eq (i / fan ^ k) place) [
        | inr apart ↦ others k (i / fan ^ k) (inr apart)
        | inl same ↦
            let node = has_way t i ready.way k low le in
            (λ j. kept_at u (at j) (same j)) ∙ own (λ none. ready.way k le ((λ j. (pointer_in t (at j) (same j)).stamp) ∙ none))
            ((λ j. is_some (kept_at t (sym at j) (sym same j))) ∙ node_there t k (i / fan ^ k) node.0 node.1) ∙ (λ j. kept_at t (sym at j) (sym same j))
      ]
    ]

-- where cells come into memory
pub cells_ready : (t u : Tree) → IsSameButCells t u → ((i : ℕ) → is_some (cell_in t i) ≡ true → is_some (cell_in u i) ≡ true) → KeepsReady t u
cells_ready t u fields cells i ready =
    way_ready t u i fields.levels fields.root (cells i ready.cell) (λ level low le. ap (λ (nodes : tree.BTreeMap Spot KeptNode). tree.get spot_cmp nodes (level, i / fan ^ level)) fields.nodes) ready

pub cells_same : (t u : Tree) → IsSameButCells t u → ((i : ℕ) → cell_in u i ≡ cell_in t i) → KeepsReady t u
cells_same t u fields cells = cells_ready t u fields (λ i is. ap is_some (cells i) ∙ is)

pub chosen : (b : Bool) (block : List ℕ) (o : Option (List ℕ)) → is_some o ≡ true → is_some (cond b (Some block) o) ≡ true
chosen true block o is = refl
chosen false block o is = is

pub cells_put : (t u : Tree) (i : ℕ) (block : List ℕ) → IsSameButCells t u → ((j : ℕ) → cell_in u j ≡ cond (nat_eq j i) (Some block) (cell_in t j)) → KeepsReady t u
cells_put t u i block fields cells = cells_ready t u fields (λ j is. ap is_some (cells j) ∙ chosen (nat_eq j i) block (cell_in t j) is)

-- where nodes got the mark that they changed
pub marks_ready : (t u : Tree) → IsSameBut t u → ((level place : ℕ) → node_in u level place ≡ node_in t level place) → KeepsReady t u
marks_ready t u fields nodes j ready = record {
  covers = subst (λ n. j < fan ^ n) (sym fields.levels) ready.covers;
  cell = cell_still t u j fields.cells ready.cell;
  way = way_as t u j fields.levels fields.root nodes ready.way;
}

-- where the marks over another cell get a stamp
pub stamps_ready : (t u : Tree) (i s : ℕ) → Stamps t u i s → s ≢ 0 → KeepsReady t u
stamps_ready t u i s stamps some j ready = record {
  covers = subst (λ n. j < fan ^ n) (sym stamps.levels) ready.covers;
  cell = cell_still t u j stamps.cells ready.cell;
  way = λ level le. stamps_lead t u i s level (j / fan ^ level) stamps some (ready.way level (omega (arith, le, stamps.levels)));
}

-- one after the other
pub ready_then : (t v u : Tree) → KeepsReady t v → KeepsReady v u → KeepsReady t u
ready_then t v u first second i ready = second i (first i ready)
