-- A write past the levels: how the tree stands to its blocks, and what it leads to, from the steps of the write.
use Rattle.std.proofs.Common.{◌≡◌, ◌≢◌, ◌≤◌, ◌<◌, ℕ, ◌+◌, ◌/◌, ◌^◌, ◌⊎◌, inl, inr, true, false, cond, List, Option, Some, is_some, nat_eq, sym, ap, subst, ◌∙◌, arith}
use Rattle.std.specs.Ordering.{nat_cmp}
use Rattle.std.specs.BTreeMap as tree
use Rattle.fv_model.specs.Trees.{fan, least_levels, Spot, spot_cmp}
use Rattle.fv_tree.specs.declared.kept.Tree.{Tree}
use Rattle.fv_tree.specs.declared.kept.KeptNode.{KeptNode}
use Rattle.fv_tree.specs.declared.kept.KeptCell.{KeptCell}
use Rattle.fv_tree.specs.Spelled.{Under}
use Rattle.fv_tree.specs.Sources.{Use}
use Rattle.fv_tree.specs.Standing.{cell_in, IsSameBut, IsSameButCells}
use Rattle.fv_tree.specs.Writing.{HasNewLevels, Stamps, new_child}
use Rattle.fv_tree.specs.Flushing.{IsSound, loaded_over, node_changed, node_placed, cell_changed, cell_placed}
use Rattle.fv_tree.specs.Carried.{kept_at, IsBlank, BringsNew, IsTop, Marks}
use Rattle.fv_tree.specs.Leading.{KeepsHints, LeadsNoMore}
use Rattle.fv_tree.specs.Readying.{KeepsReady}
use Rattle.fv_tree.proofs.Leading.{hints_then, leads_then}
use Rattle.fv_tree.proofs.Marked.{IsMarked, marked_hints, marked_leads, marked_keeps, marked_sound}
use Rattle.fv_tree.proofs.Past.{Raises, past_base}
use Rattle.fv_tree.proofs.Ready.{marked_is}
use Rattle.fv_tree.specs.Altering.{Alters}
use Rattle.fv_tree.proofs.Altered.{marked_alters}
use Rattle.fv_tree.proofs.ReadyPast.{past_place, past_hints, past_leads, past_keeps, past_ready, past_unplaced}
use Rattle.fv_tree.proofs.Steps.{moved}
use Rattle.fv_tree.proofs.StillReady.{cell_still, chosen, ready_then, stamps_ready}
use Rattle.fv_tree.proofs.GrownReady.{grown_ready}
use Rattle.fv_tree.proofs.Writes.{levels_grow}

-- what a write past the levels keeps of a tree
pub record Grows (s u : Tree) : Type 0 where
  pub sound : (blocks : Under) (used : ℕ → Option Use) → IsSound used (loaded_over blocks s) → IsSound used (loaded_over blocks u)
  pub leads : (blocks : Under) → LeadsNoMore (loaded_over blocks s) (loaded_over blocks u)
  pub keeps : (blocks : Under) → LeadsNoMore (loaded_over blocks u) (loaded_over blocks s)
  pub hints : (blocks : Under) → KeepsHints (loaded_over blocks s) (loaded_over blocks u)
  pub ready : KeepsReady s u

-- `s` gets new nodes as `t` and the cell as `h`, its levels rise as `v`, and the way gets stamps as `u`
module _ (s t h v u : Tree) (i stamp levels : ℕ) (block : List ℕ) (far : fan ^ s.levels ≤ i) (least : levels ≡ least_levels (i + 1)) (reach : i < fan ^ levels)
    (fields : IsSameBut s t) (grown : HasNewLevels s t levels i stamp) (brings : BringsNew s t i)
    (blank : (level : ℕ) → 1 ≤ level → level ≤ levels → (level < levels) ⊎ (s.root.stamp ≡ 0) → IsBlank (kept_at t level (i / fan ^ level)))
    (tops : s.root.stamp ≢ 0 → (level : ℕ) → s.levels < level → level ≤ levels → IsTop t level)
    (same : IsSameButCells t h) (cell : (j : ℕ) → cell_in h j ≡ cond (nat_eq j i) (Some block) (cell_in t j))
    (changed : cell_changed (tree.get nat_cmp h.cells i) ≡ true) (own : cell_placed (tree.get nat_cmp h.cells i) ≡ false) (others : (j : ℕ) → j ≢ i → tree.get nat_cmp h.cells j ≡ tree.get nat_cmp t.cells j)
    (owner : v.owner ≡ h.owner) (nodes : v.nodes ≡ h.nodes) (cells : v.cells ≡ h.cells) (up : v.levels ≡ levels) (root : v.root ≡ new_child stamp)
    (stamps : Stamps v u i stamp) (marks : Marks v u i) (some : 1 ≤ stamp) where
  all_nodes : v.nodes ≡ t.nodes
  all_nodes = nodes ∙ same.nodes

  kept : (k q : ℕ) → kept_at v k q ≡ kept_at t k q
  kept k q = ap (λ (nodes : tree.BTreeMap Spot KeptNode). tree.get spot_cmp nodes (k, q)) all_nodes

  given : stamp ≢ 0
  given e = absurd (omega (arith, e, some))

  raises : Raises s v i stamp
  raises = record {
    owner = owner ∙ same.owner ∙ fields.owner;
    root = root;
    levels = up ∙ levels_grow s.levels i levels far least;
    far = far;
    covers = subst (λ n. i < fan ^ n) (sym up) reach;
    nodes = subst (λ n. HasNewLevels s v n i stamp) (sym up) (moved s t v levels i stamp all_nodes grown);
  }

  brings_up : BringsNew s v i
  brings_up k q = subst (λ o. (o ≡ kept_at s k q) ⊎ (((q ≡ i / fan ^ k) × IsBlank o) ⊎ ((s.root.stamp ≢ 0) × (s.levels < k) × (q ≡ 0)))) (sym (kept k q)) (brings k q)

  blank_up : (level : ℕ) → 1 ≤ level → level ≤ v.levels → (level < v.levels) ⊎ (s.root.stamp ≡ 0) → IsBlank (kept_at v level (i / fan ^ level))
  blank_up level low high first = subst IsBlank (sym (kept level (i / fan ^ level))) (blank level low (omega (arith, high, up)) (elim first [
    | inl lt ↦ inl (omega (arith, lt, up))
    | inr none ↦ inr none
  ]))

  tops_up : s.root.stamp ≢ 0 → (level : ℕ) → s.levels < level → level ≤ v.levels → IsTop v level
  tops_up there level lt high = let top = tops there level lt (omega (arith, high, up)) in record {
    changed = ap node_changed (kept level 0) ∙ top.changed;
    placed = ap node_placed (kept level 0) ∙ top.placed;
  }

  own_up : cell_placed (tree.get nat_cmp v.cells i) ≡ false
  own_up = ap (λ (m : tree.BTreeMap ℕ KeptCell). cell_placed (tree.get nat_cmp m i)) cells ∙ own

  others_up : (j : ℕ) → j ≢ i → tree.get nat_cmp v.cells j ≡ tree.get nat_cmp s.cells j
  others_up j differs = ap (λ (m : tree.BTreeMap ℕ KeptCell). tree.get nat_cmp m j) cells ∙ others j differs ∙ ap (λ (m : tree.BTreeMap ℕ KeptCell). tree.get nat_cmp m j) fields.cells

  cells_up : (j : ℕ) → is_some (cell_in s j) ≡ true → is_some (cell_in v j) ≡ true
  cells_up j is = cell_still h v j cells (ap is_some (cell j) ∙ chosen (nat_eq j i) block (cell_in t j) (cell_still s t j fields.cells is))

  marked : (blocks : Under) → IsMarked (loaded_over blocks v) (loaded_over blocks u) i
  marked blocks = marked_is blocks v u i stamp stamps marks given raises.covers (past_base blocks s v i stamp raises given).kept
      (ap (λ (m : tree.BTreeMap ℕ KeptCell). cell_changed (tree.get nat_cmp m i)) cells ∙ changed)

  grows_leads : (blocks : Under) → LeadsNoMore (loaded_over blocks s) (loaded_over blocks u)
  grows_leads blocks = leads_then (loaded_over blocks s) (loaded_over blocks v) (loaded_over blocks u) (past_leads blocks s v i stamp raises given brings_up blank_up tops_up own_up others_up)
      (marked_leads (loaded_over blocks v) (loaded_over blocks u) i (marked blocks) (λ level le _. past_unplaced blocks s v i stamp raises given brings_up blank_up tops_up own_up others_up level le))

  grows_hints : (blocks : Under) → KeepsHints (loaded_over blocks s) (loaded_over blocks u)
  grows_hints blocks = hints_then (loaded_over blocks s) (loaded_over blocks v) (loaded_over blocks u) (past_hints blocks s v i stamp raises given brings_up blank_up tops_up own_up others_up)
      (marked_leads (loaded_over blocks v) (loaded_over blocks u) i (marked blocks) (λ level le _. past_unplaced blocks s v i stamp raises given brings_up blank_up tops_up own_up others_up level le))
      (marked_hints (loaded_over blocks v) (loaded_over blocks u) i (marked blocks))

  grows_keeps : (blocks : Under) → LeadsNoMore (loaded_over blocks u) (loaded_over blocks s)
  grows_keeps blocks = leads_then (loaded_over blocks u) (loaded_over blocks v) (loaded_over blocks s) (marked_keeps (loaded_over blocks v) (loaded_over blocks u) i (marked blocks))
      (past_keeps blocks s v i stamp raises given brings_up blank_up tops_up own_up others_up)

  grows_sound : (blocks : Under) (used : ℕ → Option Use) → IsSound used (loaded_over blocks s) → IsSound used (loaded_over blocks u)
  grows_sound blocks used sound = marked_sound (loaded_over blocks v) (loaded_over blocks u) i (marked blocks) used raises.covers (past_ready blocks s v i stamp raises given brings_up blank_up tops_up own_up others_up used sound)

  pub grows_alters : (blocks : Under) → Alters stamp (loaded_over blocks s) (loaded_over blocks u)
  grows_alters blocks = marked_alters blocks v u i stamp stamps marks given raises.covers (past_base blocks s v i stamp raises given).kept (ap (λ (m : tree.BTreeMap ℕ KeptCell). cell_changed (tree.get nat_cmp m i)) cells ∙ changed)
      (loaded_over blocks s) (past_place blocks s v i stamp raises given brings_up blank_up tops_up own_up others_up)

  grows_ready : KeepsReady s u
  grows_ready = ready_then s v u (λ j ready. grown_ready s v i stamp raises given brings_up cells_up j ready) (stamps_ready v u i stamp stamps given)

  pub grows_kept : Grows s u
  grows_kept = record { sound = grows_sound; leads = grows_leads; keeps = grows_keeps; hints = grows_hints; ready = grows_ready }
