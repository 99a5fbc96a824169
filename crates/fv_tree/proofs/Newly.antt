-- Nodes over a cell past the levels, and over the root, that come into memory.
use Rattle.std.proofs.Common.{◌≡◌, ◌≢◌, ◌≤◌, ◌<◌, ℕ, ◌+◌, ◌/◌, ◌^◌, ◌⊎◌, inl, inr, true, false, cond, ◌&&◌, Some, nat_eq, replicate, sym, ap, subst, ◌∙◌, arith}
use Rattle.std.proofs.lemmas.Bool.{cases_eq, cases_lt}
use Rattle.fv_model.specs.Trees.{fan}
use Rattle.fv_tree.specs.declared.kept.Tree.{Tree}
use Rattle.fv_tree.specs.declared.kept.KeptNode.{KeptNode}
use Rattle.fv_tree.specs.Spelled.{hole}
use Rattle.fv_tree.specs.Flushing.{changed_in, placed_in, node_changed, node_placed}
use Rattle.fv_tree.specs.Carried.{kept_at, IsBlank, BringsNew, IsTop}
use Rattle.fv_tree.proofs.Spots.{here, elsewhere}
use Rattle.fv_tree.proofs.Ways.{spot_is}

-- a node is put into memory
abbrev pub IsKeptAt : Tree → Tree → ℕ → ℕ → KeptNode → Type 0
IsKeptAt t u level place node = (k q : ℕ) → kept_at u k q ≡ cond (nat_eq k level && nat_eq q place) (Some node) (kept_at t k q)

pub kept_here : (t u : Tree) (level place : ℕ) (node : KeptNode) → IsKeptAt t u level place node → kept_at u level place ≡ Some node
kept_here t u level place node kept = kept level place ∙ ap (λ b. cond b (Some node) (kept_at t level place)) (here level place)

pub kept_there : (t u : Tree) (level place : ℕ) (node : KeptNode) → IsKeptAt t u level place node → (k q : ℕ) → (k ≢ level) ⊎ (q ≢ place) → kept_at u k q ≡ kept_at t k q
kept_there t u level place node kept k q other = kept k q ∙ ap (λ b. cond b (Some node) (kept_at t k q)) (elsewhere k q level place other)

pub blank_here : (t u : Tree) (level place : ℕ) (node : KeptNode) → IsKeptAt t u level place node → node.children ≡ replicate 128 hole → node.changed ≡ false → node.placed ≡ false → IsBlank (kept_at u level place)
blank_here t u level place node kept children changed placed = record { node = node; is = kept_here t u level place node kept; children = children; changed = changed; placed = placed }

carry : (s t u : Tree) (i k q : ℕ) → kept_at u k q ≡ kept_at t k q
    → ((kept_at t k q ≡ kept_at s k q) ⊎ (((q ≡ i / fan ^ k) × IsBlank (kept_at t k q)) ⊎ ((s.root.stamp ≢ 0) × (s.levels < k) × (q ≡ 0))))
    → ((kept_at u k q ≡ kept_at s k q) ⊎ (((q ≡ i / fan ^ k) × IsBlank (kept_at u k q)) ⊎ ((s.root.stamp ≢ 0) × (s.levels < k) × (q ≡ 0))))
carry s t u i k q e (inl was) = inl (e ∙ was)
carry s t u i k q e (inr (inl blank)) = inr (inl (blank.0, subst IsBlank (sym e) blank.1))
carry s t u i k q e (inr (inr top)) = inr (inr top)

-- one more node over the cell
pub more_blank : (s t u : Tree) (i level place : ℕ) (node : KeptNode) → IsKeptAt t u level place node → place ≡ i / fan ^ level → node.children ≡ replicate 128 hole → node.changed ≡ false → node.placed ≡ false → BringsNew s t i → BringsNew s u i
more_blank s t u i level place node kept at children changed placed was k q = elim (spot_is k q level place) [
  | inl same ↦ inr (inl (same.1 ∙ at ∙ (λ j. i / fan ^ (sym same.0 j)), subst (λ o. IsBlank o) (sym (λ j. kept_at u (same.0 j) (same.1 j))) (blank_here t u level place node kept children changed placed)))
  | inr other ↦ carry s t u i k q (kept_there t u level place node kept k q other) (was k q)
]

pub more_blanks : (t u : Tree) (i below place : ℕ) (node : KeptNode) → IsKeptAt t u (below + 1) place node → place ≡ i / fan ^ (below + 1) → node.children ≡ replicate 128 hole → node.changed ≡ false → node.placed ≡ false
    → ((k : ℕ) → 1 ≤ k → k ≤ below → IsBlank (kept_at t k (i / fan ^ k))) → (k : ℕ) → 1 ≤ k → k ≤ below + 1 → IsBlank (kept_at u k (i / fan ^ k))
more_blanks t u i below place node kept at children changed placed was k low high = elim (cases_eq k (below + 1)) [
  | inl e ↦ subst IsBlank (sym ((λ j. kept_at u (e j) (i / fan ^ e j)) ∙ ap (kept_at u (below + 1)) (sym at))) (blank_here t u (below + 1) place node kept children changed placed)
  | inr differs ↦ subst IsBlank (sym (kept_there t u (below + 1) place node kept k (i / fan ^ k) (inl differs))) (was k low (omega arith))
]

-- one more node over the root
pub more_same : (s t u : Tree) (below : ℕ) (node : KeptNode) → IsKeptAt t u (below + 1) 0 node → s.levels ≤ below → ((k q : ℕ) → (k ≤ s.levels) ⊎ (q ≢ 0) → kept_at t k q ≡ kept_at s k q) → (k q : ℕ) → (k ≤ s.levels) ⊎ (q ≢ 0) → kept_at u k q ≡ kept_at s k q
more_same s t u below node kept high was k q (inl le) = kept_there t u (below + 1) 0 node kept k q (inl (omega (arith, le, high))) ∙ was k q (inl le)
more_same s t u below node kept high was k q (inr differs) = kept_there t u (below + 1) 0 node kept k q (inr differs) ∙ was k q (inr differs)

pub more_tops : (s t u : Tree) (below : ℕ) (node : KeptNode) → IsKeptAt t u (below + 1) 0 node → node.changed ≡ true → node.placed ≡ false
    → ((k : ℕ) → s.levels < k → k ≤ below → IsTop t k) → (k : ℕ) → s.levels < k → k ≤ below + 1 → IsTop u k
more_tops s t u below node kept changed placed was k lt le = elim (cases_eq k (below + 1)) [
  | inl e ↦ record {
    changed = ap (λ n. changed_in u.nodes n 0) e ∙ ap node_changed (kept_here t u (below + 1) 0 node kept) ∙ changed;
    placed = ap (λ n. placed_in u.nodes n 0) e ∙ ap node_placed (kept_here t u (below + 1) 0 node kept) ∙ placed;
  }
  | inr differs ↦ let top = was k lt (omega arith) in record {
    changed = ap node_changed (kept_there t u (below + 1) 0 node kept k 0 (inl differs)) ∙ top.changed;
    placed = ap node_placed (kept_there t u (below + 1) 0 node kept k 0 (inl differs)) ∙ top.placed;
  }
]

-- both
pub brings_both : (s t u : Tree) (i : ℕ) → s.root.stamp ≢ 0 → s.levels ≡ t.levels → BringsNew s t i → ((k q : ℕ) → (k ≤ t.levels) ⊎ (q ≢ 0) → kept_at u k q ≡ kept_at t k q) → BringsNew s u i
brings_both s t u i some levels was same k q = elim (cases_eq q 0) [
  | inl e ↦ elim (cases_lt t.levels k) [
    | inl lt ↦ inr (inr (some, omega (arith, lt, levels), e))
    | inr le ↦ carry s t u i k q (same k q (inl le)) (was k q)
  ]
  | inr differs ↦ carry s t u i k q (same k q (inr differs)) (was k q)
]
