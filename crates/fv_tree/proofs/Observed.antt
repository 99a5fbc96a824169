-- What is seen of the nodes in memory, where one of them is written.
use Rattle.std.proofs.Common.{◌≡◌, ◌≢◌, ℕ, ◌⊎◌, inl, inr, true, cond, Option, Some, sym, ap, ◌∙◌}
use Rattle.std.specs.Ordering.{is_eq}
use Rattle.std.specs.BTreeMap as tree
use Rattle.fv_model.specs.Trees.{Spot, spot_cmp}
use Rattle.fv_tree.specs.declared.kept.KeptNode.{KeptNode}
use Rattle.fv_tree.specs.Flushing.{node_changed, changed_in}
use Rattle.fv_tree.proofs.Spots.{spot_differs, spot_same}
use Rattle.fv_tree.proofs.Ways.{spot_is}

module _ (o n : tree.BTreeMap Spot KeptNode) (level place : ℕ) (was now : KeptNode)
    (updates : (q : Spot) → tree.get spot_cmp n q ≡ cond (is_eq (spot_cmp (level, place) q)) (Some now) (tree.get spot_cmp o q))
    (held : Some was ≡ tree.get spot_cmp o (level, place)) where
  pub elsewhere_same : (k q : ℕ) → (k ≢ level) ⊎ (q ≢ place) → tree.get spot_cmp n (k, q) ≡ tree.get spot_cmp o (k, q)
  elsewhere_same k q other = updates (k, q) ∙ ap (λ b. cond b (Some now) (tree.get spot_cmp o (k, q))) (spot_differs level place k q other)

  pub here_now : tree.get spot_cmp n (level, place) ≡ Some now
  here_now = updates (level, place) ∙ ap (λ b. cond b (Some now) (tree.get spot_cmp o (level, place))) (spot_same level place)

  -- what is the same of the node is the same of all
  pub observed : {X : Type 0} (f : Option KeptNode → X) → f (Some now) ≡ f (Some was) → (k q : ℕ) → f (tree.get spot_cmp n (k, q)) ≡ f (tree.get spot_cmp o (k, q))
  observed f same k q = elim (spot_is k q level place) [
    | inl at ↦ (λ i. f (tree.get spot_cmp n (at.0 i, at.1 i))) ∙ ap f here_now ∙ same ∙ ap f held ∙ sym (λ i. f (tree.get spot_cmp o (at.0 i, at.1 i)))
    | inr other ↦ ap f (elsewhere_same k q other)
  ]

  pub changed_still : now.changed ≡ true → (k q : ℕ) → ((k ≢ level) ⊎ (q ≢ place)) ⊎ (changed_in o k q ≡ true) → changed_in n k q ≡ changed_in o k q
  changed_still new k q (inl other) = ap node_changed (elsewhere_same k q other)
  changed_still new k q (inr changed) = elim (spot_is k q level place) [
    | inl at ↦ (λ i. node_changed (tree.get spot_cmp n (at.0 i, at.1 i))) ∙ ap node_changed here_now ∙ new ∙ sym changed
    | inr other ↦ ap node_changed (elsewhere_same k q other)
  ]
