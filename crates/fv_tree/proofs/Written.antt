-- What is written through a node in memory.
use Rattle.std.proofs.Common.{◌≡◌, ℕ, ◌&&◌, cond, List, Some, nat_eq, sym, ap, ◌∙◌, inl, inr}
use Rattle.std.specs.Ordering.{is_eq}
use Rattle.std.specs.Option.{option_map}
use Rattle.std.specs.BTreeMap as tree
use Rattle.fv_codec.specs.declared.pointer.Pointer.{Pointer}
use Rattle.fv_model.specs.Trees.{Spot, spot_cmp}
use Rattle.fv_tree.specs.declared.kept.KeptNode.{KeptNode}
use Rattle.fv_tree.specs.Standing.{children_in}
use Rattle.fv_tree.proofs.Spots.{same_spot, mapped, elsewhere}
use Rattle.fv_tree.proofs.Ways.{spot_is}

children : KeptNode → List Pointer
children kept = kept.children

pub changed : (o n : tree.BTreeMap Spot KeptNode) (level place : ℕ) (was now : KeptNode) (f : List Pointer → List Pointer)
    → ((q : Spot) → tree.get spot_cmp n q ≡ cond (is_eq (spot_cmp (level, place) q)) (Some now) (tree.get spot_cmp o q))
    → Some was ≡ tree.get spot_cmp o (level, place)
    → now.children ≡ f was.children
    → (k q : ℕ) → children_in n k q ≡ cond (nat_eq k level && nat_eq q place) (option_map f (children_in o k q)) (children_in o k q)
unfolding children
changed o n level place was now f updates held is k q =
    let seen : children_in n k q ≡ cond (nat_eq k level && nat_eq q place) (Some now.children) (children_in o k q) =
    ap (option_map children) (updates (k, q)) ∙ mapped children (is_eq (spot_cmp (level, place) (k, q))) (nat_eq k level && nat_eq q place) now (tree.get spot_cmp o (k, q)) (same_spot level place k q) in
    elim (spot_is k q level place) [
      | inl same ↦
          let at : children_in o k q ≡ Some was.children = (λ j. children_in o (same.0 j) (same.1 j)) ∙ sym (ap (option_map children) held) in
          seen ∙ ap (λ c. cond (nat_eq k level && nat_eq q place) c (children_in o k q)) (ap Some is ∙ sym (ap (option_map f) at))
      | inr other ↦ seen ∙ ap (λ b. cond b (Some now.children) (children_in o k q)) (elsewhere k q level place other) ∙ sym (ap (λ b. cond b (option_map f (children_in o k q)) (children_in o k q)) (elsewhere k q level place other))
    ]
