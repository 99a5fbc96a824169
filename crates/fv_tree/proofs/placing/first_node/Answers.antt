use Rattle.std.proofs.Common.{inl, inr, IsSome, subst, sym, refl}
use Rattle.std.specs.BTreeMap as maps
use Rattle.fv_model.specs.Trees.{spot_cmp}
use Rattle.fv_tree.proofs.Cases.{there}
use Rattle.fv_tree.proofs.Spots.{below_first}
use Rattle.fv_tree.proofs.placing.first_node.Goals as goal

pub returns-in-Some-clause-lowest : goal.returns-in-Some-clause-lowest
returns-in-Some-clause-lowest c = λ k q lt. elim (there (maps.get spot_cmp c.args.tree.now.nodes (k, q))) [
  | inl none ↦ none
  | inr held ↦ below_first c.in-Some.spot.now.0 c.in-Some.spot.now.1 k q lt (c.in-Some.ensures.least (k, q) (subst IsSome (sym held.1) refl))
]
