use Rattle.std.proofs.Common.{arith}
use Rattle.fv_tree.proofs.Pointers.{holes_fit}
use Rattle.fv_tree.proofs.keep.empty_node.Goals as goal

pub invariant_of-result-clause-pointers : goal.invariant_of-result-clause-pointers
invariant_of-result-clause-pointers c = holes_fit

pub invariant_of-result-clause-some : goal.invariant_of-result-clause-some
invariant_of-result-clause-some c = λ e. absurd (grind (arith, e))
