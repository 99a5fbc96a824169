use Rattle.std.proofs.Common.{arith, replicate}
use Rattle.std.proofs.lemmas.List.{length-replicate}
use Rattle.std.proofs.lemmas.List.Elements.{All-set}
use Rattle.fv_codec.specs.declared.pointer.Pointer.{Pointer}
use Rattle.fv_codec.specs.Blocks.{IsPointer}
use Rattle.fv_tree.specs.Spelled.{hole}
use Rattle.fv_tree.proofs.Pointers.{holes_fit, set_filled}
use Rattle.fv_tree.proofs.grow.node_over.Goals as goal

pub invariant_of-result-clause-pointers : goal.invariant_of-result-clause-pointers
invariant_of-result-clause-pointers c = All-set IsPointer (replicate 128 hole) 0 c.args.child.now c.requires.pointer holes_fit

pub invariant_of-result-clause-some : goal.invariant_of-result-clause-some
invariant_of-result-clause-some c = λ _. set_filled (replicate 128 hole) 0 c.args.child.now (omega (arith, length-replicate {A = Pointer} 128 hole)) c.requires.some
