use Rattle.std.proofs.Common.{arith}
use Rattle.std.proofs.lemmas.List.Elements.{All-set}
use Rattle.fv_codec.specs.Blocks.{IsPointer}
use Rattle.fv_tree.proofs.Pointers.{set_filled}
use Rattle.fv_tree.proofs.placing.point_child.Goals as goal

pub invariant_of-node-clause-pointers : goal.invariant_of-node-clause-pointers
invariant_of-node-clause-pointers c = All-set IsPointer c.args.node.now.children c.args.slot c.args.pointer.now c.requires.pointer c.args.node.now.pointers

pub invariant_of-node-clause-some : goal.invariant_of-node-clause-some
invariant_of-node-clause-some c = λ _. set_filled c.args.node.now.children c.args.slot c.args.pointer.now (omega (arith, c.requires.slot, c.args.node.now.long)) c.requires.some
