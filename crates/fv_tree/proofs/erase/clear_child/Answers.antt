use Rattle.std.proofs.Common.{sym, ap, ◌∙◌}
use Rattle.std.proofs.lemmas.List.{get_or-set_other}
use Rattle.std.proofs.lemmas.List.Elements.{All-set}
use Rattle.fv_codec.specs.declared.pointer.Pointer.{Pointer}
use Rattle.fv_codec.specs.Blocks.{IsPointer}
use Rattle.fv_tree.specs.Spelled.{hole}
use Rattle.fv_tree.specs.Unlinking.{cleared_in}
use Rattle.fv_tree.proofs.Pointers.{one_filled, hole_fits}
use Rattle.fv_tree.proofs.erase.clear_child.Goals as goal

pub invariant_of-node-clause-pointers : goal.invariant_of-node-clause-pointers
invariant_of-node-clause-pointers c =
    let node = c.args.node.now in
    All-set IsPointer node.children c.args.slot hole hole_fits node.pointers

pub invariant_of-node-clause-some : goal.invariant_of-node-clause-some
invariant_of-node-clause-some c = λ _.
    let node = c.args.node.now in
    let other = c.requires.other in
    one_filled (cleared_in c.args.slot node.children) other.0 (λ none. other.2 (ap (λ (p : Pointer). p.stamp) (sym (get_or-set_other node.children c.args.slot other.0 hole hole other.1)) ∙ none))
