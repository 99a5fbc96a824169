use Rattle.std.proofs.Common.{◌≢◌, ◌≤◌, get_or, subst, sym, ap, arith}
use Rattle.std.proofs.lemmas.List.Elements.{All-set, All-get_or}
use Rattle.fv_codec.specs.declared.pointer.Pointer.{Pointer}
use Rattle.fv_codec.specs.Blocks.{IsPointer}
use Rattle.fv_tree.specs.Spelled.{hole}
use Rattle.fv_tree.proofs.Pointers.{set_filled, stamped_fits}
use Rattle.fv_tree.proofs.write.stamp_child.Goals as goal

pub invariant_of-node-clause-pointers : goal.invariant_of-node-clause-pointers
invariant_of-node-clause-pointers c =
    let node = c.args.node.now in
    let most : c.args.stamp ≤ 0xffffffffffffffff = omega (arith, c.ranges.stamp) in
    let was : IsPointer (get_or node.children c.args.slot hole) = All-get_or IsPointer node.children c.args.slot hole (omega (arith, c.requires.slot, node.long)) node.pointers in
    All-set IsPointer node.children c.args.slot c.stamped.result (subst IsPointer (sym c.stamped.ensures) (stamped_fits (get_or node.children c.args.slot hole) c.args.stamp was c.requires.stamp most)) node.pointers

pub invariant_of-node-clause-some : goal.invariant_of-node-clause-some
invariant_of-node-clause-some c = λ _.
    let node = c.args.node.now in
    let some : c.stamped.result.stamp ≢ 0 = λ e. omega (arith, c.requires.stamp, e, ap (λ (p : Pointer). p.stamp) c.stamped.ensures) in
    set_filled node.children c.args.slot c.stamped.result (omega (arith, c.requires.slot, node.long)) some
