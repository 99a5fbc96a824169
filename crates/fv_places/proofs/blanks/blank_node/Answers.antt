use Rattle.std.proofs.Common.{◌≡◌, List, true, rules, subst, sym, ◌∙◌}
use Rattle.fv_codec.specs.declared.pointer.Pointer.{Pointer}
use Rattle.fv_codec.specs.Blocks.{IsNode}
use Rattle.fv_places.specs.Changed.{with_children}
use Rattle.fv_places.proofs.InRange.{node_blank}
use Rattle.fv_places.proofs.Stays.{node_stays}
use Rattle.fv_places.proofs.blanks.blank_node.Goals as goal

pub encode-requires : goal.encode-requires
encode-requires c =
    subst (λ (ps : List Pointer). IsNode (with_children c.in_ok-node.node ps)) (sym c.hide.ensures)
    (node_blank c.in_ok-node.node c.in_ok-node.ensures.in_range)

pub returns-else-not-are_blank-clause-blanks : goal.returns-else-not-are_blank-clause-blanks
returns-else-not-are_blank-clause-blanks c =
    let blank : c.are_blank.result ≡ true = search rules in
    node_stays c.args.block.now c.in_ok-node.node (sym c.in_ok-node.ensures.exact) (sym c.are_blank.ensures ∙ blank)
