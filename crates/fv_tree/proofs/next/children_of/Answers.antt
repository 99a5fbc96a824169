use Rattle.std.proofs.Common.{ap, sym, ◌∙◌}
use Rattle.std.specs.Option.{option_map}
use Rattle.fv_tree.specs.declared.kept.KeptNode.{KeptNode}
use Rattle.fv_tree.specs.Standing.{standing, under}
use Rattle.fv_tree.proofs.Below.{kept_pointers, read_pointers}
use Rattle.fv_tree.proofs.next.children_of.Goals as goal

pub returns-in-Some-clause-children : goal.returns-in-Some-clause-children
returns-in-Some-clause-children g c = λ told.
    sym (kept_pointers (standing (under (g.B.Blocks.shown c.args.blocks.now)) c.args.tree.now) c.args.level c.args.place c.args.pointer.now _ c.requires.some (sym (ap (option_map (λ (kept : KeptNode). kept.children)) c.in-Some.ensures.value)))

pub returns-in_ok-node-in-None-clause-children : goal.returns-in_ok-node-in-None-clause-children
returns-in_ok-node-in-None-clause-children g c = λ told.
    sym (read_pointers (standing (under (g.B.Blocks.shown c.args.blocks.now)) c.args.tree.now) c.args.level c.args.place c.args.pointer.now c.requires.some (sym (ap (option_map (λ (kept : KeptNode). kept.children)) c.in-None.ensures.value)) ∙ c.in_ok-node-in-None.ensures.node told)
