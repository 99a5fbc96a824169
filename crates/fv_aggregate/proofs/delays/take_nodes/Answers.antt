use Rattle.std.proofs.Common.{subst, refl}
use Rattle.std.specs.Prelude.{Option, None}
use Rattle.fv_container.specs.Chains.{map_in}
use Rattle.fv_container.specs.Paged.{Paged}
use Rattle.fv_aggregate.specs.Delayed.{LosesThose, has_node}
use Rattle.fv_aggregate.proofs.LeftBlocks.{loses_nodes, loses_none}
use Rattle.fv_aggregate.proofs.delays.take_nodes.Goals as goal

pub returns-in-Some : goal.returns-in-Some
returns-in-Some c = subst (λ (o : Option Paged). LosesThose c.args.left.now.blocks (has_node (map_in o)) c.release_tree.new.map.blocks) c.in-Some.ensures (loses_nodes c.args.left.now c.release_tree.new.map c.in-Some.container.now.map.tree c.release_tree.ensures)

pub returns-in_default : goal.returns-in_default
returns-in_default c = subst (λ (o : Option Paged). LosesThose c.args.left.now.blocks (has_node (map_in o)) c.args.left.now.blocks) c.in_default.ensures (loses_none c.args.left.now.blocks (has_node (map_in None)) (λ b. refl))
