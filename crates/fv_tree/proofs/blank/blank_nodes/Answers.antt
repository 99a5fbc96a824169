use Rattle.std.proofs.Common.{rules}
use Rattle.fv_tree.proofs.Blanked.{blanks_nodes, retained}
use Rattle.fv_tree.proofs.blank.blank_nodes.Goals as goal

pub returns : goal.returns
returns c = blanks_nodes c.args.nodes.now c.retain.new.self (retained _ _ (λ k v b w g t. search rules) _ _ c.retain.ensures.filtered)
