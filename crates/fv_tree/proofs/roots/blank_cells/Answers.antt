use Rattle.std.proofs.Common.{rules}
use Rattle.fv_tree.proofs.BlankedRoots.{blanks_cells}
use Rattle.fv_tree.proofs.roots.blank_cells.Goals as goal

pub returns : goal.returns
returns c = blanks_cells _ _ (λ k v b w g t. search rules) c.args.cells.now c.retain.new.self c.retain.ensures.filtered
