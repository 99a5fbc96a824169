use Rattle.std.proofs.Common.{refl}
use Rattle.fv_tree.proofs.BlankedRoots.{blanks_roots}
use Rattle.fv_tree.proofs.kept.Tree.blank_roots.Goals as goal

pub returns : goal.returns
returns c = blanks_roots c.args.self.now _ refl refl refl refl c.blank_cells.ensures
