use Rattle.std.proofs.Common.{refl}
use Rattle.fv_tree.proofs.Blanked.{blanks}
use Rattle.fv_tree.proofs.kept.Tree.blank.Goals as goal

pub returns : goal.returns
returns c = blanks c.args.self.now _ refl refl c.hintless-self.ensures refl c.blank_nodes.ensures
