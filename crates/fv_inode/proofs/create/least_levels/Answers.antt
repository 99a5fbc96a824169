use Rattle.std.proofs.Common.{sym, arith}
use Rattle.fv_tree.proofs.Levels.{least_zero, least_suc}
use Rattle.fv_inode.proofs.create.least_levels.Goals as goal

pub returns-then-cells-le1-clause-least : goal.returns-then-cells-le1-clause-least
returns-then-cells-le1-clause-least c = sym (least_zero c.args.cells (omega arith))

pub returns-then-cells-le128-clause-least : goal.returns-then-cells-le128-clause-least
returns-then-cells-le128-clause-least c = sym (least_suc c.args.cells 0 (omega arith) (omega arith) (omega arith))

pub returns-then-cells-le16384-clause-least : goal.returns-then-cells-le16384-clause-least
returns-then-cells-le16384-clause-least c = sym (least_suc c.args.cells 1 (omega arith) (omega arith) (omega arith))

pub returns-else-cells-le16384-clause-least : goal.returns-else-cells-le16384-clause-least
returns-else-cells-le16384-clause-least c = sym (least_suc c.args.cells 2 (omega arith) (omega arith) (omega arith))
