use Rattle.std.proofs.Common.{arith, sym, ◌+◌}
use Rattle.fv_tree.proofs.Levels.{least_zero, least_suc, lower_is}
use Rattle.fv_tree.proofs.grow.levels_over.Goals as goal

pub returns-then-index-lt1-clause-least : goal.returns-then-index-lt1-clause-least
returns-then-index-lt1-clause-least c = sym (least_zero _ (omega arith))

pub returns-then-index-lt128-clause-least : goal.returns-then-index-lt128-clause-least
returns-then-index-lt128-clause-least c = sym (least_suc (c.args.index + 1) 0 (omega arith) (omega arith) (omega arith))

pub returns-then-index-lt16384-clause-least : goal.returns-then-index-lt16384-clause-least
returns-then-index-lt16384-clause-least c = sym (least_suc (c.args.index + 1) 1 (omega arith) (omega arith) (omega arith))

pub returns-else-index-lt16384-clause-least : goal.returns-else-index-lt16384-clause-least
returns-else-index-lt16384-clause-least c = sym (least_suc (c.args.index + 1) 2 (omega arith) (omega arith) (omega arith))

pub returns-then-index-lt128-clause-lower : goal.returns-then-index-lt128-clause-lower
returns-then-index-lt128-clause-lower c = lower_is c.args.index 0 (omega arith)

pub returns-then-index-lt16384-clause-lower : goal.returns-then-index-lt16384-clause-lower
returns-then-index-lt16384-clause-lower c = lower_is c.args.index 1 (omega arith)

pub returns-else-index-lt16384-clause-lower : goal.returns-else-index-lt16384-clause-lower
returns-else-index-lt16384-clause-lower c = lower_is c.args.index 2 (omega arith)
