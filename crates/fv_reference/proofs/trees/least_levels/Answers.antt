use Rattle.std.proofs.Common.{arith}
use Rattle.fv_reference.proofs.Levels.{least_zero, least_suc}
use Rattle.std.proofs.Common.{sym}
use Rattle.fv_reference.proofs.trees.least_levels.Goals as goal

pub returns-then-n-le1-clause-least : goal.returns-then-n-le1-clause-least
returns-then-n-le1-clause-least c = sym (least_zero c.args.n (omega arith))

pub returns-then-n-le128-clause-least : goal.returns-then-n-le128-clause-least
returns-then-n-le128-clause-least c = sym (least_suc c.args.n 0 (omega arith) (omega arith) (omega arith))

pub returns-then-n-le16384-clause-least : goal.returns-then-n-le16384-clause-least
returns-then-n-le16384-clause-least c = sym (least_suc c.args.n 1 (omega arith) (omega arith) (omega arith))

pub returns-then-n-le2097152-clause-least : goal.returns-then-n-le2097152-clause-least
returns-then-n-le2097152-clause-least c = sym (least_suc c.args.n 2 (omega arith) (omega arith) (omega arith))

pub returns-then-n-le268435456-clause-least : goal.returns-then-n-le268435456-clause-least
returns-then-n-le268435456-clause-least c = sym (least_suc c.args.n 3 (omega arith) (omega arith) (omega arith))

pub returns-else-n-le268435456-clause-least : goal.returns-else-n-le268435456-clause-least
returns-else-n-le268435456-clause-least c = sym (least_suc c.args.n 4 (omega arith) (omega arith) (omega arith))
