use Rattle.std.proofs.Common.{arith}
use Rattle.fv_reference.proofs.Levels.{far}
use Rattle.fv_reference.proofs.trees.range_at.Goals as goal

pub returns-then-level-gt5 : goal.returns-then-level-gt5
returns-then-level-gt5 c = far c.args.index c.args.level (omega arith) (omega arith)
