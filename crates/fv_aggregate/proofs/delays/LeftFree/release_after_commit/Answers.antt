use Rattle.std.proofs.Common.{arith}
use Rattle.fv_aggregate.proofs.LeftBlocks.{releases, releases_past}
use Rattle.fv_aggregate.proofs.delays.LeftFree.release_after_commit.Goals as goal

pub returns-then-pvbn-len : goal.returns-then-pvbn-len
returns-then-pvbn-len c = releases c.args.self.now c.clear.new.self c.args.pvbn (omega (arith, c.len.ensures, c.if-pvbn-len.true)) c.clear.ensures

pub returns-else-pvbn-len : goal.returns-else-pvbn-len
returns-else-pvbn-len c = releases_past c.args.self.now c.args.pvbn (omega (arith, c.len.ensures, c.if-pvbn-len.false))
