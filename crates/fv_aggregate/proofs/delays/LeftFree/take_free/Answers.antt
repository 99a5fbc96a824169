use Rattle.fv_aggregate.proofs.LeftBlocks.{takes_none}
use Rattle.fv_aggregate.proofs.delays.LeftFree.take_free.Goals as goal

pub returns : goal.returns
returns c = takes_none c.args.self.now
