use Rattle.std.proofs.Common.{◌∙◌}
use Rattle.fv_aggregate.proofs.LeftBlocks.{more_is}
use Rattle.fv_aggregate.proofs.delays.has_more.Goals as goal

pub returns : goal.returns
returns c = more_is c.args.pool.now c.args.volumes.now c.from.result c.sum_held.result (c.from.ensures ∙ c.in_ok-under.ensures) c.sum_held.ensures
