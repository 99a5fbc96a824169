use Rattle.fv_volumes.proofs.Drawing.{drawn_taken}
use Rattle.fv_volumes.proofs.taking.take_block.Goals as goal

pub returns-clause-drawn : goal.returns-clause-drawn
returns-clause-drawn c = drawn_taken c.args.map.now c.take_free.new.self c.take_free.result c.unwrap.result c.unwrap.ensures c.take_free.ensures.same c.take_free.ensures.some c.take_free.ensures.taken
