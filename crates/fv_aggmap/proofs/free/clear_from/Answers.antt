use Rattle.std.proofs.Common.{arith}
use Rattle.fv_aggmap.proofs.Counting.{clear_count}
use Rattle.fv_aggmap.proofs.free.clear_from.Goals as goal

pub overflow_sub-result-2 : goal.overflow_sub-result-2
overflow_sub-result-2 c = rw (c.count_range.ensures, c.len.ensures, c.len-2.ensures) (omega (arith, clear_count c.args.map.now c.args.first c.requires))

pub returns : goal.returns
returns c = rw (c.count_range.ensures, c.len.ensures, c.len-2.ensures) (omega (arith, clear_count c.args.map.now c.args.first c.requires))
