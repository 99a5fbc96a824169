use Rattle.std.proofs.Common.{arith}
use Rattle.std.specs.Ordering.{nat_cmp}
use Rattle.fv_reference.specs.Maps.{map_of}
use Rattle.fv_reference.proofs.Levels.{none_free}
use Rattle.fv_reference.proofs.tables.free_number.Goals as goal

pub returns : goal.returns
returns c = none_free (map_of nat_cmp c.args.files.now) _ (omega arith) (λ k lt. c.loop-number.invariant.below k (omega arith))
