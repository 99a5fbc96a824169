use Rattle.std.proofs.Common.{arith}
use Rattle.fv_tables.specs.Spelled.{hole}
use Rattle.fv_tables.specs.Alike.{hintless}
use Rattle.fv_places.proofs.Stays.{map_next}
use Rattle.fv_places.proofs.blanks.hide.Goals as goal

pub loop-i-preserved : goal.loop-i-preserved
loop-i-preserved c = map_next hintless c.args.pointers.now c.loop-i.pointers c.loop-i.i hole c.loop-i-test.true (omega arith) c.loop-i.invariant
