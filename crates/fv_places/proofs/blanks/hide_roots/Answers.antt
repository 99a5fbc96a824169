use Rattle.std.proofs.Common.{arith}
use Rattle.fv_tables.specs.Told.{free_record}
use Rattle.fv_tables.specs.Alike.{hintless_record}
use Rattle.fv_places.proofs.Stays.{map_next}
use Rattle.fv_places.proofs.blanks.hide_roots.Goals as goal

pub loop-i-preserved : goal.loop-i-preserved
loop-i-preserved c = map_next hintless_record c.args.files.now c.loop-i.files c.loop-i.i free_record c.loop-i-test.true (omega arith) c.loop-i.invariant
