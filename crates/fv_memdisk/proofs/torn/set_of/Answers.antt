use Rattle.std.proofs.Common.{arith}
use Rattle.fv_memdisk.proofs.Tearing.{set_more}
use Rattle.fv_memdisk.proofs.torn.set_of.Goals as goal

pub loop-at-preserved : goal.loop-at-preserved
loop-at-preserved c = set_more c.loop-at.chosen c.insert.new.self c.args.places.now c.loop-at.at-index (omega arith) c.in_ok-insert.ensures.updates c.loop-at.invariant
