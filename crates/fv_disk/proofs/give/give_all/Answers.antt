use Rattle.fv_disk.proofs.Giving.{gave}
use Rattle.fv_disk.proofs.give.give_all.Goals as goal

pub loop-rest-preserved : goal.loop-rest-preserved
loop-rest-preserved g c = rw c.split_at.ensures.back (gave _ _ _ _ _ _ c.loop-rest.invariant c.in_ok-count.ensures)
