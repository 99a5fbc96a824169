use Rattle.fv_run.proofs.Checked.{HasTold}
use Rattle.fv_run.proofs.checking.tell_faults.Given as goal

abbrev pub invariant-loop-fault : goal.invariant-loop-fault
invariant-loop-fault g l = HasTold (g.H.Disk.shown l.fn.host) l.lines.lines.keys (g.H.Disk.shown l.host) l.fault-iterator
