use Rattle.fv_run.specs.Answering.{StandsAt}
use Rattle.fv_run.proofs.answering.answer_lines.Given as goal

abbrev pub invariant-loop-found : goal.invariant-loop-found
invariant-loop-found g l = StandsAt l.fn.limit l.fn.session (g.H.Disk.shown l.fn.host) l.script l.session (g.H.Disk.shown l.host) l.count

abbrev pub decreases-loop-found : goal.decreases-loop-found
decreases-loop-found g l = l.script.room
