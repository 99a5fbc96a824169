use Rattle.std.specs.Prelude.{length}
use Rattle.fv_run.specs.Generating.{AppliedAt, lines_said}
use Rattle.fv_run.proofs.generating.apply_all.Given as goal

abbrev pub invariant-loop-command : goal.invariant-loop-command
invariant-loop-command g l = AppliedAt (lines_said l.fn.script) (lines_said l.script) l.fn.session (g.H.Disk.shown l.fn.host) l.session (g.H.Disk.shown l.host) l.tally.lines l.tally.accepted

abbrev pub decreases-loop-command : goal.decreases-loop-command
decreases-loop-command g l = length l.script
