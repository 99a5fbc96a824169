use Rattle.fv_model.specs.Lines.{lines}
use Rattle.fv_model.specs.Machines.{empty_machine}
use Rattle.fv_reference_run.proofs.Stepped.{StandsAt}
use Rattle.fv_reference_run.proofs.program.answer_script.Given as goal

abbrev pub invariant-loop-count : goal.invariant-loop-count
invariant-loop-count g l = StandsAt (empty_machine l.fn.blocks) (lines (g.H.Disk.shown l.fn.host).ends.left) (g.H.Disk.shown l.fn.host) l.machine l.script (g.H.Disk.shown l.host) l.count
