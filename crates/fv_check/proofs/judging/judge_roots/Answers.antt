use Rattle.fv_check.proofs.Damaged.{damaged_verdict}
use Rattle.fv_check.proofs.judging.judge_roots.Goals as goal

pub returns-clause-says : goal.returns-clause-says
returns-clause-says g c = λ tells at want found is.
    damaged_verdict (g.D.Disk.shown c.args.disk.now).reads at want found is c.new-lines.result c.note_roots.new.lines c.new-lines.ensures.empty c.has_lines.ensures.ordered
    (c.in_ok-note_roots.ensures.adds tells)
