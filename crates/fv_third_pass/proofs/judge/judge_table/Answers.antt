use Rattle.fv_walk.specs.Visits.{rooted}
use Rattle.fv_third_pass.proofs.Judging.{judged_added}
use Rattle.fv_third_pass.proofs.judge.judge_table.Goals as goal

pub returns-clause-adds : goal.returns-clause-adds
returns-clause-adds g c = λ fits clean.
    judged_added (g.S.Source.volume c.args.source.now) c.args.label (rooted c.args.table.now) c.args.last clean c.args.own c.args.lines c.walk.new.visitor.first.lines (c.in_ok-walk.ensures.saw fits).0.adds

pub returns-clause-saw : goal.returns-clause-saw
returns-clause-saw g c = λ fits. (c.in_ok-walk.ensures.saw fits).1
