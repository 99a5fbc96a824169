use Rattle.std.proofs.Common.{flat_map}
use Rattle.fv_faults.specs.ThirdPass.{stamp_lines}
use Rattle.fv_faults.specs.Walks.{Ground, steps}
use Rattle.fv_faults.proofs.Adding.{adds_then}
use Rattle.fv_walk.specs.Visits.{rooted}
use Rattle.fv_third_pass.specs.Twinned.{twin_lines}
use Rattle.fv_third_pass.specs.Volumes.{shown_one}
use Rattle.fv_third_pass.proofs.Noting.{taken}
use Rattle.fv_third_pass.proofs.ids.judge_base.Goals as goal

pub returns-clause-adds : goal.returns-clause-adds
returns-clause-adds g c = λ fits done has clean.
    let volume : Ground = g.S.Source.volume c.args.source.now in
    let r = rooted c.args.table.now in
    let walked = c.in_ok-walked.walked in
    let stamps = flat_map (stamp_lines c.args.last) (steps volume c.args.label r) in
    adds_then (twin_lines done (shown_one volume c.args.label r)) stamps c.args.judge.lines walked.visitor.lines c.join_lines.new.lines
    ((c.in_ok-walked.ensures.saw fits).adds done has)
    (taken stamps c.new.result walked.lines walked.visitor.lines c.join_lines.new.lines c.new.ensures.empty (c.in_ok-walked.ensures.adds fits clean) c.in_ok-join_lines.ensures)
