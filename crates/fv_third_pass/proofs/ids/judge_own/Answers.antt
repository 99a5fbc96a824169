use Rattle.std.proofs.Common.{[], ap, ◌∙◌}
use Rattle.fv_faults.specs.declared.lines.Lines.{Lines}
use Rattle.fv_faults.proofs.Adding.{adds_then}
use Rattle.fv_third_pass.specs.Twinned.{twin_lines, visits}
use Rattle.fv_third_pass.specs.Volumes.{own_tables, shown}
use Rattle.fv_third_pass.proofs.Noting.{taken}
use Rattle.fv_third_pass.proofs.ids.judge_own.Goals as goal

pub returns-clause-seen : goal.returns-clause-seen
returns-clause-seen g c = λ fits.
    let has = (c.in_ok-walked.ensures.saw fits).seen [] c.new-fresh.ensures.seen in
    record { ids = has.ids; vvbns = has.vvbns }

pub returns-clause-adds : goal.returns-clause-adds
returns-clause-adds g c = λ fits clean.
    let volume = g.S.Source.volume c.args.source.now in
    let walked = c.in_ok-walked.walked in
    let fresh = c.new-fresh.result.lines in
    let twins = twin_lines [] (visits (shown volume c.args.label c.args.roots.now)) in
    adds_then (own_tables volume c.args.label c.args.last c.args.roots.now) twins c.args.lines walked.lines c.join_lines.new.lines (c.in_ok-walked.ensures.adds fits clean)
    (taken twins fresh walked.visitor.lines walked.lines c.join_lines.new.lines (ap (λ (l : Lines). l.lines.keys) c.new-fresh.ensures.lines ∙ c.new.ensures.empty)
    ((c.in_ok-walked.ensures.saw fits).adds [] c.new-fresh.ensures.seen) c.in_ok-join_lines.ensures)
