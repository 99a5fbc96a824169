use Rattle.fv_second_pass.proofs.RootSteps.{used_adds, used_reaches, used_within}
use Rattle.fv_second_pass.proofs.roots.note_snapshot.Goals as goal

pub returns-clause-lines : goal.returns-clause-lines
returns-clause-lines g c = λ j fits of within.
    let volume = g.S.Source.volume c.args.source.now in
    used_adds volume c.args.label j c.args.snapshot.now c.if-snapshot-eq0.false c.args.lines.now c.note_table.new.lines
    (c.in_ok-reach.ensures.lines fits of (used_within volume c.args.label j c.args.snapshot.now c.if-snapshot-eq0.false c.args.limits.now.span within))

pub returns-clause-reach : goal.returns-clause-reach
returns-clause-reach g c = λ j fits of within.
    let volume = g.S.Source.volume c.args.source.now in
    used_reaches volume c.args.label j c.args.snapshot.now c.if-snapshot-eq0.false c.in_ok-reach.reach
    (c.in_ok-reach.ensures.reach fits of (used_within volume c.args.label j c.args.snapshot.now c.if-snapshot-eq0.false c.args.limits.now.span within))
