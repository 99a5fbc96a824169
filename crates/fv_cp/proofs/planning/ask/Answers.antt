use Rattle.fv_cp.proofs.Planned.{none_passed, none_taken}
use Rattle.fv_cp.proofs.planning.ask.Goals as goal

pub returns-then-total-eq0-clause-taken : goal.returns-then-total-eq0-clause-taken
returns-then-total-eq0-clause-taken c = λ counts is some. none_taken c.args.table.now counts c.total.result is some (c.total.ensures counts is) c.if-total-eq0.true c.args.next.now

pub returns-then-total-eq0-clause-passed : goal.returns-then-total-eq0-clause-passed
returns-then-total-eq0-clause-passed c = λ counts is some. none_passed c.args.table.now counts c.total.result is some (c.total.ensures counts is) c.if-total-eq0.true c.args.next.now
