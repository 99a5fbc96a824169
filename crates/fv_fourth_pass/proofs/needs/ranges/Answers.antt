use Rattle.std.proofs.Common.{◌≡◌, ◌+◌, ◌∙◌, arith}
use Rattle.fv_fourth_pass.proofs.NeedSteps.{ranges_all, ranges_more}
use Rattle.fv_fourth_pass.proofs.needs.ranges.Goals as goal

pub loop-level-preserved : goal.loop-level-preserved
loop-level-preserved c = record {
  count = ranges_more c.args.reserve c.loop-level.level c.loop-level.count c.from-count.result c.loop-level.invariant.count (c.from-count.ensures ∙ c.ranges_at.ensures);
  few = omega (arith, c.loop-level.invariant.few, c.from-count.ensures, c.ranges_at.type_inv);
}

pub returns-clause-exact : goal.returns-clause-exact
returns-clause-exact c = ranges_all c.args.reserve c.args.levels c.loop-level.level c.loop-level.count c.loop-level.invariant.count
    (let end : c.loop-level.level ≡ c.args.levels + 1 = omega (arith, c.loop-level-test.false, c.from-level-end.ensures) in end)
