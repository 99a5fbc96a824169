use Rattle.std.proofs.Common.{ap, ◌∙◌}
use Rattle.std.specs.Int.{div_ceil}
use Rattle.fv_fourth_pass.proofs.NeedSteps.{ranges_next}
use Rattle.fv_fourth_pass.proofs.needs.+ranges_at.Goals as goal

pub returns : goal.returns
returns t c = c.div_ceil.ensures ∙ ap (λ n. div_ceil n 128) c.ranges_at.ensures ∙ ranges_next c.args.reserve c.args.level c.if-level-eq0.false
