use Rattle.std.proofs.Common.{sym, ◌∙◌}
use Rattle.fv_volume.proofs.Changed.{within_size}
use Rattle.fv_volume.proofs.admitting.admit_change.Goals as goal

pub returns-in-Ok-clause-within : goal.returns-in-Ok-clause-within
returns-in-Ok-clause-within c = λ l moved. within_size l c.args.others c.capacity.result (sym c.in-Ok.is ∙ c.admit.ensures.exact l moved)
