use Rattle.std.proofs.Common.{◌∙◌, ap}
use Rattle.std.specs.FinMap as fin
use Rattle.fv_pool.proofs.Writing.{view_remove}
use Rattle.fv_pool.proofs.kept.Kept.forget.Goals as goal

pub returns : goal.returns
returns c = view_remove c.self.inside.blocks c.remove.new.self c.args.pvbn c.remove.ensures.updates ∙ ap (λ m. fin.remove m c.args.pvbn) c.self.view_is
