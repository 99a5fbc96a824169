use Rattle.std.proofs.Common.{◌∙◌, ap, List, ℕ}
use Rattle.std.specs.FinMap as fin
use Rattle.fv_pool.proofs.Writing.{view_insert}
use Rattle.fv_pool.proofs.kept.Kept.keep.Goals as goal

pub returns-clause-kept : goal.returns-clause-kept
returns-clause-kept c =
    view_insert c.overwrite.new.blocks c.insert.new.self c.args.pvbn c.in_ok-boxed.boxed c.in_ok-insert.ensures.updates
    ∙ ap (λ m. fin.insert m c.args.pvbn c.in_ok-boxed.boxed.value) (c.if-overwrite.ensures ∙ c.self.view_is)
    ∙ ap (λ (block : List ℕ). fin.insert c.args.self.now c.args.pvbn block) c.in_ok-boxed.ensures.ok
