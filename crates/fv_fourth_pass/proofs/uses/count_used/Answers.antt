use Rattle.std.proofs.Common.{ℕ, ap, ◌∙◌, ◌+◌}
use Rattle.fv_image.specs.Views.{head_of}
use Rattle.fv_image.specs.Volumes.{volume_told}
use Rattle.fv_model.specs.Space.{charge}
use Rattle.fv_fourth_pass.proofs.uses.count_used.Goals as goal

pub returns-clause-exact : goal.returns-clause-exact
returns-clause-exact c = λ w s sets is.
    ap (λ (n : ℕ). n + c.args.needed) (c.from.ensures ∙ c.count_charge.ensures w s sets)
    ∙ ap (λ (n : ℕ). charge (volume_told w s (head_of c.args.label.now)) + n) is
