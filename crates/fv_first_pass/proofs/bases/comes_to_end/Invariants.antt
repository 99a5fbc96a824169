use Rattle.std.proofs.Common.{◌≡◌, ◌-◌}
use Rattle.std.specs.Prelude.{Some}
use Rattle.fv_image.specs.Held.{Layout}
use Rattle.fv_first_pass.specs.Heads.{HasLabels, ends}
use Rattle.fv_first_pass.proofs.bases.comes_to_end.Given as goal

abbrev pub invariant-loop : goal.invariant-loop
invariant-loop l = record { ends : (y : Layout) → HasLabels y l.labels → ends y.view (64 - l.counter) l.at ≡ ends y.view 64 (Some l.slot) }
