use Rattle.std.proofs.Common.{◌≡◌}
use Rattle.std.specs.Prelude.{find}
use Rattle.std.specs.List.{range_with_len}
use Rattle.fv_image.specs.Views.{head_of}
use Rattle.fv_first_pass.specs.Heads.{is_earlier}
use Rattle.fv_first_pass.proofs.volume_names.first_in.Given as goal

abbrev pub invariant-loop-earlier : goal.invariant-loop-earlier
invariant-loop-earlier l = record { first : l.first ≡ find (is_earlier l.labels (head_of l.label)) (range_with_len 0 l.earlier) }
