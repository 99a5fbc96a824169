use Rattle.std.proofs.Common.{◌≡◌, ◌/◌, ◌^◌}
use Rattle.std.specs.Prelude.{◌==◌}
use Rattle.fv_model.specs.Space.{map_blocks}
use Rattle.fv_image.specs.Containers.{fan}
use Rattle.fv_first_pass.proofs.Covers.{any_to}
use Rattle.fv_first_pass.proofs.child.covers.Given as goal

abbrev pub invariant-loop-j : goal.invariant-loop-j
invariant-loop-j l = record { any : l.any ≡ any_to (λ v. v / fan ^ l.fn.level == l.fn.number) l.fn.site.label.span (map_blocks l.fn.site.label.span) l.fn.site.label.snapshots l.j }
