use Rattle.std.proofs.Common.{◌≡◌, ◌*◌, ◌++◌, take}
use Rattle.std.specs.Prelude.{flat_map}
use Rattle.std.specs.List.{enumerate_from, zip}
use Rattle.fv_image.specs.Containers.{fan}
use Rattle.fv_faults.specs.FirstPass.{child_lines}
use Rattle.fv_first_pass.specs.Sites.{bare}
use Rattle.fv_first_pass.proofs.node.children_lines.Given as goal

abbrev pub invariant-loop-c : goal.invariant-loop-c
invariant-loop-c l = record {
  lines : l.found.items ≡ l.fn.found.items ++ flat_map (child_lines (bare l.site.blocks) l.site.label l.at l.level) (enumerate_from (fan * l.number) (take l.c (zip l.places l.presences)));
}
