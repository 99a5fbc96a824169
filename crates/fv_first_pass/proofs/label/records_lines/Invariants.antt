use Rattle.std.proofs.Common.{◌≡◌, ◌++◌, take}
use Rattle.std.specs.Prelude.{flat_map}
use Rattle.fv_image.specs.Views.{Snap, snaps_from}
use Rattle.fv_faults.specs.Walks.{pointer_lines}
use Rattle.fv_first_pass.proofs.label.records_lines.Given as goal

abbrev pub invariant-loop-j : goal.invariant-loop-j
invariant-loop-j l = record {
  lines : l.found.items ≡ l.fn.found.items ++ flat_map (λ (p : Snap). pointer_lines l.site.blocks l.site.label.span l.at p.table.root) (snaps_from 1 (take l.j l.site.label.snapshots));
}
