use Rattle.std.proofs.Common.{◌≡◌, ◌++◌, [], take}
use Rattle.fv_image.specs.Views.{snaps_from}
use Rattle.fv_faults.specs.FirstPass.{snap_names}
use Rattle.fv_first_pass.proofs.names.name_lines.Given as goal

abbrev pub invariant-loop-j : goal.invariant-loop-j
invariant-loop-j l = record {
  lines : l.found.items ≡ l.fn.found.items ++ snap_names l.at [] (snaps_from 1 (take l.j l.site.label.snapshots));
}
