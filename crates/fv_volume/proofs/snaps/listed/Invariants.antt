use Rattle.std.proofs.Common.{◌≡◌, ◌++◌}
use Rattle.fv_volume.proofs.snaps.listed.Given as goal

abbrev pub invariant-loop-name : goal.invariant-loop-name
invariant-loop-name l = l.names ++ l.name-iterator ≡ l.sorted.keys
