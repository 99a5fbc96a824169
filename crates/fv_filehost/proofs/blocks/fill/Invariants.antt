use Rattle.std.proofs.Common.{◌≤◌}
use Rattle.fv_filehost.proofs.blocks.fill.Given as goal

abbrev pub invariant-loop : goal.invariant-loop
invariant-loop g l = l.filled ≤ 4096
