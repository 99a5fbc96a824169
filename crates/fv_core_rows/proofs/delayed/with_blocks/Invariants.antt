use Rattle.std.proofs.Common.{◌≡◌, length}
use Rattle.fv_store.specs.Held.{StandsOn}
use Rattle.fv_core_rows.proofs.delayed.with_blocks.Given as goal

abbrev pub invariant-loop-vvbn : goal.invariant-loop-vvbn
invariant-loop-vvbn g l = record { size : length l.container.map.entries ≡ 325; stands : StandsOn (g.D.Disk.shown l.disk) l.store.pairs }
