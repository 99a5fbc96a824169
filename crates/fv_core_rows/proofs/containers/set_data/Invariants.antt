use Rattle.std.proofs.Common.{◌≡◌, length}
use Rattle.fv_store.specs.Held.{StandsOn}
use Rattle.fv_core_rows.proofs.containers.set_data.Given as goal

abbrev pub invariant-loop-vvbn : goal.invariant-loop-vvbn
invariant-loop-vvbn g l = record { size : length l.container.map.entries ≡ l.entries; stands : StandsOn (g.D.Disk.shown l.disk) l.store.pairs }
