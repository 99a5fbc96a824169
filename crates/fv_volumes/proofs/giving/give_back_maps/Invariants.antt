use Rattle.std.proofs.Common.{◌≤◌}
use Rattle.fv_delay.specs.Reclaims.{HasGivenSome}
use Rattle.fv_volume.specs.Writing.{HasGiven, HasSureMaps, has_maps_at}
use Rattle.fv_volumes.proofs.giving.give_back_maps.Given as goal

abbrev pub invariant-loop-vvbn : goal.invariant-loop-vvbn
invariant-loop-vvbn l = record {
  past : l.state.span ≤ l.vvbn;
  given : HasSureMaps l.state l.container → HasGiven l.fn.map (has_maps_at l.state l.container.map l.vvbn) l.map;
  some : HasGivenSome l.fn.map l.map;
}
