use Rattle.std.proofs.Common.{◌≡◌, ◌-◌, ◌≤◌}
use Rattle.fv_bits.proofs.Counts.{passing}
use Rattle.fv_delay.specs.Delay.{IsSureIn, is_delayed}
use Rattle.fv_delay.specs.Reclaims.{HasGivenSome, HasStayed}
use Rattle.fv_delay.proofs.Reclaimed.{HasWalked}
use Rattle.fv_delay.proofs.reclaiming.reclaim.Given as goal

abbrev pub invariant-loop-vvbn : goal.invariant-loop-vvbn
invariant-loop-vvbn l = record {
  count : IsSureIn l.fn.container l.region → l.count ≡ passing (is_delayed l.map l.fn.container.map) l.first (l.vvbn - l.first);
  most : l.count ≤ l.vvbn - l.first;
  walked : IsSureIn l.fn.container l.region → HasWalked (is_delayed l.map l.fn.container.map) l.fn.container l.first l.vvbn l.fn.pool_map l.container l.pool_map;
  stayed : HasStayed l.fn.container l.container;
  given : HasGivenSome l.fn.pool_map l.pool_map;
}
