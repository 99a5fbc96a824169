use Rattle.std.proofs.Common.{◌≡◌, ◌-◌, ◌≤◌}
use Rattle.fv_bits.proofs.Counts.{passing}
use Rattle.fv_delay.specs.Delay.{IsSureIn, is_delayed}
use Rattle.fv_delay.proofs.delayed.delayed_by_region.Given as goal

abbrev pub invariant-loop-vvbn : goal.invariant-loop-vvbn
invariant-loop-vvbn l = (IsSureIn l.container l.region → l.count ≡ passing (is_delayed l.map l.container.map) l.first (l.vvbn - l.first)) × (l.count ≤ l.vvbn - l.first)
