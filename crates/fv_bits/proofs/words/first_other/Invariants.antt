use Rattle.std.proofs.Common.{◌≤◌, ◌-◌, max, length}
use Rattle.fv_bits.specs.Stored.{AreAll}
use Rattle.fv_bits.proofs.words.first_other.Given as goal

abbrev pub invariant-loop-at : goal.invariant-loop-at
invariant-loop-at l = record { after : l.from ≤ l.at; within : l.at ≤ max l.from (length l.words); skips : AreAll l.words l.skipped l.from l.at }

abbrev pub decreases-loop-at : goal.decreases-loop-at
decreases-loop-at l = length l.words - l.at
