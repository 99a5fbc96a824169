use Rattle.std.proofs.Common.{◌≡◌, ◌≤◌, ◌<◌, ℕ, true}
use Rattle.fv_volume.specs.Snapshots.{has_slot}
use Rattle.fv_volume.proofs.state.Snapshots.free_slot.Given as goal

abbrev pub invariant-loop-slot : goal.invariant-loop-slot
invariant-loop-slot l = (k : ℕ) → 1 ≤ k → k < l.slot → has_slot l.self k ≡ true
