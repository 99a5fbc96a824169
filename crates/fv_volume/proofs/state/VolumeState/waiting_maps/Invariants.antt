use Rattle.std.proofs.Common.{◌≡◌, ◌<◌, ◌≤◌, ◌-◌}
use Rattle.fv_bits.proofs.Counts.{passing}
use Rattle.fv_volmap.specs.Slots.{stored_count}
use Rattle.fv_volume.specs.Stored.{is_rewritten}
use Rattle.fv_volume.proofs.state.VolumeState.waiting_maps.Given as goal

abbrev pub invariant-loop-slot : goal.invariant-loop-slot
invariant-loop-slot l = record {
  first : 1 ≤ l.slot;
  last : l.slot ≤ stored_count;
  few : l.count < l.slot;
  counted : l.count ≡ passing (is_rewritten l.self) 1 (l.slot - 1);
}
