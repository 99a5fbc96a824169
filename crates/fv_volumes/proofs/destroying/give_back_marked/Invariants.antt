use Rattle.std.proofs.Common.{◌≡◌, ◌-◌, ◌≤◌, false, length}
use Rattle.fv_bits.specs.Members.{is_member}
use Rattle.fv_delay.specs.Reclaims.{HasGivenSome}
use Rattle.fv_volume.specs.Writing.{HasGiven}
use Rattle.fv_volumes.specs.Destroying.{HasForgotten}
use Rattle.fv_copies.proofs.Marking.{marked_below}
use Rattle.fv_volumes.proofs.destroying.give_back_marked.Given as goal

abbrev pub invariant-loop-place : goal.invariant-loop-place
invariant-loop-place l = record {
  within : l.from ≤ length l.marks;
  given : is_member l.marks 0 ≡ false → HasGiven l.fn.map (marked_below l.marks l.from) l.map;
  some : HasGivenSome l.fn.map l.map;
  kept : HasForgotten l.fn.kept (marked_below l.marks l.from) l.kept;
}

abbrev pub decreases-loop-place : goal.decreases-loop-place
decreases-loop-place l = length l.marks - l.from
