use Rattle.std.proofs.Common.{◌≡◌, ◌++◌, map, take, drop}
use Rattle.fv_volume.specs.Placements.{snap_at}
use Rattle.fv_volume.proofs.rooting.place_snaps.Given as goal

abbrev pub invariant-loop-i : goal.invariant-loop-i
invariant-loop-i l = l.snaps ≡ map (snap_at l.places) (take l.i l.fn.snaps) ++ drop l.i l.fn.snaps
