use Rattle.std.proofs.Common.{◌≡◌, drop, map}
use Rattle.std.specs.List.{list_any}
use Rattle.fv_image.specs.HintRules.{is_unknown}
use Rattle.fv_cleaner.specs.Stepping.{root_of_snap}
use Rattle.fv_cleaner.proofs.stepping.is_snap_unknown.Given as goal

abbrev pub invariant-loop-snap : goal.invariant-loop-snap
invariant-loop-snap l = list_any is_unknown (map root_of_snap l.snaps) ≡ list_any is_unknown (map root_of_snap (drop l.snap-index l.snaps))
