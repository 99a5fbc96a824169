use Rattle.std.proofs.Common.{◌≡◌, ◌+◌, ◌*◌, ◌++◌, length, take}
use Rattle.std.specs.List.{flat_map}
use Rattle.fv_codec.specs.Spelling.{snap_bytes}
use Rattle.fv_codec.proofs.label.Label.write_snapshots.Given as goal

abbrev pub invariant-loop-snap : goal.invariant-loop-snap
invariant-loop-snap l = record {
  long : length l.page ≡ length l.fn.page + 128 * l.snap-index;
  written : l.page ≡ l.fn.page ++ flat_map snap_bytes (take l.snap-index l.snapshots);
}
