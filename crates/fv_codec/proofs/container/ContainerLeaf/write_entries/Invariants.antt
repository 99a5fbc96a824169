use Rattle.std.proofs.Common.{◌≡◌, ◌+◌, ◌*◌, ◌++◌, length, take}
use Rattle.std.specs.List.{flat_map, zip}
use Rattle.fv_codec.specs.Spelling.{entry_bytes}
use Rattle.fv_codec.proofs.container.ContainerLeaf.write_entries.Given as goal

abbrev pub invariant-loop-i : goal.invariant-loop-i
invariant-loop-i l = record {
  long : length l.page ≡ length l.fn.page + 12 * l.i;
  written : l.page ≡ l.fn.page ++ flat_map entry_bytes (take l.i (zip l.pvbns l.kinds));
}
