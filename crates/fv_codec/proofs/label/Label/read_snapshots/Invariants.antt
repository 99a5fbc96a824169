use Rattle.std.proofs.Common.{length}
use Rattle.fv_codec.specs.Blocks.{asks_snap, snap_of}
use Rattle.fv_codec.proofs.Items.{ReadSoFar}
use Rattle.fv_codec.proofs.label.Label.read_snapshots.Given as goal

abbrev pub invariant-loop-i : goal.invariant-loop-i
invariant-loop-i l = ReadSoFar 128 asks_snap snap_of (length l.fn.into) l.i l.bytes l.into
