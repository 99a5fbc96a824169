use Rattle.std.proofs.Common.{true, length}
use Rattle.fv_codec.specs.Blocks.{asks_pointer, pointer_of}
use Rattle.fv_codec.proofs.Items.{ReadSoFar}
use Rattle.fv_codec.proofs.node.Node.read_children.Given as goal

abbrev pub invariant-loop-i : goal.invariant-loop-i
invariant-loop-i l = ReadSoFar 24 (asks_pointer true) pointer_of (length l.fn.into) l.i l.bytes l.into
