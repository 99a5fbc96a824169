use Rattle.std.proofs.Common.{length}
use Rattle.fv_codec.specs.Blocks.{asks_file, file_of}
use Rattle.fv_codec.proofs.Items.{ReadSoFar}
use Rattle.fv_codec.proofs.inode.InodeBlock.read_files.Given as goal

abbrev pub invariant-loop-i : goal.invariant-loop-i
invariant-loop-i l = ReadSoFar 240 asks_file file_of (length l.fn.into) l.i l.bytes l.into
