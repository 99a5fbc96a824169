use Rattle.std.proofs.Common.{length}
use Rattle.fv_codec.specs.Blocks.{asks_place, place_of}
use Rattle.fv_codec.proofs.Items.{ReadSoFar}
use Rattle.fv_codec.proofs.reading.places_in.Given as goal

abbrev pub invariant-loop-i : goal.invariant-loop-i
invariant-loop-i l = ReadSoFar 8 asks_place place_of (length l.fn.into) l.i l.bytes l.into
