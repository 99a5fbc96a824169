use Rattle.std.proofs.Common.{◌≡◌, drop}
use Rattle.fv_codec.specs.Fields.{all_zero}
use Rattle.fv_codec.proofs.reading.each_zero.Given as goal

abbrev pub invariant-loop-byte : goal.invariant-loop-byte
invariant-loop-byte l = all_zero l.bytes ≡ all_zero (drop l.byte-index l.bytes)
