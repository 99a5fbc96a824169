use Rattle.std.proofs.Common.{◌≡◌, drop}
use Rattle.fv_codec.specs.Fields.{all_name}
use Rattle.fv_codec.proofs.reading.all_name.Given as goal

abbrev pub invariant-loop-byte : goal.invariant-loop-byte
invariant-loop-byte l = all_name l.bytes ≡ all_name (drop l.byte-index l.bytes)
