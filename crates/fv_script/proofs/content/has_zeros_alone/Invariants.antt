use Rattle.std.specs.Prelude.{◌≡◌, take}
use Rattle.std.specs.List.{list_all}
use Rattle.fv_script.specs.Parts.{is_zero}
use Rattle.fv_script.proofs.content.has_zeros_alone.Given as goal

abbrev pub invariant-loop-byte : goal.invariant-loop-byte
invariant-loop-byte l = l.all ≡ list_all is_zero (take l.byte-index l.bytes)
