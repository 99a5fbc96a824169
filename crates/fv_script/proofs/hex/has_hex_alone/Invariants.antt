use Rattle.std.specs.Prelude.{◌≡◌, take}
use Rattle.std.specs.Char.{is_ascii_hexdigit}
use Rattle.std.specs.List.{list_all}
use Rattle.fv_script.proofs.hex.has_hex_alone.Given as goal

abbrev pub invariant-loop-byte : goal.invariant-loop-byte
invariant-loop-byte l = l.all ≡ list_all is_ascii_hexdigit (take l.byte-index l.word)
