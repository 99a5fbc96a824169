use Rattle.std.specs.Prelude.{◌≡◌, take}
use Rattle.std.specs.List.{list_all}
use Rattle.fv_script.specs.Parts.{is_other}
use Rattle.fv_script.proofs.finding.lacks.Given as goal

abbrev pub invariant-loop-byte : goal.invariant-loop-byte
invariant-loop-byte l = l.lacks ≡ list_all (is_other l.wanted) (take l.byte-index l.bytes)
