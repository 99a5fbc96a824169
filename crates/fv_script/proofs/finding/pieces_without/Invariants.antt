use Rattle.std.specs.Prelude.{◌≡◌, ◌*◌, take, true}
use Rattle.std.specs.List.{list_all}
use Rattle.fv_script.specs.Parts.{is_other}
use Rattle.fv_script.proofs.finding.pieces_without.Given as goal

abbrev pub invariant-loop-piece : goal.invariant-loop-piece
invariant-loop-piece l = list_all (is_other l.wanted) (take (32 * l.piece) l.bytes) ≡ true
