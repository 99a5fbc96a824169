use Rattle.fv_script.proofs.NamesTold.{Spaced}
use Rattle.fv_script.proofs.write.spaced.Given as goal

abbrev pub invariant-loop-name : goal.invariant-loop-name
invariant-loop-name l = Spaced l.piece.items l.names l.name-index
