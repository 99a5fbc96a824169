use Rattle.fv_places.specs.Firsts.{NoneUnknown}
use Rattle.fv_places.proofs.unknown.first_of.Given as goal

abbrev pub invariant-loop-i : goal.invariant-loop-i
invariant-loop-i l = NoneUnknown l.pointers l.from l.i
