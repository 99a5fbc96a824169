use Rattle.fv_cleaner.specs.Filling.{AreRooted}
use Rattle.fv_cleaner.proofs.filling.set_roots.Given as goal

abbrev pub invariant-loop-i : goal.invariant-loop-i
invariant-loop-i l = AreRooted l.fn.files l.i l.roots l.files
