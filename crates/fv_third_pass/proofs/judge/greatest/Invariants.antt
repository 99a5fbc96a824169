use Rattle.std.proofs.Common.{◌≡◌, take}
use Rattle.fv_third_pass.specs.Judged.{greatest}
use Rattle.fv_third_pass.proofs.judge.greatest.Given as goal

abbrev pub invariant-loop-k : goal.invariant-loop-k
invariant-loop-k l = record { most : l.most ≡ greatest (take l.k l.pointers) }
