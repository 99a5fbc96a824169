use Rattle.std.proofs.Common.{◌≡◌, true}
use Rattle.fv_container.specs.Passing.{IsAll}
use Rattle.fv_container.proofs.passing.is_all.Given as goal

abbrev pub invariant-loop-k : goal.invariant-loop-k
invariant-loop-k g l = l.same ≡ true → IsAll g.T.PartialEq.eq l.row l.value l.from l.k
