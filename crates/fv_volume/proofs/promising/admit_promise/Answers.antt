use Rattle.std.proofs.Common.{sym, subst}
use Rattle.fv_charge.specs.Changes.{IsLeft}
use Rattle.fv_volume.proofs.Promised.{promise_says}
use Rattle.fv_volume.proofs.promising.admit_promise.Goals as goal

pub returns-clause-machine : goal.returns-clause-machine
returns-clause-machine c = promise_says c.args.ledger.now c.args.size c.args.kind c.args.blocks c.args.others c.admit.result
    (λ m command v l moved left. c.admit.ensures.machine m command v l moved (subst (λ n. IsLeft m command v l c.args.others n) (sym c.capacity.ensures) left))
