use Rattle.std.proofs.Common.{◌≡◌, nat_lt, sum_by}
use Rattle.fv_model.specs.Space.{commit}
use Rattle.fv_reference.proofs.aggregates.exceed.Given as goal

abbrev pub invariant-loop-counted : goal.invariant-loop-counted
invariant-loop-counted l = nat_lt l.left (sum_by (λ e. commit e.1) l.counted-iterator) ≡ nat_lt l.capacity (sum_by (λ e. commit e.1) l.volumes.entries)
