use Rattle.std.proofs.Common.{◌≤◌, ◌-◌, ◌^◌, ℕ, Some, Ok, Err, refl, subst}
use Rattle.fv_aggregate.proofs.session.Session.wait.Goals as goal

pub returns-in-Ok : goal.returns-in-Ok
returns-in-Ok g c = (Ok tt, (c.in-Ok.ensures, (refl, refl)))

pub returns-in-Err : goal.returns-in-Err
returns-in-Err g c = (
  Err c.in-Err.field-0,
  (
    c.in-Err.ensures,
    (
      (λ j. record (c.self.view_is j) { failed = Some (c.count_faults-count.ensures.count j) }),
      (refl, subst (λ (n : ℕ). n ≤ 2 ^ 64 - 1) c.count_faults-count.ensures.count c.count_faults-count.ensures.most),
    ),
  ),
)
