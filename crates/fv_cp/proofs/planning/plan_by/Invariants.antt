use Rattle.std.proofs.Common.{◌≡◌, ◌<◌, ℕ, length}
use Rattle.std.specs.Prelude.{Option}
use Rattle.fv_delay.specs.Choice.{full_count}
use Rattle.fv_delay.specs.Holding.{Holding}
use Rattle.fv_cp.specs.Planning.{AreTables}
use Rattle.fv_cp.proofs.Planned.{IsPlanTo}
use Rattle.fv_cp.proofs.planning.plan_by.Given as goal

abbrev pub invariant-loop-slot : goal.invariant-loop-slot
invariant-loop-slot l = record {
  low : l.next.count < full_count;
  due : length l.plan.due ≡ 64;
  starts : length l.plan.starts ≡ 64;
  delays : length l.plan.delays ≡ 64;
  planned : (volumes : ℕ → Option Holding) → AreTables volumes l.tables → IsPlanTo volumes l.fn.threshold l.slot l.next l.plan;
}
