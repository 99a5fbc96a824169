use Rattle.std.proofs.Common.{◌≤◌, ℕ, ◌∙◌, arith}
use Rattle.fv_delay.specs.ByThreshold.{most_blocks}
use Rattle.fv_delay.proofs.ByThreshold.{found_here, found_last, further_down}
use Rattle.fv_delay.proofs.threshold.Table.threshold.Goals as goal

pub returns-then-left-blocks-clause-chosen : goal.returns-then-left-blocks-clause-chosen
returns-then-left-blocks-clause-chosen c counts table =
    let n : ℕ = c.loop-count.count in
    let below : n ≤ 63 = c.loop-count.invariant.0 in
    let most : c.loop-count.left ≤ most_blocks = omega (arith, c.loop-count.auto.left-fits) in
    found_here n c.loop-count.left _ counts (omega (arith, c.loop-count-test.true)) most (table.partial n 0 (omega (arith, below))) c.if-left-blocks.true
    ∙ c.loop-count.invariant.1 counts table

pub returns-then-left-blocks-clause-low : goal.returns-then-left-blocks-clause-low
returns-then-left-blocks-clause-low c = omega (arith, c.loop-count.invariant.0)

pub loop-count-preserved : goal.loop-count-preserved
loop-count-preserved c = (
  omega (arith, c.loop-count.invariant.0),
  λ counts table.
      let n : ℕ = c.loop-count.count in
      let below : n ≤ 63 = c.loop-count.invariant.0 in
      let most : c.loop-count.left ≤ most_blocks = omega (arith, c.loop-count.auto.left-fits) in
      further_down n c.loop-count.left _ counts (omega (arith, c.loop-count-test.true)) most (table.partial n 0 (omega (arith, below))) (omega (arith, c.if-left-blocks.false))
      ∙ c.loop-count.invariant.1 counts table,
)

pub returns-clause-chosen : goal.returns-clause-chosen
returns-clause-chosen c counts table = found_last c.loop-count.count c.loop-count.left counts (omega (arith, c.loop-count-test.false)) ∙ c.loop-count.invariant.1 counts table
