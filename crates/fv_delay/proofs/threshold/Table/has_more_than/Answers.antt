use Rattle.std.proofs.Common.{◌≡◌, ◌≢◌, ℕ, get_or, ◌∙◌, ⊎_elim, ap, sym, arith}
use Rattle.std.proofs.lemmas.Bool.{cases_eq}
use Rattle.fv_delay.proofs.Passing.{more_full, more_here}
use Rattle.fv_delay.proofs.threshold.Table.has_more_than.Goals as goal

pub loop-level-init : goal.loop-level-init
loop-level-init c = λ m low high. absurd (omega (arith, low, high))

pub loop-level-preserved : goal.loop-level-preserved
loop-level-preserved c = λ m low high. ⊎_elim
    (λ (e : m ≡ c.loop-level.level). ap (λ (k : ℕ). get_or c.args.self.now.partial k 0) e ∙ omega (arith, c.if-self-level-gt0.false))
    (λ (other : m ≢ c.loop-level.level). c.loop-level.invariant m low (omega (arith, high, other)))
    (cases_eq m c.loop-level.level)

pub returns-then-self-level-gt0 : goal.returns-then-self-level-gt0
returns-then-self-level-gt0 c counts table some =
    sym (more_here c.args.count c.args.self.now counts table some c.loop-level.level 0 (omega (arith, c.loop-level.auto.level)) (omega (arith, c.loop-level-test.true)) c.if-self-level-gt0.true)

pub returns : goal.returns
returns c counts table some = more_full c.args.count c.args.self.now counts table some c.requires (λ m low high. c.loop-level.invariant m low (omega (arith, high, c.loop-level-test.false)))
