use Rattle.std.proofs.Common.{◌≡◌, ◌+◌, ◌-◌, ◌++◌, ◌∷◌, [], ℕ, List, ap, ap₂, ◌∙◌, drop, get_or, arith}
use Rattle.fv_delay.specs.declared.counts.Count.{Count}
use Rattle.fv_delay.specs.declared.regions.Region.{Region}
use Rattle.fv_delay.specs.Choice.{region_counted, regions_counted, while_short}
use Rattle.fv_delay.proofs.Taking.{short_done, short_enough, short_more}
use Rattle.fv_delay.proofs.choosing.take_while_short.Goals as goal

pub returns-then-left-eq0 : goal.returns-then-left-eq0
returns-then-left-eq0 c =
    short_enough c.loop-count.regions (c.args.regions.now ++ regions_counted (while_short 0 c.args.missing c.args.rest.now)) c.loop-count.left
    (drop c.loop-count.count-index c.args.rest.now) c.if-left-eq0.true c.loop-count.invariant

pub loop-count-preserved : goal.loop-count-preserved
loop-count-preserved c =
    let rest : List Count = c.args.rest.now in
    let at : ℕ = c.loop-count.count-index in
    let none : Count = record { slot = 0; region = 0; count = 0 } in
    let all : List Region = c.args.regions.now ++ regions_counted (while_short 0 c.args.missing rest) in
    let row : c.push.new.self ≡ c.loop-count.regions ++ region_counted (get_or rest at none) ∷ [] =
    c.in_ok-push.ensures.added ∙ ap (λ (r : Region). c.loop-count.regions ++ r ∷ []) c.region_of.ensures in
    let left : c.saturating_sub-left.result ≡ c.loop-count.left - (get_or rest at none).count =
    c.saturating_sub-left.ensures ∙ ap (λ (n : ℕ). c.loop-count.left - n) c.from.ensures in
    ap₂ (λ (r : List Region) (n : ℕ). r ++ regions_counted (while_short 0 n (drop (at + 1) rest))) row left
    ∙ short_more rest at none c.loop-count-test.true c.loop-count.regions all c.loop-count.left (omega (arith, c.if-left-eq0.false)) c.loop-count.invariant

pub returns : goal.returns
returns c =
    short_done c.args.rest.now c.loop-count.count-index (omega arith) c.loop-count.regions
    (c.args.regions.now ++ regions_counted (while_short 0 c.args.missing c.args.rest.now)) c.loop-count.left c.loop-count.invariant
