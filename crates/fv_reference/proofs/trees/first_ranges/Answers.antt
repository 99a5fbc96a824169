use Rattle.std.proofs.Common.{◌≡◌, ℕ, ◌++◌, ◌∷◌, [], List, ap, sym, ◌∙◌, arith, ◌-◌, map}
use Rattle.std.specs.List.{range_with_len}
use Rattle.fv_reference.proofs.Levels.{one_more}
use Rattle.fv_reference.proofs.trees.first_ranges.Goals as goal

pub loop-level-preserved : goal.loop-level-preserved
loop-level-preserved c =
    c.in_ok-push.ensures.items ∙ ap (λ (xs : List (ℕ × ℕ)). xs ++ (c.loop-level.level, 0) ∷ []) c.loop-level.invariant ∙ sym (one_more {X = ℕ × ℕ} (λ k. (k, 0)) c.args.from c.loop-level.level (omega arith))

pub returns : goal.returns
returns c =
    let n : c.loop-level.level - c.args.from ≡ c.args.count = omega arith in
    c.loop-level.invariant ∙ ap (λ k. map {A = ℕ} {B = ℕ × ℕ} (λ k. (k, 0)) (range_with_len c.args.from k)) n
