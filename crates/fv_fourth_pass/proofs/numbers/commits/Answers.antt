use Rattle.std.proofs.Common.{refl, sym, ap, ◌∙◌, ◌+◌, None, get_or, arith}
use Rattle.fv_fourth_pass.specs.Spaced.{commit_in, commits_to}
use Rattle.fv_fourth_pass.proofs.Sums.{sum_next}
use Rattle.fv_fourth_pass.proofs.numbers.commits.Goals as goal

pub loop-slot-init : goal.loop-slot-init
unfolding commits_to
loop-slot-init c = record { sum = refl; most = omega arith }

pub loop-slot-preserved : goal.loop-slot-preserved
unfolding commits_to
loop-slot-preserved c = record {
  sum =
      ap (λ n. n + c.commit_at-sum.result) c.loop-slot.invariant.sum
      ∙ ap (λ n. commits_to c.args.labels.now c.args.uses.now c.loop-slot.slot + n) c.commit_at-sum.ensures.exact
      ∙ sym (sum_next (λ s. commit_in (get_or c.args.labels.now s None) (get_or c.args.uses.now s 0)) c.loop-slot.slot);
  most = let a = c.loop-slot.invariant.most in let b = c.commit_at-sum.ensures.most in omega (arith, a, b);
}
