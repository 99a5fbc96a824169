use Rattle.std.proofs.Common.{refl, sym, ap, ◌∙◌, ◌+◌, None, get_or, arith}
use Rattle.fv_fourth_pass.specs.Spaced.{overhead_in, overheads_to}
use Rattle.fv_fourth_pass.proofs.Sums.{sum_next}
use Rattle.fv_fourth_pass.proofs.numbers.overheads.Goals as goal

pub loop-slot-init : goal.loop-slot-init
unfolding overheads_to
loop-slot-init c = record { sum = refl; most = omega arith }

pub loop-slot-preserved : goal.loop-slot-preserved
unfolding overheads_to
loop-slot-preserved c = record {
  sum =
      ap (λ n. n + c.overhead_at-sum.result) c.loop-slot.invariant.sum
      ∙ ap (λ n. overheads_to c.args.labels.now c.loop-slot.slot + n) c.overhead_at-sum.ensures.exact
      ∙ sym (sum_next (λ s. overhead_in (get_or c.args.labels.now s None)) c.loop-slot.slot);
  most = let a = c.loop-slot.invariant.most in let b = c.overhead_at-sum.ensures.most in omega (arith, a, b);
}
