use Rattle.std.proofs.Common.{refl, ap, ◌∙◌, arith}
use Rattle.std.specs.Prelude.{None}
use Rattle.fv_cp.specs.Choosing.{claimed_by}
use Rattle.std.proofs.lemmas.List.Sums.{sum_by-drop_more}
use Rattle.fv_cp.proofs.Choosing.{sum_done}
use Rattle.fv_cp.proofs.planning.add_claims.Goals as goal

pub loop-slot-init : goal.loop-slot-init
loop-slot-init c = record { sum = refl; most = omega (arith, c.ranges.first) }

pub loop-slot-preserved : goal.loop-slot-preserved
loop-slot-preserved c =
    let on = sum_by-drop_more claimed_by c.args.volumes.now c.loop-slot.slot None (omega (arith, c.requires.long, c.loop-slot-test.true)) in
    let value = c.claim_of.ensures ∙ ap claimed_by c.get.ensures in record {
      sum = omega (arith, on, value, c.loop-slot.invariant.sum, c.saturating_add-sum.ensures);
      most = omega (arith, c.saturating_add-sum.ensures);
    }

pub returns : goal.returns
returns c =
    let done = sum_done claimed_by c.args.volumes.now c.loop-slot.slot (omega (arith, c.requires.long, c.loop-slot-test.false)) in
    omega (arith, done, c.loop-slot.invariant.sum, c.loop-slot.invariant.most)
