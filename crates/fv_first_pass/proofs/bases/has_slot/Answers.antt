use Rattle.std.proofs.Common.{◌∙◌, arith}
use Rattle.std.specs.Prelude.{◌==◌}
use Rattle.fv_image.specs.Views.{Snap}
use Rattle.fv_first_pass.proofs.Chain.{slot_first, slot_step, slot_all}
use Rattle.fv_first_pass.proofs.bases.has_slot.Goals as goal

pub loop-k-init : goal.loop-k-init
loop-k-init c = record { any = slot_first (λ (p : Snap). p.slot == c.args.slot) c.args.label.now.snapshots }

pub loop-k-preserved : goal.loop-k-preserved
loop-k-preserved c = record {
  any = c.either-any.ensures ∙ slot_step (λ (p : Snap). p.slot == c.args.slot) c.args.label.now.snapshots c.loop-k.k c.loop-k.any c.is_slot.result
      (let long = c.requires.long in let low = c.loop-k-test.true in omega (arith, long, low)) c.loop-k.invariant.any c.is_slot.ensures;
}

pub returns : goal.returns
returns c = slot_all c.args.label.now c.args.slot c.loop-k.k c.loop-k.any (let long = c.requires.long in let past = c.loop-k-test.false in omega (arith, long, past)) c.loop-k.invariant.any
