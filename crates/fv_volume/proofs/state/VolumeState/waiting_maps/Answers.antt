use Rattle.std.proofs.Common.{◌≡◌, ℕ, Bool, cond, get_or, true, false, ap, arith}
use Rattle.fv_volume.proofs.MapCounts.{waiting_counted, waiting_more}
use Rattle.fv_volume.proofs.state.VolumeState.waiting_maps.Goals as goal
use Rattle.fv_volume.proofs.state.VolumeState.waiting_maps.Goals.{then-self-slot, else-self-slot}

pub loop-slot-preserved : goal.loop-slot-preserved
loop-slot-preserved c =
    let x = c.args.self.now in
    let k = c.loop-slot.slot in
    let kept = c.loop-slot.invariant in
    let more = waiting_more x k kept.first in
    elim c.if-self-slot.branch [
      | then-self-slot w ↦
          let on : get_or x.fresh k false ≡ true = w.if-self-slot.true in
          record { first = omega (arith, kept.first); last = omega (arith, c.loop-slot-test.true); few = omega (arith, kept.few, w.count-is); counted = omega (arith, w.count-is, kept.counted, more, ap (λ (t : Bool). cond {A = ℕ} t 1 0) on) }
      | else-self-slot w ↦
          let off : get_or x.fresh k false ≡ false = w.if-self-slot.false in
          record { first = omega (arith, kept.first); last = omega (arith, c.loop-slot-test.true); few = omega (arith, kept.few, w.count-is); counted = omega (arith, w.count-is, kept.counted, more, ap (λ (t : Bool). cond {A = ℕ} t 1 0) off) }
    ]

pub returns-clause-value : goal.returns-clause-value
returns-clause-value c = waiting_counted c.args.self.now c.loop-slot.count c.loop-slot.slot (omega (arith, c.loop-slot-test.false)) c.loop-slot.invariant.last c.loop-slot.invariant.counted
