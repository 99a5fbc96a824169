use Rattle.std.proofs.Common.{◌≡◌, ℕ, ◌∙◌, arith, subst}
use Rattle.fv_aggregate.specs.Delayed.{LosesThose, is_framed}
use Rattle.fv_aggregate.proofs.LeftBlocks.{framed_more, left_count}
use Rattle.fv_aggregate.proofs.delays.blocks_under.Goals as goal

pub loop-slot-preserved : goal.loop-slot-preserved
loop-slot-preserved c =
    framed_more c.args.pool.now.map.next c.loop-slot.left.blocks c.take_frame.new.left.blocks c.args.volumes.now c.args.pool.now.containers c.loop-slot.slot c.loop-slot.invariant c.take_frame.ensures

pub returns : goal.returns
returns c =
    let last : c.loop-slot.slot ≡ 64 = omega (arith, c.loop-slot.auto.slot-end, c.loop-slot-test.false) in
    c.count.ensures
    ∙ left_count c.loop-slot.left.blocks c.args.pool.now c.args.volumes.now (subst (λ (n : ℕ). LosesThose c.args.pool.now.map.next (is_framed c.args.volumes.now c.args.pool.now.containers n) c.loop-slot.left.blocks) last c.loop-slot.invariant)
