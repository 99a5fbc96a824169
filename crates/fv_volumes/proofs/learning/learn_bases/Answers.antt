use Rattle.std.proofs.Common.{◌≡◌, ℕ, subst, arith}
use Rattle.fv_volumes.specs.Learned.{HaveLearned}
use Rattle.fv_volumes.proofs.Learned.{labelled_yet, learned_more, none_learned}
use Rattle.fv_volumes.proofs.learning.learn_bases.Goals as goal

pub loop-slot-init : goal.loop-slot-init
loop-slot-init c = none_learned c.args.states.now.items

pub learn_volume-requires-clause-labelled : goal.learn_volume-requires-clause-labelled
learn_volume-requires-clause-labelled c = labelled_yet c.loop-slot.slot c.args.states.now.items c.loop-slot.states.items c.requires.labelled c.loop-slot.invariant

pub loop-slot-preserved : goal.loop-slot-preserved
loop-slot-preserved c = learned_more c.loop-slot.slot c.args.states.now.items c.loop-slot.states.items c.requires.labelled c.loop-slot.invariant c.learn_volume.new.states.items
    c.in_ok-learn_volume.ensures.long c.in_ok-learn_volume.ensures.learns c.in_ok-learn_volume.ensures.others

pub returns : goal.returns
returns c =
    let end : c.loop-slot.slot ≡ 64 = omega (arith, c.loop-slot-test.false, c.loop-slot.auto.slot-end) in
    subst (λ (n : ℕ). HaveLearned n c.args.states.now.items c.loop-slot.states.items) end c.loop-slot.invariant
