use Rattle.std.proofs.Common.{◌≡◌, ◌<◌, ℕ, length, Option, None, sym, subst, ◌∙◌, arith}
use Rattle.std.specs.Prelude.{IfSome}
use Rattle.std.proofs.lemmas.List.{get_or_default}
use Rattle.fv_volume.specs.declared.state.VolumeState.{VolumeState}
use Rattle.fv_volume.specs.Loading.{AreCountedTo, Counts, IsCountable}
use Rattle.fv_volume.specs.States.{state_at}
use Rattle.fv_volumes.proofs.Ledgers.{counts_more, none_yet}
use Rattle.fv_volumes.proofs.load.count_volumes.Goals as goal

pub loop-slot-init : goal.loop-slot-init
loop-slot-init c = none_yet c.args.states.now.items

pub count_volume-requires : goal.count_volume-requires
count_volume-requires c =
    let was = c.loop-slot.invariant in
    let states = c.loop-slot.states.items in
    let s = c.loop-slot.slot in
    let inside : s < length states = omega (arith, c.loop-slot-test.true, was.long, c.requires.long) in
    let at : state_at states s ≡ c.index_mut.result.now = get_or_default states s None c.index_mut.result.now inside ∙ sym c.index_mut.ensures.value in
    subst (λ (o : Option VolumeState). IfSome o IsCountable) (sym (was.others s (omega arith)) ∙ at) (c.requires.each s)

pub loop-slot-preserved : goal.loop-slot-preserved
loop-slot-preserved c =
    let was = c.loop-slot.invariant in
    let states = c.loop-slot.states.items in
    let s = c.loop-slot.slot in
    let inside : s < length states = omega (arith, c.loop-slot-test.true, was.long, c.requires.long) in
    let at : state_at states s ≡ c.index_mut.result.now = get_or_default states s None c.index_mut.result.now inside ∙ sym c.index_mut.ensures.value in
    counts_more s c.args.states.now.items states c.count_volume.new.state inside was (subst (λ (o : Option VolumeState). Counts o c.count_volume.new.state) (sym at) c.count_volume.ensures)

pub returns : goal.returns
returns c =
    let end : c.loop-slot.slot ≡ 64 = omega (arith, c.loop-slot-test.false, c.loop-slot.auto.slot-end) in
    subst (λ (n : ℕ). AreCountedTo n c.args.states.now.items c.loop-slot.states.items) end c.loop-slot.invariant
