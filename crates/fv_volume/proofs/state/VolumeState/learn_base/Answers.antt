use Rattle.std.proofs.Common.{◌≡◌, refl, sym, ap, ◌∙◌}
use Rattle.std.specs.Prelude.{option_copied}
use Rattle.fv_volume.proofs.KnownBases.{knows_now, knows_nothing, lacks_not, snap_used}
use Rattle.fv_volume.proofs.state.VolumeState.learn_base.Goals as goal

pub returns-in_default-of_slot-clause-knows : goal.returns-in_default-of_slot-clause-knows
returns-in_default-of_slot-clause-knows c = knows_nothing c.args.parent.now c.in-Some.base.slot c.args.self.now c.in-Some.base c.in-Some.is refl (sym c.of_slot.ensures ∙ ap option_copied c.in_default-of_slot.is)

pub stand_on-requires-clause-slot : goal.stand_on-requires-clause-slot
stand_on-requires-clause-slot c = (snap_used c.args.parent.now c.args.parent.now.slot c.requires.parent c.in-Some.base.slot c.in-Some-of_slot.snap.now (sym c.in-Some-of_slot.ensures)).0

pub stand_on-requires-clause-used : goal.stand_on-requires-clause-used
stand_on-requires-clause-used c = (snap_used c.args.parent.now c.args.parent.now.slot c.requires.parent c.in-Some.base.slot c.in-Some-of_slot.snap.now (sym c.in-Some-of_slot.ensures)).1

pub returns-clause-lacking : goal.returns-clause-lacking
returns-clause-lacking c = lacks_not _ c.args.parent.now c.args.self.now c.in-Some.base c.in-Some-of_slot.snap.now c.in-Some.is (sym c.in-Some-of_slot.ensures)

pub returns-clause-knows : goal.returns-clause-knows
returns-clause-knows c = λ snap at wide. knows_now c.args.parent.now c.in-Some.base.slot c.in-Some-of_slot.snap.now snap (sym c.in-Some-of_slot.ensures) at c.args.self.now.map _ c.in_ok-stand_on.ensures.stands _ refl refl refl refl
