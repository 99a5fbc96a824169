use Rattle.fv_first_pass.proofs.Chain.{carry_is}
use Rattle.fv_first_pass.proofs.bases.carries_on.Goals as goal

pub returns : goal.returns
returns c = carry_is c.args.label.now c.args.parent.now c.has_slot-there.result c.has_room.result c.is_open.result c.both-rest.result _ c.both.ensures c.both-rest.ensures c.has_slot-there.ensures c.has_room.ensures c.is_open.ensures
