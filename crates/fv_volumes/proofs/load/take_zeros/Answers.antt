use Rattle.fv_volumes.proofs.SlotReads.{zeros_taken}
use Rattle.fv_volumes.proofs.load.take_zeros.Goals as goal

pub returns-clause-taken : goal.returns-clause-taken
returns-clause-taken c = zeros_taken c.in_ok-load_slot.field-0 _ c.args.map.now.span c.args.index 4096 c.in_ok-load_slot.ensures.taken c.in_ok-load_slot.ensures.past
