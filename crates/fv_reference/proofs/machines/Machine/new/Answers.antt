use Rattle.fv_reference.proofs.Allowed.{none_yet}
use Rattle.fv_reference.proofs.machines.Machine.new.Goals as goal

pub invariant_of-result : goal.invariant_of-result
invariant_of-result c = none_yet c.new.result c.args.blocks c.new.ensures
