use Rattle.std.proofs.Common.{◌≡◌, drop}
use Rattle.fv_model.specs.Refusals.{first_of}
use Rattle.fv_reference.proofs.refusals.first_of.Given as goal

abbrev pub invariant-loop-condition : goal.invariant-loop-condition
invariant-loop-condition l = first_of (drop l.condition-index l.conditions) ≡ first_of l.conditions
