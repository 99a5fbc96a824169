-- The refusals of a command in two halves: those that look at the machine before it, and those for want of space, which
-- look at the machine that it would leave.
use Rattle.std.specs.Prelude.{Bool, true, false, not, List, filter}
use Rattle.fv_model.specs.declared.answers.Refusal.{Refusal}
use Rattle.fv_model.specs.declared.answers.Refusal.TheVariants.{VolumeFull, AggregateFull}
use Rattle.fv_model.specs.declared.commands.Command.{Command}
use Rattle.fv_model.specs.Machines.{Machine}
use Rattle.fv_model.specs.Refusals.{Condition, conditions}

abbrev pub is_for_space : Refusal → Bool
is_for_space VolumeFull = true
is_for_space AggregateFull = true
is_for_space r = false

abbrev pub before_space : Machine → Command → List Condition
before_space m c = filter (λ r. not (is_for_space r.0)) (conditions m c)

abbrev pub for_space : Machine → Command → List Condition
for_space m c = filter (λ r. is_for_space r.0) (conditions m c)
