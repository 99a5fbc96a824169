use Rattle.fv_container.proofs.Chains.{slots_at_first}
use Rattle.fv_container.proofs.chain.Containers.new.Goals as goal

pub invariant_of-result : goal.invariant_of-result
invariant_of-result c = rw (c.in_ok-free_slots.ensures, c.in_ok-filled.ensures.items) slots_at_first
