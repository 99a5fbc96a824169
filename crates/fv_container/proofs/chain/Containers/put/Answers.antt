use Rattle.std.proofs.Common.{Some}
use Rattle.fv_container.proofs.Chains.{slots_put}
use Rattle.fv_container.proofs.chain.Containers.put.Goals as goal

pub invariant_of-self : goal.invariant_of-self
invariant_of-self c = slots_put c.self.inside.containers.items c.self.inside.parents.items c.args.slot (Some c.args.container) c.args.parent c.self.invariant c.requires.parent

pub returns-clause-valid : goal.returns-clause-valid
returns-clause-valid c = invariant_of-self c
