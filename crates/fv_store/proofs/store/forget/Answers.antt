use Rattle.fv_store.proofs.Calls.{popped_store}
use Rattle.fv_store.proofs.store.forget.Goals as goal

pub returns-clause-valid : goal.returns-clause-valid
returns-clause-valid c = popped_store c.args.cache.now c.pop.new.self c.args.pvbn c.pop.ensures.entries c.requires
