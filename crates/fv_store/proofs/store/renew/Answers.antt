use Rattle.fv_store.proofs.Calls.{renewed, renewed_store}
use Rattle.fv_store.proofs.store.renew.Goals as goal

pub returns-clause-list : goal.returns-clause-list
returns-clause-list c =
    renewed c.args.cache.now c.overwrite.new.cache c.promote.new.self c.args.pvbn c.args.block.now c.requires c.overwrite.ensures.list c.promote.ensures.entries

pub returns-clause-valid : goal.returns-clause-valid
returns-clause-valid c =
    renewed_store c.args.cache.now c.overwrite.new.cache c.promote.new.self c.args.pvbn c.args.block.now c.requires c.overwrite.ensures.list c.promote.ensures.entries c.overwrite.ensures.capacity
