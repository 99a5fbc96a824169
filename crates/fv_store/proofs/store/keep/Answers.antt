use Rattle.std.proofs.Common.{◌∙◌}
use Rattle.fv_store.proofs.Calls.{put_new, put_new_cap, kept_store}
use Rattle.fv_store.proofs.store.keep.Goals as goal

pub returns-in-Ok-clause-valid : goal.returns-in-Ok-clause-valid
returns-in-Ok-clause-valid c =
    let old = c.args.cache.now in
    let new = c.put.new.self in
    let list = put_new old new c.args.pvbn c.args.block.now c.put.result c.in-Ok.boxed (c.in-Ok.ensures.ok ∙ c.new.ensures) c.requires.absent c.put.ensures.entries c.put.ensures.err in
    let cap = put_new_cap old new c.args.pvbn c.args.block.now c.put.result c.in-Ok.boxed (c.in-Ok.ensures.ok ∙ c.new.ensures) c.put.ensures.entries c.put.ensures.err in
    kept_store old new c.args.pvbn c.args.block.now c.requires.valid c.requires.absent list cap
