use Rattle.fv_memdisk.proofs.Images.{sound_new}
use Rattle.fv_memdisk.proofs.history.History.new.Goals as goal

pub invariant_of-result : goal.invariant_of-result
invariant_of-result c = record { sound = sound_new c.args.base c.new.result c.new-2.result.items c.new-3.result.items c.new-4.result.places c.new.ensures c.new-2.ensures.items c.new-3.ensures.items c.new-4.ensures c.requires }
