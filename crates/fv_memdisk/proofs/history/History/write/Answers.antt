use Rattle.std.proofs.Common.{rules}
use Rattle.fv_memdisk.proofs.Sound.{sound_write}
use Rattle.fv_memdisk.proofs.history.History.write.Goals as goal

pub invariant_of-self : goal.invariant_of-self
invariant_of-self c =
    let h = c.args.self.now in
    record { sound = sound_write c.keep_write.result h.base h.current c.keep_write.new.current h.past.items c.keep_write.new.past.items h.run h.given.items h.forgotten.places c.args.at c.len-output.result c.args.block.now (search rules) h.sound (record { long = c.told-block; bytes = c.fits-block }) c.keep_write.ensures.kept c.keep_write.ensures.put c.keep_write.ensures.past_stays c.keep_write.ensures.current_stays }
