use Rattle.fv_memdisk.proofs.Sound.{sound_given}
use Rattle.fv_memdisk.proofs.history.History.give.Goals as goal

pub invariant_of-self : goal.invariant_of-self
invariant_of-self c =
    let h = c.args.self.now in
    let k = c.keep_output in
    record { sound = sound_given k.result h.base h.current h.past.items k.new.past.items h.run h.given.items k.new.given.items h.forgotten.places c.args.bytes.now h.sound k.ensures.given k.ensures.kept k.ensures.given_stays k.ensures.past_stays }
