use Rattle.std.proofs.Common.{refl, rules}
use Rattle.fv_memdisk.specs.declared.kept.Event.TheVariants.{Barrier}
use Rattle.fv_memdisk.proofs.Sound.{sound_kept}
use Rattle.fv_memdisk.proofs.history.History.barrier.Goals as goal

pub invariant_of-self : goal.invariant_of-self
invariant_of-self c =
    let h = c.args.self.now in
    record { sound = sound_kept c.keep.result h.base h.current h.past.items c.keep.new.past.items h.run h.given.items h.forgotten.places Barrier c.len-output.result (search rules) h.sound tt (λ image a. refl) c.keep.ensures.kept c.keep.ensures.stays }
