use Rattle.std.proofs.Common.{sym, subst}
use Rattle.fv_root.specs.Formatted.{IsSize}
use Rattle.fv_root.specs.declared.find.Found.{Found}
use Rattle.measure.proofs.Made.{made_ready}
use Rattle.measure.proofs.files.on_aggregate.Goals as goal

pub on_slot-requires-clause-ready : goal.on_slot-requires-clause-ready
on_slot-requires-clause-ready g c =
    let blocks : IsSize c.open.new.pool.found.blocks = subst (λ (f : Found). IsSize f.blocks) (sym c.open.ensures.found) c.requires.size in
    made_ready c.open.new.pool c.create.new.pool _ c.create.new.self c.in-Ok-create.slot _ _ _ blocks c.in-Ok-create.ensures.slot c.in-Ok-create.ensures.holes c.in-Ok-create.ensures.new c.in-Ok-create.ensures.each
    (g.D.Disk.shown c.open.new.disk) c.open.ensures.stands
