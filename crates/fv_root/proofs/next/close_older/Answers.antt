use Rattle.fv_root.proofs.Committing.{closing_moment, closing_shut}
use Rattle.fv_root.proofs.next.close_older.Goals as goal

pub returns-clause-shut : goal.returns-clause-shut
returns-clause-shut g c = λ tells. closing_shut (g.D.Disk.shown c.args.disk.now) c.args.found.now (g.D.Disk.shown c.write_gate.new.disk) c.write_gate.result (c.requires tells) c.if-not-found.false (rw (← c.other_slot.ensures) c.write_gate.ensures.spares) (c.write_gate.ensures.settled tells) (rw (← c.other_slot.ensures) (c.write_gate.ensures.written tells))

pub returns-clause-any_moment : goal.returns-clause-any_moment
returns-clause-any_moment g c = λ tells. closing_moment (g.D.Disk.shown c.args.disk.now) c.args.found.now (g.D.Disk.shown c.write_gate.new.disk) c.write_gate.result (c.requires tells) c.if-not-found.false (rw (← c.other_slot.ensures) c.write_gate.ensures.spares)
