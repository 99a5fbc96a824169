use Rattle.fv_root.proofs.Gates.{written_gate, at_ok}
use Rattle.fv_root.proofs.fresh.open_first_gate.Goals as goal

pub returns-clause-opened : goal.returns-clause-opened
returns-clause-opened g c = λ tells. at_ok c.barrier.result (rw (c.barrier.ensures.reads, c.in_ok-write.ensures.written tells, c.open_gate.ensures) written_gate)
