use Rattle.std.proofs.Common.{arith, rules}
use Rattle.std.specs.Prelude.{IsTrue}
use Rattle.fv_disk.proofs.Sparing.{spares_barrier, spares_then}
use Rattle.fv_root.specs.Formatted.{IsNoGate}
use Rattle.fv_root.proofs.Gates.{zero_gate, at_ok}
use Rattle.fv_root.proofs.fresh.close_gates.Goals as goal

pub returns-in_err-close_gate-2-clause-spares : goal.returns-in_err-close_gate-2-clause-spares
returns-in_err-close_gate-2-clause-spares g c = spares_then IsNoGate _ (g.D.Disk.shown c.close_gate.new.disk) _ _ c.in_ok-close_gate.ensures.spares (search rules)

pub returns-clause-closed : goal.returns-clause-closed
returns-clause-closed g c = λ tells.
    let told : IsTrue (g.D.Disk.shown c.close_gate.new.disk).tells = rw c.in_ok-close_gate.ensures.spares.counted.tells tells in
    at_ok c.barrier.result (record {
      first = rw (c.barrier.ensures.reads, c.in_ok-close_gate-2.ensures.others told 1 (omega arith), c.in_ok-close_gate.ensures.closed tells) zero_gate;
      second = rw (c.barrier.ensures.reads, c.in_ok-close_gate-2.ensures.closed told) zero_gate;
    })

pub returns-clause-spares : goal.returns-clause-spares
returns-clause-spares g c = spares_then IsNoGate _ (g.D.Disk.shown c.close_gate-2.new.disk) _ _
    (spares_then IsNoGate _ (g.D.Disk.shown c.close_gate.new.disk) _ _ c.in_ok-close_gate.ensures.spares c.in_ok-close_gate-2.ensures.spares)
    (spares_barrier IsNoGate _ _ _ (g.met.D.Disk.laws c.close_gate-2.new.disk) c.barrier.ensures)
