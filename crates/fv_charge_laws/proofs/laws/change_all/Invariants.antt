use Rattle.std.specs.Prelude.{take, drop}
use Rattle.fv_charge_laws.specs.Many.{AreChanges, CanAll}
use Rattle.fv_charge_laws.proofs.laws.change_all.Given as goal

abbrev pub invariant-loop-delta : goal.invariant-loop-delta
invariant-loop-delta l = record {
  so_far : AreChanges l.fn.ledger (take l.delta-index l.deltas) l.ledger;
  others : CanAll l.ledger (drop l.delta-index l.deltas);
}
