use Rattle.std.proofs.Common.{List, subst, arith}
use Rattle.std.proofs.lemmas.List.{take_all}
use Rattle.fv_charge.specs.declared.delta.Delta.{Delta}
use Rattle.fv_charge_laws.specs.Many.{AreChanges}
use Rattle.fv_charge_laws.proofs.Many.{along, changed_next, kept_is_counted, others_next}
use Rattle.fv_charge_laws.proofs.laws.change_all.Goals as goal

pub loop-delta-preserved : goal.loop-delta-preserved
loop-delta-preserved c = record {
  so_far = changed_next c.args.ledger.now c.loop-delta.ledger c.change.new.self c.args.deltas.now c.loop-delta.delta-index _ c.loop-delta-test.true c.change.ensures.exact c.loop-delta.invariant.so_far;
  others = others_next c.loop-delta.ledger c.change.new.self c.args.deltas.now c.loop-delta.delta-index _ c.loop-delta-test.true c.change.ensures.exact c.loop-delta.invariant.others;
}

pub returns-clause-kept : goal.returns-clause-kept
returns-clause-kept c = λ x y path is goes. along x y c.args.ledger.now c.loop-delta.ledger c.args.deltas.now path is goes
    (subst (λ (l : List Delta). AreChanges c.args.ledger.now l c.loop-delta.ledger) (take_all c.loop-delta.delta-index c.args.deltas.now (omega arith)) c.loop-delta.invariant.so_far)

pub returns-clause-counted : goal.returns-clause-counted
returns-clause-counted c = λ x y path held base snapshots is goes counted. kept_is_counted x y c.args.ledger.now c.loop-delta.ledger c.args.deltas.now path held base snapshots is goes
    (subst (λ (l : List Delta). AreChanges c.args.ledger.now l c.loop-delta.ledger) (take_all c.loop-delta.delta-index c.args.deltas.now (omega arith)) c.loop-delta.invariant.so_far) counted
