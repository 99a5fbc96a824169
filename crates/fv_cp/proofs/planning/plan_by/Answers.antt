use Rattle.std.proofs.Common.{◌<◌, ◌∙◌, length-set, refl, rules, subst, arith}
use Rattle.fv_delay.specs.declared.threshold.Table.{Table}
use Rattle.fv_delay.specs.ByThreshold.{IsTable}
use Rattle.fv_cp.specs.Choosing.{counts_at}
use Rattle.fv_cp.specs.Planning.{no_table}
use Rattle.fv_cp.proofs.Planned.{any_default, empty_at, plan_begins, plan_ends, plan_more, some_at}
use Rattle.fv_cp.proofs.planning.plan_by.Goals as goal

pub loop-slot-init : goal.loop-slot-init
loop-slot-init c = record {
  low = c.requires;
  due = search rules;
  starts = search rules;
  delays = search rules;
  planned = λ volumes are. plan_begins volumes c.args.threshold _;
}

pub ask-requires : goal.ask-requires
ask-requires c = c.loop-slot.invariant.low

pub loop-slot-preserved : goal.loop-slot-preserved
loop-slot-preserved c =
    let s = c.loop-slot.slot in
    let inside : s < 64 = omega (arith, c.loop-slot-test.true) in
    let was = c.loop-slot.invariant in record {
      low = omega (arith, was.low, c.ask.ensures.kept);
      due = length-set c.loop-slot.plan.due s c.ask.result ∙ was.due;
      starts = length-set c.loop-slot.plan.starts s c.loop-slot.next ∙ was.starts;
      delays = length-set c.loop-slot.plan.delays s _ ∙ was.delays;
      planned = λ volumes are.
          let table : IsTable _ (counts_at s (volumes s)) = subst (λ (t : Table). IsTable t (counts_at s (volumes s))) (any_default c.args.tables.now s no_table _ (omega (arith, inside, c.told-tables))) (are s inside) in
          plan_more volumes c.args.threshold s c.loop-slot.next c.ask.new.next c.loop-slot.plan _ c.ask.result _
          (omega (arith, inside, was.starts)) (omega (arith, inside, was.due)) (omega (arith, inside, was.delays)) refl refl refl
          (c.ask.ensures.taken (counts_at s (volumes s)) table (some_at s (volumes s))) (c.ask.ensures.passed (counts_at s (volumes s)) table (some_at s (volumes s)))
          (empty_at _ s (volumes s) c.total.result table (c.total.ensures (counts_at s (volumes s)) table)) (was.planned volumes are);
    }

pub returns : goal.returns
returns c volumes are = plan_ends volumes c.args.threshold c.loop-slot.slot c.loop-slot.next c.loop-slot.plan (omega (arith, c.loop-slot-test.false)) (c.loop-slot.invariant.planned volumes are)
