use Rattle.std.proofs.Common.{◌≡◌, ◌<◌, ◌∙◌, [], Bool, length-set, refl, sym, subst, ap, true, false, arith}
use Rattle.fv_delay.specs.declared.threshold.Table.{Table}
use Rattle.fv_delay.specs.ByThreshold.{IsTable, counts_before}
use Rattle.fv_cp.specs.Choosing.{holdings}
use Rattle.fv_volume.specs.States.{state_at}
use Rattle.fv_cp.specs.Planning.{AreCounted, AreSlotsSure, is_counted, no_table}
use Rattle.fv_cp.proofs.Planned.{any_default, before_all, before_more, before_none, tables_more, tables_none}
use Rattle.fv_cp.proofs.planning.count_all.Goals as goal

pub loop-slot-init : goal.loop-slot-init
loop-slot-init c =
    let volumes = holdings c.args.containers.now c.args.volumes.now in record {
      long = omega (arith, c.told-tables);
      each = λ sure are. tables_none volumes c.args.tables.now c.requires.empty;
      all = λ sure are none. subst (IsTable c.args.all.now) (sym (before_none volumes)) none;
    }

pub count_slot-requires-clause-known : goal.count_slot-requires-clause-known
count_slot-requires-clause-known c = λ counted. c.requires.known c.loop-slot.slot (omega (arith, c.loop-slot-test.true))
    (ap (λ (b : Bool). is_counted b (state_at c.args.volumes.now c.loop-slot.slot)) (any_default c.args.delays.now c.loop-slot.slot true false (omega (arith, c.loop-slot-test.true, c.told-delays))) ∙ counted)

pub loop-slot-preserved : goal.loop-slot-preserved
loop-slot-preserved c =
    let volumes = holdings c.args.containers.now c.args.volumes.now in
    let s = c.loop-slot.slot in
    let inside : s < 64 = omega (arith, c.loop-slot-test.true) in
    let was = c.loop-slot.invariant in
    let added = λ (sure : AreSlotsSure c.args.containers.now c.args.volumes.now c.args.delays.now) (are : AreCounted c.args.containers.now c.args.volumes.now c.args.delays.now). c.count_slot.ensures
    (λ counted. sure s inside (ap (λ (b : Bool). is_counted b (state_at c.args.volumes.now s)) (any_default c.args.delays.now s true false (omega (arith, inside, c.told-delays))) ∙ counted))
    (λ off. are s inside (any_default c.args.delays.now s true false (omega (arith, inside, c.told-delays)) ∙ off))
    (subst (λ (t : Table). IsTable t []) (any_default c.loop-slot.tables s no_table _ (omega (arith, inside, was.long))) ((was.each sure are).rest s (omega arith) inside)) in record {
      long = length-set c.loop-slot.tables s c.count_slot.new.table ∙ was.long;
      each = λ sure are. tables_more volumes c.loop-slot.tables _ s c.count_slot.new.table (omega (arith, inside, was.long)) refl (added sure are).own (was.each sure are);
      all = λ sure are none. subst (IsTable c.count_slot.new.all) (sym (before_more volumes s)) ((added sure are).all (counts_before volumes s) (was.all sure are none));
    }

pub returns-clause-each : goal.returns-clause-each
returns-clause-each c sure are s inside = (c.loop-slot.invariant.each sure are).each s (omega (arith, inside, c.loop-slot-test.false))

pub returns-clause-all : goal.returns-clause-all
returns-clause-all c sure are none =
    let volumes = holdings c.args.containers.now c.args.volumes.now in
    let end : c.loop-slot.slot ≡ 64 = omega (arith, c.loop-slot-test.false, c.loop-slot.auto.slot-end) in
    subst (IsTable c.loop-slot.all) (ap (counts_before volumes) end ∙ before_all volumes) (c.loop-slot.invariant.all sure are none)
