use Rattle.std.proofs.Common.{◌+◌, ℕ, refl, sym, subst, arith}
use Rattle.fv_delay.specs.declared.threshold.Table.{Table}
use Rattle.fv_delay.specs.ByThreshold.{IsTable, counts_front}
use Rattle.fv_delay.specs.Holding.{Holding, counts_in, held_by}
use Rattle.fv_delay.proofs.InVolume.{table_any_slot}
use Rattle.fv_delay.proofs.Skipping.{front_skips, last_bare, next_bare, next_within}
use Rattle.fv_delay.proofs.TakenRegions.{table_more, table_still}
use Rattle.fv_delay.proofs.taken.table_of.Goals.{then-count-ne0, else-count-ne0}
use Rattle.fv_delay.proofs.taken.table_of.Goals as goal

pub delayed_by_region-count-requires-clause-known : goal.delayed_by_region-count-requires-clause-known
delayed_by_region-count-requires-clause-known c = c.requires.known c.in-Some.region

pub overflow_add-from : goal.overflow_add-from
overflow_add-from c = omega (arith, c.in-Some.ensures.next.within, c.requires.entries, c.requires.span)

pub loop-region-preserved : goal.loop-region-preserved
loop-region-preserved c = record {
  within = next_within c.args.container.now c.loop-region.from c.in-Some.region _ refl c.in-Some.ensures.next;
  table = λ sure.
      let x : Holding = held_by c.args.map.now c.args.container.now.map in
      let from : ℕ = c.loop-region.from in
      let r : ℕ = c.in-Some.region in
      let next = c.in-Some.ensures.next in
      let count : ℕ = c.delayed_by_region-count.result in
      let before = subst (IsTable c.loop-region.table) (sym (front_skips 0 x from r next.after (next_bare c.args.map.now c.args.container.now from r sure next))) (c.loop-region.invariant.table sure) in
      elim c.if-count-ne0.branch [
        | then-count-ne0 w ↦ subst (λ (t : Table). IsTable t (counts_front 0 x (r + 1))) (sym w.table-is)
            (table_more c.loop-region.table w.add.new.self x r count (c.delayed_by_region-count.ensures (sure r)) (omega (arith, w.if-count-ne0.true)) before w.add.ensures)
        | else-count-ne0 w ↦ subst (λ (t : Table). IsTable t (counts_front 0 x (r + 1))) (sym w.table-is)
            (table_still c.loop-region.table x r count (c.delayed_by_region-count.ensures (sure r)) w.if-count-ne0.false before)
      ];
}

pub returns : goal.returns
unfolding counts_in
returns c = λ sure slot.
    let x : Holding = held_by c.args.map.now c.args.container.now.map in
    let was = c.loop-region.invariant in
    table_any_slot c.loop-region.table slot x (subst (IsTable c.loop-region.table) (sym (front_skips 0 x c.loop-region.from _ was.within (last_bare c.args.map.now c.args.container.now c.loop-region.from _ sure c.in_default.ensures.none))) (was.table sure))
