use Rattle.std.proofs.Common.{◌≡◌, ℕ, map, ap, ◌∙◌, arith}
use Rattle.std.specs.List.{range_with_len}
use Rattle.std.specs.Option.{option_map}
use Rattle.std.proofs.lemmas.List.FromFn.{sum_by-map-range_with_len_more}
use Rattle.fv_cp.specs.Choosing.{marked_as, marked_at}
use Rattle.fv_cp.specs.Lent.{asked_by, blocks_asked}
use Rattle.fv_cp.specs.Planning.{is_set}
use Rattle.fv_cp.proofs.asking.blocks_asked.Goals as goal

pub loop-slot-preserved : goal.loop-slot-preserved
loop-slot-preserved c =
    let was = c.loop-slot.invariant in
    let n = c.loop-slot.slot in
    let on = sum_by-map-range_with_len_more asked_by (marked_at (is_set c.args.due.now) c.args.volumes.now) 0 n n (omega arith) in
    let value = c.asked_by-asked.ensures.value ∙ (λ k. asked_by (option_map (marked_as (is_set c.args.due.now n)) (c.get.ensures k))) in record {
      sum = omega (arith, was.sum, on, value);
      most = omega (arith, was.most, c.asked_by-asked.ensures.most);
    }

pub returns : goal.returns
returns c =
    let end : c.loop-slot.slot ≡ 64 = omega (arith, c.loop-slot-test.false, c.loop-slot.auto.slot-end) in
    c.loop-slot.invariant.sum ∙ ap (λ (n : ℕ). blocks_asked (map (marked_at (is_set c.args.due.now) c.args.volumes.now) (range_with_len 0 n))) end
