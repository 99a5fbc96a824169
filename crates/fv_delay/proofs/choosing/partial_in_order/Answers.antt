use Rattle.std.proofs.Common.{◌≡◌, filter, List, ap, ◌∙◌, refl, arith, rules}
use Rattle.std.proofs.lemmas.List.Sorted.{answers_always}
use Rattle.fv_delay.specs.declared.counts.Count.{Count}
use Rattle.fv_delay.specs.Choice.{in_order, is_partial}
use Rattle.fv_delay.proofs.Sorting.{sorted_is}
use Rattle.fv_delay.proofs.Taking.{row_done}
use Rattle.fv_delay.proofs.choosing.partial_in_order.Goals as goal

pub returns : goal.returns
returns c =
    let partial_ones : List Count = filter is_partial c.args.counts.now in
    let all : c.loop-count.rest.items ≡ partial_ones = row_done (filter is_partial) refl c.args.counts.now c.loop-count.count-index (omega arith) c.loop-count.rest.items partial_ones c.loop-count.invariant in
    let sorted = c.in_ok-sort_by_key.ensures.sorted (λ (k : Count). (record { 0 = k.count }, k.slot, k.region)) (answers_always _ _ _ (λ f a r g h. search rules)) in
    sorted_is c.loop-count.rest.items c.sort_by_key.new.self.items c.in_ok-sort_by_key.ensures.permutation sorted ∙ ap in_order all
