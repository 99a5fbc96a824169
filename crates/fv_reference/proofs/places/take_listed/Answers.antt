use Rattle.std.proofs.Common.{◌≡◌, List, [], ◌∷◌, sym, ap, ◌∙◌}
use Rattle.std.specs.Map.Iter.{deref_pair}
use Rattle.std.specs.FinSet as set
use Rattle.std.proofs.lemmas.Map.Iter.{rest_more, rest_all}
use Rattle.fv_model.specs.Places.{Id, id_cmp}
use Rattle.fv_reference.specs.Maps.{set_of}
use Rattle.fv_reference.proofs.Finite.{difference_step, difference_end}
use Rattle.fv_laws.proofs.Orders.{id_total, id_ties}
use Rattle.fv_reference.proofs.places.take_listed.Goals as goal

pub loop-place-preserved : goal.loop-place-preserved
loop-place-preserved c =
    let all : ◌≡◌ {A = List Id} c.loop-place.place-iterator ((c.copy.result, c.in-Some.stamp.now) ∷ c.next.new.self) = rest_more deref_pair c.loop-place.place-iterator c.next.new.self c.next.result (c.in-Some.place, c.in-Some.stamp) c.in-Some.is c.next.ensures.steps ∙ (λ i. (sym c.copy.ensures i, c.in-Some.stamp.now) ∷ c.next.new.self) in
    ap (λ (s : set.FinSet id_cmp). set.difference s (set.from_list c.next.new.self)) c.take.ensures ∙ difference_step id_total id_ties (set_of id_cmp c.loop-place.found) (c.copy.result, c.in-Some.stamp.now) c.next.new.self ∙ ap (λ (es : List Id). set.difference (set_of id_cmp c.loop-place.found) (set.from_list es)) (sym all) ∙ c.loop-place.invariant

pub returns : goal.returns
returns c =
    let none : ◌≡◌ {A = List Id} c.loop-place.place-iterator [] = rest_all deref_pair c.loop-place.place-iterator c.next.new.self c.next.result c.in-None.is c.next.ensures.steps in
    sym (difference_end id_total id_ties (set_of id_cmp c.loop-place.found)) ∙ ap (λ (es : List Id). set.difference (set_of id_cmp c.loop-place.found) (set.from_list es)) (sym none) ∙ c.loop-place.invariant
