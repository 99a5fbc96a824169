use Rattle.std.proofs.Common.{◌≡◌, ℕ, List, [], map, sym, ap, ◌∙◌}
use Rattle.std.specs.Map.Iter.{deref_pair}
use Rattle.std.specs.FinSet as set
use Rattle.std.proofs.lemmas.Map.Iter.{rest_more, rest_all}
use Rattle.fv_model.specs.Tables.{Table}
use Rattle.fv_model.specs.Places.{id_cmp, Ids, ids_of}
use Rattle.fv_model.specs.Space.{ids_in_any}
use Rattle.fv_reference.specs.Maps.{set_of}
use Rattle.fv_reference.proofs.Finite.{union_grouped, union_end}
use Rattle.fv_laws.proofs.Orders.{id_total, id_ties}
use Rattle.fv_reference.proofs.volumes.add_all.Goals as goal

pub loop-table-preserved : goal.loop-table-preserved
loop-table-preserved c =
    let rest : List (List ℕ × Table) = c.next.new.self in
    let before : Ids = set_of id_cmp c.loop-table.ids in
    let all = rest_more deref_pair c.loop-table.table-iterator c.next.new.self c.next.result _ c.in-Some.is c.next.ensures.steps in
    ap (λ (s : Ids). set.union s (ids_in_any (map (λ e. e.1) rest))) c.in_ok-add_ids.ensures ∙ union_grouped id_total id_ties before (ids_of c.in-Some.table.now) (ids_in_any (map (λ e. e.1) rest)) ∙ ap (λ (es : List (List ℕ × Table)). set.union before (ids_in_any (map (λ e. e.1) es))) (sym all) ∙ c.loop-table.invariant

pub returns : goal.returns
returns c =
    let before : Ids = set_of id_cmp c.loop-table.ids in
    let none : ◌≡◌ {A = List (List ℕ × Table)} c.loop-table.table-iterator [] = rest_all deref_pair c.loop-table.table-iterator c.next.new.self c.next.result c.in-None.is c.next.ensures.steps in
    sym (union_end id_total id_ties before) ∙ ap (λ (es : List (List ℕ × Table)). set.union before (ids_in_any (map (λ e. e.1) es))) (sym none) ∙ c.loop-table.invariant
