use Rattle.std.proofs.Common.{List, ap, ◌∙◌}
use Rattle.std.specs.FinMap as fin
use Rattle.std.specs.FinSet as set
use Rattle.fv_model.specs.Places.{id_cmp, Id, Ids}
use Rattle.fv_model.specs.Spelling.{name_cmp}
use Rattle.fv_model.specs.Space.{ids_in_any, base_ids}
use Rattle.fv_reference.specs.Maps.{map_of}
use Rattle.fv_reference.proofs.Finite.{union_start}
use Rattle.fv_laws.proofs.Orders.{id_total, id_ties}
use Rattle.fv_reference.proofs.space.shared_ids.Goals as goal

pub returns : goal.returns
returns c =
    let kept : Ids = ids_in_any (fin.values (map_of name_cmp c.args.snapshots.now)) in
    c.in_ok-add_base.ensures ∙ ap (λ (s : Ids). set.union s (base_ids c.args.base.now)) (c.in_ok-add_kept.ensures ∙ ap (λ (ks : List Id). set.union (set.from_list {R = id_cmp} ks) kept) c.new-ids.ensures.empty ∙ union_start id_total id_ties kept)
