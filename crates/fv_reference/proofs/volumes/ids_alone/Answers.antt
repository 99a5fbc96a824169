use Rattle.std.proofs.Common.{List, ap, ◌∙◌}
use Rattle.std.specs.FinSet as set
use Rattle.fv_model.specs.Places.{id_cmp, Id, ids_of}
use Rattle.fv_reference.proofs.Finite.{union_start}
use Rattle.fv_laws.proofs.Orders.{id_total, id_ties}
use Rattle.fv_reference.proofs.volumes.ids_alone.Goals as goal

pub returns : goal.returns
returns c =
    c.in_ok-add_ids.ensures ∙ ap (λ (ks : List Id). set.union (set.from_list {R = id_cmp} ks) (ids_of c.args.table.now)) c.new-ids.ensures.empty ∙ union_start id_total id_ties (ids_of c.args.table.now)
