use Rattle.std.proofs.Common.{ap, ◌∙◌}
use Rattle.std.specs.FinSet as set
use Rattle.fv_model.specs.Places.{Ids, id_cmp}
use Rattle.fv_reference.specs.Maps.{set_of}
use Rattle.fv_reference.proofs.Counting.{ids_from}
use Rattle.fv_reference.proofs.places.take_ids.Goals as goal

pub returns : goal.returns
returns c =
    c.take_listed.ensures ∙ ap (λ (s : Ids). set.difference (set_of id_cmp c.args.found.now) s) (ids_from c.in_ok-stamps.stamps c.args.table.now c.len-count.ensures.ordered c.in_ok-stamps.ensures)
