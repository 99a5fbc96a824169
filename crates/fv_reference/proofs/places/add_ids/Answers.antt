use Rattle.std.proofs.Common.{ap, ◌∙◌}
use Rattle.std.specs.FinSet as set
use Rattle.std.proofs.lemmas.Result.{on_ok_weaker}
use Rattle.fv_model.specs.Places.{Ids, id_cmp}
use Rattle.fv_reference.specs.Maps.{set_of}
use Rattle.fv_reference.proofs.Counting.{ids_from}
use Rattle.fv_reference.proofs.places.add_ids.Goals as goal

pub returns : goal.returns
returns c =
    on_ok_weaker c.add_listed.result (λ h. h ∙ ap (λ (s : Ids). set.union (set_of id_cmp c.args.found.now) s) (ids_from c.in_ok-stamps.stamps c.args.table.now c.len-count.ensures.ordered c.in_ok-stamps.ensures)) c.add_listed.ensures
