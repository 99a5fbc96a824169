use Rattle.std.proofs.Common.{ap, ◌∙◌}
use Rattle.std.specs.FinMap as fin
use Rattle.std.specs.FinSet as set
use Rattle.fv_model.specs.Spelling.{name_cmp}
use Rattle.fv_model.specs.Places.{Ids}
use Rattle.fv_model.specs.Space.{ids_in_any, ids_left_out}
use Rattle.fv_reference.specs.Maps.{map_of}
use Rattle.fv_reference.proofs.volumes.charged_ids.Goals as goal

pub returns : goal.returns
returns c =
    c.in_ok-leave_out.ensures ∙ ap (λ (s : Ids). set.difference s (ids_left_out c.args.base.now)) (c.in_ok-add_kept.ensures ∙ ap (λ (s : Ids). set.union s (ids_in_any (fin.values (map_of name_cmp c.args.snapshots.now)))) c.in_ok-ids.ensures)
