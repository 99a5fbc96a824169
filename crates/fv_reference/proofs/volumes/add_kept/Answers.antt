use Rattle.std.proofs.Common.{List, ℕ, map, sym, ap, ◌∙◌}
use Rattle.std.specs.FinSet as set
use Rattle.std.proofs.lemmas.Result.{on_ok_weaker}
use Rattle.fv_model.specs.Tables.{Table}
use Rattle.fv_model.specs.Places.{id_cmp}
use Rattle.fv_model.specs.Space.{ids_in_any}
use Rattle.fv_reference.specs.Maps.{set_of}
use Rattle.fv_reference.proofs.Views.{entries_of}
use Rattle.fv_laws.proofs.Orders.{name_total}
use Rattle.fv_reference.proofs.volumes.add_kept.Goals as goal

pub returns : goal.returns
returns c =
    on_ok_weaker c.add_all.result (λ h. h ∙ sym (ap (λ (es : List (List ℕ × Table)). set.union (set_of id_cmp c.args.ids.now) (ids_in_any (map (λ e. e.1) es))) (entries_of name_total c.args.snapshots.now.entries c.len-count.ensures.ordered))) c.add_all.ensures
