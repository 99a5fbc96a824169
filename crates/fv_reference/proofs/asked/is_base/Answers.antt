use Rattle.std.proofs.Common.{◌≡◌, ℕ, List, false, cond, sym, ap, ◌∙◌}
use Rattle.std.specs.FinMap as fin
use Rattle.std.specs.List.{list_any}
use Rattle.std.specs.Option.{option_map_or}
use Rattle.fv_model.specs.Spelling.{is_same_name}
use Rattle.fv_model.specs.Volumes as volumes
use Rattle.fv_reference.proofs.Views.{entries_of}
use Rattle.fv_laws.proofs.Orders.{name_total}
use Rattle.fv_reference.proofs.asked.is_base.Goals as goal

pub returns : goal.returns
returns c =
    let same : ◌≡◌ {A = List (List ℕ × volumes.Volume)} c.volumes-volumes.result.now.entries (fin.entries c.args.aggregate.now.volumes) = sym (entries_of name_total c.volumes-volumes.result.now.entries c.len-count.ensures.ordered) ∙ ap fin.entries c.volumes-volumes.ensures in
    c.some_base.ensures ∙ ap (list_any (λ (e : List ℕ × volumes.Volume). option_map_or (λ (b : volumes.Base). cond (is_same_name b.parent c.args.name.now) (is_same_name b.snapshot c.args.snapshot.now) false) e.1.base false)) same
