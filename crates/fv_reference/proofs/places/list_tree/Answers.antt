use Rattle.std.proofs.Common.{◌≡◌, ◌++◌, ℕ, List, map, sym, ap, ◌∙◌}
use Rattle.std.specs.FinMap as fin
use Rattle.fv_model.specs.Trees.{Spot}
use Rattle.fv_model.specs.Places.{placed}
use Rattle.fv_reference.specs.Owners.{owner_of}
use Rattle.fv_reference.proofs.Views.{entries_of}
use Rattle.fv_laws.proofs.Orders.{spot_total}
use Rattle.std.proofs.lemmas.Result.{on_ok_weaker}
use Rattle.fv_reference.proofs.places.list_tree.Goals as goal

pub returns : goal.returns
returns c =
    let same : c.stamps-stamps.result.now.entries ≡ fin.entries c.args.tree.now.stamps = sym (entries_of spot_total c.stamps-stamps.result.now.entries c.len-count.ensures.ordered) ∙ ap fin.entries c.stamps-stamps.ensures in
    on_ok_weaker c.list_stamps.result (λ h. h ∙ ap (λ (es : List (Spot × ℕ)). c.args.entries.now.items ++ map (λ e. (placed (owner_of c.args.owner) e.0, e.1)) es) same) c.list_stamps.ensures
