use Rattle.std.proofs.Common.{rules}
use Rattle.std.proofs.lemmas.Map.Made.{filter_same_pairs}
use Rattle.fv_model.specs.Trees.{holds_one}
use Rattle.fv_reference.proofs.Views.{retained}
use Rattle.fv_laws.proofs.Orders.{spot_total, spot_ties}
use Rattle.fv_reference.proofs.trees.keep_held.Goals as goal

pub returns : goal.returns
returns c =
    retained spot_total spot_ties (holds_one c.args.cells.now) c.args.stamps.now c.retain.new.self (filter_same_pairs _ (λ e. holds_one c.args.cells.now e.0) _ (λ k v b w f' t. search rules) _ _ c.retain.ensures.filtered)
