use Rattle.std.proofs.Common.{rules, nat_lt}
use Rattle.std.proofs.lemmas.Map.Made.{filter_same_pairs}
use Rattle.std.specs.Cmp.{nat_cmp_total}
use Rattle.std.specs.FinMap.{nat_cmp-IsAntisymmetric}
use Rattle.fv_reference.proofs.Views.{retained}
use Rattle.fv_reference.proofs.tables.keep_below.Goals as goal

pub returns : goal.returns
returns c =
    retained nat_cmp_total nat_cmp-IsAntisymmetric (λ i. nat_lt i c.args.length) c.args.blocks.now c.retain.new.self (filter_same_pairs _ (λ e. nat_lt e.0 c.args.length) _ (λ k v b w f' t. search rules) _ _ c.retain.ensures.filtered)
