use Rattle.std.proofs.Common.{ℕ, List, nat_lt, sum_by, sym, ap, ◌∙◌}
use Rattle.fv_model.specs.Volumes.{Volume}
use Rattle.fv_model.specs.Space.{commit}
use Rattle.fv_reference.proofs.Views.{entries_of}
use Rattle.fv_laws.proofs.Orders.{name_total}
use Rattle.fv_reference.proofs.aggregates.all_exceed.Goals as goal

pub returns : goal.returns
returns c =
    c.exceed.ensures ∙ ap (λ (es : List (List ℕ × Volume)). nat_lt c.args.capacity (sum_by (λ e. commit e.1) es)) (sym (entries_of name_total c.args.volumes.now.entries c.len-count.ensures.ordered))
