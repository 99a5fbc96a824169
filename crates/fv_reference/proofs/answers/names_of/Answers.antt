use Rattle.std.proofs.Common.{◌≡◌, sym, ap, ◌∙◌}
use Rattle.std.proofs.lemmas.Result.{IfOk-weaker}
use Rattle.std.specs.Map.{keys_of}
use Rattle.fv_reference.proofs.Views.{entries_of}
use Rattle.fv_laws.proofs.Orders.{name_total}
use Rattle.fv_reference.proofs.answers.names_of.Goals as goal

pub returns : goal.returns
returns g c =
    IfOk-weaker c.listed.result (λ n. n ≡ keys_of c.args.map.now.entries) _ (λ n h. h ∙ sym (ap keys_of (entries_of name_total c.args.map.now.entries c.len-count.ensures.ordered))) c.listed.ensures
