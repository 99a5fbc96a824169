use Rattle.std.proofs.Common.{◌≡◌, sym, ap, ◌∙◌}
use Rattle.std.proofs.lemmas.Result.{IfOk-weaker}
use Rattle.std.specs.Map.{keys_of}
use Rattle.std.specs.Cmp.{nat_cmp_total}
use Rattle.fv_reference.proofs.Views.{entries_of}
use Rattle.fv_reference.proofs.maps.keys.Goals as goal

pub returns : goal.returns
returns g c =
    IfOk-weaker c.listed_keys.result (λ v. v.items ≡ keys_of c.args.map.now.entries) _ (λ v h. h ∙ sym (ap keys_of (entries_of nat_cmp_total c.args.map.now.entries c.len-count.ensures.ordered))) c.listed_keys.ensures
