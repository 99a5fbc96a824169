use Rattle.std.proofs.Common.{◌≡◌, sym, ap, ◌∙◌}
use Rattle.std.proofs.lemmas.Result.{IfOk-weaker}
use Rattle.std.specs.Map.{keys_of}
use Rattle.fv_inode.proofs.Views.{entries_of, name_total}
use Rattle.fv_inode.proofs.list.in_order.Goals as goal

pub returns-clause-names : goal.returns-clause-names
returns-clause-names c =
    IfOk-weaker c.listed.result (λ n. n ≡ keys_of c.args.numbers.now.entries) _ (λ n h. h ∙ sym (ap keys_of (entries_of name_total c.args.numbers.now.entries c.len-count.ensures.ordered))) c.listed.ensures.names
