use Rattle.std.proofs.Common.{◌≡◌, ◌∙◌, subst}
use Rattle.std.specs.Prelude.{None, get_or}
use Rattle.std.specs.Option.{is_some}
use Rattle.fv_first_pass.specs.Heads.{carried, head_in}
use Rattle.fv_first_pass.proofs.Chain.{stands_is}
use Rattle.fv_first_pass.proofs.bases.stands.Goals as goal

pub returns : goal.returns
returns c = λ y has. c.both.ensures ∙ stands_is y c.args.labels.now has c.args.slot c.args.label.now c.requires.based c.requires.low c.is_some-there.result c.carries.result c.comes_to_end.result c.both-rest.result
    c.both-rest.ensures
    (subst (λ n. c.is_some-there.result ≡ is_some (get_or c.args.labels.now n None)) c.from-at.ensures c.is_some-there.ensures)
    (subst (λ n. c.carries.result ≡ carried (head_in (get_or c.args.labels.now n None)) c.args.label.now) c.from-at.ensures c.carries.ensures)
    (c.comes_to_end.ensures y has)
