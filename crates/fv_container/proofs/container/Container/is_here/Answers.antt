use Rattle.std.proofs.Common.{ap, sym, ◌∙◌}
use Rattle.std.specs.Option.{is_some}
use Rattle.fv_container.specs.Paged.{Leaves, Paged, is_here, leaf_here}
use Rattle.fv_container.proofs.Loaded.{here_at}
use Rattle.fv_container.proofs.container.Container.is_here.Goals as goal

pub returns : goal.returns
returns c =
    c.has_leaf.ensures ∙ ap (λ (l : Leaves). is_some (leaf_here l c.args.region)) c.deref.ensures.value
    ∙ sym (here_at c.self.inside.leaves.items c.args.region) ∙ ap (λ (p : Paged). is_here p c.args.region) c.self.view_is
