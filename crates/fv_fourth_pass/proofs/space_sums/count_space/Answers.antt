use Rattle.std.proofs.Common.{Bool, List, ap, sym, subst, ◌∙◌}
use Rattle.std.specs.Prelude.{Option}
use Rattle.fv_image.specs.Views.{head_of}
use Rattle.fv_fourth_pass.specs.Silent.{left_of}
use Rattle.fv_fourth_pass.specs.Used.{HasSets}
use Rattle.fv_fourth_pass.proofs.space_sums.count_space.Goals as goal

pub returns-clause-exact : goal.returns-clause-exact
unfolding head_of
returns-clause-exact c = λ w s sets filled needed.
    let l = c.args.label.now in
    let left = c.left_of.ensures ∙ ap (left_of l) c.base.ensures in
    record {
      used = c.count_used.ensures.exact w s (subst (λ (o : Option (List Bool)). HasSets w s (head_of l) c.args.sets.now.held o) (sym left) sets) needed;
      own = c.count_filled.ensures.own w s filled;
      delayed = c.count_filled.ensures.delayed w s filled;
    }
