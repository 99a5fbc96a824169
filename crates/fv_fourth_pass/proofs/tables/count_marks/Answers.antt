use Rattle.std.proofs.Common.{ap, ◌∙◌, List}
use Rattle.std.specs.Prelude.{◌||◌}
use Rattle.std.specs.List.{list_any}
use Rattle.std.specs.Ordering.{eq_by_cmp}
use Rattle.fv_fourth_pass.specs.declared.tally.Mark.{Mark}
use Rattle.fv_fourth_pass.specs.Tallied.{among, mark_cmp}
use Rattle.fv_fourth_pass.proofs.Marks.{marks_counted}
use Rattle.fv_fourth_pass.proofs.tables.count_marks.Goals as goal

pub returns : goal.returns
returns c = λ g label rs start empty gains.
    c.len.ensures.len
    ∙ marks_counted g label start.copies rs c.args.tally.now.marks.keys c.len.ensures.ordered (λ k.
    gains.marks k
    ∙ ap (λ (ks : List Mark). list_any (eq_by_cmp mark_cmp k) ks || among g label start.copies k rs) empty)
