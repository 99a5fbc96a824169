use Rattle.std.proofs.Common.{◌∙◌}
use Rattle.fv_image.specs.Views.{head_of}
use Rattle.fv_fourth_pass.proofs.Filling.{delayed_count, own_count}
use Rattle.fv_fourth_pass.proofs.filled.count_filled.Goals as goal

pub returns-clause-own : goal.returns-clause-own
unfolding head_of
returns-clause-own c = λ w s has. c.count_own.ensures.exact ∙ own_count w s (head_of c.args.label.now) c.args.held.now c.args.row.now has

pub returns-clause-delayed : goal.returns-clause-delayed
unfolding head_of
returns-clause-delayed c = λ w s has. c.count_delayed.ensures.exact ∙ delayed_count w s (head_of c.args.label.now) c.args.held.now c.args.row.now has
