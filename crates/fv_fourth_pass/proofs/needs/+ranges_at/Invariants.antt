use Rattle.fv_fourth_pass.proofs.needs.+ranges_at.Given as goal

abbrev pub decreases-ranges_at : goal.decreases-ranges_at
decreases-ranges_at l = l.level
