use Rattle.fv_core_rows.proofs.going_on.with_two_leaves.Given as goal

abbrev pub ghosts-fill : goal.ghosts-fill
ghosts-fill a = record { name = a.blank.name; parts = a.blank.parts }
