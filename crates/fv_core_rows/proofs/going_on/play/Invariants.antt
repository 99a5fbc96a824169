use Rattle.fv_core_rows.proofs.going_on.play.Given as goal

abbrev pub ghosts-answers : goal.ghosts-answers
ghosts-answers a = record { name = a.blank.name; parts = a.blank.parts }
