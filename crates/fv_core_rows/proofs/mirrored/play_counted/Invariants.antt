use Rattle.fv_core_rows.proofs.mirrored.play_counted.Given as goal

abbrev pub ghosts-answers_and_steps : goal.ghosts-answers_and_steps
ghosts-answers_and_steps a = record { name = a.blank.name; parts = a.blank.parts }
