use Rattle.measure.proofs.files.read.Given as goal

abbrev pub ghosts-read_with : goal.ghosts-read_with
ghosts-read_with g a = record { name = a.blank.name; parts = 1 }
