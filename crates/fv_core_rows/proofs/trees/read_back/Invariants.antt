use Rattle.fv_core_rows.proofs.trees.read_back.Given as goal

abbrev pub ghosts-comes_back : goal.ghosts-comes_back
ghosts-comes_back a = record { name = a.blank.name; parts = a.blank.parts }
