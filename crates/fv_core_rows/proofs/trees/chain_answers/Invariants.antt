use Rattle.fv_core_rows.proofs.trees.chain_answers.Given as goal

abbrev pub ghosts-along_the_chain : goal.ghosts-along_the_chain
ghosts-along_the_chain a = record { name = a.blank.name; parts = a.blank.parts }
