use Rattle.fv_core_rows.proofs.containers.a_chain_of_two.Given as goal

abbrev pub ghosts-chained : goal.ghosts-chained
ghosts-chained g a = record { name = a.blank.name; parts = a.blank.parts }
