use Rattle.fv_volume.proofs.state.VolumeState.probe.Given as goal

abbrev pub ghosts-count_path : goal.ghosts-count_path
ghosts-count_path g a = record { name = a.blank.name; parts = 1 }
