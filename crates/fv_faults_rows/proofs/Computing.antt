-- What rows of fault lines compute with, beside what rows of images do: the definitions that stand on a row's way, each list said once.
use Rattle.fv_image_rows.proofs.Computing.{roots_compute, bits_compute, layouts_compute, rules_compute, space_compute}
use Rattle.fv_faults.specs.Lines.{ordered}
use Rattle.fv_faults.specs.Walks.{used_from, files_under, pointers_under, shape_lines, name_lines, block_lines, step_lines, step, go, steps}
use Rattle.fv_faults.specs.FirstPass.{root_lines, base_lines, volume_names, snap_names, label_numbers, label_stops, node_below, first_pass}
use Rattle.fv_faults.specs.SecondPass.{second_pass}
use Rattle.fv_faults.specs.ThirdPass.{twice_held, kind_lines, map_kind_lines, twins, one_to_one_lines, stamp_lines, mark_lines, length_lines, file_level_lines, base_steps}
use Rattle.fv_faults.specs.FourthPass.{hint_lines, unknown_lines, place_lines, room_lines}
use Rattle.fv_faults.specs.Faults.{passes, faults}
use Rattle.fv_image.specs.Places.{once_each}

-- the first two passes
unfoldable pub walks_compute : Unit {0}
unfolding layouts_compute rules_compute root_lines base_lines volume_names snap_names label_numbers label_stops node_below first_pass used_from files_under pointers_under shape_lines name_lines block_lines step_lines step go steps second_pass
walks_compute = tt

-- the whole list, where one of them finds anything
unfoldable pub faults_compute : Unit {0}
unfolding walks_compute roots_compute ordered passes faults
faults_compute = tt

-- the third but for maps and spans
unfoldable pub thirds_compute : Unit {0}
unfolding faults_compute bits_compute twice_held kind_lines map_kind_lines twins one_to_one_lines stamp_lines mark_lines length_lines file_level_lines base_steps
thirds_compute = tt

-- the fourth but for use and commits
unfoldable pub fourths_compute : Unit {0}
unfolding thirds_compute space_compute hint_lines unknown_lines place_lines room_lines once_each
fourths_compute = tt
