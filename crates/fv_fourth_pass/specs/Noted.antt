-- What the fourth pass says slot by slot.
use Rattle.std.specs.Prelude.{ℕ, List, ◌++◌, flat_map}
use Rattle.fv_image.specs.Views.{Head, View}
use Rattle.fv_image.specs.Held.{Layout}
use Rattle.fv_faults.specs.declared.fault.Fault.{Fault}
use Rattle.fv_faults.specs.FourthPass.{hint_lines, place_lines, unknown_lines, use_lines}
use Rattle.fv_faults.specs.SecondPass.{root_steps}
use Rattle.fv_faults.specs.Walks.{Ground, steps}
use Rattle.fv_walk.specs.Visits.{rooted}
use Rattle.fv_third_pass.specs.declared.roots.MapRoot.{MapRoot}
use Rattle.fv_third_pass.specs.Volumes.{slot_said, slots_said}
use Rattle.fv_fourth_pass.specs.Hinted.{hinted_lines}

-- what rules 11 and 12 say of the tables of roots
abbrev pub hinted_roots : Ground → ℕ → List MapRoot → List Fault
hinted_roots g label rs = flat_map (λ (r : MapRoot). hinted_lines (steps g label (rooted r.table))) rs

-- of one volume
abbrev pub volume_lines : View → ℕ → ℕ → Head → List Fault
volume_lines w s label h =
    flat_map hint_lines (root_steps w s label h) ++ (flat_map unknown_lines (root_steps w s label h)
    ++ (place_lines w s label h ++ use_lines w s label h))

-- of the volume of a slot, if it has one
abbrev pub slot_lines : Layout → ℕ → List Fault
slot_lines y s = slot_said y (volume_lines y.view) s

-- of the first so many slots
abbrev pub slots_to : Layout → ℕ → List Fault
slots_to y n = slots_said y (volume_lines y.view) n
