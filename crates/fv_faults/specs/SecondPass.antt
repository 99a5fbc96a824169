-- Pass 2: the walks along the pointers of all roots.
use Rattle.std.specs.Prelude.{ℕ, List, [], flat_map}
use Rattle.std.specs.Option.{option_map_or}
use Rattle.fv_image.specs.Views.{Head, View, slots}
use Rattle.fv_image.specs.Held.{Layout}
use Rattle.fv_image.specs.Seen.{roots_of}
use Rattle.fv_faults.specs.declared.fault.Fault.{Fault}
use Rattle.fv_faults.specs.Walks.{Ground, Step, steps}

-- of each volume, with the place of its label
abbrev pub in_volumes : Layout → (ℕ → ℕ → Head → List Fault) → List Fault
in_volumes y lines = flat_map (λ s. option_map_or (λ x. option_map_or (lines s x.place) (y.view.head s) []) (y.label s) []) slots

abbrev pub ground : View → ℕ → Head → Ground
ground w s h = record { view = w; slot = s; span = h.span }

-- the steps of the roots of a volume: those of the active one, and of snapshots by their map slots
abbrev pub root_steps : View → ℕ → ℕ → Head → List Step
root_steps w s label h = flat_map (λ r. steps (ground w s h) label r.1) (roots_of h)

unfoldable pub second_pass : Layout → List Fault
second_pass y = in_volumes y (λ s label h. flat_map (λ st. st.lines) (root_steps y.view s label h))
