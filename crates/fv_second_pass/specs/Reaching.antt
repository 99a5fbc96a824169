-- Which VVBNs the roots of volumes reach, and the lines of the walks along them.
use Rattle.std.specs.Prelude.{◌≡◌, ◌<◌, ℕ, Bool, List, [], flat_map, map, length, get_or, Vec, Option, Some, None}
use Rattle.std.specs.declared.alloc.Global.{Global}
use Rattle.std.specs.List.{range_with_len}
use Rattle.std.specs.Option.{option_map_or}
use Rattle.fv_codec.specs.declared.label.SnapRecord.{SnapRecord}
use Rattle.fv_laws.proofs.Lists.{In}
use Rattle.fv_image.specs.Views.{Rooted, Snap, Head}
use Rattle.fv_image.specs.Held.{Lying, Layout}
use Rattle.fv_image.specs.Seen.{roots_of}
use Rattle.fv_faults.specs.declared.fault.Fault.{Fault}
use Rattle.fv_faults.specs.Walks.{Ground, Step, steps}
use Rattle.fv_faults.specs.SecondPass.{ground}
use Rattle.fv_first_pass.specs.Records.{snap_if}
use Rattle.fv_walk.specs.Goings.{Reaches}

-- ---- lines

-- of the steps of a root, whose pointer stands in the label at a place
abbrev pub walk_lines : Ground → ℕ → Rooted → List Fault
walk_lines g label r = flat_map (λ (st : Step). st.lines) (steps g label r)

-- of several roots, each with its map slot
abbrev pub root_lines : Ground → ℕ → List (ℕ × Rooted) → List Fault
root_lines g label rs = flat_map (λ r. walk_lines g label r.1) rs

-- of the roots of the volume of a slot, if it has one
abbrev pub slot_lines : Layout → ℕ → List Fault
slot_lines y s = option_map_or (λ (x : Lying). option_map_or (λ (h : Head). root_lines (ground y.view s h) x.place (roots_of h)) (y.view.head s) []) (y.label s) []

-- of the first so many slots
abbrev pub slots_to : Layout → ℕ → List Fault
slots_to y n = flat_map (slot_lines y) (range_with_len 0 n)

-- ---- roots

-- a snapshot as a root: its map slot and its table
abbrev pub root_of : Snap → ℕ × Rooted
root_of p = (p.slot, p.table)

-- the root that the record of a map slot names, where it names one
abbrev pub roots_if : ℕ → SnapRecord → List (ℕ × Rooted)
roots_if j r = map root_of (snap_if j r)

-- ---- what is reached

-- there is a bit for each VVBN of the volume, and it tells whether the steps reach that VVBN
pub record IsReach (g : Ground) (done : List Step) (reach : List Bool) : Type 0 where
  pub size : length reach ≡ g.span
  pub bits : Reaches g done reach

abbrev pub HasReach : Ground → List Step → Option (List Bool) → Type 0
HasReach g done None = ⊥
HasReach g done (Some reach) = IsReach g done reach

-- by map slot, what each of the roots of a volume reaches
pub record AreReached (g : Ground) (label : ℕ) (rs : List (ℕ × Rooted)) (maps : List (Option (List Bool))) : Type 0 where
  pub each : (r : ℕ × Rooted) → In r rs → HasReach g (steps g label r.1) (get_or maps r.0 None)

-- of one root, if there is one
abbrev pub ReachesIf : Ground → ℕ → List (ℕ × Rooted) → Option (List Bool) → Type 0
ReachesIf g label rs reach = (r : ℕ × Rooted) → In r rs → HasReach g (steps g label r.1) reach

abbrev pub maps_of : Option (Vec (Option (List Bool)) Global) → List (Option (List Bool))
maps_of None = []
maps_of (Some maps) = maps.items

-- what each root of the volume of a slot reaches
abbrev pub SlotReached : Layout → ℕ → Option (Vec (Option (List Bool)) Global) → Type 0
SlotReached y s maps = (x : Lying) (h : Head) → y.label s ≡ Some x → y.view.head s ≡ Some h → AreReached (ground y.view s h) x.place (roots_of h) (maps_of maps)

-- By slot and map slot, what each root of each volume reaches. With a volume's own steps this says what a base table reaches, too: it is that of the
-- parent's snapshot.
pub record AllReached (y : Layout) (volumes : List (Option (Vec (Option (List Bool)) Global))) : Type 0 where
  pub each : (s : ℕ) → s < 64 → SlotReached y s (get_or volumes s None)
