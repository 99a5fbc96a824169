-- What the third pass says of a volume, as it is noted: of each root's map and table, and of ids over all tables.
use Rattle.std.specs.Prelude.{◌≡◌, ◌≤◌, ℕ, ◌-◌, Bool, true, List, [], ◌++◌, length, map, flat_map, get_or, Vec, Option, None, Some, Ok, ◌==◌, if◌then◌else◌}
use Rattle.std.specs.declared.alloc.Global.{Global}
use Rattle.std.specs.List.{All, range_with_len}
use Rattle.std.specs.Option.{option_map_or}
use Rattle.fv_bits.specs.Members.{count_of}
use Rattle.fv_codec.specs.declared.label.Label.{Label}
use Rattle.fv_laws.proofs.Lists.{In}
use Rattle.fv_disk.specs.Shown.{Image}
use Rattle.fv_image.specs.NewerRoot.{Taken}
use Rattle.fv_image.specs.Held.{Layout, Lying, layout_at}
use Rattle.fv_image.specs.Views.{Head, Rooted, View}
use Rattle.fv_image.specs.Seen.{roots_of}
use Rattle.fv_faults.specs.declared.fault.Fault.{Fault}
use Rattle.fv_faults.specs.Met.{IsClean, met}
use Rattle.fv_faults.specs.Walks.{Ground, Step, met_in, steps}
use Rattle.fv_faults.specs.SecondPass.{ground, second_pass}
use Rattle.fv_faults.specs.ThirdPass.{length_lines, level_lines, map_kind_lines, reach_lines, span_lines, stamp_lines, volume_lines}
use Rattle.fv_first_pass.specs.declared.first.Known.{Known}
use Rattle.fv_walk.specs.declared.visit.Visit.{Visit}
use Rattle.fv_walk.specs.Sights.{Sight, sight_of}
use Rattle.fv_walk.specs.Visits.{rooted, visit_of}
use Rattle.fv_second_pass.specs.declared.reached.Reached.{Reached}
use Rattle.fv_second_pass.specs.Reaching.{AllReached, maps_of}
use Rattle.fv_second_pass.specs.Told.{IsPassed}
use Rattle.fv_third_pass.specs.declared.roots.MapRoot.{MapRoot}
use Rattle.fv_third_pass.specs.Judged.{judged_lines}
use Rattle.fv_third_pass.specs.Maps.{IsReachOf}
use Rattle.fv_third_pass.specs.Twinned.{twin_lines, visits}

-- of the table of a root, by its steps: kinds, stamps, lengths and levels
unfoldable pub own_table : ℕ → ℕ → Rooted → List Step → List Fault
own_table label last r ss = judged_lines true last ss ++ (flat_map (length_lines (flat_map met_in ss)) ss ++ level_lines label 0 r.levels r.root)

-- a root with its map slot
abbrev pub root_of : MapRoot → ℕ × Rooted
root_of r = (r.slot, rooted r.table)

-- Their tables have few levels.
abbrev pub AreFew : List MapRoot → Type 0
AreFew rs = All (λ (r : MapRoot). r.table.levels ≤ 2) rs

-- the walk of each finds nothing
abbrev pub AreClean : Ground → ℕ → List MapRoot → Type 0
AreClean g label rs = (r : MapRoot) → In r rs → IsClean (steps g label (rooted r.table))

-- what is said of their tables
abbrev pub own_tables : Ground → ℕ → ℕ → List MapRoot → List Fault
own_tables g label last rs = flat_map (λ (r : MapRoot). own_table label last (rooted r.table) (steps g label (rooted r.table))) rs

-- what walks along several tables are shown
unfoldable pub shown : Ground → ℕ → List MapRoot → List Sight
shown g label rs = flat_map (λ r. map (sight_of g) (met g label (rooted r.table))) rs

-- what the base of a label's volume reaches, among what all roots reach
abbrev pub base_set : List (Option (Vec (Option (List Bool)) Global)) → Label → Option (List Bool)
base_set volumes l = if l.parent == 0 then None else get_or (maps_of (get_or volumes (l.parent - 1) None)) l.base_slot None

-- how many there are
abbrev pub counted : Option (List Bool) → ℕ
counted o = option_map_or count_of o 0

-- The bits for the VVBNs of a span are there, and are what steps reach.
abbrev pub IsReachIn : ℕ → List Step → Option (List Bool) → Type 0
IsReachIn span ss None = ⊥
IsReachIn span ss (Some reach) = (length reach ≡ span) × IsReachOf ss reach

-- ---- what the first two passes gave

-- They found nothing, and what they read spells the aggregate and tells what its roots reach.
pub record IsWalked (t : Taken) (i : Image) (known : Known) (reached : Reached) : Type 0 where
  pub passed : IsPassed t i known
  pub silent : second_pass (layout_at t i) ≡ []
  pub reach : AllReached (layout_at t i) reached.volumes.items

-- of the volume of a label in a slot
pub record IsWalkedLabel (t : Taken) (i : Image) (known : Known) (reached : Reached) (s : ℕ) (l : Label) : Type 0 where
  pub walked : IsWalked t i known reached
  pub label : get_or known.labels.items s None ≡ Some (Ok l)

-- ---- slot by slot

-- what is said of the volume of a slot, by what is said of a head in a slot, whose label is at a place
abbrev pub slot_said : Layout → (ℕ → ℕ → Head → List Fault) → ℕ → List Fault
slot_said y of s = option_map_or (λ (x : Lying). option_map_or (λ (h : Head). of s x.place h) (y.view.head s) []) (y.label s) []

-- of the first so many slots
unfoldable pub slots_said : Layout → (ℕ → ℕ → Head → List Fault) → ℕ → List Fault
slots_said y of n = flat_map (slot_said y of) (range_with_len 0 n)

abbrev pub slot_lines : Layout → ℕ → List Fault
slot_lines y s = slot_said y (volume_lines y) s

abbrev pub slots_to : Layout → ℕ → List Fault
slots_to y n = slots_said y (volume_lines y) n

-- what is said of the maps of roots
abbrev pub map_lines : View → ℕ → Head → (ℕ × Rooted → List Step) → List (ℕ × Rooted) → List Fault
map_lines w s h of rs = flat_map (λ (r : ℕ × Rooted). reach_lines w s h r.0 (of r)) rs

-- the bits for several roots are there
abbrev pub AreReachIn : ℕ → (ℕ × Rooted → List Step) → (ℕ → Option (List Bool)) → List (ℕ × Rooted) → Type 0
AreReachIn span of at rs = (r : ℕ × Rooted) → In r rs → IsReachIn span (of r) (at r.0)

-- what the walk along one table is shown
abbrev pub shown_one : Ground → ℕ → Rooted → List Visit
shown_one g label r = visits (map (sight_of g) (met g label r))

-- what the root of a map slot reaches, in the volume of a slot
abbrev pub reach_at : Reached → ℕ → ℕ → Option (List Bool)
reach_at reached s j = get_or (maps_of (get_or reached.volumes.items s None)) j None

-- the pointer of a step, as a walk shows it
abbrev pub visit_at : Step → Visit
visit_at st = visit_of (st.item, st.block)

-- what is said of steps of a base table, by a judge that saw these, with the volume's last stamp
abbrev pub base_said : ℕ → List Visit → List Step → List Fault
base_said last done ss = twin_lines done (map visit_at ss) ++ flat_map (stamp_lines last) ss

-- what is said of the span and of the maps of a volume
abbrev pub front_said : View → ℕ → ℕ → Head → List Fault
front_said w s at h = span_lines w s at h ++ (map_kind_lines w s at h ++ map_lines w s h (λ r. steps (ground w s h) at r.1) (roots_of h))
