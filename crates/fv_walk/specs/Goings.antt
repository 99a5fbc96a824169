-- The walk with its stops from a pointer on, in the tree of the inode file or of another file.
use Rattle.std.specs.Prelude.{◌≡◌, ◌<◌, ℕ, Bool, true, false, not, ◌&&◌, List, [], map, flat_map, Option, Some, None, ◌==◌, if◌then◌else◌}
use Rattle.fv_bits.specs.Members.{is_member}
use Rattle.fv_tables.specs.Reached.{Item}
use Rattle.fv_image.specs.Views.{Placed}
use Rattle.fv_faults.specs.declared.lines.Lines.{Lines}
use Rattle.fv_faults.specs.Adding.{Adds}
use Rattle.fv_faults.specs.Walks.{Step, Ground, Going, each, below_if, go, nothing, into_files, has_reached, met_in, pointers_under}
use Rattle.fv_walk.specs.declared.state.State.{State}
use Rattle.fv_walk.specs.declared.visit.Visit.{Visit}
use Rattle.fv_walk.specs.Naming.{IsNames}
use Rattle.fv_walk.specs.Visits.{visit_of}

-- what goes on below a cell
abbrev pub cell_going : Ground → Bool → Item → Placed → Going
cell_going g true = into_files g
cell_going g false = nothing

abbrev pub going_from : Ground → Bool → Item → ℕ → Going
going_from g of_inodes e block = go g (cell_going g of_inodes) e.level e block

-- what goes on below a pointer that leads to a place
abbrev pub under_going : Ground → Bool → Item → Placed → Going
under_going g of_inodes e x done = if (e.level == 0) && not of_inodes then done
    else each (λ c. going_from g (of_inodes && not (e.level == 0)) c x.pvbn) (pointers_under e x) done

-- the bits tell which VVBNs were reached
abbrev pub Reaches : Ground → List Step → List Bool → Type 0
Reaches g done reach = (v : ℕ) → v < g.span → is_member reach v ≡ has_reached done v

-- what the steps that were made leave in a walk that began with these lines
pub record Tracks (g : Ground) (before : Lines) (done : List Step) (state : State) (noted : Lines) : Type 0 where
  pub reach : Reaches g done state.reach
  pub names : IsNames (flat_map met_in done) state.names
  pub lines : Adds (flat_map (λ s. s.lines) done) before noted

-- the pointers below a step where the walk goes on
abbrev pub StepsTo : Step → Option (List Visit) → Type 0
StepsTo s None = (below : Placed → Going) (after : List Step) → below_if below s.lines s.at after ≡ after
StepsTo s (Some all) =
    (x : Placed) × (s.at ≡ Some x) × (s.lines ≡ []) × (all ≡ map (λ c. visit_of (c, x.pvbn)) (pointers_under s.item x))
