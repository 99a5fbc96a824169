-- The walk along the pointers of one root without its stops: what it meets. Where either walk finds nothing, both make the same steps.
use Rattle.std.specs.Prelude.{◌≡◌, ℕ, zero, suc, List, [], ◌∷◌, ◌++◌, flat_map, Option, ◌==◌, if◌then◌else◌}
use Rattle.std.specs.Option.{option_map_or}
use Rattle.fv_tables.specs.Reached.{Item}
use Rattle.fv_image.specs.Views.{Placed, Rooted}
use Rattle.fv_image.specs.Chains.{place}
use Rattle.fv_faults.specs.Walks.{Step, Ground, step, pointers_under, root_item}

-- a pointer with the block in which it stands
abbrev pub Spot : Type 0
Spot = Item × ℕ

-- where the VVBN of a pointer is found along the chain of bases
abbrev pub place_at : Ground → Item → Option Placed
place_at g e = place g.view g.slot e.pointer.vvbn

abbrev pub plain_one : Ground → (Item → Placed → List Spot) → Item → ℕ → List Spot
plain_one g below e block = if e.pointer.stamp == 0 then [] else (e, block) ∷ option_map_or (below e) (place_at g e) []

unfoldable pub plain : Ground → (Item → Placed → List Spot) → ℕ → Item → ℕ → List Spot
plain g cell zero e block = plain_one g cell e block
plain g cell (suc level) e block = plain_one g (λ e x. flat_map (λ c. plain g cell level c x.pvbn) (pointers_under e x)) e block

abbrev pub no_more : Item → Placed → List Spot
no_more e x = []

abbrev pub files_met : Ground → Item → Placed → List Spot
files_met g e x = flat_map (λ c. plain g no_more c.levels c x.pvbn) (pointers_under e x)

-- what a root meets
unfoldable pub met : Ground → ℕ → Rooted → List Spot
met g label r = plain g (files_met g) r.levels (root_item r) label

-- the steps to each of a list
unfoldable pub run : Ground → List Step → List Spot → List Step
run g done [] = done
run g done (p ∷ ps) = run g (done ++ (step g done p.0 p.1 ∷ [])) ps

-- no step has a line
abbrev pub IsClean : List Step → Type 0
IsClean ss = flat_map (λ s. s.lines) ss ≡ []
