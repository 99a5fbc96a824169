-- What a source says of the volume in which a walk goes.
use Rattle.std.specs.Prelude.{◌≡◌, ℕ, List, Option, Some}
use Rattle.std.specs.Option.{option_map}
use Rattle.fv_image.specs.Views.{Placed}
use Rattle.fv_image.specs.Chains.{place}
use Rattle.fv_faults.specs.Walks.{Ground}
use Rattle.fv_walk.specs.declared.source.Found.{Found}

abbrev pub found_of : Placed → Found
found_of x = record { pvbn = x.pvbn; kind = x.kind }

-- where a VVBN is found along the chain of bases
abbrev pub found_at : Ground → ℕ → Option Found
found_at g vvbn = option_map found_of (place g.view g.slot vvbn)

-- the block of each VVBN that is found at a place
abbrev pub IsBlockAt : Ground → ℕ → List ℕ → Type 0
IsBlockAt g at block = (vvbn : ℕ) (x : Placed) → place g.view g.slot vvbn ≡ Some x → x.pvbn ≡ at → block ≡ x.block
