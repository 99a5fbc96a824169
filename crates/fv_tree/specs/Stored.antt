-- What a tree leads to is as its pointers say.
--
-- An example: a mark leads to VVBN 9, and its PVBN is 40. Then the block under 9 is that of the node of the mark's level and place.
use Rattle.std.specs.Prelude.{◌≡◌, ◌≢◌, ◌≤◌, ℕ, Option, Some}
use Rattle.fv_tree.specs.Spelled.{pointer_at}
use Rattle.fv_tree.specs.Sources.{Shown, Use}
use Rattle.fv_tree.specs.Flushing.{Loaded, Leads, IsNodeOf}

-- The block of each node that is led to names its position.
abbrev pub IsStoredWell : Loaded → Type 0
IsStoredWell s = (level place v : ℕ) → 1 ≤ level → Leads s level place v → IsNodeOf s.tree.owner level place (s.tree.under v)

-- Each pointer that leads to a block tells its place. So it is in a volume of which no place is unknown.
abbrev pub TellsPlaces : Loaded → Type 0
TellsPlaces s = (level place v : ℕ) → Leads s level place v → (pointer_at s.tree level place).pvbn ≢ 0

-- what is in use has its place
abbrev pub HasPlaces : (ℕ → Option Use) → Type 0
HasPlaces used = (v : ℕ) (x : Use) → used v ≡ Some x → x.pvbn ≢ 0

-- so it is after calls, if it was before
abbrev pub KeepsPlaces : Shown → Shown → Type 0
KeepsPlaces old new = HasPlaces old.used → HasPlaces new.used
