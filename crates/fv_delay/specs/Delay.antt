-- Delayed entries: those whose block was freed in its volume and not yet in the aggregate. And the regions of a container.
use Rattle.std.specs.Prelude.{◌≡◌, ◌<◌, ◌≤◌, ◌+◌, true, false, get_or, ℕ, ◌*◌, ◌/◌, Bool, not, ◌&&◌, ◌||◌, ◌==◌, List, length, take, count_by, nat_lt, if◌then◌else◌}
use Rattle.std.specs.List.{range_with_len}
use Rattle.std.specs.Option.{is_some}
use Rattle.fv_image.specs.Containers.{fan}
use Rattle.fv_image.specs.Views.{map_slot}
use Rattle.fv_container.specs.Mapped.{Mapped, entry_under}
use Rattle.fv_container.specs.Paged.{Paged, is_here, is_known, is_sure}
use Rattle.fv_volmap.specs.Slots.{Volume, active_of, slot_at, stored_count, taken_in}

-- whether a slot is in use; that of the active table always is
abbrev pub is_used_slot : Volume → ℕ → Bool
is_used_slot map slot = (slot == 0) || is_some (slot_at map slot)

-- whether a slot is in use whose map stands on the disk; that of a clone's base doesn't
abbrev pub is_used : Volume → ℕ → Bool
is_used map slot = nat_lt slot stored_count && is_used_slot map slot

-- Whether a VVBN is held: one of the span where it is in some map. Behind the span stand the blocks of the maps, slot after slot, and their
-- VVBNs are held exactly while the slot is in use.
unfoldable pub is_held : Volume → ℕ → Bool
is_held map v = if nat_lt v map.span then taken_in (take stored_count map.slots) v else is_used map (map_slot map.span v)

-- an entry is delayed where it isn't a hole and its VVBN isn't held
abbrev pub is_delayed : Volume → Mapped → ℕ → Bool
is_delayed map container v = is_some (entry_under container v) && not (is_held map v)

-- ---- regions

-- the region of a VVBN: the entries of one leaf
abbrev pub region_of : ℕ → ℕ
region_of v = v / fan

-- the VVBNs of a region; from the last entry on each is a hole
abbrev pub vvbns_in : ℕ → List ℕ
vvbns_in region = range_with_len (fan * region) fan

-- the VVBNs of a region are held just where the active map has them
abbrev pub HoldsAlone : Volume → ℕ → Type 0
HoldsAlone map region = (v : ℕ) → fan * region ≤ v → v < fan * region + fan → is_held map v ≡ get_or (active_of map) v false

-- the delayed entries of a region
unfoldable pub delayed_in : Volume → Mapped → ℕ → ℕ
delayed_in map container region = count_by (is_delayed map container) (vvbns_in region)

-- the delayed entries of a container
unfoldable pub delayed_of : Volume → Mapped → ℕ
delayed_of map container = count_by (is_delayed map container) (range_with_len 0 (length container.entries))

-- ---- what is in memory

-- Of a region that has entries it is known which of them are holes; its leaf is in memory; what is in memory of it is as the map says. Where the
-- container is clean on the disk, what is known and what is in memory is so.
abbrev pub IsKnownIn : Paged → ℕ → Type 0
IsKnownIn paged region = fan * region < length paged.map.entries → is_known paged region ≡ true

abbrev pub IsHereIn : Paged → ℕ → Type 0
IsHereIn paged region = fan * region < length paged.map.entries → is_here paged region ≡ true

abbrev pub IsSureIn : Paged → ℕ → Type 0
IsSureIn paged region = fan * region < length paged.map.entries → is_sure paged region ≡ true

-- so it is of all regions
abbrev pub AreKnown : Paged → Type 0
AreKnown paged = (region : ℕ) → IsKnownIn paged region

abbrev pub AreSure : Paged → Type 0
AreSure paged = (region : ℕ) → IsSureIn paged region
