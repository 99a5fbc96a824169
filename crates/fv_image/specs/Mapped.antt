-- The maps of a volume in memory against what its roots reach. A map slot is free, or has a set of VVBNs: slot 0 the active table's, and the
-- slots from 1 on those of snapshots.
use Rattle.std.specs.Prelude.{◌≡◌, ◌<◌, ℕ, Bool, true, ◌&&◌, List, [], ◌∷◌, map, Option, Some, None, nat_lt, nat_le, ◌==◌, if◌then◌else◌}
use Rattle.std.specs.List.{list_all}
use Rattle.std.specs.Option.{option_map}
use Rattle.fv_bits.specs.Members.{is_member}
use Rattle.fv_tables.specs.Reached.{items, is_listed}
use Rattle.fv_image.specs.Views.{Rooted, Head, View}
use Rattle.fv_image.specs.Volumes.{standing_of, snap_at}

-- a free slot, or the members of a used one
abbrev pub MapSlot : Type 0
MapSlot = Option (List Bool)

-- the slots that stand in an image: the active one, and 24 for snapshots
abbrev pub stored_slots : ℕ
stored_slots = 25

-- the root of a map slot, where it is used
abbrev pub root_at : Head → ℕ → Option Rooted
root_at h slot = if slot == 0 then Some h.active else option_map (λ p. p.table) (snap_at h slot)

-- a used slot has what its root reaches, and only a slot with a root is used
abbrev pub Matches : View → ℕ → Option Rooted → MapSlot → Type 0
Matches w s None None = Unit {0}
Matches w s None (Some map) = ⊥
Matches w s (Some r) None = ⊥
Matches w s (Some r) (Some map) = (v : ℕ) → is_member map v ≡ is_listed (items (standing_of w s r)) v

-- the maps of a volume are what its roots reach, slot by slot
pub record AreMapped (w : View) (s : ℕ) (h : Head) (maps : ℕ → MapSlot) : Type 0 where
  pub each : (slot : ℕ) → slot < stored_slots → Matches w s (root_at h slot) (maps slot)

-- ---- the slots of snapshots

-- each number is below all behind it
abbrev pub is_rising : List ℕ → Bool
is_rising [] = true
is_rising (n ∷ ns) = list_all (nat_lt n) ns && is_rising ns

-- The snapshots of a head have slots from 1 on, each its own, and stand in their order.
pub record AreInSlots (h : Head) : Type 0 where
  pub within : list_all (λ p. nat_le 1 p.slot && nat_lt p.slot stored_slots) h.snapshots ≡ true
  pub rising : is_rising (map (λ p. p.slot) h.snapshots) ≡ true
