-- The slots of a volume, each free or with a set of numbers below the span, and what the calls make of them.
use Rattle.std.specs.Prelude.{◌≡◌, ℕ, ◌<◌, Bool, false, true, not, ◌&&◌, count_by, List, ◌∷◌, length, replicate, take, drop, slice_set, slice_index_or, Option, Some, None, All, IfSome}
use Rattle.std.specs.List.{list_any, range_with_len}
use Rattle.fv_bits.specs.Members.{is_member, count_of, TakesBlock}

-- a free slot, or the members of a used one
abbrev pub Slot : Type 0
Slot = Option (List Bool)

-- slot 0 is the active one, 1 to 24 are snapshots, and 25 is the reach of the base
pub record Volume : Type 0 where
  pub span : ℕ
  pub slots : List Slot

-- how many slots are snapshots'
abbrev pub snapshot_count : ℕ
snapshot_count = 24

abbrev pub slot_count : ℕ
slot_count = 26

-- the slots that stand on the disk: all but the base's
abbrev pub stored_count : ℕ
stored_count = 25

-- the slot of the base
abbrev pub slot_of_base : ℕ
slot_of_base = 25

abbrev pub slot_at : Volume → ℕ → Slot
slot_at volume slot = slice_index_or volume.slots slot None

-- the members of a slot, none where it is free
abbrev pub map_or_empty : ℕ → Slot → List Bool
map_or_empty span None = replicate span false
map_or_empty span (Some map) = map

abbrev pub active_of : Volume → List Bool
active_of volume = map_or_empty volume.span (slot_at volume 0)

-- whether a slot has a number
abbrev pub has : ℕ → Slot → Bool
has v None = false
has v (Some map) = is_member map v

-- whether some slot has a number
abbrev pub taken_in : List Slot → ℕ → Bool
taken_in slots v = list_any (has v) slots

-- what is held is what the active slot has: no snapshot holds a number besides
abbrev pub HoldsActive : Volume → Type 0
HoldsActive volume = (v : ℕ) → taken_in (take stored_count volume.slots) v ≡ is_member (active_of volume) v

-- whether the slot of some snapshot has a number
abbrev pub is_in_snapshot : Volume → ℕ → Bool
is_in_snapshot volume v = taken_in (take snapshot_count (drop 1 volume.slots)) v

-- whether another slot than the active one has a number: that of some snapshot or that of the base
abbrev pub is_elsewhere : Volume → ℕ → Bool
is_elsewhere volume v = taken_in (drop 1 volume.slots) v

-- whether a slot has a number that no other one of these slots has
abbrev pub has_alone : List Slot → ℕ → ℕ → Bool
has_alone slots slot v = has v (slice_index_or slots slot None) && not (taken_in (slice_set slots slot None) v)

-- how many numbers a slot has that no other slot has; what the base reaches is left out
unfoldable pub alone_in : Volume → ℕ → ℕ
alone_in volume slot = count_by (has_alone (take stored_count volume.slots) slot) (range_with_len 0 volume.span)

-- the volume with another slot
abbrev pub with_slot : Volume → ℕ → Slot → Volume
with_slot volume slot map = record { span = volume.span; slots = slice_set volume.slots slot map }

-- a volume without snapshots, base and members
abbrev pub empty_volume : ℕ → Volume
empty_volume span = record { span = span; slots = Some (replicate span false) ∷ replicate stored_count None }

-- what holds of every volume: the active slot is used, and each map is as long as the span
pub record IsVolume (volume : Volume) : Type 0 where
  pub count : length volume.slots ≡ slot_count
  pub active : slot_at volume 0 ≡ Some (active_of volume)
  pub long : All (λ slot. IfSome slot (λ map. length map ≡ volume.span)) volume.slots

-- the bits of one block of a slot's map were taken, and a free slot is used now
pub record Loads (old : Volume) (slot index : ℕ) (block : List ℕ) (new : Volume) : Type 0 where
  pub map : List Bool
  pub volume : new ≡ with_slot old slot (Some map)
  pub taken : TakesBlock (map_or_empty old.span (slot_at old slot)) map index block

-- the slot of the base has what a slot of another volume has, and all other slots stay
pub record TakesBase (old : Volume) (from : Slot) (new : Volume) : Type 0 where
  pub map : List Bool
  pub volume : new ≡ with_slot old slot_of_base (Some map)
  pub base : slot_at new slot_of_base ≡ Some map
  pub long : length map ≡ old.span
  pub members : (v : ℕ) → is_member map v ≡ has v from

-- a map has the members of the used slots that stand on the disk, 0 to 24; what the base reaches is left out
pub record AreUnited (volume : Volume) (map : List Bool) : Type 0 where
  pub len : length map ≡ volume.span
  pub members : (v : ℕ) → is_member map v ≡ taken_in (take stored_count volume.slots) v

-- how many numbers a map has that a slot lacks, all where that is free
abbrev pub count_beside : List Bool → Slot → ℕ
count_beside map None = count_of map
count_beside map (Some base) = count_by (λ v. is_member map v && not (is_member base v)) (range_with_len 0 (length map))

-- so many numbers have the slots that stand on the disk that another slot lacks: that of the base, or none
pub record CountsBeside (volume : Volume) (base : Slot) (count : ℕ) : Type 0 where
  pub union : List Bool
  pub united : AreUnited volume union
  pub count_is : count ≡ count_beside union base

-- v is a number below the span that no slot had, and the active slot has it now
pub record Allocates (old : Volume) (v : ℕ) (new : Volume) : Type 0 where
  pub within : v < old.span
  pub free : taken_in old.slots v ≡ false
  pub volume : new ≡ with_slot old 0 (Some (slice_set (active_of old) v true))
