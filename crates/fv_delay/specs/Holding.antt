-- The delayed entries of all volumes: how many there are, which regions have them, and which are left once some regions were reclaimed.
use Rattle.std.specs.Prelude.{◌≡◌, ◌<◌, ℕ, Bool, not, ◌&&◌, ◌==◌, List, [], length, map, filter, flat_map, sum_by, count_by, take, Option, Some, None, nat_lt}
use Rattle.std.specs.List.{list_any, range_with_len}
use Rattle.std.specs.Option.{is_some, option_map_or}
use Rattle.fv_image.specs.Containers.{level_width}
use Rattle.fv_image.specs.Views.{Head, View, entry_count, is_held_in, slots, used_slots, volume_bit}
use Rattle.fv_container.specs.Mapped.{Mapped, entry_under}
use Rattle.fv_volmap.specs.Slots.{Volume, stored_count, taken_in}
use Rattle.fv_delay.specs.declared.counts.Count.{Count}
use Rattle.fv_delay.specs.declared.regions.Region.{Region}
use Rattle.fv_delay.specs.Delay.{delayed_in, delayed_of, is_delayed, is_held, is_used, region_of}
use Rattle.fv_delay.specs.Reclaims.{goes_with}

-- what a volume holds by its maps, and what its container has entries for
pub record Holding : Type 0 where
  pub map : Volume
  pub container : Mapped

-- a volume by its maps and its container
abbrev pub held_by : Volume → Mapped → Holding
held_by map container = record { map = map; container = container }

-- a number of each volume, summed over the slots in use
abbrev pub sum_of : (ℕ → Option Holding) → (ℕ → Holding → ℕ) → ℕ
sum_of volumes number = sum_by (λ s. option_map_or (number s) (volumes s) 0) slots

-- ---- regions of all volumes

-- a region of the volume of a slot with its delayed entries
abbrev pub counted : ℕ → Holding → ℕ → Count
counted slot x region = record { slot = slot; region = region; count = delayed_in x.map x.container region }

abbrev pub has_some : Count → Bool
has_some c = nat_lt 0 c.count

-- the regions of a volume's container
abbrev pub regions_of : Holding → List ℕ
regions_of x = range_with_len 0 (level_width (length x.container.entries) 0)

-- the regions of a volume that have delayed entries, in order
unfoldable pub counts_in : ℕ → Holding → List Count
counts_in slot x = filter has_some (map (counted slot x) (regions_of x))

-- those of all volumes, slot after slot
unfoldable pub counts_of : (ℕ → Option Holding) → List Count
counts_of volumes = flat_map (λ s. option_map_or (counts_in s) (volumes s) []) slots

-- whether a list names a region of a slot
unfoldable pub has_region : List Region → ℕ → ℕ → Bool
has_region regions slot region = list_any (λ r. (r.slot == slot) && (r.region == region)) regions

-- ---- sums

-- the delayed entries of all volumes
unfoldable pub all_delayed : (ℕ → Option Holding) → ℕ
all_delayed volumes = sum_of volumes (λ s x. delayed_of x.map x.container)

-- those that go with some regions by slot and number
unfoldable pub all_given : (ℕ → ℕ → Bool) → (ℕ → Option Holding) → ℕ
all_given regions volumes = sum_of volumes (λ s x. count_by (goes_with x.map x.container (regions s)) (range_with_len 0 (length x.container.entries)))

-- ---- what is left

-- An entry of a volume is delayed now where it was delayed and its region isn't one of those that were reclaimed.
pub record IsLeft (regions : ℕ → Bool) (old new : Holding) : Type 0 where
  pub long : length new.container.entries ≡ length old.container.entries
  pub delayed : (v : ℕ) → is_delayed new.map new.container v ≡ (is_delayed old.map old.container v && not (regions (region_of v)))

-- So it is in each volume, and the same slots are in use.
pub record AreLeft (regions : ℕ → ℕ → Bool) (old new : ℕ → Option Holding) : Type 0 where
  pub free : (s : ℕ) → s < 64 → old s ≡ None → new s ≡ None
  pub each : (s : ℕ) (x : Holding) → s < 64 → old s ≡ Some x → (y : Holding) × ((new s ≡ Some y) × IsLeft (regions s) x y)

-- ---- of a view

-- The maps in memory are those of a volume that an image shows: the same slots are in use, and below the span each number is in some map of
-- the one where it is in some map of the other.
pub record AreMapsOf (w : View) (s : ℕ) (h : Head) (map : Volume) : Type 0 where
  pub span : map.span ≡ h.span
  pub used : (slot : ℕ) → is_used map slot ≡ list_any (λ k. k == slot) (used_slots h)
  pub bits : (v : ℕ) → v < h.span → taken_in (take stored_count map.slots) v ≡ list_any (λ slot. volume_bit w s h.span slot v) (used_slots h)

-- A volume is the one that an image shows: among the numbers of its entries the same are held, and it has an entry just where the image has one.
pub record IsHoldingOf (w : View) (s : ℕ) (h : Head) (x : Holding) : Type 0 where
  pub held : (v : ℕ) → v < entry_count h.span → is_held x.map v ≡ is_held_in w s h v
  pub long : length x.container.entries ≡ entry_count h.span
  pub entries : (v : ℕ) → is_some (entry_under x.container v) ≡ is_some (w.entry s v)

-- Each slot in use has its volume, and no other slot has one.
pub record AreHoldingsOf (w : View) (volumes : ℕ → Option Holding) : Type 0 where
  pub free : (s : ℕ) → s < 64 → w.head s ≡ None → volumes s ≡ None
  pub each : (s : ℕ) (h : Head) → s < 64 → w.head s ≡ Some h → (x : Holding) × ((volumes s ≡ Some x) × IsHoldingOf w s h x)
