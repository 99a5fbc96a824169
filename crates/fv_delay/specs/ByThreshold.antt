-- The choice of regions by a threshold, which takes no memory: a number of delayed entries, and how far those regions go that have just so many.
use Rattle.std.specs.Prelude.{◌≡◌, ◌<◌, ℕ, zero, suc, ◌-◌, ◌==◌, min, Bool, true, ◌&&◌, ◌||◌, List, [], ◌∷◌, ◌++◌, Option, filter, flat_map, length, map, get_or, nat_lt, nat_le, if◌then◌else◌}
use Rattle.std.specs.List.{list_all, range_with_len}
use Rattle.std.specs.Option.{option_map_or}
use Rattle.std.specs.Ordering.{nat_cmp, ordering_then, is_lt}
use Rattle.fv_image.specs.Containers.{level_width}
use Rattle.fv_delay.specs.declared.counts.Count.{Count}
use Rattle.fv_delay.specs.declared.threshold.Threshold.{Threshold}
use Rattle.fv_delay.specs.declared.threshold.Table.{Table}
use Rattle.fv_delay.specs.Choice.{full_count, is_full, total}
use Rattle.fv_container.specs.Paged.{Paged}
use Rattle.fv_volmap.specs.Slots.{Volume}
use Rattle.fv_delay.specs.Delay.{IsHereIn, delayed_in}
use Rattle.fv_delay.specs.Holding.{Holding, counted, counts_in, has_some, held_by}

-- ---- what a threshold takes

-- a region with so many delayed entries is taken: it has more than the threshold, or just so many while some of them are to be taken
abbrev pub takes : Threshold → ℕ → Bool
takes t n = nat_lt t.count n || ((n == t.count) && nat_lt 0 t.left)

-- so it is where it has some: a region without isn't taken
abbrev pub takes_delayed : Threshold → ℕ → Bool
takes_delayed t n = nat_lt 0 n && takes t n

-- the threshold for the regions behind one with so many
abbrev pub passed : Threshold → ℕ → Threshold
passed t n = if n == t.count then record t { left = t.left - n } else t

-- what it takes of a row, one after another
unfoldable pub taken_by : Threshold → List Count → List Count
taken_by t [] = []
taken_by t (c ∷ cs) = if takes t c.count then c ∷ taken_by (passed t c.count) cs else taken_by (passed t c.count) cs

-- whether it takes one of them
abbrev pub takes_some : Threshold → List Count → Bool
takes_some t cs = nat_lt 0 (length (taken_by t cs))

-- the threshold behind a row
unfoldable pub behind : Threshold → List Count → Threshold
behind t [] = t
behind t (c ∷ cs) = behind (passed t c.count) cs

-- ---- the threshold for what is missing

-- the regions with just so many
abbrev pub level : ℕ → List Count → List Count
level n cs = filter (λ c. c.count == n) cs

-- Where so many blocks are missing once all regions with more than `n` are taken: the regions with `n` are the last that are wanted
-- where they have the missing ones, and otherwise all of them are taken.
unfoldable pub threshold_below : ℕ → ℕ → List Count → Threshold
threshold_below zero missing cs = record { count = 0; left = 0 }
threshold_below (suc n) missing cs = if nat_le missing (total (level (suc n) cs)) then record { count = suc n; left = missing } else threshold_below n (missing - total (level (suc n) cs)) cs

-- each full one is taken whatever is missing
abbrev pub threshold_for : List Count → ℕ → Threshold
threshold_for cs missing = threshold_below 63 (missing - total (filter is_full cs)) cs

-- ---- the order of a row

-- whether a region is before another: by the slots of their volumes, and in one volume by their numbers
abbrev pub is_before : Count → Count → Bool
is_before a b = is_lt (ordering_then (nat_cmp a.slot b.slot) (nat_cmp a.region b.region))

-- each of a row is before all that stand behind it
abbrev pub ascends : List Count → Bool
ascends [] = true
ascends (c ∷ cs) = list_all (λ d. is_before c d) cs && ascends cs

-- the regions with delayed entries of the volumes of the slots before one
unfoldable pub counts_before : (ℕ → Option Holding) → ℕ → List Count
counts_before volumes slot = flat_map (λ s. option_map_or (counts_in s) (volumes s) []) (range_with_len 0 slot)

-- those with delayed entries in front of a region of a volume, which has a slot
abbrev pub counts_front : ℕ → Holding → ℕ → List Count
counts_front slot x region = filter has_some (map (counted slot x) (range_with_len 0 region))

-- those in front of a region of the volume of a slot: those of the slots before, and those of its own with lesser numbers
unfoldable pub counts_to : (ℕ → Option Holding) → ℕ → Holding → ℕ → List Count
counts_to volumes slot x region = counts_before volumes slot ++ counts_front slot x region

-- ---- the regions of one volume

-- whether a threshold in front of a volume's first region takes a region of it that has delayed entries, asked of one after another
unfoldable pub taken_in : Threshold → Holding → ℕ → Bool
taken_in t x region = takes_delayed (behind t (counts_front 0 x region)) (delayed_in x.map x.container region)

-- It takes each region of a volume that has delayed entries.
abbrev pub TakesAll : Threshold → Holding → Type 0
TakesAll t x = (region : ℕ) → region < level_width (length x.container.entries) 0 → 0 < delayed_in x.map x.container region → taken_in t x region ≡ true

-- The leaves of the regions that it takes are in memory.
abbrev pub AreTakenHere : Threshold → Volume → Paged → Type 0
AreTakenHere t map paged = (region : ℕ) → taken_in t (held_by map paged.map) region ≡ true → IsHereIn paged region

-- ---- the table

-- the greatest number of the table
abbrev pub most_blocks : ℕ
most_blocks = 18446744073709551615

-- The delayed entries of a row, those of its full regions, and for each smaller number those of the regions with just so many, as far as 64 bits go.
pub record IsTable (table : Table) (cs : List Count) : Type 0 where
  pub all : table.all ≡ min (total cs) most_blocks
  pub full : table.full ≡ min (total (filter is_full cs)) most_blocks
  pub partial : (n d : ℕ) → n < full_count → get_or table.partial n d ≡ min (total (level n cs)) most_blocks
