-- Which regions a consistency point reclaims, by how many delayed entries each has and by how many blocks the space rule lacks.
use Rattle.std.specs.Prelude.{ℕ, ◌+◌, Bool, ◌&&◌, List, [], ◌∷◌, ◌++◌, filter, map, sum_by, nat_lt, nat_le, if◌then◌else◌}
use Rattle.std.specs.Ordering.{nat_cmp, ordering_then, is_lt}
use Rattle.std.specs.declared.cmp.Ordering.{Ordering}
use Rattle.fv_delay.specs.declared.counts.Count.{Count}
use Rattle.fv_delay.specs.declared.regions.Region.{Region}

-- so many delayed entries are worth the writing of their leaf, whatever is lacking
abbrev pub full_count : ℕ
full_count = 64

abbrev pub is_full : Count → Bool
is_full c = nat_le full_count c.count

-- a region that has fewer, and some
abbrev pub is_partial : Count → Bool
is_partial c = nat_lt 0 c.count && nat_lt c.count full_count

-- the delayed entries of some regions
abbrev pub total : List Count → ℕ
total cs = sum_by (λ c. c.count) cs

-- ---- the order in which partial regions are taken

-- which of two is taken first: the one with more, at equal counts that of the lower volume slot, and in one volume the lower region
abbrev pub turn : Count → Count → Ordering
turn a b = ordering_then (ordering_then (nat_cmp b.count a.count) (nat_cmp a.slot b.slot)) (nat_cmp a.region b.region)

abbrev pub comes_before : Count → Count → Bool
comes_before a b = is_lt (turn a b)

-- a count put into a row that is in order
abbrev pub placed : Count → List Count → List Count
placed c [] = c ∷ []
placed c (d ∷ ds) = if comes_before d c then d ∷ placed c ds else c ∷ (d ∷ ds)

abbrev pub in_order : List Count → List Count
in_order [] = []
in_order (c ∷ cs) = placed c (in_order cs)

-- ---- what is taken

-- the first of a row, each only while what was taken before sums to less than what is missing
unfoldable pub while_short : ℕ → ℕ → List Count → List Count
while_short taken missing [] = []
while_short taken missing (c ∷ cs) = if nat_lt taken missing then c ∷ while_short (taken + c.count) missing cs else []

-- the partial regions, those with most first
abbrev pub partial : List Count → List Count
partial counts = in_order (filter is_partial counts)

-- The regions that a point reclaims: each full one in the order of the list, and then partial ones as long as the entries of all that were
-- taken are fewer than what is missing. A region without delayed entries is none of them.
unfoldable pub chosen : List Count → ℕ → List Count
chosen counts missing = filter is_full counts ++ while_short (total (filter is_full counts)) missing (partial counts)

-- the region of a count
abbrev pub region_counted : Count → Region
region_counted c = record { slot = c.slot; region = c.region }

abbrev pub regions_counted : List Count → List Region
regions_counted cs = map region_counted cs

-- ---- what isn't taken

-- the rest of a row, behind those that are taken while something is missing
unfoldable pub once_enough : ℕ → ℕ → List Count → List Count
once_enough taken missing [] = []
once_enough taken missing (c ∷ cs) = if nat_lt taken missing then once_enough (taken + c.count) missing cs else c ∷ cs

-- the regions with delayed entries that aren't chosen
unfoldable pub not_chosen : List Count → ℕ → List Count
not_chosen counts missing = once_enough (total (filter is_full counts)) missing (partial counts)
