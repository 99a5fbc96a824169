-- A row of four counts by hand: volume 0 has 64 and 63 delayed entries in its regions 0 and 1, volume 1 has 10 and 63 in its regions 0 and 2.
use Rattle.std.proofs.Common.{◌≡◌, ℕ, true, false, List, [], ◌∷◌, refl}
use Rattle.fv_delay.specs.declared.counts.Count.{Count}
use Rattle.fv_delay.specs.declared.regions.Region.{Region}
use Rattle.fv_delay.specs.declared.threshold.Threshold.{Threshold}
use Rattle.fv_delay.specs.Choice.{chosen, regions_counted, while_short}
use Rattle.fv_delay.specs.ByThreshold.{behind, taken_by, takes_some, threshold_below, threshold_for}

abbrev count_of : ℕ → ℕ → ℕ → Count
count_of slot region count = record { slot = slot; region = region; count = count }

abbrev at : ℕ → ℕ → Region
at slot region = record { slot = slot; region = region }

abbrev four : List Count
four = count_of 0 0 64 ∷ (count_of 0 1 63 ∷ (count_of 1 0 10 ∷ (count_of 1 2 63 ∷ [])))

-- the regions of those that are chosen
abbrev taken : ℕ → List Region
taken missing = regions_counted (chosen four missing)

by_missing : (taken 0 ≡ at 0 0 ∷ [])
    × ((taken 64 ≡ at 0 0 ∷ [])
    × ((taken 100 ≡ at 0 0 ∷ (at 0 1 ∷ []))
    × ((taken 127 ≡ at 0 0 ∷ (at 0 1 ∷ []))
    × ((taken 128 ≡ at 0 0 ∷ (at 0 1 ∷ (at 1 2 ∷ [])))
    × (taken 300 ≡ at 0 0 ∷ (at 0 1 ∷ (at 1 2 ∷ (at 1 0 ∷ []))))))))
unfolding chosen while_short
by_missing = (refl, (refl, (refl, (refl, (refl, refl)))))

-- the same by their threshold
abbrev threshold : ℕ → ℕ → Threshold
threshold count left = record { count = count; left = left }

abbrev by_threshold : ℕ → List Region
by_threshold missing = regions_counted (taken_by (threshold_for four missing) four)

bounds : (threshold_for four 0 ≡ threshold 63 0) × ((threshold_for four 127 ≡ threshold 63 63) × (threshold_for four 300 ≡ threshold 0 0))
unfolding threshold_below
bounds = (refl, (refl, refl))

-- those of 300 in the order of the row
by_bound : (by_threshold 0 ≡ at 0 0 ∷ [])
    × ((by_threshold 127 ≡ at 0 0 ∷ (at 0 1 ∷ []))
    × ((by_threshold 128 ≡ at 0 0 ∷ (at 0 1 ∷ (at 1 2 ∷ [])))
    × (by_threshold 300 ≡ at 0 0 ∷ (at 0 1 ∷ (at 1 0 ∷ (at 1 2 ∷ []))))))
unfolding taken_by threshold_below
by_bound = (refl, (refl, (refl, refl)))

-- volume after volume: 127 are found in volume 0, so none of volume 1 is taken, and of 128 its second region is
abbrev first : List Count
first = count_of 0 0 64 ∷ (count_of 0 1 63 ∷ [])

abbrev second : List Count
second = count_of 1 0 10 ∷ (count_of 1 2 63 ∷ [])

behind_first : behind (threshold_for four 127) first ≡ threshold 63 0
unfolding behind threshold_below
behind_first = refl

of_second : (takes_some (behind (threshold_for four 127) first) second ≡ false)
    × ((takes_some (behind (threshold_for four 128) first) second ≡ true)
    × (regions_counted (taken_by (behind (threshold_for four 128) first) second) ≡ at 1 2 ∷ []))
unfolding behind taken_by threshold_below
of_second = (refl, (refl, refl))
