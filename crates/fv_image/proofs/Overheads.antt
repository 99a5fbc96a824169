-- A container has as many nodes as its span's overhead counts.
use Rattle.std.proofs.Common.{◌≡◌, ℕ, suc, ◌+◌, ◌<◌, ◌≤◌, [], ◌∷◌, true, false, refl, arith, ⊎_elim, ap, ◌∙◌}
use Rattle.std.specs.Prelude.{nat_le, sum_by, max}
use Rattle.std.specs.List.{range_with_len}
use Rattle.std.proofs.lemmas.List.Sums.{sum_by-cons}
use Rattle.std.proofs.lemmas.Bool.{cases_lt}
use Rattle.std.proofs.lemmas.Bool.Decides.{nat_tests}
use Rattle.fv_model.specs.Numbers.{ceil_div}
use Rattle.fv_model.specs.Space.{map_blocks, leaves, nodes_above, overhead}
use Rattle.fv_image.specs.Containers.{level_width, height_of}
use Rattle.fv_image.specs.Views.{entry_count}

-- the nodes of all levels, from the leaves up to the root
unfoldable pub node_count : ℕ → ℕ
node_count entries = sum_by (level_width entries) (range_with_len 0 (suc (height_of entries)))

-- ---- the nodes above so many leaves

above_small : (fuel n : ℕ) → n ≤ 256 → nodes_above (suc fuel) n ≡ 1
unfolding nodes_above
above_small fuel n small = let test : nat_le n 256 ≡ true = grind (arith, nat_tests) in rw test refl

above_large : (fuel n : ℕ) → 256 < n → nodes_above (suc fuel) n ≡ ceil_div n 256 + nodes_above fuel (ceil_div n 256)
unfolding nodes_above
above_large fuel n large = let test : nat_le n 256 ≡ false = grind (arith, nat_tests) in rw test refl

-- ---- by the height

height_low : (entries : ℕ) → level_width entries 0 ≤ 256 → height_of entries ≡ 1
height_low entries small = let test : nat_le (level_width entries 0) 256 ≡ true = grind (arith, nat_tests) in rw test refl

height_high : (entries : ℕ) → 256 < level_width entries 0 → height_of entries ≡ 2
height_high entries large = let test : nat_le (level_width entries 0) 256 ≡ false = grind (arith, nat_tests) in rw test refl

sum_two : (f : ℕ → ℕ) → sum_by f (range_with_len 0 2) ≡ f 0 + f 1
sum_two f = omega (arith, sum_by-cons f 0 (1 ∷ []), sum_by-cons f 1 [])

sum_three : (f : ℕ → ℕ) → sum_by f (range_with_len 0 3) ≡ f 0 + (f 1 + f 2)
sum_three f = omega (arith, sum_by-cons f 0 (1 ∷ 2 ∷ []), sum_by-cons f 1 (2 ∷ []), sum_by-cons f 2 [])

-- the nodes of a container with one inner level, and with two
low_count : (entries : ℕ) → level_width entries 0 ≤ 256 → node_count entries ≡ level_width entries 0 + level_width entries 1
unfolding node_count
low_count entries small = ap (λ (h : ℕ). sum_by (level_width entries) (range_with_len 0 (suc h))) (height_low entries small) ∙ sum_two (level_width entries)

high_count : (entries : ℕ) → 256 < level_width entries 0 → node_count entries ≡ level_width entries 0 + (level_width entries 1 + level_width entries 2)
unfolding node_count
high_count entries large = ap (λ (h : ℕ). sum_by (level_width entries) (range_with_len 0 (suc h))) (height_high entries large) ∙ sum_three (level_width entries)

-- ---- nodes and overhead

-- a container of two levels at least, whose leaves are n
two_levels : (n : ℕ) → 256 < n → ceil_div n 256 + max 1 (ceil_div (max 1 (ceil_div n 256)) 256) ≤ nodes_above 8 n
two_levels n large = ⊎_elim
    (λ (more : 256 < ceil_div n 256).
    let one = above_large 7 n large in
    let two = above_large 6 (ceil_div n 256) more in
    omega (arith, one, two, more))
    (λ (few : ceil_div n 256 ≤ 256).
    let one = above_large 7 n large in
    let two = above_small 6 (ceil_div n 256) few in
    omega (arith, one, two, few, large))
    (cases_lt 256 (ceil_div n 256))

-- the nodes of a container are at most those of the overhead
pub nodes_within : (span : ℕ) → node_count (entry_count span) ≤ leaves span + nodes_above 8 (leaves span)
nodes_within span = ⊎_elim
    (λ (large : 256 < leaves span).
    omega (arith, high_count (entry_count span) large, two_levels (leaves span) large, large))
    (λ (small : leaves span ≤ 256).
    omega (arith, low_count (entry_count span) small, above_small 7 (leaves span) small, small))
    (cases_lt 256 (leaves span))

-- a label, the nodes of its container and the blocks of its active map
pub overhead_holds : (span : ℕ) → 1 + node_count (entry_count span) + map_blocks span ≤ overhead span
unfolding overhead
overhead_holds span = omega (arith, nodes_within span)
