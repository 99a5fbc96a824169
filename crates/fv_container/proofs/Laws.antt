-- Laws of containers, for callers.
use Rattle.std.proofs.Common.{◌≡◌, ℕ, zero, suc, ◌+◌, ◌<◌, ◌≤◌, Bool, true, false, not, ◌&&◌, ◌||◌, if◌then◌else◌, [], ◌∷◌, length, get_or, refl, sym, ◌∙◌, arith, ap, ⊎_elim}
use Rattle.std.specs.Prelude.{nat_le, nat_lt}
use Rattle.std.specs.Prelude.{IfSome}
use Rattle.std.proofs.lemmas.Bool.{cases_lt, true≢false}
use Rattle.std.proofs.lemmas.Bool.Decides.{nat_tests}
use Rattle.std.specs.Prelude.{sum_by}
use Rattle.std.specs.List.{range_with_len}
use Rattle.std.proofs.lemmas.List.Sums.{sum_by-cons}
use Rattle.fv_disk.specs.Shown.{Image}
use Rattle.fv_image.specs.Containers.{height_of, level_width, IsShapedTree}
use Rattle.fv_image.proofs.Overheads.{node_count as tree_count}
use Rattle.fv_container.specs.Mapped.{Mapped, node_count}
use Rattle.fv_container.specs.Spelled.{IsOpened, Spelled}
use Rattle.fv_container.specs.Paged.{IsLeafFor, Leaves, Paged, is_as_said, is_sure, leaf_here}
use Rattle.fv_container.specs.Written.{blocks_needed, has_entry, is_above, is_full, may_be_written, may_move, passed_before}
use Rattle.fv_container.proofs.Regions.{full_has}

at_most_one : (t : Bool) → (if t then 1 else 0) ≤ 1
at_most_one true = omega arith
at_most_one false = omega arith

passed_at_most : (test : ℕ → Bool) (n : ℕ) → passed_before test n ≤ n
unfolding passed_before
passed_at_most test zero = omega arith
passed_at_most test (suc n) = omega (arith, passed_at_most test n, at_most_one (test n))

-- of two tests the wider one passes more
pub passed_fewer : (p q : ℕ → Bool) (n : ℕ) → ((m : ℕ) → m < n → p m ≡ true → q m ≡ true) → passed_before p n ≤ passed_before q n
unfolding passed_before
passed_fewer p q zero wider = omega arith
passed_fewer p q (suc n) wider = omega (arith, passed_fewer p q n (λ m lt. wider m (omega (arith, lt))), one (p n) (q n) (wider n (omega arith)))
  where
    one : (a b : Bool) → (a ≡ true → b ≡ true) → (if a then 1 else 0) ≤ (if b then 1 else 0)
    one true b wide = rw (wide refl) (omega arith)
    one false true wide = omega arith
    one false false wide = omega arith

-- a flush writes at most one block for each leaf, each node above them, and a root
pub blocks_at_most : (paged : Paged) → blocks_needed paged ≤ node_count (length paged.map.entries)
blocks_at_most paged = passed_at_most (may_be_written paged) (node_count (length paged.map.entries))

-- ---- the nodes of the tree of so many entries

low_tree : (entries : ℕ) → level_width entries 0 ≤ 256 → tree_count entries ≡ level_width entries 0 + level_width entries 1
unfolding tree_count
low_tree entries small =
    let test : nat_le (level_width entries 0) 256 ≡ true = grind (arith, nat_tests) in
    let height : height_of entries ≡ 1 = rw test refl in
    let sum : tree_count entries ≡ sum_by (level_width entries) (0 ∷ 1 ∷ []) = ap (λ (h : ℕ). sum_by (level_width entries) (range_with_len 0 (suc h))) height in
    omega (arith, sum, sum_by-cons (level_width entries) 0 (1 ∷ []), sum_by-cons (level_width entries) 1 [])

high_tree : (entries : ℕ) → 256 < level_width entries 0 → tree_count entries ≡ level_width entries 0 + (level_width entries 1 + level_width entries 2)
unfolding tree_count
high_tree entries large =
    let test : nat_le (level_width entries 0) 256 ≡ false = grind (arith, nat_tests) in
    let height : height_of entries ≡ 2 = rw test refl in
    let sum : tree_count entries ≡ sum_by (level_width entries) (0 ∷ 1 ∷ 2 ∷ []) = ap (λ (h : ℕ). sum_by (level_width entries) (range_with_len 0 (suc h))) height in
    omega (arith, sum, sum_by-cons (level_width entries) 0 (1 ∷ 2 ∷ []), sum_by-cons (level_width entries) 1 (2 ∷ []), sum_by-cons (level_width entries) 2 [])

-- the root above the second level counts only where that has more than one node
top_is : (paged : Paged) → level_width (length paged.map.entries) 1 ≡ 1 → may_be_written paged (level_width (length paged.map.entries) 0 + 1) ≡ false
unfolding may_be_written
top_is paged one =
    let n = length paged.map.entries in
    let leaf : nat_lt (level_width n 0 + 1) (level_width n 0) ≡ false = grind (arith, nat_tests) in
    let inner : nat_lt (level_width n 0 + 1) (level_width n 0 + 1) ≡ false = grind (arith, nat_tests) in
    rw (leaf, one, inner) refl

-- and at most as many as the container of so many entries has nodes
pub blocks_within : (paged : Paged) → blocks_needed paged ≤ tree_count (length paged.map.entries)
unfolding passed_before
blocks_within paged =
    let n = length paged.map.entries in
    ⊎_elim
    (λ (large : 256 < level_width n 0). omega (arith, high_tree n large, blocks_at_most paged))
    (λ (small : level_width n 0 ≤ 256).
    let one : level_width n 1 ≡ 1 = omega (arith, small) in
    let count : node_count n ≡ suc (level_width n 0 + 1) = omega (arith, one) in
    let last : passed_before (may_be_written paged) (node_count n) ≡ passed_before (may_be_written paged) (level_width n 0 + 1) + 0 = rw count (ap (λ t. passed_before (may_be_written paged) (level_width n 0 + 1) + (if t then 1 else 0)) (top_is paged one)) in
    omega (arith, last, passed_at_most (may_be_written paged) (level_width n 0 + 1), low_tree n small, one))
    (cases_lt 256 (level_width n 0))

-- what a flush may have to write by the leaves in memory, it may by the map
pub moves_needed : (paged : Paged) (held : Leaves) → ((k : ℕ) → IfSome (leaf_here held k) (λ b. IsLeafFor k b.value)) → ((k : ℕ) → is_sure paged k ≡ true → is_as_said paged.map.entries k (leaf_here held k) ≡ true)
    → passed_before (may_move held paged.map.dirty (length paged.map.entries)) (node_count (length paged.map.entries)) ≤ blocks_needed paged
unfolding may_move may_be_written
moves_needed paged held well said = passed_fewer (may_move held paged.map.dirty (length paged.map.entries)) (may_be_written paged) (node_count (length paged.map.entries)) (λ m lt. moves m)
  where
    both : (d f s h : Bool) → (d && f) ≡ true → (s ≡ true → f ≡ true → h ≡ true) → (d && (not s || h)) ≡ true
    both true true true h is full = full refl refl
    both true true false h is full = refl
    both true false s h is full = absurd (true≢false (sym is))
    both false f s h is full = absurd (true≢false (sym is))

    moves : (m : ℕ) → may_move held paged.map.dirty (length paged.map.entries) m ≡ true → may_be_written paged m ≡ true
    moves m is = ⊎_elim
        (λ (low : m < level_width (length paged.map.entries) 0).
        let test : nat_lt m (level_width (length paged.map.entries) 0) ≡ true = grind (arith, nat_tests) in
        rw test (both (get_or paged.map.dirty m true) (is_full (leaf_here held m)) (is_sure paged m) (has_entry paged.map.entries m)
        (sym (ap (λ (t : Bool). if t then (get_or paged.map.dirty m true && is_full (leaf_here held m)) else is_above (length paged.map.entries) m) test) ∙ is)
        (λ sure full. full_has paged.map.entries m (leaf_here held m) (said m sure) (well m) full)))
        (λ (high : level_width (length paged.map.entries) 0 ≤ m).
        let test : nat_lt m (level_width (length paged.map.entries) 0) ≡ false = grind (arith, nat_tests) in
        rw test (sym (ap (λ (t : Bool). if t then (get_or paged.map.dirty m true && is_full (leaf_here held m)) else is_above (length paged.map.entries) m) test) ∙ is))
        (cases_lt m (level_width (length paged.map.entries) 0))

-- a tree that was opened spells its map, where its leaves have their shape, too
pub opened_spells : (i : Image) (root height : ℕ) (map : Mapped) → IsOpened i root height map → IsShapedTree i root height (length map.entries) → Spelled i root height map
opened_spells i root height map is shaped = record { shaped = shaped; entries = is.entries; nodes = is.nodes; places = is.places }
