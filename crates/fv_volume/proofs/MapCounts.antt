-- How many blocks of maps are written, counted by slots.
use Rattle.std.proofs.Common.{◌≡◌, ℕ, zero, suc, ◌+◌, ◌-◌, ◌*◌, ◌<◌, ◌≤◌, Bool, true, false, [], cond, replicate, ◌&&◌, ◌||◌, ◌==◌, get_or, refl, sym, ap, ◌∙◌, arith}
use Rattle.std.specs.Prelude.{nat_le, nat_lt}
use Rattle.std.proofs.Math.Nat.{mul-le-mul_right}
use Rattle.std.proofs.lemmas.Bool.Decides.{nat_tests}
use Rattle.fv_bits.proofs.Counts.{none_pass, passing, passing-add, passing-suc, passing_same}
use Rattle.fv_model.specs.Numbers.{most_snapshot_blocks, most_snapshots}
use Rattle.fv_model.specs.Space.{map_blocks}
use Rattle.fv_image.specs.Views.{entry_count, map_slot, map_vvbn}
use Rattle.fv_image.proofs.Behind.{map_vvbn_within, slot_there}
use Rattle.fv_volmap.specs.Slots.{stored_count}
use Rattle.fv_volume.specs.declared.state.VolumeState.{VolumeState}
use Rattle.fv_volume.specs.Files.{IsLabelled}
use Rattle.fv_volume.specs.States.{head_in}
use Rattle.fv_volume.specs.Stored.{is_map_written, is_rewritten}
use Rattle.fv_volume.specs.Writing.{map_count, map_wait, map_writes}
use Rattle.fv_volume.proofs.StayingMaps.{none_fresh, none_marked, writes_none}

-- a block of a map is written where its slot's map is
written_is : (x : VolumeState) (j k : ℕ) → j < stored_count → k < map_blocks x.span → is_map_written x (map_vvbn x.span j k) ≡ is_rewritten x j
written_is x j k few within =
    let high = map_vvbn_within x.span j k few within in
    let past : nat_le x.span (map_vvbn x.span j k) ≡ true = grind (arith, nat_tests) in
    let below : nat_lt (map_vvbn x.span j k) (entry_count x.span) ≡ true = grind (arith, nat_tests, high) in
    ap (λ (t : Bool). t && (nat_lt (map_vvbn x.span j k) (entry_count x.span) && is_rewritten x (slot_of j k))) past
    ∙ ap (λ (t : Bool). t && is_rewritten x (slot_of j k)) below ∙ ap (is_rewritten x) (slot_there x.span j k within)
  where
    slot_of : ℕ → ℕ → ℕ
    slot_of j k = map_slot x.span (map_vvbn x.span j k)

all_or_none : (t : Bool) (a n : ℕ) → passing (λ v. t) a n ≡ cond t 1 0 * n
all_or_none true a zero = refl
all_or_none true a (suc n) = let rest : passing (λ v. true) (a + 1) n ≡ 1 * n = all_or_none true (a + 1) n in let first = passing-suc (λ v. true) a n in omega (arith, rest, first)
all_or_none false a n = let zero : 0 * n ≡ 0 = omega arith in none_pass (λ v. false) a n (λ k from. refl) ∙ sym zero

-- the blocks of one slot more
slot_more : (x : VolumeState) (j : ℕ) → j < stored_count → map_writes x (x.span + suc j * map_blocks x.span) ≡ map_writes x (x.span + j * map_blocks x.span) + cond (is_rewritten x j) 1 0 * map_blocks x.span
unfolding map_writes
slot_more x j few =
    let m = map_blocks x.span in
    let base : ℕ = x.span + j * m in
    let next : base + m ≡ x.span + suc j * m = omega arith in
    let one : passing (is_map_written x) (0 + base) m ≡ passing (λ v. is_rewritten x j) 0 m =
    passing_same (is_map_written x) (λ v. is_rewritten x j) (0 + base) 0 m (λ k within. ap (is_map_written x) (let at : (0 + base) + k ≡ map_vvbn x.span j k = omega arith in at) ∙ written_is x j k few within) in
    ap (map_writes x) (sym next) ∙ passing-add (is_map_written x) 0 base m ∙ ap (λ (n : ℕ). map_writes x base + n) (one ∙ all_or_none (is_rewritten x j) 0 m)

-- of the first slots
slots_written : (x : VolumeState) (n : ℕ) → n ≤ stored_count → map_writes x (x.span + n * map_blocks x.span) ≡ passing (is_rewritten x) 0 n * map_blocks x.span
slots_written x zero within = let at : x.span + 0 * map_blocks x.span ≡ x.span = omega arith in let none : 0 * map_blocks x.span ≡ 0 = omega arith in ap (map_writes x) at ∙ writes_none x ∙ sym none
slots_written x (suc n) within =
    let m = map_blocks x.span in
    let before = slots_written x n (omega (arith, within)) in
    let more = slot_more x n (omega (arith, within)) in
    let e : n + 1 ≡ suc n = omega arith in
    let counted : passing (is_rewritten x) 0 (suc n) ≡ passing (is_rewritten x) 0 n + cond (is_rewritten x n) 1 0 = ap (passing (is_rewritten x) 0) (sym e) ∙ passing-add (is_rewritten x) 0 n 1 ∙ ap (λ (k : ℕ). passing (is_rewritten x) 0 n + k) (one_more n) in
    more ∙ ap (λ (k : ℕ). k + cond (is_rewritten x n) 1 0 * m) before ∙ sum_of (passing (is_rewritten x) 0 n) (cond (is_rewritten x n) 1 0) m ∙ ap (λ (k : ℕ). k * m) (sym counted)
  where
    sum_of : (a b m : ℕ) → a * m + b * m ≡ (a + b) * m
    sum_of a b m = omega arith

    one_more : (n : ℕ) → passing (is_rewritten x) (0 + n) 1 ≡ cond (is_rewritten x n) 1 0
    one_more n =
        let first : 0 + n ≡ n = omega arith in
        let none : cond (is_rewritten x (0 + n)) 1 0 + 0 ≡ cond (is_rewritten x (0 + n)) 1 0 = omega arith in
        passing-suc (is_rewritten x) (0 + n) 0 ∙ none ∙ ap (λ (k : ℕ). cond (is_rewritten x k) 1 0) first

-- all blocks of maps that are written
pub writes_counted : (x : VolumeState) → map_writes x (entry_count x.span) ≡ map_count x.fresh * map_blocks x.span
unfolding map_count
writes_counted x = slots_written x stored_count (omega arith)

-- the first slot's is one of them
first_counted : (x : VolumeState) → map_count x.fresh ≡ 1 + passing (is_rewritten x) 1 most_snapshots
unfolding map_count
first_counted x = passing-suc (is_rewritten x) 0 most_snapshots

-- they are as many as are asked for beside the overhead's
pub writes_fit : (x : VolumeState) → map_writes x (entry_count x.span) ≡ (map_count x.fresh - 1) * map_blocks x.span + map_blocks x.span
writes_fit x = writes_counted x ∙ by (map_count x.fresh) (passing (is_rewritten x) 1 most_snapshots) (first_counted x)
  where
    by : (c n : ℕ) → c ≡ 1 + n → c * map_blocks x.span ≡ (c - 1) * map_blocks x.span + map_blocks x.span
    by c n e = rw e (same n (map_blocks x.span))
      where
        same : (n m : ℕ) → (1 + n) * m ≡ ((1 + n) - 1) * m + m
        same n m = let less : (1 + n) - 1 ≡ n = omega arith in rw less (let all : (1 + n) * m ≡ n * m + m = omega arith in all)

none_wait : (x : VolumeState) → ((k : ℕ) → get_or x.fresh k false ≡ false) → map_wait x ≡ 0
none_wait x marked =
    let none : passing (is_rewritten x) 1 most_snapshots ≡ 0 = none_pass (is_rewritten x) 1 most_snapshots later in
    let less : map_count x.fresh - 1 ≡ 0 = omega (arith, none, first_counted x) in
    let nothing : 0 * map_blocks x.span ≡ 0 = omega arith in
    ap (λ (n : ℕ). n * map_blocks x.span) less ∙ nothing
  where
    later : (k : ℕ) → 1 ≤ k → is_rewritten x k ≡ false
    later k from = let other : (k == 0) ≡ false = grind (arith, nat_tests, from) in ap (λ (t : Bool). t || get_or x.fresh k false) other ∙ marked k

-- a volume none of whose maps waits asks for its overhead, as one that was read or written
pub settled_waits : (x : VolumeState) → x.fresh ≡ replicate stored_count false → map_wait x ≡ 0
settled_waits x settled = none_wait x (none_fresh x.fresh settled)

-- or one without snapshots
pub alone_waits : (slot : ℕ) (x : VolumeState) → IsLabelled slot x → (head_in x).snapshots ≡ [] → map_wait x ≡ 0
alone_waits slot x is empty = none_wait x (none_marked slot x is empty)

-- ---- the count by the code

-- a slot more, behind the first
pub waiting_more : (x : VolumeState) (k : ℕ) → 1 ≤ k → passing (is_rewritten x) 1 ((k + 1) - 1) ≡ passing (is_rewritten x) 1 (k - 1) + cond (get_or x.fresh k false) 1 0
waiting_more x k from =
    let e : (k + 1) - 1 ≡ (k - 1) + 1 = omega (arith, from) in
    let here : 1 + (k - 1) ≡ k = omega (arith, from) in
    let other : (k == 0) ≡ false = grind (arith, nat_tests, from) in
    let none : cond (is_rewritten x (1 + (k - 1))) 1 0 + 0 ≡ cond (is_rewritten x (1 + (k - 1))) 1 0 = omega arith in
    ap (passing (is_rewritten x) 1) e ∙ passing-add (is_rewritten x) 1 (k - 1) 1
    ∙ ap (λ (n : ℕ). passing (is_rewritten x) 1 (k - 1) + n) (passing-suc (is_rewritten x) (1 + (k - 1)) 0 ∙ none ∙ ap (λ (n : ℕ). cond (is_rewritten x n) 1 0) here ∙ ap (λ (t : Bool). cond (t || get_or x.fresh k false) 1 0) other)

pub waiting_counted : (x : VolumeState) (count slot : ℕ) → stored_count ≤ slot → slot ≤ stored_count → count ≡ passing (is_rewritten x) 1 (slot - 1) → count ≡ map_count x.fresh - 1
waiting_counted x count slot from to is =
    let all : slot - 1 ≡ most_snapshots = omega (arith, from, to) in
    omega (arith, is, ap (passing (is_rewritten x) 1) all, first_counted x)

-- maps that wait have few blocks
pub few_blocks : (count blocks : ℕ) → count ≤ most_snapshots → blocks ≤ 32 → count * blocks ≤ most_snapshot_blocks
few_blocks count blocks few short = omega (arith, mul-le-mul_right {m = count} {n = most_snapshots} blocks few, short)
