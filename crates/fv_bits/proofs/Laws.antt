-- Laws of maps, for callers.
use Rattle.std.proofs.Common.{◌≡◌, ℕ, zero, suc, ◌+◌, ◌-◌, ◌*◌, ◌/◌, ◌%◌, ◌<◌, ◌≤◌, ◌⊎◌, List, ◌∷◌, length, get_or, set, replicate, filter, Bool, true, false, cond, ◌==◌, ◌||◌, ◌&&◌, not, sym, refl, ap, ap₂, ◌∙◌, inl, inr, ⊎_elim, arith, length-set, get_or-set_same, get_or-set_other, add-zero}
use Rattle.std.specs.FinSet as set
use Rattle.std.specs.List.{range_with_len}
use Rattle.std.specs.Ordering.{nat_cmp, eq_by_cmp}
use Rattle.std.specs.Cmp.{nat_cmp_total}
use Rattle.std.proofs.lemmas.Bool.{cases_Bool, cases_eq, cases_lt, cases_order, true≢false}
use Rattle.std.proofs.lemmas.Bool.Decides.{nat_tests}
use Rattle.std.proofs.lemmas.List.{get_or_past, ext_get_or, length-replicate, get_or-replicate}
use Rattle.std.proofs.lemmas.Nat.Bits.{bit_at-lt, same_from_bits_below}
use Rattle.fv_bits.specs.Bits.{bit_of_number, bit_of_bytes, bit_of_area, block_bits}
use Rattle.fv_bits.specs.Members.{is_member, count_between, count_of, members_of, IsFirstFree, IsFullFrom, IsUnion, IsBlockOf, TakesBlock}
use Rattle.fv_bits.proofs.Numbers.{bit_zero}
use Rattle.fv_bits.proofs.Bytes.{bit_in_byte}
use Rattle.fv_bits.proofs.Counts.{passing, passing-add, passing-suc, passing_same, passing_le, none_pass}

-- two maps with the same length and the same members are equal
pub same_maps : (left right : List Bool) → length left ≡ length right → ((i : ℕ) → is_member left i ≡ is_member right i) → left ≡ right
unfolding is_member
same_maps left right len same = ext_get_or false left right len (λ i _. same i)

-- no number from the length on is a member
pub is_member_past : (map : List Bool) (i : ℕ) → length map ≤ i → is_member map i ≡ false
unfolding is_member
is_member_past map i past = get_or_past map i false past

-- a new map has its length and no member
pub length_new : (len : ℕ) → length (replicate len false) ≡ len
length_new len = length-replicate len false

pub is_member-replicate : (len i : ℕ) → is_member (replicate len false) i ≡ false
unfolding is_member
is_member-replicate len i = elim (cases_lt i len) [
  | inl inside ↦ get_or-replicate len i false false inside
  | inr past ↦ get_or_past (replicate len false) i false (omega (arith, length-replicate len false))
]

-- the members after a write
pub is_member-set : (map : List Bool) (i : ℕ) (v : Bool) (k : ℕ) → i < length map → is_member (set map i v) k ≡ cond (k == i) v (is_member map k)
unfolding is_member
is_member-set map i v k inside = elim (cases_eq k i) [
  | inl same ↦ grind (arith, nat_tests, get_or-set_same map i v false inside)
  | inr other ↦ grind (arith, nat_tests, get_or-set_other map i k v false other)
]

-- ---- the union

pub same_unions : (one two left right : List Bool) → IsUnion one left right → IsUnion two left right → one ≡ two
same_unions one two left right first second =
    same_maps one two (first.len ∙ sym second.len) (λ i. first.members i ∙ sym (second.members i))

-- a map united into an empty one of its length
pub copied : (map copy : List Bool) → IsUnion copy (replicate (length map) false) map → copy ≡ map
copied map copy union =
    same_maps copy map (union.len ∙ length-replicate (length map) false) (λ i.
    union.members i ∙ ap (λ t. t || is_member map i) (is_member-replicate (length map) i))

-- ---- counts

pub count_between-le : (map : List Bool) (from to : ℕ) → count_between map from to ≤ to - from
unfolding count_between
count_between-le map from to = passing_le (is_member map) from (to - from)

pub count_of-le : (map : List Bool) → count_of map ≤ length map
unfolding count_of
count_of-le map = omega (arith, count_between-le map 0 (length map))

-- ranges that meet
pub count_between-add : (map : List Bool) (from mid to : ℕ) → from ≤ mid → mid ≤ to → count_between map from mid + count_between map mid to ≡ count_between map from to
unfolding count_between
count_between-add map from mid to low high =
    let place : from + (mid - from) ≡ mid = omega arith in
    let size : (mid - from) + (to - mid) ≡ to - from = omega arith in
    sym (passing-add (is_member map) from (mid - from) (to - mid) ∙ ap (λ a. passing (is_member map) from (mid - from) + passing (is_member map) a (to - mid)) place)
    ∙ ap (passing (is_member map) from) size

-- an empty range
pub count_between-none : (map : List Bool) (at : ℕ) → count_between map at at ≡ 0
count_between-none map at = omega (arith, count_between-le map at at)

-- one number
pub count_between-one : (map : List Bool) (at : ℕ) → count_between map at (at + 1) ≡ cond (is_member map at) 1 0
unfolding count_between
count_between-one map at =
    let size : (at + 1) - at ≡ suc 0 = omega arith in
    ap (passing (is_member map) at) size ∙ passing-suc (is_member map) at 0 ∙ add-zero (cond (is_member map at) 1 0)

-- maps that agree on a range
pub count_between_same : (left right : List Bool) (from to : ℕ) → ((i : ℕ) → from ≤ i → i < to → is_member left i ≡ is_member right i) → count_between left from to ≡ count_between right from to
unfolding count_between
count_between_same left right from to same =
    passing_same (is_member left) (is_member right) from from (to - from) (λ j lt. same (from + j) (omega arith) (omega arith))

-- a write outside the range
pub count_between-set_other : (map : List Bool) (i : ℕ) (v : Bool) (from to : ℕ) → i < length map → (i < from) ⊎ (to ≤ i) → count_between (set map i v) from to ≡ count_between map from to
count_between-set_other map i v from to inside apart =
    count_between_same (set map i v) map from to (λ k low high.
    let test : (k == i) ≡ false = grind (arith, nat_tests) in
    is_member-set map i v k inside ∙ ap (λ t. cond t v (is_member map k)) test)

-- a write: the count goes from that of the old bit to that of the new one
pub count_of-set : (map : List Bool) (i : ℕ) (v : Bool) → i < length map → count_of (set map i v) + cond (is_member map i) 1 0 ≡ count_of map + cond v 1 0
unfolding count_of
count_of-set map i v inside =
    let new = set map i v in
    let len = length-set map i v in
    let test : (i == i) ≡ true = grind (arith, nat_tests) in
    let here : is_member new i ≡ v = is_member-set map i v i inside ∙ ap (λ t. cond t v (is_member map i)) test in
    let old_front = count_between-add map 0 i (length map) (omega arith) (omega arith) in
    let new_front = count_between-add new 0 i (length map) (omega arith) (omega arith) in
    let old_back = count_between-add map i (i + 1) (length map) (omega arith) (omega arith) in
    let new_back = count_between-add new i (i + 1) (length map) (omega arith) (omega arith) in
    let low = count_between-set_other map i v 0 i inside (inr (omega arith)) in
    let high = count_between-set_other map i v (i + 1) (length map) inside (inl (omega arith)) in
    let old_one = count_between-one map i in
    let new_one : count_between new i (i + 1) ≡ cond v 1 0 = count_between-one new i ∙ ap {B = ℕ} (λ t. cond t 1 0) here in
    let all : count_between new 0 (length new) ≡ count_between new 0 (length map) = ap (count_between new 0) len in
    omega (arith, all, old_front, new_front, old_back, new_back, low, high, old_one, new_one)

-- a number that was absent is added, and one that was present is taken out
pub count_of-set_absent : (map : List Bool) (i : ℕ) → i < length map → is_member map i ≡ false → count_of (set map i true) ≡ count_of map + 1
count_of-set_absent map i inside absent = omega (arith, count_of-set map i true inside, ap {B = ℕ} (λ t. cond t 1 0) absent)

pub count_of-clear_present : (map : List Bool) (i : ℕ) → i < length map → is_member map i ≡ true → count_of (set map i false) + 1 ≡ count_of map
count_of-clear_present map i inside present = omega (arith, count_of-set map i false inside, ap {B = ℕ} (λ t. cond t 1 0) present)

-- a map without members
pub count_of-replicate : (len : ℕ) → count_of (replicate len false) ≡ 0
unfolding count_of count_between
count_of-replicate len = none_pass (is_member (replicate len false)) 0 (length (replicate len false) - 0) (λ k _. is_member-replicate len k)

-- a map with all numbers
all_pass : (p : ℕ → Bool) (a n : ℕ) → ((k : ℕ) → a ≤ k → k < a + n → p k ≡ true) → passing p a n ≡ n
all_pass p a zero all = refl
all_pass p a (suc n) all =
    let first = ap {B = ℕ} (λ t. cond t 1 0) (all a (omega arith) (omega arith)) in
    let rest = all_pass p (a + 1) n (λ k low high. all k (omega arith) (omega arith)) in
    omega (arith, passing-suc p a n, first, rest)

pub count_between_full : (map : List Bool) (from : ℕ) → IsFullFrom map from → count_between map from (length map) ≡ length map - from
unfolding count_between
count_between_full map from all = all_pass (is_member map) from (length map - from) (λ k low high. all.full k low (omega arith))

-- ---- the first number that is no member

pub same_first_free : (map : List Bool) (from i j : ℕ) → IsFirstFree map from i → IsFirstFree map from j → i ≡ j
same_first_free map from i j one two = elim (cases_order i j) [
  | inl same ↦ same
  | inr apart ↦ elim apart [
    | inl low ↦ absurd (true≢false (sym (two.before i one.after low) ∙ one.free))
    | inr high ↦ absurd (true≢false (sym (one.before j two.after high) ∙ two.free))
  ]
]

pub not_full : (map : List Bool) (from i : ℕ) → IsFirstFree map from i → IsFullFrom map from → ⊥
not_full map from i free full = true≢false (sym (full.full i free.after free.within) ∙ free.free)

-- where fewer than all are members, one below the length is free
pub free_where_fewer : (map : List Bool) → count_of map < length map → IsFullFrom map 0 → ⊥
unfolding count_of
free_where_fewer map fewer full = omega (arith, fewer, count_between_full map 0 full)

-- ---- blocks

-- a block that was written and is read back gives the same members
pub read_back : (map old new : List Bool) (index : ℕ) (block : List ℕ) → IsBlockOf map index block → TakesBlock old new index block → (i : ℕ) → i / block_bits ≡ index → is_member new i ≡ is_member map i
read_back map old new index block wrote took i place =
    let at : block_bits * index + i % block_bits ≡ i = omega arith in
    ap (is_member new) (sym at) ∙ took.taken (i % block_bits) (omega arith)
    ∙ wrote.bits (i % block_bits) (omega arith) ∙ ap (is_member map) at

-- zeros are zero everywhere
pub zero_at : (n k : ℕ) → ◌≡◌ {A = ℕ} (get_or (replicate n 0) k 0) 0
zero_at n k = elim (cases_lt k n) [
  | inl inside ↦ get_or-replicate n k 0 0 inside
  | inr past ↦ get_or_past (replicate n 0) k 0 (omega (arith, length-replicate {A = ℕ} n 0))
]

-- a block of zeros has no member
pub zero_block : (n b : ℕ) → bit_of_bytes (replicate n 0) b ≡ false
zero_block n b =
    bit_in_byte (replicate n 0) b (b / 8) (b % 8) refl refl ∙ ap (λ m. bit_of_number m (b % 8)) (zero_at n (b / 8)) ∙ bit_zero (b % 8)

pub takes_zeros : (old new : List Bool) (index n : ℕ) → TakesBlock old new index (replicate n 0) → (i : ℕ) → i / block_bits ≡ index → is_member new i ≡ false
takes_zeros old new index n took i place =
    let at : block_bits * index + i % block_bits ≡ i = omega arith in
    ap (is_member new) (sym at) ∙ took.taken (i % block_bits) (omega arith) ∙ zero_block n (i % block_bits)

-- bytes are known by their bits
pub same_bytes : (left right : List ℕ) → length left ≡ length right → ((k : ℕ) → get_or left k 0 < 256) → ((k : ℕ) → get_or right k 0 < 256) → ((b : ℕ) → b < 8 * length left → bit_of_bytes left b ≡ bit_of_bytes right b) → left ≡ right
unfolding bit_of_number
same_bytes left right len low high same =
    ext_get_or 0 left right len (λ k inside. same_from_bits_below 8 (get_or left k 0) (get_or right k 0) (omega (arith, low k)) (omega (arith, high k)) (λ j lt.
    let one = sym (bit_in_byte left (8 * k + j) k j (omega arith) (omega arith)) ∙ same (8 * k + j) (omega arith) ∙ bit_in_byte right (8 * k + j) k j (omega arith) (omega arith) in
    grind (arith, nat_tests, one, bit_at-lt (get_or left k 0) j, bit_at-lt (get_or right k 0) j)))

-- a map has one block at each place
pub same_block : (map : List Bool) (index : ℕ) (left right : List ℕ) → ((k : ℕ) → get_or left k 0 < 256) → ((k : ℕ) → get_or right k 0 < 256) → IsBlockOf map index left → IsBlockOf map index right → left ≡ right
same_block map index left right low high one two =
    same_bytes left right (one.len ∙ sym two.len) low high (λ b inside.
    let within : b < block_bits = omega (arith, one.len) in
    one.bits b within ∙ sym (two.bits b within))

-- an area whose blocks are those of a map has its members as bits
pub bit_of_area_map : (area : ℕ → List ℕ) (map : List Bool) (i : ℕ) → IsBlockOf map (i / block_bits) (area (i / block_bits)) → bit_of_area area i ≡ is_member map i
unfolding bit_of_area
bit_of_area_map area map i block =
    let at : block_bits * (i / block_bits) + i % block_bits ≡ i = omega arith in
    block.bits (i % block_bits) (omega arith) ∙ ap (is_member map) at

-- where a block was taken, no bit past the length was set
pub none_past : (old new : List Bool) (index : ℕ) (block : List ℕ) → TakesBlock old new index block → (b : ℕ) → b < block_bits → length old ≤ block_bits * index + b → bit_of_bytes block b ≡ false
none_past old new index block took b inside past =
    sym (took.taken b inside) ∙ is_member_past new (block_bits * index + b) (omega (arith, took.len))

-- a map that takes the blocks of an area one by one has its bits so far
pub taken_more : (area : ℕ → List ℕ) (old new : List Bool) (index : ℕ) → TakesBlock old new index (area index) → ((i : ℕ) → i < block_bits * index → is_member old i ≡ bit_of_area area i) → (i : ℕ) → i < block_bits * (index + 1) → is_member new i ≡ bit_of_area area i
unfolding bit_of_area
taken_more area old new index took done i within = elim (cases_eq (i / block_bits) index) [
  | inl here ↦
      let at : block_bits * index + i % block_bits ≡ i = omega arith in
      ap (is_member new) (sym at) ∙ took.taken (i % block_bits) (omega arith) ∙ ap (λ n. bit_of_bytes (area n) (i % block_bits)) (sym here)
  | inr other ↦ took.others i other ∙ done i (omega arith)
]

-- ---- the finite set of the members

or_as_cond : (t m : Bool) → (t || m) ≡ cond t true m
or_as_cond true m = refl
or_as_cond false m = refl

and_as_cond : (t m : Bool) → (not t && m) ≡ cond t false m
and_as_cond true m = refl
and_as_cond false m = refl

abbrev numbers : (ℕ → Bool) → ℕ → ℕ → set.FinSet nat_cmp
numbers p a n = set.from_list (filter p (range_with_len a n))

filter_first : (p : ℕ → Bool) (a : ℕ) (ks : List ℕ) (t : Bool) → p a ≡ t → set.from_list {R = nat_cmp} (filter p (a ∷ ks)) ≡ cond t (set.insert (set.from_list (filter p ks)) a) (set.from_list (filter p ks))
filter_first p a ks true is = ap (λ t. set.from_list {R = nat_cmp} (cond t (a ∷ filter p ks) (filter p ks))) is
filter_first p a ks false is = ap (λ t. set.from_list {R = nat_cmp} (cond t (a ∷ filter p ks) (filter p ks))) is

tied : (q k : ℕ) → eq_by_cmp nat_cmp q k ≡ (q == k)
tied q k = grind (arith, nat_tests)

contains_at : (p : ℕ → Bool) (a n q : ℕ) (t : Bool) → p a ≡ t → set.contains (numbers p a (suc n)) q ≡ cond t ((q == a) || set.contains (numbers p (a + 1) n) q) (set.contains (numbers p (a + 1) n) q)
contains_at p a n q true is =
    ap (λ s. set.contains s q) (filter_first p a (range_with_len (a + 1) n) true is)
    ∙ set.contains-insert nat_cmp_total (numbers p (a + 1) n) a q ∙ ap (λ t. t || set.contains (numbers p (a + 1) n) q) (tied q a)
contains_at p a n q false is = ap (λ s. set.contains s q) (filter_first p a (range_with_len (a + 1) n) false is)

outside_numbers : (p : ℕ → Bool) (a n q : ℕ) → (q < a) ⊎ (a + n ≤ q) → set.contains (numbers p a n) q ≡ false
outside_numbers p a zero q out = set.contains-empty nat_cmp q
outside_numbers p a (suc n) q out =
    let apart : (q < a + 1) ⊎ ((a + 1) + n ≤ q) = ⊎_elim (λ low. inl (omega arith)) (λ high. inr (omega arith)) out in
    let test : (q == a) ≡ false = grind (arith, nat_tests, out) in
    let rest = outside_numbers p (a + 1) n q apart in
    ⊎_elim (λ is. contains_at p a n q true is ∙ ap₂ ◌||◌ test rest) (λ is. contains_at p a n q false is ∙ rest) (cases_Bool (p a))

among_numbers : (p : ℕ → Bool) (a n q : ℕ) → a ≤ q → q < a + n → set.contains (numbers p a n) q ≡ p q
among_numbers p a zero q low high = absurd (omega arith)
among_numbers p a (suc n) q low high = elim (cases_eq q a) [
  | inl here ↦
      let test : (q == a) ≡ true = grind (arith, nat_tests) in
      let rest = outside_numbers p (a + 1) n q (inl (omega arith)) in
      ⊎_elim (λ is. contains_at p a n q true is ∙ ap (λ t. t || set.contains (numbers p (a + 1) n) q) test ∙ sym (ap p here ∙ is)) (λ is. contains_at p a n q false is ∙ rest ∙ sym (ap p here ∙ is)) (cases_Bool (p a))
  | inr other ↦
      let test : (q == a) ≡ false = grind (arith, nat_tests) in
      let rest = among_numbers p (a + 1) n q (omega arith) (omega arith) in
      ⊎_elim (λ is. contains_at p a n q true is ∙ ap (λ t. t || set.contains (numbers p (a + 1) n) q) test ∙ rest) (λ is. contains_at p a n q false is ∙ rest) (cases_Bool (p a))
]

len_numbers : (p : ℕ → Bool) (a n : ℕ) → set.len (numbers p a n) ≡ passing p a n
len_numbers p a zero = set.len-empty nat_cmp
len_numbers p a (suc n) =
    let fresh = outside_numbers p (a + 1) n a (inl (omega arith)) in
    let rest = len_numbers p (a + 1) n in
    ⊎_elim (λ is.
    let grown : set.len (numbers p a (suc n)) ≡ set.len (numbers p (a + 1) n) + 1 =
    ap set.len (filter_first p a (range_with_len (a + 1) n) true is)
    ∙ set.len-insert nat_cmp_total (numbers p (a + 1) n) a ∙ ap (λ t. cond t (set.len (numbers p (a + 1) n)) (set.len (numbers p (a + 1) n) + 1)) fresh in
    omega (arith, grown, rest, passing-suc p a n, ap {B = ℕ} (λ t. cond t 1 0) is)) (λ is.
    let same = ap set.len (filter_first p a (range_with_len (a + 1) n) false is) in
    omega (arith, same, rest, passing-suc p a n, ap {B = ℕ} (λ t. cond t 1 0) is)) (cases_Bool (p a))

pub contains-members_of : (map : List Bool) (i : ℕ) → set.contains (members_of map) i ≡ is_member map i
unfolding members_of
contains-members_of map i = elim (cases_lt i (length map)) [
  | inl inside ↦ among_numbers (is_member map) 0 (length map) i (omega arith) (omega arith)
  | inr past ↦ outside_numbers (is_member map) 0 (length map) i (inr (omega arith)) ∙ sym (is_member_past map i past)
]

pub len-members_of : (map : List Bool) → set.len (members_of map) ≡ count_of map
unfolding members_of count_of count_between
len-members_of map =
    let size : length map ≡ length map - 0 = omega arith in
    len_numbers (is_member map) 0 (length map) ∙ ap (passing (is_member map) 0) size

-- the set after each call
module _ (map : List Bool) where
  pub members_of-set : (i : ℕ) → i < length map → members_of (set map i true) ≡ set.insert (members_of map) i
  members_of-set i inside =
      set.same_set nat_cmp_total set.nat_cmp-IsAntisymmetric (members_of (set map i true)) (set.insert (members_of map) i) (λ q.
      contains-members_of (set map i true) q ∙ is_member-set map i true q inside
      ∙ sym (set.contains-insert nat_cmp_total (members_of map) i q ∙ ap₂ ◌||◌ (tied q i) (contains-members_of map q) ∙ or_as_cond (q == i) (is_member map q)))

  pub members_of-clear : (i : ℕ) → i < length map → members_of (set map i false) ≡ set.remove (members_of map) i
  members_of-clear i inside =
      set.same_set nat_cmp_total set.nat_cmp-IsAntisymmetric (members_of (set map i false)) (set.remove (members_of map) i) (λ q.
      contains-members_of (set map i false) q ∙ is_member-set map i false q inside
      ∙ sym (set.contains-remove nat_cmp_total (members_of map) i q ∙ ap₂ (λ s t. not s && t) (tied q i) (contains-members_of map q) ∙ and_as_cond (q == i) (is_member map q)))

pub members_of-union : (map left right : List Bool) → IsUnion map left right → members_of map ≡ set.union (members_of left) (members_of right)
members_of-union map left right union =
    set.same_set nat_cmp_total set.nat_cmp-IsAntisymmetric (members_of map) (set.union (members_of left) (members_of right)) (λ q.
    contains-members_of map q ∙ union.members q
    ∙ sym (set.contains-union nat_cmp_total (members_of left) (members_of right) q ∙ ap₂ ◌||◌ (contains-members_of left q) (contains-members_of right q)))

pub members_of-replicate : (len : ℕ) → members_of (replicate len false) ≡ set.empty
members_of-replicate len =
    set.same_set nat_cmp_total set.nat_cmp-IsAntisymmetric (members_of (replicate len false)) set.empty (λ q.
    contains-members_of (replicate len false) q ∙ is_member-replicate len q ∙ sym (set.contains-empty nat_cmp q))

-- two maps with the same length and the same set are equal
pub same_members : (left right : List Bool) → length left ≡ length right → members_of left ≡ members_of right → left ≡ right
same_members left right len same =
    same_maps left right len (λ i. sym (contains-members_of left i) ∙ ap (λ s. set.contains s i) same ∙ contains-members_of right i)

-- the laws of members and of counts, for `grind` and `search`
pub ruleset member_laws = (length_new, is_member_past, is_member-replicate, is_member-set, contains-members_of)

pub ruleset count_laws = (length_new, count_of-le, count_between-le, count_between-add, count_between-none, count_between-one, count_of-set_absent, count_of-clear_present, count_of-replicate, len-members_of)

pub ruleset set_laws = (members_of-set, members_of-clear, members_of-union, members_of-replicate)
