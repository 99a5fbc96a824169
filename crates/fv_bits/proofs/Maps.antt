-- What the words of a map say of its members.
use Rattle.std.proofs.Common.{◌≡◌, ◌≢◌, ℕ, Option, Some, None, IfSome, IfNone, ◌+◌, ◌-◌, ◌*◌, ◌/◌, ◌%◌, ◌<◌, ◌≤◌, List, length, get_or, set, replicate, Bool, true, false, not, cond, ◌==◌, ◌&&◌, ◌||◌, count_by, sym, refl, ap, ap₂, subst, ◌∙◌, inl, inr, arith, length-set}
use Rattle.std.specs.List.{range_with_len}
use Rattle.std.proofs.lemmas.Bool.{cases_eq, cases_lt, true≢false}
use Rattle.std.proofs.lemmas.Bool.Decides.{nat_tests}
use Rattle.std.proofs.lemmas.List.{get_or_past, ext_get_or, length-replicate, get_or-replicate}
use Rattle.std.proofs.lemmas.List.FromFn.{length-map-range_with_len, get_or-map-range_with_len}
use Rattle.fv_bits.specs.Bits.{bit_of_number, block_bits}
use Rattle.fv_bits.specs.Members.{is_member, apart_between, count_between, count_of, HasNoneFrom, IsFirstFree, IsFirstMember, IsFullFrom, IsUnion, IsBlockOf, TakesBlock, IsFirstPast}
use Rattle.fv_bits.specs.Stored.{AreClearFrom, bit_of_words, is_apart, map_of, IsStored, IsFirst, AreSet, IsFirstAbove, HasNoneAbove, PutsBitOf, Unites, HasBitsOf, PutsBlock}
use Rattle.fv_bits.proofs.Numbers.{bit_zero}
use Rattle.fv_bits.proofs.Rows.{bit_at_place, bit_past}
use Rattle.fv_bits.proofs.Counts.{passing_same}
use Rattle.fv_bits.proofs.Laws.{same_maps, is_member-set, zero_at}

pub length-map_of : (len : ℕ) (ws : List ℕ) → length (map_of len ws) ≡ len
unfolding map_of
length-map_of len ws = length-map-range_with_len (bit_of_words ws) 0 len

-- a number is a member exactly where its bit is set
pub member_of : (len : ℕ) (ws : List ℕ) → IsStored len ws → (i : ℕ) → is_member (map_of len ws) i ≡ bit_of_words ws i
unfolding is_member map_of
member_of len ws stored i = elim (cases_lt i len) [
  | inl inside ↦ get_or-map-range_with_len (bit_of_words ws) 0 len i i false inside (omega arith)
  | inr past ↦ get_or_past (map_of len ws) i false (omega (arith, length-map_of len ws)) ∙ sym (stored.clear i past)
]

-- a new map
zero_words : (n b : ℕ) → bit_of_words (replicate n 0) b ≡ false
zero_words n b =
    bit_at_place (replicate n 0) b (b / 64) (b % 64) refl refl ∙ ap (λ m. bit_of_number m (b % 64)) (zero_at n (b / 64)) ∙ bit_zero (b % 64)

pub new_stored : (len n : ℕ) → len ≤ 64 * n → 64 * n < len + 64 → IsStored len (replicate n 0)
new_stored len n enough few =
    let size = length-replicate {A = ℕ} n 0 in
    record { enough = omega (arith, size); few = omega (arith, size); clear = λ b _. zero_words n b }

pub new_map : (len n : ℕ) → map_of len (replicate n 0) ≡ replicate len false
unfolding map_of
new_map len n =
    ext_get_or false (map_of len (replicate n 0)) (replicate len false) (length-map_of len (replicate n 0) ∙ sym (length-replicate len false)) (λ i lt.
    let inside : i < len = omega (arith, length-map_of len (replicate n 0), lt) in
    get_or-map-range_with_len (bit_of_words (replicate n 0)) 0 len i i false inside (omega arith)
    ∙ zero_words n i ∙ sym (get_or-replicate len i false false inside))

-- one bit put to a value
pub put_stored : (len b : ℕ) (v : Bool) (ws new : List ℕ) → IsStored len ws → b < len → PutsBitOf ws b v new → IsStored len new
put_stored len b v ws new stored within puts = record {
  enough = omega (arith, puts.len, stored.enough);
  few = omega (arith, puts.len, stored.few);
  clear = λ k past.
      let test : (k == b) ≡ false = grind (arith, nat_tests) in
      puts.bits k ∙ ap (λ t. cond t v (bit_of_words ws k)) test ∙ stored.clear k past;
}

pub put_map : (len b : ℕ) (v : Bool) (ws new : List ℕ) → IsStored len ws → b < len → PutsBitOf ws b v new → map_of len new ≡ set (map_of len ws) b v
put_map len b v ws new stored within puts =
    let inside : b < length (map_of len ws) = omega (arith, length-map_of len ws) in
    same_maps (map_of len new) (set (map_of len ws) b v) (length-map_of len new ∙ sym (length-set (map_of len ws) b v ∙ length-map_of len ws)) (λ i.
    member_of len new (put_stored len b v ws new stored within puts) i
    ∙ puts.bits i ∙ ap (λ t. cond (i == b) v t) (sym (member_of len ws stored i))
    ∙ sym (is_member-set (map_of len ws) b v i inside))

-- a count
pub count_map : (len : ℕ) (ws : List ℕ) → IsStored len ws → (from to : ℕ) → count_by (bit_of_words ws) (range_with_len from (to - from)) ≡ count_between (map_of len ws) from to
unfolding count_between
count_map len ws stored from to = passing_same (bit_of_words ws) (is_member (map_of len ws)) from from (to - from) (λ j _. sym (member_of len ws stored (from + j)))

pub count_all : (len : ℕ) (ws : List ℕ) → IsStored len ws → count_by (bit_of_words ws) (range_with_len 0 len) ≡ count_of (map_of len ws)
unfolding count_of
count_all len ws stored =
    let size : len ≡ len - 0 = omega arith in
    ap (λ n. count_by (bit_of_words ws) (range_with_len 0 n)) size
    ∙ count_map len ws stored 0 len ∙ ap (count_between (map_of len ws) 0) (sym (length-map_of len ws))

-- a count of what another map hasn't
pub apart_map : (len n : ℕ) (ws os : List ℕ) → IsStored len ws → IsStored n os → (from to : ℕ) → count_by (is_apart ws os) (range_with_len from (to - from)) ≡ apart_between (map_of len ws) (map_of n os) from to
unfolding apart_between is_apart
apart_map len n ws os mine theirs from to =
    passing_same (is_apart ws os) (λ i. is_member (map_of len ws) i && not (is_member (map_of n os) i)) from from (to - from) (λ j _.
    ap₂ (λ s t. s && not t) (sym (member_of len ws mine (from + j))) (sym (member_of n os theirs (from + j))))

-- the first number that is no member
pub free_map : (len : ℕ) (ws : List ℕ) → IsStored len ws → (from at : ℕ) → IsFirst ws false from at → at < len → IsFirstFree (map_of len ws) from at
free_map len ws stored from at first inside = record {
  after = first.after;
  within = omega (arith, length-map_of len ws);
  free = member_of len ws stored at ∙ first.here;
  before = λ k low high. member_of len ws stored k ∙ first.before k low high;
}

pub full_map : (len : ℕ) (ws : List ℕ) → IsStored len ws → (from : ℕ) (r : Option ℕ) → IfNone r (AreSet ws from len) → IfNone r (IsFullFrom (map_of len ws) from)
full_map len ws stored from None all = record {
  full = λ k low high. member_of len ws stored k ∙ all.bits k low (omega (arith, length-map_of len ws, high));
}
full_map len ws stored from (Some at) all = all

pub found_map : (len : ℕ) (ws : List ℕ) → IsStored len ws → (from : ℕ) (r : Option ℕ) → IfSome r (IsFirst ws false from) → IfSome r (λ at. at < len) → IfSome r (IsFirstFree (map_of len ws) from)
found_map len ws stored from None first inside = first
found_map len ws stored from (Some at) first inside = free_map len ws stored from at first inside

-- the first member
pub set_below : (len : ℕ) (ws : List ℕ) (from at : ℕ) → IsStored len ws → IsFirst ws true from at → at < len
set_below len ws from at stored first = elim (cases_lt at len) [
  | inl inside ↦ inside
  | inr past ↦ absurd (true≢false (sym first.here ∙ stored.clear at past))
]

pub first_map : (len : ℕ) (ws : List ℕ) → IsStored len ws → (from : ℕ) (r : Option ℕ) → IfSome r (IsFirst ws true from) → IfSome r (IsFirstMember (map_of len ws) from)
first_map len ws stored from None first = first
first_map len ws stored from (Some at) first = record {
  after = first.after;
  within = omega (arith, length-map_of len ws, set_below len ws from at stored first);
  here = member_of len ws stored at ∙ first.here;
  before = λ k low high. member_of len ws stored k ∙ first.before k low high;
}

pub none_map : (len : ℕ) (ws : List ℕ) → IsStored len ws → (from : ℕ) (r : Option ℕ) → IfNone r (AreClearFrom ws from) → IfNone r (HasNoneFrom (map_of len ws) from)
none_map len ws stored from None clear = record { none = λ k low. member_of len ws stored k ∙ clear.bits k low }
none_map len ws stored from (Some at) clear = clear

-- the union
pub unite_stored : (len : ℕ) (ws os new : List ℕ) → IsStored len ws → IsStored len os → Unites ws os new → IsStored len new
unite_stored len ws os new left right both = record {
  enough = omega (arith, both.len, left.enough);
  few = omega (arith, both.len, left.few);
  clear = λ k past. both.bits k ∙ ap (λ t. t || bit_of_words os k) (left.clear k past) ∙ right.clear k past;
}

pub unite_map : (len : ℕ) (ws os new : List ℕ) → IsStored len ws → IsStored len os → Unites ws os new → IsUnion (map_of len new) (map_of len ws) (map_of len os)
unite_map len ws os new left right both = record {
  len = length-map_of len new ∙ sym (length-map_of len ws);
  members = λ i.
      member_of len new (unite_stored len ws os new left right both) i ∙ both.bits i
      ∙ ap (λ t. t || bit_of_words os i) (sym (member_of len ws left i))
      ∙ ap (λ t. is_member (map_of len ws) i || t) (sym (member_of len os right i));
}

-- a block
pub block_map : (len : ℕ) (ws : List ℕ) (index : ℕ) (block : List ℕ) → IsStored len ws → length block ≡ 4096 → HasBitsOf ws (512 * index) block → IsBlockOf (map_of len ws) index block
block_map len ws index block stored size same = record {
  len = size;
  bits = λ b within.
      let place : 64 * (512 * index) + b ≡ block_bits * index + b = omega arith in
      same.bits b within ∙ ap (bit_of_words ws) place ∙ sym (member_of len ws stored (block_bits * index + b));
}

-- a set bit is in the words
pub first_within : (ws : List ℕ) (from at : ℕ) → IsFirst ws true from at → at < 64 * length ws
first_within ws from at first = elim (cases_lt at (64 * length ws)) [
  | inl inside ↦ inside
  | inr past ↦ absurd (true≢false (sym first.here ∙ bit_past ws at past))
]

-- the first bit of a block past the length
pub above_from : (ws : List ℕ) (index len at : ℕ) → block_bits * index < len → at < block_bits → IsFirst ws true (len - index * 32768) at → IsFirstAbove ws index len (index * 32768 + at)
above_from ws index len at below inside first =
    let rest : (index * 32768 + at) % block_bits ≡ at = omega arith in
    record {
      past = omega (arith, first.after);
      place = omega arith;
      bit = ap (bit_of_words ws) rest ∙ first.here;
      before = λ k low high place. first.before (k % block_bits) (omega arith) (omega arith);
    }

pub past_block : (len index : ℕ) (read block : List ℕ) (at : ℕ) → HasBitsOf read 0 block → IsFirstAbove read index len at → IsFirstPast len index block at
past_block len index read block at same first =
    let zero_first : (b : ℕ) → 64 * 0 + b ≡ b = λ b. omega arith in
    record {
      past = first.past;
      place = first.place;
      bit = same.bits (at % block_bits) (omega arith) ∙ ap (bit_of_words read) (zero_first (at % block_bits)) ∙ first.bit;
      before = λ k low high place. same.bits (k % block_bits) (omega arith) ∙ ap (bit_of_words read) (zero_first (k % block_bits)) ∙ first.before k low high place;
    }

-- a block put in
module _ (len index : ℕ) (ws read new : List ℕ) (stored : IsStored len ws) (puts : PutsBlock ws (512 * index) read new) (none : HasNoneAbove read index len) where
  put_inside : (b : ℕ) → b / block_bits ≡ index → bit_of_words new b ≡ bit_of_words read (b % block_bits)
  put_inside b place = elim (cases_lt (b / 64) (length ws)) [
    | inl there ↦
        let at : 512 * index + b % block_bits / 64 ≡ b / 64 = omega arith in
        bit_at_place new b (512 * index + b % block_bits / 64) (b % 64) (omega arith) refl
        ∙ ap (λ m. bit_of_number m (b % 64)) (puts.inside (b % block_bits / 64) (omega arith) (omega arith))
        ∙ sym (bit_at_place read (b % block_bits) (b % block_bits / 64) (b % 64) refl (omega arith))
    | inr gone ↦
        bit_past new b (omega (arith, puts.len))
        ∙ sym (none.bits (b % block_bits) (omega arith) (omega (arith, stored.enough)))
  ]

  put_outside : (b : ℕ) → b / block_bits ≢ index → bit_of_words new b ≡ bit_of_words ws b
  put_outside b other =
      let same : get_or new (b / 64) 0 ≡ get_or ws (b / 64) 0 = elim (cases_lt (b / 64) (512 * index)) [
        | inl low ↦ puts.before (b / 64) low
        | inr high ↦ puts.behind (b / 64) (omega arith)
      ] in
      bit_at_place new b (b / 64) (b % 64) refl refl ∙ ap (λ m. bit_of_number m (b % 64)) same
      ∙ sym (bit_at_place ws b (b / 64) (b % 64) refl refl)

  pub block_stored : IsStored len new
  block_stored = record {
    enough = omega (arith, puts.len, stored.enough);
    few = omega (arith, puts.len, stored.few);
    clear = λ b past. elim (cases_eq (b / block_bits) index) [
      | inl here ↦ put_inside b here ∙ none.bits (b % block_bits) (omega arith) (omega arith)
      | inr other ↦ put_outside b other ∙ stored.clear b past
    ];
  }

  pub block_taken : (block : List ℕ) → HasBitsOf read 0 block → TakesBlock (map_of len ws) (map_of len new) index block
  block_taken block same = record {
    len = length-map_of len new ∙ sym (length-map_of len ws);
    taken = λ b inside.
        let place : (block_bits * index + b) / block_bits ≡ index = omega arith in
        let rest : (block_bits * index + b) % block_bits ≡ 64 * 0 + b = omega arith in
        member_of len new block_stored (block_bits * index + b) ∙ put_inside (block_bits * index + b) place
        ∙ ap (bit_of_words read) rest ∙ sym (same.bits b inside);
    others = λ i other. member_of len new block_stored i ∙ put_outside i other ∙ sym (member_of len ws stored i);
  }

-- the same of equal maps
pub same_union : {a b c x y z : List Bool} → a ≡ x → b ≡ y → c ≡ z → IsUnion a b c → IsUnion x y z
same_union {a} {b} {c} {x} {y} {z} first second third union =
    subst (λ m. IsUnion x y m) third (subst (λ m. IsUnion x m c) second (subst (λ m. IsUnion m b c) first union))

pub same_taken : {a b x y : List Bool} {index : ℕ} {block : List ℕ} → a ≡ x → b ≡ y → TakesBlock a b index block → TakesBlock x y index block
same_taken {a} {b} {x} {y} {index} {block} first second taken =
    subst (λ m. TakesBlock x m index block) second (subst (λ m. TakesBlock m b index block) first taken)
