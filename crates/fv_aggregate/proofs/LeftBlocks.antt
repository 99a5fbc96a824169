-- Blocks that are taken out of a set, and how many are left.
use Rattle.std.proofs.Common.{◌≡◌, ℕ, zero, suc, ◌+◌, ◌-◌, ◌<◌, ◌≤◌, Bool, true, false, cond, not, ◌&&◌, ◌||◌, ◌==◌, List, length, set as put, None, refl, sym, ap, ◌∙◌, inl, arith}
use Rattle.std.specs.Prelude.{nat_eq, sum_by}
use Rattle.std.specs.List.{list_any, range_with_len}
use Rattle.std.specs.FinSet as set
use Rattle.std.specs.Ordering.{nat_cmp}
use Rattle.std.proofs.lemmas.Bool.Decides.{nat_tests}
use Rattle.std.proofs.lemmas.List.{take_all}
use Rattle.std.proofs.lemmas.List.Sums.{sum_by-cons}
use Rattle.fv_bits.specs.Members.{count_between, count_of, is_member}
use Rattle.fv_bits.proofs.Counts.{passing, passing-add, passing_same, none_pass}
use Rattle.fv_bits.proofs.Laws.{is_member-set, is_member_past}
use Rattle.fv_container.specs.Chains.{Slots, paged_at, slot_count}
use Rattle.fv_container.specs.Freeing.{Releases, Takes}
use Rattle.fv_container.specs.Spelled.{names}
use Rattle.fv_container.specs.Written.{HasReleased}
use Rattle.fv_pool.specs.declared.pool.Pool.{Pool}
use Rattle.fv_volume.specs.States.{States, state_at}
use Rattle.fv_aggregate.specs.declared.delays.Left.{Left}
use Rattle.fv_aggregate.specs.Delayed.{LosesThose, blocks_under, has_more, held_by, held_in, is_frame, is_framed, room_left}

-- ---- as a map of blocks of which none is free

pub takes_none : (left : Left) → Takes (room_left left) (room_left left) None
takes_none left = record { none = set.len-empty nat_cmp; some = tt; taken = tt; held = tt; stays = refl; committed = refl }

turned : (a b : Bool) → (a && b) ≡ (b && a)
turned true true = refl
turned true false = refl
turned false true = refl
turned false false = refl

-- a block that is there is taken out,
pub releases : (old : Left) (bits : List Bool) (b : ℕ) → b < length old.blocks → bits ≡ put old.blocks b false → Releases (room_left old) b (room_left (record { blocks = bits }))
releases old bits b within is = record {
  free = inl refl;
  held = λ a. ap (λ (m : List Bool). is_member m a) is ∙ is_member-set old.blocks b false a within ∙ so a (is_member old.blocks a);
  committed = refl;
}
  where
    so : (a : ℕ) (m : Bool) → cond (a == b) false m ≡ (not (nat_eq a b) && m)
    so a m = by (a == b) (nat_eq a b) (alike a b)
      where
        alike : (x y : ℕ) → (x == y) ≡ nat_eq x y
        alike x y = grind (arith, nat_tests)

        by : (t u : Bool) → t ≡ u → cond t false m ≡ (not u && m)
        by true true e = refl
        by false false e = refl
        by true false e = absurd cc
        by false true e = absurd cc

-- and none past the set is
pub releases_past : (old : Left) (b : ℕ) → length old.blocks ≤ b → Releases (room_left old) b (room_left old)
releases_past old b past = record { free = inl refl; held = λ a. so a (is_member old.blocks a) refl; committed = refl }
  where
    so : (a : ℕ) (m : Bool) → is_member old.blocks a ≡ m → m ≡ (not (nat_eq a b) && m)
    so a false e = turned false (not (nat_eq a b))
    so a true e = by (nat_eq a b) refl
      where
        by : (t : Bool) → nat_eq a b ≡ t → true ≡ (not t && true)
        by false is = refl
        by true is =
            let same : a ≡ b = grind (arith, nat_tests, is) in
            let none : is_member old.blocks a ≡ false = is_member_past old.blocks a (omega (arith, same, past)) in
            absurd (wrong (sym e ∙ none))
          where
            wrong : true ≡ false → ⊥
            wrong e = cc

-- the nodes of a tree
pub loses_nodes : (old new : Left) (tree : List ℕ) → HasReleased (room_left old) tree (length tree) (room_left new) → LosesThose old.blocks (names tree) new.blocks
loses_nodes old new tree is = λ b. is.held b ∙ ap (λ (t : List ℕ). not (names t b) && is_member old.blocks b) (take_all (length tree) tree (omega arith)) ∙ turned (not (names tree b)) (is_member old.blocks b)

-- ---- one after another

-- what loses nothing
pub loses_none : (bits : List Bool) (test : ℕ → Bool) → ((b : ℕ) → test b ≡ false) → LosesThose bits test bits
loses_none bits test none b = sym (ap (λ (t : Bool). is_member bits b && not t) (none b) ∙ always (is_member bits b))
  where
    always : (t : Bool) → (t && true) ≡ t
    always true = refl
    always false = refl

pub loses_then : (old mid new : List Bool) (first second : ℕ → Bool) → LosesThose old first mid → LosesThose mid second new → LosesThose old (λ b. first b || second b) new
loses_then old mid new first second a c b = c b ∙ ap (λ (t : Bool). t && not (second b)) (a b) ∙ joined (is_member old b) (first b) (second b)
  where
    joined : (m f s : Bool) → ((m && not f) && not s) ≡ (m && not (f || s))
    joined true true s = refl
    joined true false s = refl
    joined false f s = refl

-- one slot more
any_more : (p : ℕ → Bool) (a n : ℕ) → list_any p (range_with_len a (suc n)) ≡ (list_any p (range_with_len a n) || p (a + n))
any_more p a zero = grouped (p a) ∙ ap (λ (k : ℕ). false || p k) (start a)
  where
    start : (n : ℕ) → n ≡ n + 0
    start n = omega arith

    grouped : (t : Bool) → (t || false) ≡ (false || t)
    grouped true = refl
    grouped false = refl
any_more p a (suc n) = ap (λ (t : Bool). p a || t) (any_more p (a + 1) n) ∙ grouped (p a) (list_any p (range_with_len (a + 1) n)) (p ((a + 1) + n)) ∙ ap (λ (k : ℕ). list_any p (range_with_len a (suc n)) || p k) (next a n)
  where
    next : (m k : ℕ) → (m + 1) + k ≡ m + suc k
    next m k = omega arith

    grouped : (s t u : Bool) → (s || (t || u)) ≡ ((s || t) || u)
    grouped true t u = refl
    grouped false t u = refl

-- a number more, and none before
next_is : (n : ℕ) → n + 1 ≡ suc n
next_is n = omega arith

start_is : (n : ℕ) → 0 + n ≡ n
start_is n = omega arith

any_first : (p : ℕ → Bool) (n : ℕ) → list_any p (range_with_len 0 (n + 1)) ≡ (list_any p (range_with_len 0 n) || p n)
any_first p n = ap (λ (k : ℕ). list_any p (range_with_len 0 k)) (next_is n) ∙ any_more p 0 n ∙ ap (λ (k : ℕ). list_any p (range_with_len 0 n) || p k) (start_is n)

-- at first nothing is taken out
pub framed_none : (bits : List Bool) (states : States) (containers : Slots) → LosesThose bits (is_framed states containers 0) bits
framed_none bits states containers = loses_none bits (is_framed states containers 0) (λ b. refl)

pub framed_more : (old mid new : List Bool) (states : States) (containers : Slots) (n : ℕ) → LosesThose old (is_framed states containers n) mid → LosesThose mid (is_frame (state_at states n) (paged_at containers n)) new
    → LosesThose old (is_framed states containers (n + 1)) new
framed_more old mid new states containers n before one b =
    loses_then old mid new (is_framed states containers n) (is_frame (state_at states n) (paged_at containers n)) before one b
    ∙ ap (λ (t : Bool). is_member old b && not t) (sym (any_first (λ s. is_frame (state_at states s) (paged_at containers s) b) n))

-- ---- sums, slot by slot

sum_more : (f : ℕ → ℕ) (a n : ℕ) → sum_by f (range_with_len a (suc n)) ≡ sum_by f (range_with_len a n) + f (a + n)
sum_more f a zero = let start : f (a + 0) ≡ f a = ap f (none a) in omega (arith, sum_by-cons f a (range_with_len (a + 1) 0), start)
  where
    none : (n : ℕ) → n + 0 ≡ n
    none n = omega arith
sum_more f a (suc n) =
    let moved : f ((a + 1) + n) ≡ f (a + suc n) = ap f (next a n) in
    omega (arith, sum_by-cons f a (range_with_len (a + 1) (suc n)), sum_by-cons f a (range_with_len (a + 1) n), sum_more f (a + 1) n, moved)
  where
    next : (m k : ℕ) → (m + 1) + k ≡ m + suc k
    next m k = omega arith

pub held_none : (states : States) → held_in states 0 ≡ 0
held_none states = refl

pub held_more : (states : States) (n : ℕ) → held_in states (n + 1) ≡ held_in states n + held_by (state_at states n)
held_more states n = ap (held_in states) (next_is n) ∙ sum_more (λ s. held_by (state_at states s)) 0 n ∙ ap (λ (k : ℕ). held_in states n + held_by (state_at states k)) (start_is n)

-- ---- how many are left

-- where two tests answer the same, and none from some numbers on, so many pass as well
pub counted_same : (p q : ℕ → Bool) (m n : ℕ) → ((b : ℕ) → p b ≡ q b) → ((b : ℕ) → m ≤ b → p b ≡ false) → ((b : ℕ) → n ≤ b → q b ≡ false) → passing p 0 m ≡ passing q 0 n
counted_same p q m n same past late =
    let left : passing p 0 (m + n) ≡ passing p 0 m = (let none = none_pass p (0 + m) n (λ k from. past k (omega (arith, from))) in omega (arith, passing-add p 0 m n, none)) in
    let right : passing q 0 (n + m) ≡ passing q 0 n = (let none = none_pass q (0 + n) m (λ k from. late k (omega (arith, from))) in omega (arith, passing-add q 0 n m, none)) in
    sym left ∙ passing_same p q 0 0 (m + n) (λ j lt. same (0 + j)) ∙ ap (passing q 0) (commutes m n) ∙ right
  where
    commutes : (m n : ℕ) → m + n ≡ n + m
    commutes m n = omega arith

-- those that are left are the blocks under entries
pub left_count : (bits : List Bool) (pool : Pool) (states : States) → LosesThose pool.map.next (is_framed states pool.containers slot_count) bits → count_of bits ≡ blocks_under pool states
unfolding blocks_under count_of count_between
left_count bits pool states is = ap (passing (is_member bits) 0) (whole (length bits)) ∙ counted_same (is_member bits) (λ b. is_member pool.map.next b && not (is_framed states pool.containers slot_count b)) (length bits) (length pool.map.next) is
    (λ b past. is_member_past bits b past) (λ b past. ap (λ (t : Bool). t && not (is_framed states pool.containers slot_count b)) (is_member_past pool.map.next b past))
  where
    whole : (n : ℕ) → n - 0 ≡ n
    whole n = omega arith

-- and more than are known are held where the two numbers differ
pub more_is : (pool : Pool) (states : States) (a b : ℕ) → a ≡ blocks_under pool states → b ≡ held_in states slot_count → not (nat_eq a b) ≡ has_more pool states
unfolding has_more
more_is pool states a b under held = (λ i. not (nat_eq (under i) (held i))) ∙ ap not (alike (blocks_under pool states) (held_in states slot_count))
  where
    alike : (x y : ℕ) → nat_eq x y ≡ (x == y)
    alike x y = grind (arith, nat_tests)
