-- Blocks that were taken and are marked, and that are given back.
use Rattle.std.proofs.Common.{◌≡◌, ◌≢◌, ℕ, ◌+◌, ◌<◌, ◌≤◌, Bool, true, false, not, ◌&&◌, ◌||◌, ◌==◌, cond, List, length, true≢false, refl, sym, ap, subst, ◌∙◌, ⊎_elim, arith}
use Rattle.std.specs.Prelude.{nat_lt, replicate, slice_set}
use Rattle.std.proofs.lemmas.Bool.{cases_eq, cases_lt}
use Rattle.std.proofs.lemmas.List.{length-set}
use Rattle.std.proofs.Math.Bool.{or_comm}
use Rattle.std.proofs.lemmas.Bool.Decides.{nat_tests}
use Rattle.fv_bits.specs.Members.{is_member, HasNoneFrom, IsFirstMember}
use Rattle.fv_bits.proofs.Laws.{length_new, is_member-replicate, is_member-set, same_maps}
use Rattle.fv_aggmap.specs.Giving.{HasGiven}
use Rattle.fv_aggmap.specs.Space.{Space, IsFree, IsFreeIn, blocks_of}
use Rattle.fv_aggmap.proofs.Giving.{given_then, not_so}
use Rattle.fv_container.specs.Spelled.{is_at}
use Rattle.fv_model.specs.Machines.{first_block}
use Rattle.fv_copies.specs.Landings.{AreMarked, AreUnmarked, TakesMarked}

-- ---- the first places that are marked

-- a place below a number is marked
abbrev pub marked_below : List Bool → ℕ → ℕ → Bool
marked_below marks n b = nat_lt b n && is_member marks b

and_off : (t : Bool) → (t && false) ≡ false
and_off true = refl
and_off false = refl

pub below_none : (marks : List Bool) (b : ℕ) → marked_below marks 0 b ≡ false
below_none marks b = let none : nat_lt b 0 ≡ false = grind (arith, nat_tests) in ap (λ (t : Bool). t && is_member marks b) none

-- another block lies below the next one where it lies below this one
same_below : (b n : ℕ) → b ≢ n → nat_lt b (n + 1) ≡ nat_lt b n
same_below b n other = ⊎_elim
    (λ (low : b < n). (let one : nat_lt b (n + 1) ≡ true = grind (arith, nat_tests, low) in one) ∙ sym (let two : nat_lt b n ≡ true = grind (arith, nat_tests, low) in two))
    (λ (high : n ≤ b). (let one : nat_lt b (n + 1) ≡ false = grind (arith, nat_tests, high, other) in one) ∙ sym (let two : nat_lt b n ≡ false = grind (arith, nat_tests, high) in two))
    (cases_lt b n)

-- one that is marked more
pub below_more : (marks : List Bool) (n b : ℕ) → is_member marks n ≡ true → marked_below marks (n + 1) b ≡ (marked_below marks n b || (b == n))
below_more marks n b on = ⊎_elim
    (λ (same : b ≡ n).
    let low : nat_lt b (n + 1) ≡ true = grind (arith, nat_tests, same) in
    let test : (b == n) ≡ true = grind (arith, nat_tests, same) in
    (λ j. low j && (ap (is_member marks) same ∙ on) j) ∙ sym (ap (λ (t : Bool). marked_below marks n b || t) test ∙ or_comm (marked_below marks n b) true))
    (λ (other : b ≢ n).
    let test : (b == n) ≡ false = grind (arith, nat_tests, other) in
    ap (λ (t : Bool). t && is_member marks b) (same_below b n other) ∙ sym (ap (λ (t : Bool). marked_below marks n b || t) test ∙ or_comm (marked_below marks n b) false))
    (cases_eq b n)

-- between a place and the next one that is marked none is
pub below_next : (marks : List Bool) (n next b : ℕ) → IsFirstMember marks n next → marked_below marks next b ≡ marked_below marks n b
below_next marks n next b first = ⊎_elim
    (λ (low : b < n).
    let far : b < next = omega (arith, low, first.after) in
    let under : nat_lt b next ≡ true = grind (arith, nat_tests, far) in
    let test : nat_lt b n ≡ true = grind (arith, nat_tests, low) in
    ap (λ (t : Bool). t && is_member marks b) (under ∙ sym test))
    (λ (high : n ≤ b).
    let test : nat_lt b n ≡ false = grind (arith, nat_tests, high) in
    ⊎_elim
    (λ (near : b < next). ap (λ (t : Bool). nat_lt b next && t) (first.before b high near) ∙ and_off (nat_lt b next) ∙ sym (ap (λ (t : Bool). t && is_member marks b) test))
    (λ (past : next ≤ b).
    let over : nat_lt b next ≡ false = grind (arith, nat_tests, past) in
    ap (λ (t : Bool). t && is_member marks b) (over ∙ sym test))
    (cases_lt b next))
    (cases_lt b n)

-- and behind the last one there is none
pub below_last : (marks : List Bool) (n b : ℕ) → HasNoneFrom marks n → is_member marks b ≡ marked_below marks n b
below_last marks n b last = ⊎_elim
    (λ (low : b < n).
    let test : nat_lt b n ≡ true = grind (arith, nat_tests, low) in
    sym (ap (λ (t : Bool). t && is_member marks b) test))
    (λ (high : n ≤ b).
    let off : is_member marks b ≡ false = last.none b high in
    off ∙ sym (ap (λ (t : Bool). nat_lt b n && t) off ∙ and_off (nat_lt b n)))
    (cases_lt b n)

-- it is given back, as the first places that are marked were
pub marked_given : (marks : List Bool) (n : ℕ) (old mid new : Space) → is_member marks 0 ≡ false → is_member marks n ≡ true → HasGiven old (marked_below marks n) mid → HasGiven mid (λ b. is_at b n) new → HasGiven old (marked_below marks (n + 1)) new
marked_given marks n old mid new none on before gave =
    let some : n ≢ 0 = λ first. true≢false (sym on ∙ ap (is_member marks) first ∙ none) in
    given_then old mid new (marked_below marks n) (λ b. is_at b n) (marked_below marks (n + 1))
    (λ b. below_more marks n b on ∙ ap (λ (t : Bool). marked_below marks n b || t) (at_same b n some)) before gave
  where
    at_same : (b n : ℕ) → n ≢ 0 → (b == n) ≡ is_at b n
    at_same b n some = grind (arith, nat_tests, some)

-- ---- what was taken

or_left : (a b : Bool) → (a || b) ≡ false → a ≡ false
or_left true b is = is
or_left false b is = refl

or_right : (a b : Bool) → (a || b) ≡ false → b ≡ false
or_right true b is = absurd (true≢false is)
or_right false b is = is

or_none : (a b : Bool) → a ≡ false → b ≡ false → (a || b) ≡ false
or_none a b first second = ap (λ (t : Bool). t || b) first ∙ second

-- a member of a row with one more is that one or was a member
set_at : (xs : List Bool) (i k : ℕ) → i < length xs → is_member (slice_set xs i true) k ≡ cond (k == i) true (is_member xs k)
set_at xs i k low = is_member-set xs i true k low

cond_off : (t y : Bool) → cond t true y ≡ false → y ≡ false
cond_off true y is = absurd (true≢false is)
cond_off false y is = is

pub set_more : (xs : List Bool) (i k : ℕ) → i < length xs → is_member xs k ≡ true → is_member (slice_set xs i true) k ≡ true
set_more xs i k low is = set_at xs i k low ∙ either (k == i) (is_member xs k) is
  where
    either : (t y : Bool) → y ≡ true → cond t true y ≡ true
    either true y on = refl
    either false y on = on

pub set_here : (xs : List Bool) (i : ℕ) → i < length xs → is_member (slice_set xs i true) i ≡ true
set_here xs i low = let test : (i == i) ≡ true = grind (arith, nat_tests) in set_at xs i i low ∙ ap (λ (t : Bool). cond t true (is_member xs i)) test

pub set_other : (xs : List Bool) (i k : ℕ) → i < length xs → k ≢ i → is_member (slice_set xs i true) k ≡ is_member xs k
set_other xs i k low other = let test : (k == i) ≡ false = grind (arith, nat_tests, other) in set_at xs i k low ∙ ap (λ (t : Bool). cond t true (is_member xs k)) test

-- what is free after more was taken was free
pub free_then : (start map : Space) (b : ℕ) → map.committed ≡ start.committed → (is_member map.next b ≡ false → is_member start.next b ≡ false) → IsFree map b → IsFree start b
free_then start map b committed fewer free = subst (λ (c : List Bool). IsFreeIn c start.next (first_block (length c)) b) committed (record {
  after = free.after;
  within = free.within;
  free = or_none (is_member map.committed b) (is_member start.next b) (or_left (is_member map.committed b) (is_member map.next b) free.free) (fewer (or_right (is_member map.committed b) (is_member map.next b) free.free));
})

-- a free block is no member of the next map
pub free_off : (map : Space) (b : ℕ) → IsFree map b → is_member map.next b ≡ false
free_off map b free = or_right (is_member map.committed b) (is_member map.next b) free.free

pub taken_free : (map after : Space) (b c : ℕ) → b < length map.next → after ≡ record map { next = slice_set map.next b true } → IsFree after c → IsFree map c
taken_free map after b c low is free = free_then map after c (ap (λ (s : Space). s.committed) is)
    (λ off. cond_off (c == b) (is_member map.next c) (sym (set_at map.next b c low) ∙ ap (λ (s : Space). is_member s.next c) (sym is) ∙ off)) free

-- one more is marked
pub marked_more : (start map : Space) (marks : List Bool) (b : ℕ) (map_after : Space) (marks_after : List Bool) → TakesMarked map marks b map_after marks_after → AreMarked start marks map → AreMarked start marks_after map_after
marked_more start map marks b map_after marks_after takes was = record {
  committed = ap (λ (s : Space). s.committed) takes.taken ∙ was.committed;
  long = ap (λ (s : Space). length s.next) takes.taken ∙ length-set map.next b true ∙ was.long;
  next = λ c.
      ap (λ (s : Space). is_member s.next c) takes.taken ∙ set_at map.next b c takes.within ∙ ap (λ (t : Bool). cond (c == b) true t) (was.next c)
      ∙ joined (c == b) (is_member start.next c) (is_member marks c)
      ∙ sym (ap (λ (t : Bool). is_member start.next c || t) (ap (λ (m : List Bool). is_member m c) takes.noted ∙ set_at marks b c takes.marked));
  free = λ c is. ⊎_elim
      (λ (same : c ≡ b). subst (IsFree start) (sym same) (free_then start map b was.committed (λ off. or_left (is_member start.next b) (is_member marks b) (sym (was.next b) ∙ off)) takes.free))
      (λ (other : c ≢ b). was.free c (sym (set_other marks b c takes.marked other) ∙ ap (λ (m : List Bool). is_member m c) (sym takes.noted) ∙ is))
      (cases_eq c b);
}
  where
    joined : (t s m : Bool) → cond t true (s || m) ≡ (s || cond t true m)
    joined true true m = refl
    joined true false m = refl
    joined false s m = refl

-- a new row of marks is as long as is asked, and has none
pub long_marks : (n : ℕ) (marks : List Bool) → marks ≡ replicate n false → length marks ≡ n
long_marks n marks is = ap (λ (xs : List Bool). length xs) is ∙ length_new n

pub none_marked : (n : ℕ) (marks : List Bool) → marks ≡ replicate n false → AreUnmarked marks
none_marked n marks is = λ b. ap (λ (xs : List Bool). is_member xs b) is ∙ is_member-replicate n b

-- at first none is
pub marked_none : (map : Space) (marks : List Bool) → AreUnmarked marks → AreMarked map marks map
marked_none map marks none = record {
  committed = refl;
  long = refl;
  next = λ b. sym (ap (λ (t : Bool). is_member map.next b || t) (none b) ∙ or_off (is_member map.next b));
  free = λ b is. absurd (true≢false (sym is ∙ none b));
}
  where
    or_off : (t : Bool) → (t || false) ≡ t
    or_off true = refl
    or_off false = refl

-- all are given back
pub all_back : (map : Space) (marks : List Bool) (after : Space) → length map.next ≡ blocks_of map → length after.next ≡ blocks_of after → (is_member marks 0 ≡ false → HasGiven map (is_member marks) after)
    → (start : Space) → AreMarked start marks map → after ≡ start
all_back map marks after long long_after gives start was =
    let none : is_member marks 0 ≡ false = not_so (is_member marks 0) (λ is. let first = (was.free 0 is).after in omega (arith, first)) in
    let given = gives none in
    let committed : after.committed ≡ start.committed = given.committed ∙ was.committed in
    let longs : length after.next ≡ length start.next = long_after ∙ ap (λ (c : List Bool). length c) given.committed ∙ sym long ∙ was.long in
    let next : after.next ≡ start.next = same_maps after.next start.next longs (λ b. given.held b ∙ ap (λ (t : Bool). t && not (is_member marks b)) (was.next b)
    ∙ left_only (is_member start.next b) (is_member marks b) (λ is. free_off start b (was.free b is))) in
    λ i. record { committed = committed i; next = next i }
  where
    left_only : (s m : Bool) → (m ≡ true → s ≡ false) → ((s || m) && not m) ≡ s
    left_only true true off = absurd (true≢false (off refl))
    left_only true false off = refl
    left_only false true off = refl
    left_only false false off = refl
