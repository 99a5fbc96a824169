-- Tests of the entries of a region.
use Rattle.std.proofs.Common.{◌≡◌, ◌<◌, ◌≤◌, ◌+◌, ◌*◌, ℕ, zero, suc, Bool, true, false, ◌==◌, List, get_or, Option, Some, None, refl, sym, ap, subst, ◌∙◌, arith, ⊎_elim}
use Rattle.std.specs.Option.{is_some}
use Rattle.std.proofs.lemmas.Bool.{and_from, and_parts, cases_lt, true≢false}
use Rattle.std.proofs.lemmas.Bool.Decides.{nat_tests}
use Rattle.std.specs.Global.{Box}
use Rattle.fv_codec.specs.declared.container.ContainerLeaf.{ContainerLeaf}
use Rattle.fv_container.specs.declared.entry.Entry.{Entry}
use Rattle.fv_container.specs.Paged.{IsSureOf, all_below, is_as_said, is_right, is_same_bit, is_same_pair, is_told, pair_at}
use Rattle.fv_container.specs.Spelled.{pair_of}

pub all_of : (n : ℕ) (test : ℕ → Bool) → ((c : ℕ) → c < n → test c ≡ true) → all_below n test ≡ true
unfolding all_below
all_of zero test each = refl
all_of (suc n) test each = and_from (all_below n test) (test n) (all_of n test (λ c lt. each c (omega (arith, lt)))) (each n (omega arith))

pub at_of : (n : ℕ) (test : ℕ → Bool) → all_below n test ≡ true → (c : ℕ) → c < n → test c ≡ true
unfolding all_below
at_of zero test all c lt = absurd (omega (arith, lt))
at_of (suc n) test all c lt =
    let parts = and_parts (all_below n test) (test n) all in
    ⊎_elim
    (λ (less : c < n). at_of n test parts.0 c less)
    (λ (past : n ≤ c). subst (λ (m : ℕ). test m ≡ true) (let e : n ≡ c = omega (arith, past, lt) in e) parts.1)
    (cases_lt c n)

same_number : (n : ℕ) → (n == n) ≡ true
same_number n = grind (arith, nat_tests)

number_same : (n m : ℕ) → (n == m) ≡ true → n ≡ m
number_same n m is = grind (arith, nat_tests, is)

pub pair_same : (p q : ℕ × ℕ) → p ≡ q → is_same_pair p q ≡ true
pair_same p q is = subst (λ (r : ℕ × ℕ). is_same_pair p r ≡ true) is (and_from (p.0 == p.0) (p.1 == p.1) (same_number p.0) (same_number p.1))

pub same_pair : (p q : ℕ × ℕ) → is_same_pair p q ≡ true → p ≡ q
same_pair p q is =
    let parts = and_parts (p.0 == q.0) (p.1 == q.1) is in
    ap (λ (n : ℕ). (n, p.1)) (number_same p.0 q.0 parts.0) ∙ ap (λ (n : ℕ). (q.0, n)) (number_same p.1 q.1 parts.1)

pub bit_same : (a b : Bool) → a ≡ b → is_same_bit a b ≡ true
bit_same true true is = refl
bit_same false false is = refl
bit_same true false is = absurd (true≢false is)
bit_same false true is = absurd (true≢false (sym is))

pub same_bit : (a b : Bool) → is_same_bit a b ≡ true → a ≡ b
same_bit true true is = refl
same_bit false false is = refl
same_bit true false is = absurd (true≢false (sym is))
same_bit false true is = absurd (true≢false (sym is))

-- ---- a leaf

pub as_said : (es : List (Option Entry)) (k : ℕ) (b : Box ContainerLeaf) → ((c : ℕ) → c < 256 → pair_at b.value c ≡ pair_of (get_or es (256 * k + c) None)) → is_as_said es k (Some b) ≡ true
unfolding is_as_said
as_said es k b each = all_of 256 (λ c. is_same_pair (pair_at b.value c) (pair_of (get_or es (256 * k + c) None))) (λ c lt. pair_same (pair_at b.value c) (pair_of (get_or es (256 * k + c) None)) (each c lt))

pub said_as : (es : List (Option Entry)) (k : ℕ) (b : Box ContainerLeaf) → is_as_said es k (Some b) ≡ true → (c : ℕ) → c < 256 → pair_at b.value c ≡ pair_of (get_or es (256 * k + c) None)
unfolding is_as_said
said_as es k b all c lt = same_pair (pair_at b.value c) (pair_of (get_or es (256 * k + c) None)) (at_of 256 (λ d. is_same_pair (pair_at b.value d) (pair_of (get_or es (256 * k + d) None))) all c lt)

pub none_said : (es : List (Option Entry)) (k : ℕ) → is_as_said es k None ≡ true
unfolding is_as_said
none_said es k = refl

-- ---- bits

pub right_of : (es : List (Option Entry)) (k : ℕ) (used : List Bool) → ((c : ℕ) → c < 256 → get_or used (256 * k + c) false ≡ is_some (get_or es (256 * k + c) None)) → is_right es k used ≡ true
unfolding is_right
right_of es k used each = all_of 256 (λ c. is_same_bit (get_or used (256 * k + c) false) (is_some (get_or es (256 * k + c) None))) (λ c lt. bit_same (get_or used (256 * k + c) false) (is_some (get_or es (256 * k + c) None)) (each c lt))

pub right_at : (es : List (Option Entry)) (k : ℕ) (used : List Bool) → is_right es k used ≡ true → (c : ℕ) → c < 256 → get_or used (256 * k + c) false ≡ is_some (get_or es (256 * k + c) None)
unfolding is_right
right_at es k used all c lt = same_bit (get_or used (256 * k + c) false) (is_some (get_or es (256 * k + c) None)) (at_of 256 (λ d. is_same_bit (get_or used (256 * k + d) false) (is_some (get_or es (256 * k + d) None))) all c lt)

-- ---- both

pub told_at : (es : List (Option Entry)) (k : ℕ) (s : Bool) (b : Option (Box ContainerLeaf)) (used : List Bool) → s ≡ true → IsSureOf es k s b used → (is_as_said es k b ≡ true) × (is_right es k used ≡ true)
told_at es k true b used is sure = and_parts (is_as_said es k b) (is_right es k used) sure
told_at es k false b used is sure = absurd (true≢false (sym is))

-- what was told is told, where what it asks is asked again
pub told_again : (es after : List (Option Entry)) (k : ℕ) (s : Bool) (b c : Option (Box ContainerLeaf)) (old new : List Bool) → (is_as_said es k b ≡ true → is_as_said after k c ≡ true) → (is_right es k old ≡ true → is_right after k new ≡ true)
    → IsSureOf es k s b old → IsSureOf after k s c new
told_again es after k true b c old new leaf bits sure = let parts = and_parts (is_as_said es k b) (is_right es k old) sure in and_from (is_as_said after k c) (is_right after k new) (leaf parts.0) (bits parts.1)
told_again es after k false b c old new leaf bits sure = tt

-- a test that was made is what it says
pub tested : (es : List (Option Entry)) (k : ℕ) (s : Bool) (b : Option (Box ContainerLeaf)) (used : List Bool) → s ≡ is_told es k b used → IsSureOf es k s b used
tested es k true b used is = sym is
tested es k false b used is = tt
