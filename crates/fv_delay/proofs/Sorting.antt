-- A row of counts that a sort left in order is the one that the definition makes.
use Rattle.std.proofs.Common.{◌≡◌, ℕ, suc, ◌+◌, ◌<◌, ◌≤◌, Bool, true, false, cond, List, [], ◌∷◌, length, get_or, sum_by, IsPermutation, IsSortedBy, refl, sym, ap, ◌∙◌, arith}
use Rattle.std.specs.declared.cmp.Ordering.{Ordering}
use Rattle.std.specs.declared.cmp.Ordering.TheVariants.{Less, Equal, Greater}
use Rattle.std.specs.Ordering.{is_eq, is_lt, nat_cmp, ordering_then, ordering_reverse}
use Rattle.std.specs.Cmp.{IsTotalOrder, IsStrictWeakOrder}
use Rattle.std.proofs.lemmas.Bool.{true≢false}
use Rattle.std.proofs.lemmas.Cmp.{back_total, nat_cmp_total, on_total, ranked, then_total, tied_itself}
use Rattle.std.proofs.lemmas.List.MinMax.{ranks_by}
use Rattle.std.proofs.lemmas.List.Sorted.{sorted_far, sum_by-IsPermutation}
use Rattle.std.proofs.lemmas.List.Sums.{sum_by-cons}
use Rattle.fv_delay.specs.declared.counts.Count.{Count}
use Rattle.fv_delay.specs.Choice.{comes_before, in_order, placed, turn}

-- ---- the order

turn_total : IsTotalOrder turn
turn_total =
    then_total (then_total (on_total (λ (c : Count). c.count) (back_total nat_cmp_total)) (on_total (λ (c : Count). c.slot) nat_cmp_total))
    (on_total (λ (c : Count). c.region) nat_cmp_total)

before_weak : IsStrictWeakOrder comes_before
before_weak = ranks_by turn_total (λ (c : Count). c)

equal_means : (x y : ℕ) → nat_cmp x y ≡ Equal → x ≡ y
equal_means x y e = ranked x y Equal (sym e)

then_equal : (o p : Ordering) → ordering_then o p ≡ Equal → (o ≡ Equal) × (p ≡ Equal)
then_equal Less p e = absurd cc
then_equal Equal p e = (refl, e)
then_equal Greater p e = absurd cc

-- two counts of which neither comes first are one
tied_same : (a b : Count) → turn a b ≡ Equal → a ≡ b
tied_same a b e =
    let all = then_equal (ordering_then (nat_cmp b.count a.count) (nat_cmp a.slot b.slot)) (nat_cmp a.region b.region) e in
    let first = then_equal (nat_cmp b.count a.count) (nat_cmp a.slot b.slot) all.0 in
    let count : a.count ≡ b.count = sym (equal_means b.count a.count first.0) in
    let slot : a.slot ≡ b.slot = equal_means a.slot b.slot first.1 in
    let region : a.region ≡ b.region = equal_means a.region b.region all.1 in
    λ i. record { slot = slot i; region = region i; count = count i }

same_by_order : (a b : Count) → comes_before a b ≡ false → comes_before b a ≡ false → a ≡ b
same_by_order a b first second = so (turn a b) refl
  where
    so : (o : Ordering) → turn a b ≡ o → a ≡ b
    so Less e = absurd (true≢false (sym (ap is_lt e) ∙ first))
    so Equal e = tied_same a b e
    so Greater e = absurd (true≢false (sym (ap is_lt (turn_total.antisymm b a ∙ ap ordering_reverse e)) ∙ second))

-- ---- how often a row has a count

abbrev is_same : Count → Count → Bool
is_same a b = is_eq (turn a b)

abbrev one_if : Bool → ℕ
one_if t = cond t 1 0

abbrev times : Count → List Count → ℕ
times a cs = sum_by (λ c. one_if (is_same a c)) cs

once_itself : (a : Count) (cs : List Count) → times a (a ∷ cs) ≡ 1 + times a cs
once_itself a cs =
    sum_by-cons (λ c. one_if (is_same a c)) a cs ∙ ap (λ (t : Bool). one_if t + times a cs) (ap is_eq (tied_itself turn_total a))

-- what comes before one isn't what doesn't
other_place : (a b c : Count) → comes_before a b ≡ true → comes_before c b ≡ false → is_same a c ≡ false
other_place a b c before after = so (turn a c) refl
  where
    so : (o : Ordering) → turn a c ≡ o → is_eq o ≡ false
    so Less e = refl
    so Equal e = absurd (true≢false (sym before ∙ ap (λ (k : Count). comes_before k b) (tied_same a c e) ∙ after))
    so Greater e = refl

-- ---- rows in order

-- each of a row doesn't come before a count
abbrev AreAfter : Count → List Count → Type 0
AreAfter b [] = Unit {0}
AreAfter b (c ∷ cs) = (comes_before c b ≡ false) × AreAfter b cs

-- each of a row doesn't come before those in front of it
abbrev IsOrdered : List Count → Type 0
IsOrdered [] = Unit {0}
IsOrdered (c ∷ cs) = AreAfter c cs × IsOrdered cs

none_same : (a b : Count) (cs : List Count) → comes_before a b ≡ true → AreAfter b cs → times a cs ≡ 0
none_same a b [] before after = refl
none_same a b (c ∷ cs) before after =
    sum_by-cons (λ c. one_if (is_same a c)) c cs
    ∙ ap (λ (t : Bool). one_if t + times a cs) (other_place a b c before after.0)
    ∙ ap (λ (n : ℕ). 0 + n) (none_same a b cs before after.1)

itself_after : (b : Count) → comes_before b b ≡ false
itself_after b = ap is_lt (tied_itself turn_total b)

-- a row in order is known by how often it has each count
one_row : (xs ys : List Count) → IsOrdered xs → IsOrdered ys → ((a : Count) → times a xs ≡ times a ys) → xs ≡ ys
one_row [] [] first second same = refl
one_row [] (y ∷ ys) first second same = absurd (let here = once_itself y ys in let none : 0 ≡ times y (y ∷ ys) = same y in omega (arith, here, none))
one_row (x ∷ xs) [] first second same = absurd (let here = once_itself x xs in let none : times x (x ∷ xs) ≡ 0 = same x in omega (arith, here, none))
one_row (x ∷ xs) (y ∷ ys) first second same = so (comes_before x y) (comes_before y x) refl refl (λ heads. one_row xs ys first.1 second.1 (rest heads))
  where
    joined : x ≡ y → xs ≡ ys → x ∷ xs ≡ y ∷ ys
    joined e f = λ i. e i ∷ f i

    rest : x ≡ y → (a : Count) → times a xs ≡ times a ys
    rest e a =
        let left = sum_by-cons (λ c. one_if (is_same a c)) x xs in
        let right = sum_by-cons (λ c. one_if (is_same a c)) y ys in
        let all = same a in
        let heads : one_if (is_same a x) ≡ one_if (is_same a y) = ap (λ (k : Count). one_if (is_same a k)) e in
        omega (arith, left, right, all, heads)

    so : (s t : Bool) → comes_before x y ≡ s → comes_before y x ≡ t → (x ≡ y → xs ≡ ys) → x ∷ xs ≡ y ∷ ys
    so true t e f tails = absurd (
        let here = once_itself x xs in
        let none = none_same x y (y ∷ ys) e (itself_after y, second.0) in
        omega (arith, here, none, same x))
    so false true e f tails = absurd (
        let here = once_itself y ys in
        let none = none_same y x (x ∷ xs) f (itself_after x, first.0) in
        omega (arith, here, none, same y))
    so false false e f tails =
        let heads = same_by_order x y e f in
        joined heads (tails heads)

-- ---- the row that the definition makes

-- it has what it is made of
pub sum_placed : (f : Count → ℕ) (c : Count) (cs : List Count) → sum_by f (placed c cs) ≡ f c + sum_by f cs
sum_placed f c [] = sum_by-cons f c []
sum_placed f c (d ∷ ds) = so (comes_before d c) (sum_placed f c ds)
  where
    so : (t : Bool) → sum_by f (placed c ds) ≡ f c + sum_by f ds → sum_by f (cond t (d ∷ placed c ds) (c ∷ (d ∷ ds))) ≡ f c + sum_by f (d ∷ ds)
    so true rest = omega (arith, sum_by-cons f d (placed c ds), sum_by-cons f d ds, rest)
    so false rest = sum_by-cons f c (d ∷ ds)

pub sum_in_order : (f : Count → ℕ) (cs : List Count) → sum_by f (in_order cs) ≡ sum_by f cs
sum_in_order f [] = refl
sum_in_order f (c ∷ cs) = sum_placed f c (in_order cs) ∙ ap (λ (n : ℕ). f c + n) (sum_in_order f cs) ∙ sym (sum_by-cons f c cs)

-- it is in order
placed_after : (b c : Count) (cs : List Count) → comes_before c b ≡ false → AreAfter b cs → AreAfter b (placed c cs)
placed_after b c [] new after = (new, tt)
placed_after b c (d ∷ ds) new after = so (comes_before d c) (placed_after b c ds new after.1)
  where
    so : (t : Bool) → AreAfter b (placed c ds) → AreAfter b (cond t (d ∷ placed c ds) (c ∷ (d ∷ ds)))
    so true rest = (after.0, rest)
    so false rest = (new, after)

later_after : (b c : Count) (cs : List Count) → comes_before c b ≡ false → AreAfter c cs → AreAfter b cs
later_after b c [] new after = tt
later_after b c (d ∷ ds) new after = (before_weak.chain d c b after.0 new, later_after b c ds new after.1)

placed_ordered : (c : Count) (cs : List Count) → IsOrdered cs → IsOrdered (placed c cs)
placed_ordered c [] is = (tt, tt)
placed_ordered c (d ∷ ds) is = so (comes_before d c) refl (placed_ordered c ds is.1)
  where
    so : (t : Bool) → comes_before d c ≡ t → IsOrdered (placed c ds) → IsOrdered (cond t (d ∷ placed c ds) (c ∷ (d ∷ ds)))
    so true e rest = (placed_after d c ds (before_weak.one_way d c e) is.0, rest)
    so false e rest = ((e, later_after c d ds e is.0), is)

in_order_ordered : (cs : List Count) → IsOrdered (in_order cs)
in_order_ordered [] = tt
in_order_ordered (c ∷ cs) = placed_ordered c (in_order cs) (in_order_ordered cs)

-- ---- a row that was sorted

after_by_place : (b : Count) (cs : List Count) → ((k : ℕ) (d : Count) → k < length cs → comes_before (get_or cs k d) b ≡ false) → AreAfter b cs
after_by_place b [] each = tt
after_by_place b (c ∷ cs) each = (each 0 c (omega arith), after_by_place b cs (λ k d lt. each (suc k) d (omega (arith, lt))))

ordered_by_place : (cs : List Count) → ((j k : ℕ) (d : Count) → j ≤ k → k < length cs → comes_before (get_or cs k d) (get_or cs j d) ≡ false) → IsOrdered cs
ordered_by_place [] far = tt
ordered_by_place (c ∷ cs) far = (
  after_by_place c cs (λ k d lt. far 0 (suc k) d (omega arith) (omega (arith, lt))),
  ordered_by_place cs (λ j k d le lt. far (suc j) (suc k) d (omega (arith, le)) (omega (arith, lt))),
)

pub sorted_is : (xs ys : List Count) → IsPermutation xs ys → IsSortedBy comes_before ys → ys ≡ in_order xs
sorted_is xs ys moved sorted =
    one_row ys (in_order xs) (ordered_by_place ys (λ j k d le lt. sorted_far comes_before before_weak ys sorted j k d le lt)) (in_order_ordered xs)
    (λ a. sum_by-IsPermutation (λ c. one_if (is_same a c)) xs ys moved ∙ sym (sum_in_order (λ c. one_if (is_same a c)) xs))
