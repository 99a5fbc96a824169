-- What a removal takes of a place and of all places under it, by the cells in its range.
use Rattle.std.proofs.Common.{◌≡◌, ◌≤◌, ◌<◌, ℕ, zero, suc, ◌+◌, ◌-◌, ◌*◌, ◌/◌, ◌%◌, ◌^◌, Bool, true, false, not, ◌&&◌, ◌||◌, cond, ◌==◌, inl, inr, refl, sym, ap, ap₂, subst, ◌∙◌, arith}
use Rattle.fv_tree.proofs.Cases.{first_true, or_true}
use Rattle.std.specs.Prelude.{count_by, sum_by, nat_le}
use Rattle.std.specs.List.{list_any, range_with_len}
use Rattle.std.proofs.Math.Nat.{div-add-mod', one-le-pow}
use Rattle.std.proofs.lemmas.Nat.{div-mul-add, mod_below}
use Rattle.std.proofs.lemmas.Bool.{cases_eq}
use Rattle.std.proofs.lemmas.Bool.Decides.{nat_tests}
use Rattle.fv_codec.specs.declared.pointer.Pointer.{Pointer}
use Rattle.fv_model.specs.Trees.{fan}
use Rattle.fv_tree.specs.declared.taken.Part.{Part}
use Rattle.fv_tree.specs.Spelled.{Rooted, pointer_at}
use Rattle.fv_tree.specs.Flushing.{Loaded}
use Rattle.fv_tree.specs.Counting.{is_staying, staying_all, staying_under}
use Rattle.fv_tree.specs.Erasing.{StandsAt, HoldsCells}
use Rattle.fv_tree.specs.Taking.{has_cell, is_gone, is_staying_with, counted_under, staying_with, IsPart, IsSum}
use Rattle.fv_tree.proofs.Below.{range_above}
use Rattle.fv_tree.proofs.Erased.{not_both}
use Rattle.fv_tree.proofs.Spans.{sum_more, sum_none, sum_same, under_cell, under_step}
use Rattle.fv_tree.proofs.Stays.{here}
use Rattle.fv_tree.proofs.Unlinked.{cells_below}

-- ---- tests of a range

and_false : (a : Bool) → (a && false) ≡ false
and_false true = refl
and_false false = refl

and_both : (a b : Bool) → (a && b) ≡ true → (a ≡ true) × (b ≡ true)
and_both true b e = (refl, e)
and_both false b e = absurd cc

turned : (b : Bool) → (b ≡ true → ⊥) → b ≡ false
turned true wrong = absurd (wrong refl)
turned false wrong = refl

iff : (a b : Bool) → (a ≡ true → b ≡ true) → (b ≡ true → a ≡ true) → a ≡ b
iff true b there back = sym (there refl)
iff false true there back = back refl
iff false false there back = refl

pub any_none : (f : ℕ → Bool) (a n : ℕ) → ((k : ℕ) → a ≤ k → k < a + n → f k ≡ false) → list_any f (range_with_len a n) ≡ false
any_none f a zero none = refl
any_none f a (suc n) none =
    let rest = any_none f (a + 1) n (λ k low high. none k (omega (arith, low)) (omega (arith, high))) in
    ap₂ (λ x y. x || y) (none a (omega arith) (omega arith)) rest

pub any_some : (f : ℕ → Bool) (a n k : ℕ) → a ≤ k → k < a + n → f k ≡ true → list_any f (range_with_len a n) ≡ true
any_some f a zero k low high is = absurd (omega (arith, low, high))
any_some f a (suc n) k low high is = elim (cases_eq k a) [
  | inl same ↦ ap (λ b. b || list_any f (range_with_len (a + 1) n)) (ap f (sym same) ∙ is)
  | inr differs ↦ ap (λ b. f a || b) (any_some f (a + 1) n k (omega (arith, low, differs)) (omega (arith, high)) is) ∙ or_true (f a)
]

-- a number of a range that passes
pub record AnyAt (f : ℕ → Bool) (a n : ℕ) : Type 0 where
  pub at : ℕ
  pub low : a ≤ at
  pub high : at < a + n
  pub is : f at ≡ true

pub any_at : (f : ℕ → Bool) (a n : ℕ) → list_any f (range_with_len a n) ≡ true → AnyAt f a n
any_at f a zero e = absurd cc
any_at f a (suc n) e = elim (first_true (f a) (list_any f (range_with_len (a + 1) n)) e) [
  | inl is ↦ record { at = a; low = omega arith; high = omega arith; is = is }
  | inr more ↦
      let rest = any_at f (a + 1) n more in
      let low = rest.low in
      let high = rest.high in record { at = rest.at; low = omega (arith, low); high = omega (arith, high); is = rest.is }
]

-- and one number more
any_more : (f : ℕ → Bool) (a n : ℕ) → list_any f (range_with_len a (n + 1)) ≡ (list_any f (range_with_len a n) || f (a + n))
any_more f a n = iff _ _
    (λ e. let one = any_at f a (n + 1) e in let low = one.low in let high = one.high in elim (cases_eq one.at (a + n)) [
      | inl last ↦ ap (λ b. list_any f (range_with_len a n) || b) (ap f (sym last) ∙ one.is) ∙ or_true (list_any f (range_with_len a n))
      | inr before ↦ ap (λ b. b || f (a + n)) (any_some f a n one.at low (omega (arith, high, before)) one.is)
    ])
    (λ e. elim (first_true (list_any f (range_with_len a n)) (f (a + n)) e) [
      | inl old ↦ let one = any_at f a n old in let low = one.low in let high = one.high in any_some f a (n + 1) one.at low (omega (arith, high)) one.is
      | inr last ↦ any_some f a (n + 1) (a + n) (omega arith) (omega arith) last
    ])

-- ---- the cells in the range of a place

in_place : (i p w : ℕ) → 0 < w → i / w ≡ p → (p * w ≤ i) × (i < p * w + w)
in_place i p w some is =
    let parts : i / w * w + i % w ≡ i = div-add-mod' i w in
    let small : i % w < w = mod_below i w some in
    let same : i / w * w ≡ p * w = ap (λ q. q * w) is in
    (omega (arith, parts, same), omega (arith, parts, small, same))

from_place : (i p w : ℕ) → p * w ≤ i → i < p * w + w → i / w ≡ p
from_place i p w low high =
    let whole : i ≡ p * w + (i - p * w) = omega (arith, low) in
    ap (λ n. n / w) whole ∙ div-mul-add p w (i - p * w) (omega (arith, low, high))

some_width : (level : ℕ) → 0 < fan ^ level
some_width level = let one : 1 ≤ fan ^ level = one-le-pow level fan (omega arith) in omega (arith, one)

-- a cell stands, and is one of these
abbrev is_one : Rooted → (ℕ → Bool) → ℕ → Bool
is_one t cells i = not ((pointer_at t 0 i).stamp == 0) && cells i

pub stands_test : (t : Rooted) (i : ℕ) → StandsAt t 0 i → not ((pointer_at t 0 i).stamp == 0) ≡ true
stands_test t i some = let test : ((pointer_at t 0 i).stamp == 0) ≡ false = grind (arith, nat_tests, some) in ap not test

pub test_stands : (t : Rooted) (i : ℕ) → not ((pointer_at t 0 i).stamp == 0) ≡ true → StandsAt t 0 i
test_stands t i is none = let test : ((pointer_at t 0 i).stamp == 0) ≡ true = grind (arith, nat_tests, none) in not_both (not ((pointer_at t 0 i).stamp == 0)) is (ap not test)

module _ (t : Rooted) (cells : ℕ → Bool) where
  pub has_none : (level place : ℕ) → ((i : ℕ) → i / fan ^ level ≡ place → is_one t cells i ≡ false) → has_cell t cells level place ≡ false
  unfolding has_cell
  has_none level place none = any_none (is_one t cells) (place * fan ^ level) (fan ^ level) (λ i low high. none i (from_place i place (fan ^ level) low high))

  pub has_some : (level place i : ℕ) → i / fan ^ level ≡ place → StandsAt t 0 i → cells i ≡ true → has_cell t cells level place ≡ true
  unfolding has_cell
  has_some level place i at some is =
      let range = in_place i place (fan ^ level) (some_width level) at in
      any_some (is_one t cells) (place * fan ^ level) (fan ^ level) i range.0 range.1 (λ j. stands_test t i some j && is j)

  -- one of them
  pub has_at : (level place : ℕ) → has_cell t cells level place ≡ true → (i : ℕ) × ((i / fan ^ level ≡ place) × StandsAt t 0 i × (cells i ≡ true))
  unfolding has_cell
  has_at level place e =
      let one = any_at (is_one t cells) (place * fan ^ level) (fan ^ level) e in
      let both = and_both (not ((pointer_at t 0 one.at).stamp == 0)) (cells one.at) one.is in
      (one.at, (from_place one.at place (fan ^ level) one.low one.high, test_stands t one.at both.0, both.1))

  -- those of a place are those of the places under it
  pub has_under : (level place : ℕ) → 1 ≤ level → has_cell t cells level place ≡ list_any (has_cell t cells (level - 1)) (range_with_len (place * fan) fan)
  has_under level place low = iff _ _
      (λ e.
      let one = has_at level place e in
      let up : one.0 / fan ^ (level - 1) / fan ≡ place = range_above one.0 level low ∙ one.1.0 in
      let range = in_place (one.0 / fan ^ (level - 1)) place fan (omega arith) up in
      any_some (has_cell t cells (level - 1)) (place * fan) fan (one.0 / fan ^ (level - 1)) range.0 range.1 (has_some (level - 1) (one.0 / fan ^ (level - 1)) one.0 refl one.1.1 one.1.2))
      (λ e.
      let under = any_at (has_cell t cells (level - 1)) (place * fan) fan e in
      let one = has_at (level - 1) under.at under.is in
      let up : under.at / fan ≡ place = from_place under.at place fan under.low under.high in
      has_some level place one.0 (sym (range_above one.0 level low) ∙ ap (λ q. q / fan) one.1.0 ∙ up) one.1.1 one.1.2)

  -- of a cell it is itself
  pub has_itself : (level place : ℕ) → level ≡ 0 → StandsAt t 0 place → has_cell t cells level place ≡ cells place
  has_itself level place none some = iff _ _
      (λ e. let one = has_at level place e in ap cells (sym (own one.0 one.1.0)) ∙ one.1.2)
      (λ is. has_some level place place (ap (λ k. place / fan ^ k) none ∙ (let e : place / fan ^ 0 ≡ place = omega arith in e)) some is)
    where
      own : (i : ℕ) → i / fan ^ level ≡ place → i ≡ place
      own i at = let e : i / fan ^ 0 ≡ i = omega arith in sym e ∙ ap (λ k. i / fan ^ k) (sym none) ∙ at

  -- one of them is in the range of a place that stands, where all of its cells are
  pub has_held : (level place : ℕ) → HoldsCells t → StandsAt t level place → ((i : ℕ) → i / fan ^ level ≡ place → cells i ≡ true) → has_cell t cells level place ≡ true
  has_held level place holds stands all = some (has_cell t cells level place) refl
    where
      some : (b : Bool) → has_cell t cells level place ≡ b → has_cell t cells level place ≡ true
      some true e = e
      some false e = absurd (holds level place stands (λ i at. elim (cases_eq (pointer_at t 0 i).stamp 0) [
        | inl hole ↦ hole
        | inr cell ↦ absurd (not_both (has_cell t cells level place) (has_some level place i at cell (all i at)) e)
      ]))

  -- where none of them is in the range of a place, none is in that of a place under it, and no place passes that asks for one
  pub none_under : (test : ℕ → ℕ → Bool) → ((k p : ℕ) → has_cell t cells k p ≡ false → test k p ≡ false) → (n level place : ℕ) → level ≡ n → ((i : ℕ) → i / fan ^ level ≡ place → is_one t cells i ≡ false)
      → counted_under test level place ≡ 0
  unfolding counted_under
  none_under test asks zero level place is none = under_cell test level place is ∙ ap (λ b. cond {A = ℕ} b 1 0) (asks level place (has_none level place none))
  none_under test asks (suc n) level place is none =
      under_step test level place (above n level is)
      ∙ ap₂ (λ x y. x + y) (ap (λ b. cond {A = ℕ} b 1 0) (asks level place (has_none level place none)))
      (sum_same (counted_under test (level - 1)) (λ q. 0) (place * fan) fan (λ q low high.
      none_under test asks n (level - 1) q (less n level is) (λ i at. none i (sym (range_above i level (above n level is)) ∙ ap (λ p. p / fan) at ∙ from_place q place fan low high)))
      ∙ sum_none (range_with_len (place * fan) fan))
    where
      above : (n level : ℕ) → level ≡ suc n → 1 ≤ level
      above n level e = omega (arith, e)

      less : (n level : ℕ) → level ≡ suc n → level - 1 ≡ n
      less n level e = omega (arith, e)

-- ---- what goes of a place

module _ (s : Loaded) (shared goes : ℕ → Bool) where
  abbrev t : Rooted
  t = s.tree

  abbrev stay : ℕ → Bool
  stay i = not (goes i)

  gone_asks : (k p : ℕ) → has_cell t goes k p ≡ false → is_gone t goes k p ≡ false
  gone_asks k p none = ap (λ b. b && not (has_cell t stay k p)) none

  staying_asks : (k p : ℕ) → has_cell t goes k p ≡ false → is_staying_with s shared goes k p ≡ false
  staying_asks k p none = ap (λ b. b && is_staying s shared k p) none

  -- of a hole nothing
  pub hole_part : (level place : ℕ) (part : Part) → level ≤ t.levels → (pointer_at t level place).stamp ≡ 0 → part ≡ record { taken = record { gone = 0; staying = 0 }; some = false; left = false } → IsPart s shared goes level place part
  hole_part level place part high hole is = record {
    gone = ap (λ p. p.taken.gone) is ∙ sym (none_under t goes (is_gone t goes) gone_asks level level place refl none);
    staying = ap (λ p. p.taken.staying) is ∙ sym (none_under t goes (is_staying_with s shared goes) staying_asks level level place refl none);
    some = ap (λ p. p.some) is ∙ sym (has_none t goes level place none);
    left = ap (λ p. p.left) is ∙ sym (has_none t stay level place (λ i at. ap (λ b. b && stay i) (no_cell i at)));
  }
    where
      no_cell : (i : ℕ) → i / fan ^ level ≡ place → not ((pointer_at t 0 i).stamp == 0) ≡ false
      no_cell i at =
          let below : (pointer_at t 0 i).stamp ≡ 0 = cells_below t level i high (ap (λ p. (pointer_at t level p).stamp) at ∙ hole) in
          let test : ((pointer_at t 0 i).stamp == 0) ≡ true = grind (arith, nat_tests, below) in ap not test

      none : (i : ℕ) → i / fan ^ level ≡ place → is_one t goes i ≡ false
      none i at = ap (λ b. b && goes i) (no_cell i at)

  -- nor of a place in whose range no cell goes
  pub kept_part : (level place : ℕ) (part : Part) → HoldsCells t → StandsAt t level place → ((i : ℕ) → i / fan ^ level ≡ place → goes i ≡ false) → part ≡ record { taken = record { gone = 0; staying = 0 }; some = false; left = true } → IsPart s shared goes level place part
  kept_part level place part holds stands stays is = record {
    gone = ap (λ p. p.taken.gone) is ∙ sym (none_under t goes (is_gone t goes) gone_asks level level place refl none);
    staying = ap (λ p. p.taken.staying) is ∙ sym (none_under t goes (is_staying_with s shared goes) staying_asks level level place refl none);
    some = ap (λ p. p.some) is ∙ sym (has_none t goes level place none);
    left = ap (λ p. p.left) is ∙ sym (has_held t stay level place holds stands (λ i at. ap not (stays i at)));
  }
    where
      none : (i : ℕ) → i / fan ^ level ≡ place → is_one t goes i ≡ false
      none i at = ap (λ b. not ((pointer_at t 0 i).stamp == 0) && b) (stays i at) ∙ and_false (not ((pointer_at t 0 i).stamp == 0))

  -- ---- with its own

  one_stays : (a b : Bool) → cond {A = ℕ} a (cond b 1 0) 0 ≡ cond (a && b) 1 0
  one_stays true b = refl
  one_stays false b = refl

  -- a cell that goes
  pub cell_part : (level place n : ℕ) (under part : Part) → level ≡ 0 → StandsAt t level place → goes place ≡ true → n ≡ cond (is_staying s shared level place) 1 0
      → under ≡ record { taken = record { gone = 0; staying = 0 }; some = true; left = false }
      → part.taken.gone ≡ cond (under.some && not under.left) 1 0 + under.taken.gone → part.taken.staying ≡ cond under.some n 0 + under.taken.staying → part.some ≡ under.some → part.left ≡ under.left
      → IsPart s shared goes level place part
  unfolding counted_under
  cell_part level place n under part none stands going own is gone staying some left =
      let cell : StandsAt t 0 place = subst (λ k. StandsAt t k place) none stands in
      let this : has_cell t goes level place ≡ true = has_itself t goes level place none cell ∙ going in
      let other : has_cell t stay level place ≡ false = has_itself t stay level place none cell ∙ ap not going in record {
        gone = gone ∙ ap (λ p. cond {A = ℕ} (p.some && not p.left) 1 0 + p.taken.gone) is
            ∙ sym (under_cell (is_gone t goes) level place none ∙ (λ j. cond {A = ℕ} (this j && not (other j)) 1 0));
        staying = staying ∙ ap (λ p. cond p.some n 0 + p.taken.staying) is ∙ (let e : n + 0 ≡ n = omega arith in e) ∙ own
            ∙ sym (under_cell (is_staying_with s shared goes) level place none ∙ ap (λ b. cond {A = ℕ} (b && is_staying s shared level place) 1 0) this);
        some = some ∙ ap (λ p. p.some) is ∙ sym this;
        left = left ∙ ap (λ p. p.left) is ∙ sym other;
      }

  -- a place with all places under it
  pub whole_part : (level place n slot : ℕ) (sum part : Part) → 1 ≤ level → slot ≡ fan → IsSum s shared goes level place slot sum → n ≡ cond (is_staying s shared level place) 1 0
      → part.taken.gone ≡ cond (sum.some && not sum.left) 1 0 + sum.taken.gone → part.taken.staying ≡ cond sum.some n 0 + sum.taken.staying → part.some ≡ sum.some → part.left ≡ sum.left
      → IsPart s shared goes level place part
  unfolding counted_under
  whole_part level place n slot sum part low all is own gone staying some left =
      let this : sum.some ≡ has_cell t goes level place = is.some ∙ ap (λ c. list_any (has_cell t goes (level - 1)) (range_with_len (place * fan) c)) all ∙ sym (has_under t goes level place low) in
      let other : sum.left ≡ has_cell t stay level place = is.left ∙ ap (λ c. list_any (has_cell t stay (level - 1)) (range_with_len (place * fan) c)) all ∙ sym (has_under t stay level place low) in record {
        gone = gone
            ∙ ap₂ (λ x y. x + y) (λ j. cond {A = ℕ} (this j && not (other j)) 1 0) (is.gone ∙ ap (λ c. sum_by (counted_under (is_gone t goes) (level - 1)) (range_with_len (place * fan) c)) all)
            ∙ sym (under_step (is_gone t goes) level place low);
        staying = staying
            ∙ ap₂ (λ x y. x + y) ((λ j. cond (this j) (own j) 0) ∙ one_stays (has_cell t goes level place) (is_staying s shared level place)) (is.staying ∙ ap (λ c. sum_by (counted_under (is_staying_with s shared goes) (level - 1)) (range_with_len (place * fan) c)) all)
            ∙ sym (under_step (is_staying_with s shared goes) level place low);
        some = some ∙ this;
        left = left ∙ other;
      }

  -- the place by the pointer to it
  pub own_stays : (level place n : ℕ) (p : Pointer) → p ≡ pointer_at t level place → n ≡ cond (not (p.stamp == 0) && (not (s.changed level place) && shared p.vvbn)) 1 0 → n ≡ cond (is_staying s shared level place) 1 0
  own_stays level place n p is counts = here s shared level place n p is counts

  -- ---- one place after another

  pub more_sum : (level place slot : ℕ) (sum part next : Part) → IsSum s shared goes level place slot sum → IsPart s shared goes (level - 1) (place * fan + slot) part
      → next.taken.gone ≡ sum.taken.gone + part.taken.gone → next.taken.staying ≡ sum.taken.staying + part.taken.staying → next.some ≡ (sum.some || part.some) → next.left ≡ (sum.left || part.left)
      → IsSum s shared goes level place (slot + 1) next
  more_sum level place slot sum part next was is gone staying some left = record {
    gone = gone ∙ ap₂ (λ x y. x + y) was.gone is.gone ∙ sym (sum_more (counted_under (is_gone t goes) (level - 1)) (place * fan) slot);
    staying = staying ∙ ap₂ (λ x y. x + y) was.staying is.staying ∙ sym (sum_more (counted_under (is_staying_with s shared goes) (level - 1)) (place * fan) slot);
    some = some ∙ ap₂ (λ x y. x || y) was.some is.some ∙ sym (any_more (has_cell t goes (level - 1)) (place * fan) slot);
    left = left ∙ ap₂ (λ x y. x || y) was.left is.left ∙ sym (any_more (has_cell t stay (level - 1)) (place * fan) slot);
  }

pub at_most_one : (b : Bool) (n : ℕ) → n ≤ 1 → cond b n 0 ≤ 1
at_most_one true n few = few
at_most_one false n few = omega arith

-- ---- all cells

-- With all cells of a tree as many blocks stay charged as are shared in it.
pub all_stay : (s : Loaded) (shared : ℕ → Bool) → HoldsCells s.tree → staying_with s shared (nat_le 0) ≡ staying_all s shared
unfolding counted_under staying_under
all_stay s shared holds =
    sum_same (λ k. count_by (is_staying_with s shared (nat_le 0) k) (range_with_len (0 * fan ^ (s.tree.levels - k)) (fan ^ (s.tree.levels - k))))
    (λ k. count_by (is_staying s shared k) (range_with_len (0 * fan ^ (s.tree.levels - k)) (fan ^ (s.tree.levels - k))))
    0 (s.tree.levels + 1) (λ k low high.
    sum_same (λ p. cond (is_staying_with s shared (nat_le 0) k p) 1 0) (λ p. cond (is_staying s shared k p) 1 0) (0 * fan ^ (s.tree.levels - k)) (fan ^ (s.tree.levels - k))
    (λ p least most. ap (λ b. cond {A = ℕ} b 1 0) (each k p (is_staying s shared k p) refl)))
  where
    stood : (k p : ℕ) → is_staying s shared k p ≡ true → StandsAt s.tree k p
    stood k p is hole =
        let test : ((pointer_at s.tree k p).stamp == 0) ≡ true = grind (arith, nat_tests, hole) in
        not_both (not ((pointer_at s.tree k p).stamp == 0)) (and_both (not ((pointer_at s.tree k p).stamp == 0)) (not (s.changed k p) && shared (pointer_at s.tree k p).vvbn) is).0 (ap not test)

    each : (k p : ℕ) (b : Bool) → is_staying s shared k p ≡ b → is_staying_with s shared (nat_le 0) k p ≡ is_staying s shared k p
    each k p false e = ap (λ b. has_cell s.tree (nat_le 0) k p && b) e ∙ and_false (has_cell s.tree (nat_le 0) k p) ∙ sym e
    each k p true e =
        let all : (i : ℕ) → i / fan ^ k ≡ p → nat_le 0 i ≡ true = (λ i at. grind (arith, nat_tests)) in
        ap (λ b. b && is_staying s shared k p) (has_held s.tree (nat_le 0) k p holds (stood k p e) all)
