-- Tests of numbers of a range, and the blocks to which entries lead.
use Rattle.std.proofs.Common.{◌≡◌, ◌≢◌, ℕ, zero, suc, ◌+◌, ◌-◌, ◌<◌, ◌≤◌, Bool, true, false, ◌&&◌, ◌||◌, refl, ap, ap₂, subst, ◌∙◌, arith, ⊎_elim}
use Rattle.std.specs.List.{list_any, range_with_len}
use Rattle.std.proofs.lemmas.Bool.{and_from, and_parts, cases_eq, or_cases, or_left, or_right}
use Rattle.fv_container.specs.Mapped.{Mapped}
use Rattle.fv_container.specs.Spelled.{is_at}
use Rattle.fv_container.specs.Leading.{lead_to, place_at}
use Rattle.fv_container.proofs.Named.{at_itself, at_means}

pub or_false : (t : Bool) → (t || false) ≡ t
or_false true = refl
or_false false = refl

pub or_assoc : (a b c : Bool) → (a || (b || c)) ≡ ((a || b) || c)
or_assoc true b c = refl
or_assoc false b c = refl

-- ---- one test of a range, and another

pub any_in_range : (p : ℕ → Bool) (from count : ℕ) → list_any p (range_with_len from count) ≡ true → (k : ℕ) × (from ≤ k) × (k < from + count) × (p k ≡ true)
any_in_range p from zero there = absurd cc
any_in_range p from (suc count) there = ⊎_elim
    (λ (here : p from ≡ true). (from, omega arith, omega arith, here))
    (λ (later : list_any p (range_with_len (from + 1) count) ≡ true). let k = any_in_range p (from + 1) count later in (k.0, omega (arith, k.1), omega (arith, k.2), k.3))
    (or_cases (p from) (list_any p (range_with_len (from + 1) count)) there)

pub range_has : (p : ℕ → Bool) (k from count : ℕ) → from ≤ k → k < from + count → p k ≡ true → list_any p (range_with_len from count) ≡ true
range_has p k from zero low high is = absurd (omega (arith, low, high))
range_has p k from (suc count) low high is = ⊎_elim
    (λ (e : k ≡ from). or_left (p from) _ (subst (λ (n : ℕ). p n ≡ true) e is))
    (λ (ne : k ≢ from). or_right (p from) _ (range_has p k (from + 1) count (omega (arith, low, ne)) (omega (arith, high)) is))
    (cases_eq k from)

pub any_add : (p : ℕ → Bool) (from m n : ℕ) → list_any p (range_with_len from (m + n)) ≡ (list_any p (range_with_len from m) || list_any p (range_with_len (from + m) n))
any_add p from zero n =
    let none : 0 + n ≡ n = omega arith in
    let start : from ≡ from + 0 = omega arith in
    ap (λ (k : ℕ). list_any p (range_with_len from k)) none ∙ ap (λ (k : ℕ). list_any p (range_with_len k n)) start
any_add p from (suc m) n =
    let all : suc m + n ≡ suc (m + n) = omega arith in
    let next : (from + 1) + m ≡ from + suc m = omega arith in
    ap (λ (k : ℕ). list_any p (range_with_len from k)) all
    ∙ ap (λ t. p from || t) (any_add p (from + 1) m n)
    ∙ or_assoc (p from) (list_any p (range_with_len (from + 1) m)) (list_any p (range_with_len ((from + 1) + m) n))
    ∙ ap (λ (k : ℕ). (p from || list_any p (range_with_len (from + 1) m)) || list_any p (range_with_len k n)) next

-- one number more
pub any_more : (p : ℕ → Bool) (from n : ℕ) → list_any p (range_with_len from (n + 1)) ≡ (list_any p (range_with_len from n) || p (from + n))
any_more p from n = any_add p from n 1 ∙ ap (λ (t : Bool). list_any p (range_with_len from n) || t) (or_false (p (from + n)))

pub any_none : (p : ℕ → Bool) (from n : ℕ) → ((k : ℕ) → from ≤ k → k < from + n → p k ≡ false) → list_any p (range_with_len from n) ≡ false
any_none p from zero none = refl
any_none p from (suc n) none =
    ap (λ t. t || list_any p (range_with_len (from + 1) n)) (none from (omega arith) (omega arith))
    ∙ any_none p (from + 1) n (λ k low high. none k (omega (arith, low)) (omega (arith, high)))

pub any_same : (p q : ℕ → Bool) (from n : ℕ) → ((k : ℕ) → from ≤ k → k < from + n → p k ≡ q k) → list_any p (range_with_len from n) ≡ list_any q (range_with_len from n)
any_same p q from zero same = refl
any_same p q from (suc n) same = λ i. same from (omega arith) (omega arith) i || any_same p q (from + 1) n (λ k low high. same k (omega (arith, low)) (omega (arith, high))) i

-- what one of two passes, where either passes one of two
pub any_either : (p q r : ℕ → Bool) (from n : ℕ) → ((k : ℕ) → r k ≡ (p k || q k)) → list_any r (range_with_len from n) ≡ (list_any p (range_with_len from n) || list_any q (range_with_len from n))
any_either p q r from zero same = refl
any_either p q r from (suc n) same =
    ap₂ (λ (s t : Bool). s || t) (same from) (any_either p q r (from + 1) n same)
    ∙ mixed (p from) (q from) (list_any p (range_with_len (from + 1) n)) (list_any q (range_with_len (from + 1) n))
  where
    mixed : (a b c d : Bool) → ((a || b) || (c || d)) ≡ ((a || c) || (b || d))
    mixed true b c d = refl
    mixed false true true d = refl
    mixed false true false d = refl
    mixed false false c d = refl

-- ---- the blocks to which entries lead

-- an entry that passes leads to the block
pub record LedBy (map : Mapped) (goes : ℕ → Bool) (from count b : ℕ) : Type 0 where
  pub vvbn : ℕ
  pub least : from ≤ vvbn
  pub within : vvbn < from + count
  pub on : goes vvbn ≡ true
  pub place : place_at map vvbn ≡ b
  pub some : b ≢ 0

pub lead_where : (map : Mapped) (goes : ℕ → Bool) (from count b : ℕ) → lead_to map goes from count b ≡ true → LedBy map goes from count b
lead_where map goes from count b is =
    let one = any_in_range (λ v. goes v && is_at b (place_at map v)) from count is in
    let parts = and_parts (goes one.0) (is_at b (place_at map one.0)) one.3 in
    let means = at_means b (place_at map one.0) parts.1 in
    record { vvbn = one.0; least = one.1; within = one.2; on = parts.0; place = means.0; some = means.1 }

pub lead_at : (map : Mapped) (goes : ℕ → Bool) (from count v b : ℕ) → from ≤ v → v < from + count → goes v ≡ true → place_at map v ≡ b → b ≢ 0 → lead_to map goes from count b ≡ true
lead_at map goes from count v b low high on place some =
    range_has (λ k. goes k && is_at b (place_at map k)) v from count low high (and_from (goes v) (is_at b (place_at map v)) on (ap (is_at b) place ∙ at_itself b some))

-- one entry more
pub lead_more : (map : Mapped) (goes : ℕ → Bool) (first v b : ℕ) → first ≤ v
    → lead_to map goes first ((v + 1) - first) b ≡ (lead_to map goes first (v - first) b || (goes v && is_at b (place_at map v)))
lead_more map goes first v b from =
    let longer : (v + 1) - first ≡ (v - first) + 1 = omega (arith, from) in
    let at : first + (v - first) ≡ v = omega (arith, from) in
    ap (λ (n : ℕ). lead_to map goes first n b) longer
    ∙ any_more (λ k. goes k && is_at b (place_at map k)) first (v - first)
    ∙ ap (λ (n : ℕ). lead_to map goes first (v - first) b || (goes n && is_at b (place_at map n))) at

-- those of a part of the entries, where the test is passed in that part alone
pub lead_part : (map : Mapped) (p q : ℕ → Bool) (first end entries b : ℕ) → first ≤ end → end ≤ entries
    → ((v : ℕ) → first ≤ v → v < end → q v ≡ p v) → ((v : ℕ) → v < entries → (v < first) → q v ≡ false) → ((v : ℕ) → v < entries → end ≤ v → q v ≡ false)
    → lead_to map q 0 entries b ≡ lead_to map p first (end - first) b
lead_part map p q first end entries b from to same before after =
    let test : ℕ → Bool = λ v. q v && is_at b (place_at map v) in
    let size : entries ≡ first + ((end - first) + (entries - end)) = omega (arith, from, to) in
    let front = any_none test 0 first (λ k low high. ap (λ (t : Bool). t && is_at b (place_at map k)) (before k (omega (arith, high, from, to)) (omega (arith, high)))) in
    let middle = any_same test (λ v. p v && is_at b (place_at map v)) (0 + first) (end - first) (λ k low high. ap (λ (t : Bool). t && is_at b (place_at map k)) (same k (omega (arith, low)) (omega (arith, high, from)))) in
    let back = any_none test ((0 + first) + (end - first)) (entries - end) (λ k low high. ap (λ (t : Bool). t && is_at b (place_at map k)) (after k (omega (arith, high, from, to)) (omega (arith, low, from)))) in
    let start : 0 + first ≡ first = omega arith in
    ap (λ (n : ℕ). list_any test (range_with_len 0 n)) size
    ∙ any_add test 0 first ((end - first) + (entries - end))
    ∙ ap₂ (λ (s t : Bool). s || t) front (any_add test (0 + first) (end - first) (entries - end))
    ∙ ap₂ (λ (s t : Bool). s || t) middle back
    ∙ or_false (list_any (λ v. p v && is_at b (place_at map v)) (range_with_len (0 + first) (end - first)))
    ∙ ap (λ (n : ℕ). lead_to map p n (end - first) b) start
