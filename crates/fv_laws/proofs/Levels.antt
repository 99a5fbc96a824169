-- Levels, and which ranges hold a cell.
use Rattle.std.proofs.Common.{◌⊎◌, ◌≡◌, ℕ, zero, suc, ◌+◌, ◌-◌, ◌/◌, ◌^◌, ◌<◌, ◌≤◌, Bool, true, false, cond, ◌||◌, nat_lt, nat_le, nat_eq, List, [], ◌∷◌, map, inl, inr, ⊎_elim, refl, sym, ap, subst, ◌∙◌, arith, add-one}
use Rattle.std.specs.List.{prefix_len, range_with_len, AllByRecursion}
use Rattle.std.proofs.Math.Nat.{pow-suc, pow-le-pow_right, div-div-eq-div-mul}
use Rattle.std.proofs.lemmas.Bool.Decides.{nat_tests}
use Rattle.fv_model.specs.Trees.{fan, Spot, least_levels, levels_with, spots_over, spots_grown, holds_one}
use Rattle.fv_laws.proofs.SetCounts.{or_true}
use Rattle.fv_laws.proofs.Lists.{In, in_map, from_map, in_range, from_range}

-- ---- numbers of ranges
pub some_range : (k : ℕ) → 1 ≤ fan ^ k
some_range zero = omega arith
some_range (suc k) = let below = some_range k in let next = pow-suc fan k in omega (arith, below, next)

pub wider : (a b : ℕ) → a ≤ b → fan ^ a ≤ fan ^ b
wider a b le = pow-le-pow_right {n = fan} (omega arith) {i = a} {j = b} le

pub up : (i k : ℕ) → i / fan ^ k / fan ≡ i / fan ^ (k + 1)
up i k = div-div-eq-div-mul i (fan ^ k) fan ∙ ap (λ n. i / n) (sym (pow-suc fan k) ∙ ap (λ n. fan ^ n) (sym (add-one k)))

-- ---- the least number of levels reaches
pub stops : (p : ℕ → Bool) (a c : ℕ) → (p (a + prefix_len p (range_with_len a c)) ≡ false) ⊎ (prefix_len p (range_with_len a c) ≡ c)
stops p a zero = inr refl
stops p a (suc c) =
    elim (p a) as (λ b. p a ≡ b → (p (a + cond b (1 + prefix_len p (range_with_len (a + 1) c)) 0) ≡ false) ⊎ (cond b (1 + prefix_len p (range_with_len (a + 1) c)) 0 ≡ suc c)) [
      | true ↦ λ e. ⊎_elim (λ l. inl (ap p (omega arith) ∙ l)) (λ r. let is : prefix_len p (range_with_len (a + 1) c) ≡ c = r in inr (omega arith)) (stops p (a + 1) c)
      | false ↦ λ e. inl (ap p (omega arith) ∙ e)
    ] refl

self : (n : ℕ) → n ≤ fan ^ n
self zero = omega arith
self (suc n) = let below = self n in let one = some_range n in let next = pow-suc fan n in omega (arith, below, one, next)

pub least_reaches : (n : ℕ) → n ≤ fan ^ least_levels n
unfolding least_levels
least_reaches n =
    ⊎_elim
    (λ l. let no : nat_lt (fan ^ prefix_len (λ h. nat_lt (fan ^ h) n) (range_with_len 0 n)) n ≡ false = ap (λ k. nat_lt (fan ^ k) n) (omega arith) ∙ l in grind (arith, nat_tests))
    (λ r. let is : prefix_len (λ h. nat_lt (fan ^ h) n) (range_with_len 0 n) ≡ n = r in subst (λ k. n ≤ fan ^ k) (sym is) (self n))
    (stops (λ h. nat_lt (fan ^ h) n) 0 n)

pub with_reaches : (levels i : ℕ) → i < fan ^ levels_with levels i
unfolding levels_with
with_reaches levels i =
    elim (nat_lt i (fan ^ levels)) as (λ b. nat_lt i (fan ^ levels) ≡ b → i < fan ^ cond b levels (least_levels (i + 1))) [
      | true ↦ λ e. grind (arith, nat_tests)
      | false ↦ λ e. let reach = least_reaches (i + 1) in omega (arith, reach)
    ] refl

pub with_grows : (levels i : ℕ) → levels ≤ levels_with levels i
unfolding levels_with
with_grows levels i =
    elim (nat_lt i (fan ^ levels)) as (λ b. nat_lt i (fan ^ levels) ≡ b → levels ≤ cond b levels (least_levels (i + 1))) [
      | true ↦ λ e. omega arith
      | false ↦ λ e.
          let past : fan ^ levels ≤ i = grind (arith, nat_tests) in let reach = least_reaches (i + 1) in
          elim (nat_le levels (least_levels (i + 1))) as (λ b. nat_le levels (least_levels (i + 1)) ≡ b → levels ≤ least_levels (i + 1)) [
            | true ↦ λ d. grind (arith, nat_tests)
            | false ↦ λ d. let low : least_levels (i + 1) ≤ levels = grind (arith, nat_tests) in let less = wider (least_levels (i + 1)) levels low in absurd (omega (arith, past, reach, less))
          ] refl
    ] refl

-- ---- the ranges that hold a cell
pub from_holds : (cells : List ℕ) (p : Spot) → holds_one cells p ≡ true → (i : ℕ) × In i cells × (i / fan ^ p.0 ≡ p.1)
from_holds [] p e = absurd cc
from_holds (c ∷ cells) p e =
    elim (nat_eq (c / fan ^ p.0) p.1) as (λ b. nat_eq (c / fan ^ p.0) p.1 ≡ b → (b || holds_one cells p) ≡ true → (i : ℕ) × In i (c ∷ cells) × (i / fan ^ p.0 ≡ p.1)) [
      | true ↦ λ d h. (c, inl refl, grind (arith, nat_tests))
      | false ↦ λ d h. let there = from_holds cells p h in (there.0, inr there.1, there.2)
    ] refl e

pub holds : (cells : List ℕ) (p : Spot) (i : ℕ) → In i cells → i / fan ^ p.0 ≡ p.1 → holds_one cells p ≡ true
holds [] p i h e = absurd h
holds (c ∷ cells) p i (inl same) e =
    let at : c / fan ^ p.0 ≡ p.1 = ap (λ n. n / fan ^ p.0) same ∙ e in let yes : nat_eq (c / fan ^ p.0) p.1 ≡ true = grind (arith, nat_tests) in ap (λ b. b || holds_one cells p) yes
holds (c ∷ cells) p i (inr h) e = ap (λ b. nat_eq (c / fan ^ p.0) p.1 || b) (holds cells p i h e) ∙ or_true _

pub all_in : {X : Type 0} (P : X → Type 0) (xs : List X) → AllByRecursion P xs → (x : X) → In x xs → P x
all_in P [] all x h = absurd h
all_in P (y ∷ xs) all x (inl e) = subst P e all.0
all_in P (y ∷ xs) all x (inr h) = all_in P xs all.1 x h

pub in_all : {X : Type 0} (P : X → Type 0) (xs : List X) → ((x : X) → In x xs → P x) → AllByRecursion P xs
in_all P [] each = tt
in_all P (x ∷ xs) each = (each x (inl refl), in_all P xs (λ y h. each y (inr h)))

-- ---- the spots of a path
pub over : (levels i : ℕ) (p : Spot) → In p (spots_over levels i) → (p.0 ≤ levels) × (i / fan ^ p.0 ≡ p.1)
unfolding spots_over
over levels i p h =
    let there = from_map (λ (k : ℕ). (k, i / fan ^ k)) p (range_with_len 0 (levels + 1)) h in
    let range = from_range 0 (levels + 1) there.0 there.1 in
    let high : there.0 < 0 + (levels + 1) = range.1 in
    let level : there.0 ≡ p.0 = ap (λ (s : Spot). s.0) there.2 in
    (omega arith, ap (λ k. i / fan ^ k) (sym level) ∙ ap (λ (s : Spot). s.1) there.2)

pub is_over : (levels i : ℕ) (p : Spot) → p.0 ≤ levels → i / fan ^ p.0 ≡ p.1 → In p (spots_over levels i)
unfolding spots_over
is_over levels i p le e =
    subst (λ (s : Spot). In s (map (λ (k : ℕ). (k, i / fan ^ k)) (range_with_len 0 (levels + 1)))) (λ j. (p.0, e j)) (in_map (λ (k : ℕ). (k, i / fan ^ k)) p.0 (range_with_len 0 (levels + 1)) (in_range 0 (levels + 1) p.0 (omega arith) (omega arith)))

pub grown : (any : Bool) (before after : ℕ) (p : Spot) → In p (spots_grown any before after) → (any ≡ true) × (before < p.0) × (p.0 ≤ after) × (p.1 ≡ 0)
unfolding spots_grown
grown false before after p h = absurd h
grown true before after p h =
    let there = from_map (λ (k : ℕ). (k, 0)) p (range_with_len (before + 1) (after - before)) h in
    let range = from_range (before + 1) (after - before) there.0 there.1 in
    let low : before + 1 ≤ there.0 = range.0 in
    let high : there.0 < (before + 1) + (after - before) = range.1 in
    let level : there.0 ≡ p.0 = ap (λ (s : Spot). s.0) there.2 in
    (refl, omega arith, omega arith, sym (ap (λ (s : Spot). s.1) there.2))

pub is_grown : (any : Bool) (before after : ℕ) (p : Spot) → any ≡ true → before < p.0 → p.0 ≤ after → p.1 ≡ 0 → In p (spots_grown any before after)
unfolding spots_grown
is_grown false before after p e low high at = absurd cc
is_grown true before after p e low high at =
    subst (λ (s : Spot). In s (map (λ (k : ℕ). (k, 0)) (range_with_len (before + 1) (after - before)))) (λ j. (p.0, sym at j)) (in_map (λ (k : ℕ). (k, 0)) p.0 (range_with_len (before + 1) (after - before)) (in_range (before + 1) (after - before) p.0 (omega arith) (omega arith)))

-- ---- how few levels there are
stops_by : (p : ℕ → Bool) (a c h : ℕ) → p (a + h) ≡ false → prefix_len p (range_with_len a c) ≤ h
stops_by p a zero h e = omega arith
stops_by p a (suc c) zero e = let here : p a ≡ false = ap p (omega arith) ∙ e in rw here (omega arith)
stops_by p a (suc c) (suc h) e =
    let rest = stops_by p (a + 1) c h (ap p (omega arith) ∙ e) in
    elim (p a) as (λ b. cond b (1 + prefix_len p (range_with_len (a + 1) c)) 0 ≤ suc h) [ true ↦ omega (arith, rest) | false ↦ omega arith ]

pub least_low : (n h : ℕ) → n ≤ fan ^ h → least_levels n ≤ h
unfolding least_levels
least_low n h le = stops_by (λ k. nat_lt (fan ^ k) n) 0 n h (let no : nat_lt (fan ^ h) n ≡ false = grind (arith, nat_tests) in ap (λ k. nat_lt (fan ^ k) n) (omega arith) ∙ no)

pub with_low : (levels i h : ℕ) → levels ≤ h → i < fan ^ h → levels_with levels i ≤ h
unfolding levels_with
with_low levels i h le lt =
    elim (nat_lt i (fan ^ levels)) as (λ b. cond b levels (least_levels (i + 1)) ≤ h) [ true ↦ le | false ↦ least_low (i + 1) h (omega arith) ]
