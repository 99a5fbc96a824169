-- How many keys of a list are marked, where each key stands once.
use Rattle.std.proofs.Common.{◌≡◌, ◌≢◌, ◌≤◌, ◌⊎◌, ℕ, ◌+◌, Bool, true, false, ◌&&◌, cond, nat_eq, List, [], ◌∷◌, refl, sym, ap, ◌∙◌, arith, ⊎_elim}
use Rattle.std.proofs.lemmas.Bool.{cases_eq}
use Rattle.std.proofs.lemmas.Bool.Decides.{nat_tests}

abbrev pub Marks : Type 0
Marks = List ((ℕ × ℕ) × Bool)

abbrev pub is_marked : Marks → ℕ → ℕ → Bool
is_marked [] k q = false
is_marked (e ∷ es) k q = cond (nat_eq e.0.0 k && nat_eq e.0.1 q) e.1 (is_marked es k q)

abbrev pub one_for : Bool → ℕ
one_for b = cond b 1 0

abbrev pub tally : Marks → ℕ
tally [] = 0
tally (e ∷ es) = one_for e.1 + tally es

-- no key that is marked stands before itself
abbrev pub AreOnce : Marks → Type 0
AreOnce [] = Unit {0}
AreOnce (e ∷ es) = (is_marked es e.0.0 e.0.1 ≡ false) × AreOnce es

-- ---- a key is taken out

abbrev without : Marks → ℕ → ℕ → Marks
without [] k q = []
without (e ∷ es) k q = cond (nat_eq e.0.0 k && nat_eq e.0.1 q) es (e ∷ without es k q)

still : (es : Marks) (k q a b : ℕ) → (nat_eq k a && nat_eq q b) ≡ false → is_marked (without es k q) a b ≡ is_marked es a b
still [] k q a b other = refl
still (e ∷ es) k q a b other = so (nat_eq e.0.0 k && nat_eq e.0.1 q) refl (still es k q a b other)
  where
    so : (t : Bool) → (nat_eq e.0.0 k && nat_eq e.0.1 q) ≡ t → is_marked (without es k q) a b ≡ is_marked es a b → is_marked (cond t es (e ∷ without es k q)) a b ≡ is_marked (e ∷ es) a b
    so true is rest = let differs : (nat_eq e.0.0 a && nat_eq e.0.1 b) ≡ false = grind (arith, nat_tests, is, other) in sym (ap (λ c. cond c e.1 (is_marked es a b)) differs)
    so false is rest = ap (cond (nat_eq e.0.0 a && nat_eq e.0.1 b) e.1) rest

one_less : (es : Marks) (k q : ℕ) → is_marked es k q ≡ true → tally es ≡ tally (without es k q) + 1
one_less [] k q is = absurd cc
one_less (e ∷ es) k q is = so (nat_eq e.0.0 k && nat_eq e.0.1 q) is (λ marked. one_less es k q marked)
  where
    so : (t : Bool) → cond t e.1 (is_marked es k q) ≡ true → (is_marked es k q ≡ true → tally es ≡ tally (without es k q) + 1) → one_for e.1 + tally es ≡ tally (cond t es (e ∷ without es k q)) + 1
    so true marked rest = let one : one_for e.1 ≡ 1 = ap one_for marked in omega (arith, one)
    so false marked rest = let less = rest marked in omega (arith, less)

-- ---- no other key is marked

here : (k q : ℕ) → (nat_eq k k && nat_eq q q) ≡ true
here k q = grind (arith, nat_tests)

-- a marked key behind the first is another one
another : (e : (ℕ × ℕ) × Bool) (es : Marks) (k q : ℕ) → is_marked es e.0.0 e.0.1 ≡ false → is_marked es k q ≡ true → (nat_eq e.0.0 k && nat_eq e.0.1 q) ≡ false
another e es k q fresh marked = so (nat_eq e.0.0 k && nat_eq e.0.1 q) refl
  where
    so : (t : Bool) → (nat_eq e.0.0 k && nat_eq e.0.1 q) ≡ t → t ≡ false
    so false is = refl
    so true is =
        let one : e.0.0 ≡ k = grind (arith, nat_tests, is) in
        let two : e.0.1 ≡ q = grind (arith, nat_tests, is) in
        let wrong : true ≡ false = sym marked ∙ (λ i. is_marked es (sym one i) (sym two i)) ∙ fresh in
        wrong

behind : (e : (ℕ × ℕ) × Bool) (es : Marks) (k q : ℕ) → is_marked es e.0.0 e.0.1 ≡ false → is_marked es k q ≡ true → is_marked (e ∷ es) k q ≡ true
behind e es k q fresh marked = ap (λ c. cond c e.1 (is_marked es k q)) (another e es k q fresh marked) ∙ marked

pub no_more : (es ms : Marks) → AreOnce es → ((k q : ℕ) → is_marked es k q ≡ true → is_marked ms k q ≡ true) → tally es ≤ tally ms
no_more [] ms once all = omega arith
no_more (e ∷ es) ms once all = so e.1 refl (λ ns has. no_more es ns once.1 has)
  where
    so : (t : Bool) → e.1 ≡ t → ((ns : Marks) → ((k q : ℕ) → is_marked es k q ≡ true → is_marked ns k q ≡ true) → tally es ≤ tally ns) → one_for e.1 + tally es ≤ tally ms
    so false is rest =
        let none : one_for e.1 ≡ 0 = ap one_for is in
        let less = rest ms (λ k q marked. all k q (behind e es k q once.0 marked)) in
        omega (arith, none, less)
    so true is rest =
        let one : one_for e.1 ≡ 1 = ap one_for is in
        let there : is_marked ms e.0.0 e.0.1 ≡ true = all e.0.0 e.0.1 (ap (λ c. cond c e.1 (is_marked es e.0.0 e.0.1)) (here e.0.0 e.0.1) ∙ is) in
        let fewer = one_less ms e.0.0 e.0.1 there in
        let less = rest (without ms e.0.0 e.0.1) (λ k q marked. still ms e.0.0 e.0.1 k q (another e es k q once.0 marked) ∙ all k q (behind e es k q once.0 marked)) in
        omega (arith, one, fewer, less)

-- ---- none but three

marked_first : (k q a b : ℕ) (ms : Marks) → a ≡ k → b ≡ q → is_marked (((a, b), true) ∷ ms) k q ≡ true
marked_first k q a b ms one two = let test : (nat_eq a k && nat_eq b q) ≡ true = grind (arith, nat_tests, one, two) in ap (λ c. cond c true (is_marked ms k q)) test

marked_later : (k q a b : ℕ) (ms : Marks) → is_marked ms k q ≡ true → is_marked (((a, b), true) ∷ ms) k q ≡ true
marked_later k q a b ms marked = so (nat_eq a k && nat_eq b q)
  where
    so : (t : Bool) → cond t true (is_marked ms k q) ≡ true
    so true = refl
    so false = marked

pub three_more : (es ms : Marks) (f : ℕ → ℕ) → AreOnce es → ((k q : ℕ) → is_marked es k q ≡ true → (is_marked ms k q ≡ true) ⊎ ((1 ≤ k) × (k ≤ 3) × (q ≡ f k))) → tally es ≤ tally ms + 3
three_more es ms f once all =
    let less = no_more es (((1, f 1), true) ∷ ((2, f 2), true) ∷ ((3, f 3), true) ∷ ms) once at in
    omega (arith, less)
  where
    third : (k q : ℕ) → k ≢ 1 → k ≢ 2 → 1 ≤ k → k ≤ 3 → q ≡ f k → is_marked (((3, f 3), true) ∷ ms) k q ≡ true
    third k q not_one not_two low high is = let three : 3 ≡ k = omega (arith, not_one, not_two, low, high) in marked_first k q 3 (f 3) ms three (ap f three ∙ sym is)

    at : (k q : ℕ) → is_marked es k q ≡ true → is_marked (((1, f 1), true) ∷ ((2, f 2), true) ∷ ((3, f 3), true) ∷ ms) k q ≡ true
    at k q marked = ⊎_elim
        (λ was. marked_later k q 1 (f 1) (((2, f 2), true) ∷ ((3, f 3), true) ∷ ms) (marked_later k q 2 (f 2) (((3, f 3), true) ∷ ms) (marked_later k q 3 (f 3) ms was)))
        (λ one. ⊎_elim
        (λ first. marked_first k q 1 (f 1) (((2, f 2), true) ∷ ((3, f 3), true) ∷ ms) (sym first) (ap f (sym first) ∙ sym one.2))
        (λ not_one. marked_later k q 1 (f 1) (((2, f 2), true) ∷ ((3, f 3), true) ∷ ms) (⊎_elim
        (λ second. marked_first k q 2 (f 2) (((3, f 3), true) ∷ ms) (sym second) (ap f (sym second) ∙ sym one.2))
        (λ not_two. marked_later k q 2 (f 2) (((3, f 3), true) ∷ ms) (third k q not_one not_two one.0 one.1 one.2))
        (cases_eq k 2)))
        (cases_eq k 1))
        (all k q marked)
