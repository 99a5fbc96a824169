-- The first cell from an index on: ranges, and what is below their holes.
use Rattle.std.proofs.Common.{◌≡◌, ◌≤◌, ◌<◌, ℕ, ◌+◌, ◌-◌, ◌*◌, ◌/◌, ◌%◌, ◌^◌, ◌⊎◌, inl, inr, List, Option, Some, None, get_or, sym, ap, subst, ◌∙◌, arith}
use Rattle.std.proofs.lemmas.Bool.{cases_eq, cases_lt}
use Rattle.std.specs.Option.{IfSome, IfNone}
use Rattle.fv_codec.specs.declared.pointer.Pointer.{Pointer}
use Rattle.fv_model.specs.Trees.{fan}
use Rattle.fv_tree.specs.Spelled.{Rooted, hole, pointers_at, pointer_at}
use Rattle.fv_tree.specs.Seeking.{AreHoles}
use Rattle.fv_tree.proofs.Unlinked.{cells_below}
use Rattle.fv_tree.proofs.Ways.{own_way}

-- a fact of the width of a range below the root of a tree
by_width : (P : ℕ → Type 0) (k : ℕ) → k ≤ 2 → P 1 → P 128 → P 16384 → P (fan ^ k)
by_width P k le one two three = elim (cases_eq k 0) [
  | inl e ↦ subst (λ n. P (fan ^ n)) (sym e) one
  | inr some ↦ elim (cases_eq k 1) [
    | inl e ↦ subst (λ n. P (fan ^ n)) (sym e) two
    | inr more ↦ let e : k ≡ 2 = omega arith in subst (λ n. P (fan ^ n)) (sym e) three
  ]
]

-- a range under the same node begins at an index
pub child_within : (k at child : ℕ) → k ≤ 2 → at < 2097152 → child / fan ≡ at / fan ^ k / fan → child * fan ^ k < 2097152
child_within k at child le =
    by_width (λ w. at < 2097152 → child / fan ≡ at / w / fan → child * w < 2097152) k le (λ lt same. omega (arith, lt, same)) (λ lt same. omega (arith, lt, same)) (λ lt same. omega (arith, lt, same))

-- the first index past the node
pub past_within : (k at : ℕ) → k ≤ 2 → at < 2097152 → (at / fan ^ k / fan + 1) * fan * fan ^ k ≤ 2097152
past_within k at le =
    by_width (λ w. at < 2097152 → (at / w / fan + 1) * fan * w ≤ 2097152) k le (λ lt. omega (arith, lt)) (λ lt. omega (arith, lt)) (λ lt. omega (arith, lt))

-- an index in it, and the later of both
pub child_at : (k at child now : ℕ) → k ≤ 2 → at / fan ^ k ≤ child → at ≤ now → child * fan ^ k ≤ now → (now ≡ at) ⊎ (now ≡ child * fan ^ k) → now / fan ^ k ≡ child
child_at k at child now le =
    by_width (λ w. at / w ≤ child → at ≤ now → child * w ≤ now → (now ≡ at) ⊎ (now ≡ child * w) → now / w ≡ child) k le
    (λ first low start one. elim one [ inl is ↦ omega (arith, first, low, start, is) | inr is ↦ omega (arith, first, low, start, is) ])
    (λ first low start one. elim one [ inl is ↦ omega (arith, first, low, start, is) | inr is ↦ omega (arith, first, low, start, is) ])
    (λ first low start one. elim one [ inl is ↦ omega (arith, first, low, start, is) | inr is ↦ omega (arith, first, low, start, is) ])

-- the range of an index between
between : (k at i bound : ℕ) → k ≤ 2 → at ≤ i → i < bound * fan ^ k → (at / fan ^ k ≤ i / fan ^ k) × (i / fan ^ k < bound)
between k at i bound le =
    by_width (λ w. at ≤ i → i < bound * w → (at / w ≤ i / w) × (i / w < bound)) k le (λ low high. (omega (arith, low), omega (arith, high))) (λ low high. (omega (arith, low), omega (arith, high))) (λ low high. (omega (arith, low), omega (arith, high)))

-- no cell stands under ranges that are holes
pub holes_under : (t : Rooted) (k at bound : ℕ) → k ≤ 2 → k ≤ t.levels → ((r : ℕ) → at / fan ^ k ≤ r → r < bound → (pointer_at t k r).stamp ≡ 0) → AreHoles t at (bound * fan ^ k)
holes_under t k at bound le high holes i low lt = let in_range = between k at i bound le low lt in cells_below t k i high (holes (i / fan ^ k) in_range.0 in_range.1)

pub holes_then : (t : Rooted) (from at to : ℕ) → AreHoles t from at → AreHoles t at to → AreHoles t from to
holes_then t from at to first second i low high = elim (cases_lt i at) [
  | inl lt ↦ first i low lt
  | inr le ↦ second i le high
]

-- a pointer of a node is that of the tree
pub child_is : (t : Rooted) (level place : ℕ) (p : Pointer) (xs : List Pointer) → 1 ≤ level → level ≤ t.levels → p ≡ pointer_at t level place → xs ≡ pointers_at t level place p → (q : ℕ) → q / fan ≡ place
    → get_or xs (q % fan) hole ≡ pointer_at t (level - 1) q
child_is t level place p xs low high way is q up =
    let n : (level - 1) + 1 ≡ level = omega arith in
    ap (λ (ys : List Pointer). get_or ys (q % fan) hole) (is ∙ ap (pointers_at t level place) way)
    ∙ sym ((own_way t).down (level - 1) q (omega arith) ∙ (λ j. get_or (pointers_at t (n j) (up j) (pointer_at t (n j) (up j))) (q % fan) hole))

-- ---- with a width that is told twice

module _ (k at v w : ℕ) (le : k ≤ 2) (is : v ≡ fan ^ k) (also : w ≡ fan ^ k) where
  pub past_fits : at < 2097152 → (at / v / fan + 1) * fan * w ≤ 2097152
  past_fits lt = subst (λ n. (at / n / fan + 1) * fan * w ≤ 2097152) (sym is) (subst (λ n. (at / fan ^ k / fan + 1) * fan * n ≤ 2097152) (sym also) (past_within k at le lt))

  pub child_fits : (child : ℕ) → at < 2097152 → child / fan ≡ at / v / fan → child * w < 2097152
  child_fits child lt same = subst (λ n. child * n < 2097152) (sym also) (child_within k at child le lt (same ∙ ap (λ n. at / n / fan) is))

  pub child_there : (child now : ℕ) → at / v ≤ child → at ≤ now → child * w ≤ now → (now ≡ at) ⊎ (now ≡ child * w) → now / fan ^ k ≡ child
  child_there child now first low start one = child_at k at child now le (subst (λ n. at / n ≤ child) is first) low (subst (λ n. child * n ≤ now) also start) (subst (λ n. (now ≡ at) ⊎ (now ≡ child * n)) also one)

  pub holes_to : (t : Rooted) (bound : ℕ) → k ≤ t.levels → ((r : ℕ) → at / v ≤ r → r < bound → (pointer_at t k r).stamp ≡ 0) → AreHoles t at (bound * w)
  holes_to t bound high holes = subst (λ n. AreHoles t at (bound * n)) (sym also) (holes_under t k at bound le high (λ r low lt. holes r (subst (λ n. at / n ≤ r) (sym is) low) lt))

-- ---- what an answer holds

pub at_some : {X : Type 0} (o : Option X) (x : X) (P : X → Type 0) → o ≡ Some x → IfSome o P → P x
at_some o x P is h = subst (λ r. IfSome r P) is h

pub at_none : {X : Type 0} (o : Option X) (P : Type 0) → o ≡ None → IfNone o P → P
at_none o P is h = subst (λ r. IfNone r P) is h

pub if_none : {X : Type 0} (o : Option X) (P Q : Type 0) → (P → Q) → IfNone o P → IfNone o Q
if_none None P Q f p = f p
if_none (Some x) P Q f p = p
