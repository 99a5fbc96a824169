-- The pointers of a tree are the only ones that agree with its root and its nodes, level by level.
use Rattle.std.proofs.Common.{◌≡◌, ◌≢◌, ◌≤◌, ◌<◌, ℕ, zero, suc, ◌+◌, ◌-◌, ◌/◌, ◌%◌, ◌⊎◌, inl, inr, true, false, List, [], length, Some, None, get_or, replicate, refl, sym, ap, ◌∙◌, arith, ◌==◌, nat_le, if◌then◌else◌, Option}
use Rattle.fv_tree.specs.Carried.{Brings, IsRead, kept_at}
use Rattle.fv_tree.specs.declared.kept.Tree.{Tree}
use Rattle.fv_tree.specs.declared.kept.KeptNode.{KeptNode}
use Rattle.fv_tree.specs.declared.kept.KeptCell.{KeptCell}
use Rattle.fv_tree.specs.Standing.{cell_in}
use Rattle.std.specs.Ordering.{nat_cmp}
use Rattle.std.specs.Option.{option_map}
use Rattle.std.specs.BTreeMap as maps
use Rattle.std.proofs.lemmas.Bool.{cases_eq, cases_lt}
use Rattle.std.proofs.lemmas.Bool.Decides.{nat_tests}
use Rattle.std.proofs.lemmas.List.{get_or-replicate, get_or_past, length-replicate}
use Rattle.fv_codec.specs.declared.pointer.Pointer.{Pointer}
use Rattle.fv_model.specs.Trees.{fan}
use Rattle.fv_tree.specs.Spelled.{Rooted, hole, kept_or, pointers_at, pointers_in, pointer_below, pointer_at, Under}
use Rattle.fv_tree.specs.Keeping.{IsSame, Keeps}
use Rattle.fv_tree.proofs.Below.{no_pointers, kept_pointers}

pub record IsWay (t : Rooted) (f : ℕ → ℕ → Pointer) : Type 0 where
  pub top : (place : ℕ) → f t.levels place ≡ (if place == 0 then t.root else hole)
  pub down : (level place : ℕ) → level < t.levels
      → f level place ≡ get_or (pointers_at t (level + 1) (place / fan) (f (level + 1) (place / fan))) (place % fan) hole

pub determined : (t : Rooted) (f : ℕ → ℕ → Pointer) → IsWay t f → (steps place : ℕ) → steps ≤ t.levels → pointer_below t steps place ≡ f (t.levels - steps) place
unfolding pointer_below
determined t f way zero place le = sym (way.top place) ∙ (let e : t.levels ≡ t.levels - 0 = omega arith in ap (λ n. f n place) e)
determined t f way (suc steps) place le =
    let here : pointer_below t steps (place / fan) ≡ f (t.levels - steps) (place / fan) = determined t f way steps (place / fan) (omega arith) in
    let n : (t.levels - suc steps) + 1 ≡ t.levels - steps = omega arith in
    ap (λ q. get_or (pointers_at t (t.levels - steps) (place / fan) q) (place % fan) hole) here
    ∙ sym (way.down (t.levels - suc steps) place (omega arith) ∙ ap (λ k. get_or (pointers_at t k (place / fan) (f k (place / fan))) (place % fan) hole) n)

pub is_way : (t : Rooted) (f : ℕ → ℕ → Pointer) → IsWay t f → (level place : ℕ) → level ≤ t.levels → pointer_at t level place ≡ f level place
unfolding pointer_at
is_way t f way level place le =
    let test : nat_le level t.levels ≡ true = grind (arith, nat_tests) in
    let n : t.levels - (t.levels - level) ≡ level = omega arith in
    rw test (determined t f way (t.levels - level) place (omega arith) ∙ ap (λ k. f k place) n)

-- the pointers of a tree are such
pub own_way : (t : Rooted) → IsWay t (pointer_at t)
unfolding pointer_at pointer_below
own_way t = record {
  top = λ place.
      let test : nat_le t.levels t.levels ≡ true = grind (arith, nat_tests) in
      let n : t.levels - t.levels ≡ 0 = omega arith in
      rw (test, n) refl;
  down = λ level place lt.
      let test : nat_le level t.levels ≡ true = grind (arith, nat_tests) in
      let next : nat_le (level + 1) t.levels ≡ true = grind (arith, nat_tests) in
      let n : t.levels - level ≡ suc (t.levels - (level + 1)) = omega arith in
      let m : t.levels - (t.levels - (level + 1)) ≡ level + 1 = omega arith in
      rw (test, next, n, m) refl;
}

pub past : (t : Rooted) (level place : ℕ) → t.levels < level → pointer_at t level place ≡ hole
unfolding pointer_at
past t level place lt = let test : nat_le level t.levels ≡ false = grind (arith, nat_tests) in rw test refl

-- a child of what nothing leads to has nothing that leads to it
pub under_none : (t : Rooted) (level place : ℕ) → level < t.levels → (pointer_at t (level + 1) (place / fan)).stamp ≡ 0 → (pointer_at t level place).stamp ≡ 0
under_none t level place lt e = ap (λ (p : Pointer). p.stamp) ((own_way t).down level place lt ∙ ap (λ (xs : List Pointer). get_or xs (place % fan) hole) (no_pointers t (level + 1) (place / fan) (pointer_at t (level + 1) (place / fan)) e))

pub reached_within : (t : Rooted) (level place : ℕ) → (pointer_at t level place).stamp ≢ 0 → level ≤ t.levels
reached_within t level place some = elim (cases_lt t.levels level) [
  | inl lt ↦ absurd (some (ap (λ (p : Pointer). p.stamp) (past t level place lt)))
  | inr le ↦ le
]

pub top_is_first : (t : Rooted) (place : ℕ) → (pointer_at t t.levels place).stamp ≢ 0 → place ≡ 0
top_is_first t place some = elim (cases_eq place 0) [
  | inl e ↦ e
  | inr differs ↦ let test : (place == 0) ≡ false = grind (arith, nat_tests) in absurd (some (ap (λ (p : Pointer). p.stamp) ((own_way t).top place ∙ ap (λ b. if b then t.root else hole) test)))
]

-- pointers are equal where the trees say the same above them
pub alike : (t u : Rooted) (level place : ℕ) (p : Pointer) → u.owner ≡ t.owner → u.under ≡ t.under → u.nodes level place ≡ t.nodes level place → pointers_at u level place p ≡ pointers_at t level place p
unfolding pointers_at
alike t u level place p owner under nodes =
    λ j. if p.stamp == 0 then [] else kept_or (nodes j) (pointers_in (under j p.vvbn))

pub nothing_there : (slot : ℕ) → get_or (replicate 128 hole) slot hole ≡ hole
nothing_there slot = elim (cases_lt slot 128) [
  | inl lt ↦ get_or-replicate 128 slot hole hole lt
  | inr le ↦ get_or_past (replicate 128 hole) slot hole (omega (arith, length-replicate {A = Pointer} 128 hole, le))
]

pub spot_is : (k q level place : ℕ) → ((k ≡ level) × (q ≡ place)) ⊎ ((k ≢ level) ⊎ (q ≢ place))
spot_is k q level place = elim (cases_eq k level) [
  | inl same ↦ elim (cases_eq q place) [
    | inl too ↦ inl (same, too)
    | inr other ↦ inr (inr other)
  ]
  | inr other ↦ inr (inl other)
]

-- ---- a node that comes into memory as its block spells it leaves the tree as it is

keeps_own : (t u : Rooted) (level place : ℕ) (p : Pointer) → Keeps t u level place p → (slot : ℕ)
    → get_or (pointers_at u level place p) slot hole ≡ get_or (pointers_at t level place p) slot hole
keeps_own t u level place p keeps slot = elim keeps.own [
  | inl n ↦ ap (λ (xs : List Pointer). get_or xs slot hole) (alike t u level place p keeps.owner keeps.under n)
  | inr n ↦ elim (cases_eq p.stamp 0) [
    | inl e ↦ ap (λ (xs : List Pointer). get_or xs slot hole) (no_pointers u level place p e ∙ sym (no_pointers t level place p e))
    | inr some ↦ ap (λ (xs : List Pointer). get_or xs slot hole) (kept_pointers u level place p n.0 some n.1) ∙ n.3 slot
  ]
]

keeps_down : (t u : Rooted) (level place : ℕ) → Keeps t u level place (pointer_at t level place) → (k q slot : ℕ)
    → get_or (pointers_at u k q (pointer_at t k q)) slot hole ≡ get_or (pointers_at t k q (pointer_at t k q)) slot hole
keeps_down t u level place keeps k q slot = elim (spot_is k q level place) [
  | inl same ↦ rw (same.0, same.1) (keeps_own t u level place (pointer_at t level place) keeps slot)
  | inr other ↦ ap (λ (xs : List Pointer). get_or xs slot hole) (alike t u k q (pointer_at t k q) keeps.owner keeps.under (keeps.others k q other))
]

keeps_way : (t u : Rooted) (level place : ℕ) → Keeps t u level place (pointer_at t level place) → IsWay u (pointer_at t)
keeps_way t u level place keeps = record {
  top = λ q. ap (λ n. pointer_at t n q) keeps.levels ∙ (own_way t).top q ∙ ap (λ r. if q == 0 then r else hole) (sym keeps.root);
  down = λ k q lt. (own_way t).down k q (omega (arith, lt, keeps.levels)) ∙ sym (keeps_down t u level place keeps (k + 1) (q / fan) (q % fan));
}

pub keeps_pointers : (t u : Rooted) (level place : ℕ) → Keeps t u level place (pointer_at t level place) → (k q : ℕ) → pointer_at u k q ≡ pointer_at t k q
keeps_pointers t u level place keeps k q = elim (cases_lt t.levels k) [
  | inl lt ↦ past u k q (omega (arith, lt, keeps.levels)) ∙ sym (past t k q lt)
  | inr le ↦ is_way u (pointer_at t) (keeps_way t u level place keeps) k q (omega (arith, le, keeps.levels))
]

-- a node that isn't in memory wasn't there before
keeps_unread : (t u : Rooted) (level place : ℕ) (p : Pointer) → Keeps t u level place p → (k q : ℕ) → u.nodes k q ≡ None → t.nodes k q ≡ None
keeps_unread t u level place p keeps k q none = elim (cases_eq k level) [
  | inr differs ↦ sym (keeps.others k q (inl differs)) ∙ none
  | inl low ↦ elim (cases_eq q place) [
    | inr apart ↦ sym (keeps.others k q (inr apart)) ∙ none
    | inl at ↦
        let here : u.nodes level place ≡ None = (λ j. u.nodes (sym low j) (sym at j)) ∙ none in
        (λ j. t.nodes (low j) (at j)) ∙ own here keeps.own
  ]
]
  where
    own : u.nodes level place ≡ None → (u.nodes level place ≡ t.nodes level place) ⊎ ((xs : List Pointer) × (u.nodes level place ≡ Some xs) × (length xs ≡ 128) × ((slot : ℕ) → get_or xs slot hole ≡ get_or (pointers_at t level place p) slot hole)) → t.nodes level place ≡ None
    own here (inl same) = sym same ∙ here
    own here (inr there) = absurd (let both = sym here ∙ there.1 in cc)

pub keeps_same : (t u : Rooted) (level place : ℕ) → Keeps t u level place (pointer_at t level place) → IsSame t u
keeps_same t u level place keeps = record { under = keeps.under; owner = keeps.owner; levels = keeps.levels; root = keeps.root; cells = keeps.cells; pointers = keeps_pointers t u level place keeps; nodes = λ k q some none. keeps_unread t u level place (pointer_at t level place) keeps k q none }

pub same_then : (t u v : Rooted) → IsSame t u → IsSame u v → IsSame t v
same_then t u v first second = record {
  under = second.under ∙ first.under;
  owner = second.owner ∙ first.owner;
  levels = second.levels ∙ first.levels;
  root = second.root ∙ first.root;
  cells = second.cells ∙ first.cells;
  pointers = λ k q. second.pointers k q ∙ first.pointers k q;
  nodes = λ k q some none. first.nodes k q some (second.nodes k q (λ gone. some (ap (λ (p : Pointer). p.stamp) (sym (first.pointers k q)) ∙ gone)) none);
}

-- ---- a tree whose nodes agree with the pointers of another

pub way_pointers : (w t : Rooted) → w.levels ≡ t.levels → IsWay w (pointer_at t) → (level place : ℕ) → pointer_at w level place ≡ pointer_at t level place
way_pointers w t levels way level place = elim (cases_lt w.levels level) [
  | inl lt ↦ past w level place lt ∙ sym (past t level place (omega (arith, lt, levels)))
  | inr le ↦ is_way w (pointer_at t) way level place le
]

-- ---- what comes into memory

-- what one sees of a node stays, where a node that comes into memory leads somewhere and shows no more than none does
pub brings_seen : {X : Type 0} (see : Option KeptNode → X) (blocks : Under) (t u : Tree) (level place : ℕ) (p : Pointer) → Brings blocks t u level place p
    → (kept_at t level place ≡ None → IsRead blocks p.vvbn (kept_at u level place) → see (kept_at u level place) ≡ see (kept_at t level place))
    → (k q : ℕ) → ((k ≢ level) ⊎ (q ≢ place)) ⊎ (p.stamp ≢ 0) → see (kept_at u k q) ≡ see (kept_at t k q)
brings_seen see blocks t u level place p brings same k q (inl other) = ap see (brings.others k q other)
brings_seen see blocks t u level place p brings same k q (inr some) = elim (spot_is k q level place) [
  | inr other ↦ ap see (brings.others k q other)
  | inl at ↦ (λ j. see (kept_at u (at.0 j) (at.1 j))) ∙ own ∙ sym (λ j. see (kept_at t (at.0 j) (at.1 j)))
]
  where
    own : see (kept_at u level place) ≡ see (kept_at t level place)
    own = elim brings.own [
      | inl still ↦ ap see still
      | inr (inl blank) ↦ absurd (some blank.0)
      | inr (inr read) ↦ same read.1 read.2
    ]

-- the cells in memory are seen alike
pub same_cells : (t u : Tree) → u.cells ≡ t.cells → cell_in u ≡ cell_in t
same_cells t u same = λ j index. option_map (λ (kept : KeptCell). kept.block.value) (maps.get nat_cmp (same j) index)
