-- A whole write, from its steps.
use Rattle.std.proofs.Common.{◌≡◌, ◌≢◌, ◌≤◌, ◌<◌, ℕ, zero, suc, ◌+◌, ◌-◌, ◌/◌, ◌%◌, ◌^◌, ◌⊎◌, inl, inr, true, false, cond, List, Some, None, get_or, refl, sym, ap, subst, ◌∙◌, arith, ◌==◌, nat_eq, nat_lt, if◌then◌else◌}
use Rattle.std.proofs.lemmas.Bool.{cases_eq, cases_lt}
use Rattle.std.proofs.lemmas.Bool.Decides.{nat_tests}
use Rattle.fv_codec.specs.declared.pointer.Pointer.{Pointer}
use Rattle.fv_model.specs.Trees.{fan, levels_with, least_levels}
use Rattle.fv_tree.specs.declared.kept.Tree.{Tree}
use Rattle.fv_tree.specs.Spelled.{Under, Rooted, hole, pointer_at, stamp_in, block_at, block_or}
use Rattle.fv_tree.specs.Standing.{standing, cell_in, children_in, IsSameBut, IsSameButCells}
use Rattle.fv_tree.specs.Keeping.{IsSame, IsKept}
use Rattle.fv_tree.specs.Writing.{HasOldNodes, IsAlike, IsWritten, stamped}
use Rattle.fv_tree.proofs.Below.{no_pointers}
use Rattle.fv_tree.proofs.Raised.{past_at}
use Rattle.fv_tree.proofs.Stamped.{StampsWay, stamped_way, on_way, on, off}
use Rattle.fv_tree.proofs.Ways.{IsWay, own_way, is_way, past, alike, same_cells}

-- ---- stamps and blocks of pointers

pub some_stamp : (p : Pointer) (s : ℕ) → s ≢ 0 → stamp_in (stamped p s) ≡ Some s
some_stamp p s some = let test : (s == 0) ≡ false = grind (arith, nat_tests) in rw test refl

pub no_stamp : (p : Pointer) → p.stamp ≡ 0 → stamp_in p ≡ None
no_stamp p e = let test : (p.stamp == 0) ≡ true = grind (arith, nat_tests) in rw test refl

pub block_here : (t : Rooted) (i : ℕ) (block : List ℕ) → (pointer_at t 0 i).stamp ≢ 0 → t.cells i ≡ Some block → block_at t i ≡ Some block
unfolding block_at
block_here t i block some cell = let test : ((pointer_at t 0 i).stamp == 0) ≡ false = grind (arith, nat_tests) in rw (test, cell) refl

pub block_none : (t : Rooted) (i : ℕ) → (pointer_at t 0 i).stamp ≡ 0 → block_at t i ≡ None
unfolding block_at
block_none t i e = let test : ((pointer_at t 0 i).stamp == 0) ≡ true = grind (arith, nat_tests) in rw test refl

pub block_same : (t u : Rooted) (i : ℕ) → pointer_at u 0 i ≡ pointer_at t 0 i → u.cells i ≡ t.cells i → u.under ≡ t.under → block_at u i ≡ block_at t i
unfolding block_at
block_same t u i pointer cell under = λ j. if (pointer j).stamp == 0 then None else block_or (cell j) (under j (pointer j).vvbn)

-- ---- a tree that is the same, or alike

pub same_alike : (t u : Rooted) → IsSame t u → IsAlike t u
same_alike t u same = record {
  levels = same.levels;
  stamps = λ level place. ap stamp_in (same.pointers level place);
  blocks = λ i. block_same t u i (same.pointers 0 i) (λ j. same.cells j i) same.under;
}

-- a cell that found no memory
pub same_standing : (blocks : Under) (t u : Tree) → IsSameButCells t u → ((i : ℕ) → cell_in u i ≡ cell_in t i) → standing blocks u ≡ standing blocks t
same_standing blocks t u same cells = λ j. record {
  under = blocks;
  owner = same.owner j;
  levels = same.levels j;
  root = same.root j;
  nodes = children_in (same.nodes j);
  cells = λ i. cells i j;
}

-- nodes over a cell past the levels are hidden
hidden_way : (t u : Rooted) (i : ℕ) → fan ^ t.levels ≤ i → u.owner ≡ t.owner → u.under ≡ t.under → u.levels ≡ t.levels → u.root ≡ t.root
    → ((level place : ℕ) → level ≤ t.levels → place ≢ i / fan ^ level → u.nodes level place ≡ t.nodes level place) → IsWay u (pointer_at t)
hidden_way t u i past owner under levels root nodes = record {
  top = λ q. ap (λ n. pointer_at t n q) levels ∙ (own_way t).top q ∙ ap (λ r. if q == 0 then r else hole) (sym root);
  down = λ k q lt. (own_way t).down k q (omega (arith, lt, levels)) ∙ sym (elim (cases_eq (q / fan) (i / fan ^ (k + 1))) [
    | inl same ↦
        let none : (pointer_at t (k + 1) (q / fan)).stamp ≡ 0 = ap (λ (p : Pointer). p.stamp) (ap (pointer_at t (k + 1)) same ∙ past_at t i (k + 1) past (omega (arith, lt, levels))) in
        ap (λ (xs : List Pointer). get_or xs (q % fan) hole) (no_pointers u (k + 1) (q / fan) (pointer_at t (k + 1) (q / fan)) none ∙ sym (no_pointers t (k + 1) (q / fan) (pointer_at t (k + 1) (q / fan)) none))
    | inr differs ↦ ap (λ (xs : List Pointer). get_or xs (q % fan) hole) (alike t u (k + 1) (q / fan) (pointer_at t (k + 1) (q / fan)) owner under (nodes (k + 1) (q / fan) (omega (arith, lt, levels)) differs))
  ]);
}

pub hidden_same : (blocks : Under) (t u : Tree) (i : ℕ) → fan ^ t.levels ≤ i → IsSameBut t u → HasOldNodes t u i → IsSame (standing blocks t) (standing blocks u)
hidden_same blocks t u i far same nodes = record {
  under = refl;
  owner = same.owner;
  levels = same.levels;
  root = same.root;
  cells = same_cells t u same.cells;
  pointers = λ k q. elim (cases_lt t.levels k) [
    | inl lt ↦ past (standing blocks u) k q (omega (arith, lt, same.levels)) ∙ sym (past (standing blocks t) k q lt)
    | inr le ↦ is_way (standing blocks u) (pointer_at (standing blocks t)) (hidden_way (standing blocks t) (standing blocks u) i far same.owner refl same.levels same.root nodes) k q (omega (arith, le, same.levels))
  ];
  nodes = λ k q some none. elim (cases_lt t.levels k) [
    | inl lt ↦ absurd (some (ap (λ (p : Pointer). p.stamp) (past (standing blocks t) k q lt)))
    | inr le ↦ sym (nodes k q le (λ at. some (ap (λ (p : Pointer). p.stamp) (ap (pointer_at (standing blocks t) k) at ∙ past_at (standing blocks t) i k far le)))) ∙ none
  ];
}

-- ---- a write, from the tree that it stamps

pub record IsBase (t v : Rooted) (i s : ℕ) : Type 0 where
  pub levels : v.levels ≡ levels_with t.levels i
  pub more : t.levels ≤ v.levels
  pub covers : i < fan ^ v.levels
  pub kept : (level : ℕ) → 1 ≤ level → level ≤ v.levels → IsKept v level (i / fan ^ level)
  pub others : (level place : ℕ) → level ≤ v.levels → place ≢ i / fan ^ level → (level ≤ t.levels) ⊎ ((place ≢ 0) ⊎ (t.root.stamp ≡ 0)) → stamp_in (pointer_at v level place) ≡ stamp_in (pointer_at t level place)
  pub grown : t.root.stamp ≢ 0 → (level : ℕ) → t.levels < level → level ≤ v.levels → stamp_in (pointer_at v level 0) ≡ Some s
  pub cells : (j : ℕ) → j ≢ i → (pointer_at v 0 j ≡ pointer_at t 0 j) ⊎ (((pointer_at v 0 j).stamp ≡ 0) × ((pointer_at t 0 j).stamp ≡ 0))
  pub under : v.under ≡ t.under

module _ (t v u : Rooted) (i s : ℕ) (block : List ℕ) (base : IsBase t v i s) (stamps : StampsWay v u i s) (some : s ≢ 0) (cells : (j : ℕ) → u.cells j ≡ cond (nat_eq j i) (Some block) (t.cells j)) where
  stamped_pointers : (level place : ℕ) → level ≤ v.levels → pointer_at u level place ≡ on_way (pointer_at v) i s level place
  stamped_pointers level place le = is_way u (on_way (pointer_at v) i s) (stamped_way v u i s stamps some base.covers base.kept) level place (omega (arith, le, stamps.levels))

  stamp_here : (level place : ℕ) → level ≤ v.levels → place ≡ i / fan ^ level → stamp_in (pointer_at u level place) ≡ Some s
  stamp_here level place le at = ap stamp_in (stamped_pointers level place le ∙ on (pointer_at v) i s level place at) ∙ some_stamp (pointer_at v level place) s some

  stamp_there : (level place : ℕ) → level ≤ v.levels → place ≢ i / fan ^ level → pointer_at u level place ≡ pointer_at v level place
  stamp_there level place le differs = stamped_pointers level place le ∙ off (pointer_at v) i s level place differs

  first_range : i ≡ i / fan ^ 0
  first_range = omega arith

  this_cell : block_at u i ≡ Some block
  this_cell =
      let same : nat_eq i i ≡ true = grind (arith, nat_tests) in
      let pointer : pointer_at u 0 i ≡ stamped (pointer_at v 0 i) s = stamped_pointers 0 i (omega arith) ∙ on (pointer_at v) i s 0 i first_range in
      block_here u i block (λ e. some (sym (ap (λ (p : Pointer). p.stamp) pointer) ∙ e)) (cells i ∙ ap (λ b. cond b (Some block) (t.cells i)) same)

  other_cell : (j : ℕ) → j ≢ i → block_at u j ≡ block_at t j
  other_cell j differs =
      let test : nat_eq j i ≡ false = grind (arith, nat_tests) in
      let cell : u.cells j ≡ t.cells j = cells j ∙ ap (λ b. cond b (Some block) (t.cells j)) test in
      let pointer : pointer_at u 0 j ≡ pointer_at v 0 j = stamp_there 0 j (omega arith) (λ e. differs (e ∙ sym first_range)) in
      elim (base.cells j differs) [
        | inl same ↦ block_same t u j (pointer ∙ same) cell (stamps.under ∙ base.under)
        | inr none ↦ block_none u j (ap (λ (p : Pointer). p.stamp) pointer ∙ none.0) ∙ sym (block_none t j none.1)
      ]

  other_stamp : (level place : ℕ) → place ≢ i / fan ^ level → (level ≤ t.levels) ⊎ ((place ≢ 0) ⊎ (t.root.stamp ≡ 0)) → stamp_in (pointer_at u level place) ≡ stamp_in (pointer_at t level place)
  other_stamp level place differs old = elim (cases_lt v.levels level) [
    | inl lt ↦ ap stamp_in (past u level place (omega (arith, lt, stamps.levels)) ∙ sym (past t level place (omega (arith, lt, base.more))))
    | inr le ↦ ap stamp_in (stamp_there level place le differs) ∙ base.others level place le differs old
  ]

  grown_stamp : t.root.stamp ≢ 0 → (level : ℕ) → t.levels < level → level ≤ u.levels → stamp_in (pointer_at u level 0) ≡ Some s
  grown_stamp cell level lt le = elim (cases_eq 0 (i / fan ^ level)) [
    | inl at ↦ stamp_here level 0 (omega (arith, le, stamps.levels)) at
    | inr differs ↦ ap stamp_in (stamp_there level 0 (omega (arith, le, stamps.levels)) differs) ∙ base.grown cell level lt (omega (arith, le, stamps.levels))
  ]

  pub written_is : IsWritten t u i s block
  written_is = record {
    levels = stamps.levels ∙ base.levels;
    more = omega (arith, stamps.levels, base.more);
    way = λ level le. stamp_here level (i / fan ^ level) (omega (arith, le, stamps.levels)) refl;
    grown = grown_stamp;
    others = other_stamp;
    cell = this_cell;
    blocks = other_cell;
  }

-- ---- within the levels

pub levels_stay : (levels i : ℕ) → i < fan ^ levels → levels ≡ levels_with levels i
unfolding levels_with
levels_stay levels i lt = let test : nat_lt i (fan ^ levels) ≡ true = grind (arith, nat_tests) in rw test refl

pub levels_grow : (levels i more : ℕ) → fan ^ levels ≤ i → more ≡ least_levels (i + 1) → more ≡ levels_with levels i
unfolding levels_with
levels_grow levels i more le is = let test : nat_lt i (fan ^ levels) ≡ false = grind (arith, nat_tests) in rw test is

pub within_base : (t v : Rooted) (i s : ℕ) → IsSame t v → i < fan ^ t.levels → ((level : ℕ) → 1 ≤ level → level ≤ t.levels → IsKept v level (i / fan ^ level)) → IsBase t v i s
within_base t v i s same lt kept = record {
  levels = same.levels ∙ levels_stay t.levels i lt;
  more = omega (arith, same.levels);
  covers = subst (λ n. i < fan ^ n) (sym same.levels) lt;
  kept = λ level low high. kept level low (omega (arith, high, same.levels));
  others = λ level place le differs old. ap stamp_in (same.pointers level place);
  grown = λ some level low high. absurd (omega (arith, low, high, same.levels));
  cells = λ j differs. inl (same.pointers 0 j);
  under = same.under;
}

-- ---- past the levels

none_below : (t : Rooted) → t.root.stamp ≡ 0 → (steps place : ℕ) → steps ≤ t.levels → (pointer_at t (t.levels - steps) place).stamp ≡ 0
none_below t e zero place le =
    let n : t.levels - 0 ≡ t.levels = omega arith in
    ap (λ k. (pointer_at t k place).stamp) n ∙ ap (λ (p : Pointer). p.stamp) ((own_way t).top place) ∙ elim (cases_eq place 0) [
      | inl first ↦ let test : (place == 0) ≡ true = grind (arith, nat_tests) in ap (λ b. (if b then t.root else hole).stamp) test ∙ e
      | inr other ↦ let test : (place == 0) ≡ false = grind (arith, nat_tests) in ap (λ b. (if b then t.root else hole).stamp) test
    ]
none_below t e (suc steps) place le =
    let n : (t.levels - suc steps) + 1 ≡ t.levels - steps = omega arith in
    let none : (pointer_at t ((t.levels - suc steps) + 1) (place / fan)).stamp ≡ 0 = ap (λ k. (pointer_at t k (place / fan)).stamp) n ∙ none_below t e steps (place / fan) (omega arith) in
    ap (λ (p : Pointer). p.stamp) ((own_way t).down (t.levels - suc steps) place (omega arith) ∙ ap (λ (xs : List Pointer). get_or xs (place % fan) hole) (no_pointers t ((t.levels - suc steps) + 1) (place / fan) _ none))

pub none_at : (t : Rooted) → t.root.stamp ≡ 0 → (level place : ℕ) → (pointer_at t level place).stamp ≡ 0
none_at t e level place = elim (cases_lt t.levels level) [
  | inl lt ↦ ap (λ (p : Pointer). p.stamp) (past t level place lt)
  | inr le ↦ let n : t.levels - (t.levels - level) ≡ level = omega arith in ap (λ k. (pointer_at t k place).stamp) (sym n) ∙ none_below t e (t.levels - level) place (omega arith)
]
