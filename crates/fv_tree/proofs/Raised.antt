-- A tree whose levels grew, before the stamps of a write.
use Rattle.std.proofs.Common.{◌≡◌, ◌≢◌, ◌≤◌, ◌<◌, ℕ, zero, suc, ◌+◌, ◌-◌, ◌/◌, ◌%◌, ◌^◌, ◌⊎◌, inl, inr, true, false, cond, ◌&&◌, List, Some, get_or, replicate, refl, sym, ap, ◌∙◌, arith, ◌==◌, nat_eq, nat_le, if◌then◌else◌}
use Rattle.std.proofs.lemmas.Bool.{cases_eq, cases_lt}
use Rattle.std.proofs.lemmas.Bool.Decides.{nat_tests}
use Rattle.std.proofs.lemmas.Nat.{div-add-mod'}
use Rattle.fv_codec.specs.declared.pointer.Pointer.{Pointer}
use Rattle.fv_model.specs.Trees.{fan}
use Rattle.fv_tree.specs.Spelled.{Rooted, hole, pointers_at, pointer_at}
use Rattle.fv_tree.specs.Writing.{new_child}
use Rattle.fv_tree.proofs.Below.{no_pointers, kept_pointers}
use Rattle.fv_tree.proofs.Levels.{not_first, fan_pos}
use Rattle.fv_tree.proofs.Spots.{here, elsewhere}
use Rattle.fv_tree.proofs.Stamped.{above}
use Rattle.fv_tree.proofs.Ways.{IsWay, own_way, alike, nothing_there, spot_is}

-- nothing is hole below a hole
under_hole : (t : Rooted) (level place slot : ℕ) (p : Pointer) → p.stamp ≡ 0 → get_or (pointers_at t level place p) slot hole ≡ hole
under_hole t level place slot p e = ap (λ (xs : List Pointer). get_or xs slot hole) (no_pointers t level place p e)

-- an index past the levels leads to holes
pub past_levels : (t : Rooted) (i steps : ℕ) → fan ^ t.levels ≤ i → steps ≤ t.levels → pointer_at t (t.levels - steps) (i / fan ^ (t.levels - steps)) ≡ hole
past_levels t i zero past le =
    let n : t.levels - 0 ≡ t.levels = omega arith in
    let differs : i / fan ^ t.levels ≢ 0 = not_first i (fan ^ t.levels) (fan_pos t.levels) past in
    let test : (i / fan ^ t.levels == 0) ≡ false = grind (arith, nat_tests) in
    ap (λ k. pointer_at t k (i / fan ^ k)) n ∙ (own_way t).top (i / fan ^ t.levels) ∙ ap (λ b. if b then t.root else hole) test
past_levels t i (suc steps) past le =
    let n : (t.levels - suc steps) + 1 ≡ t.levels - steps = omega arith in
    let up : i / fan ^ (t.levels - suc steps) / fan ≡ i / fan ^ (t.levels - steps) = above i (t.levels - suc steps) ∙ ap (λ k. i / fan ^ k) n in
    let none : pointer_at t ((t.levels - suc steps) + 1) (i / fan ^ (t.levels - suc steps) / fan) ≡ hole = (λ j. pointer_at t (n j) (up j)) ∙ past_levels t i steps past (omega arith) in
    (own_way t).down (t.levels - suc steps) (i / fan ^ (t.levels - suc steps)) (omega arith)
    ∙ under_hole t ((t.levels - suc steps) + 1) (i / fan ^ (t.levels - suc steps) / fan) (i / fan ^ (t.levels - suc steps) % fan) _ (ap (λ (p : Pointer). p.stamp) none)

pub past_at : (t : Rooted) (i level : ℕ) → fan ^ t.levels ≤ i → level ≤ t.levels → pointer_at t level (i / fan ^ level) ≡ hole
past_at t i level past le =
    let n : t.levels - (t.levels - level) ≡ level = omega arith in
    ap (λ k. pointer_at t k (i / fan ^ k)) (sym n) ∙ past_levels t i (t.levels - level) past (omega arith)

-- ---- a tree without a cell: its root alone leads somewhere

unfoldable pub lone : ℕ → ℕ → ℕ → ℕ → Pointer
lone levels s level place = cond (nat_eq level levels && nat_eq place 0) (new_child s) hole

pub lone_here : (levels s level place : ℕ) → level ≡ levels → place ≡ 0 → lone levels s level place ≡ new_child s
unfolding lone
lone_here levels s level place e f = ap (λ b. cond b (new_child s) hole) ((λ j. nat_eq (e j) levels && nat_eq (f j) 0) ∙ here levels 0)

pub lone_elsewhere : (levels s level place : ℕ) → (level ≢ levels) ⊎ (place ≢ 0) → lone levels s level place ≡ hole
unfolding lone
lone_elsewhere levels s level place other = ap (λ b. cond b (new_child s) hole) (elsewhere level place levels 0 other)

pub lone_way : (v : Rooted) (s : ℕ) → s ≢ 0 → v.root ≡ new_child s → (1 ≤ v.levels → v.nodes v.levels 0 ≡ Some (replicate 128 hole)) → IsWay v (lone v.levels s)
lone_way v s some root node = record {
  top = λ place. elim (cases_eq place 0) [
    | inl e ↦ lone_here v.levels s v.levels place refl e ∙ sym root ∙ sym (ap (λ q. if q == 0 then v.root else hole) e)
    | inr differs ↦
        let test : (place == 0) ≡ false = grind (arith, nat_tests) in
        lone_elsewhere v.levels s v.levels place (inr differs) ∙ sym (ap (λ b. if b then v.root else hole) test)
  ];
  down = λ level place lt. lone_elsewhere v.levels s level place (inl (λ e. absurd (omega (arith, e, lt)))) ∙ sym (elim (spot_is (level + 1) (place / fan) v.levels 0) [
    | inl same ↦
        let first : lone v.levels s (level + 1) (place / fan) ≡ new_child s = lone_here v.levels s (level + 1) (place / fan) same.0 same.1 in
        ap (λ (xs : List Pointer). get_or xs (place % fan) hole) (kept_pointers v (level + 1) (place / fan) (lone v.levels s (level + 1) (place / fan)) (replicate 128 hole) (λ e. some (sym (ap (λ (p : Pointer). p.stamp) first) ∙ e)) ((λ j. v.nodes (same.0 j) (same.1 j)) ∙ node (omega (arith, lt)))) ∙ nothing_there (place % fan)
    | inr other ↦ under_hole v (level + 1) (place / fan) (place % fan) (lone v.levels s (level + 1) (place / fan)) (ap (λ (p : Pointer). p.stamp) (lone_elsewhere v.levels s (level + 1) (place / fan) other))
  ]);
}

-- ---- a tree with cells: the old root lies under the first range of each new level

unfoldable pub raised : Rooted → ℕ → ℕ → ℕ → Pointer
raised t s level place = cond (nat_le level t.levels) (pointer_at t level place) (cond (nat_eq place 0) (new_child s) hole)

pub raised_old : (t : Rooted) (s level place : ℕ) → level ≤ t.levels → raised t s level place ≡ pointer_at t level place
unfolding raised
raised_old t s level place le = let test : nat_le level t.levels ≡ true = grind (arith, nat_tests) in rw test refl

pub raised_first : (t : Rooted) (s level place : ℕ) → t.levels < level → place ≡ 0 → raised t s level place ≡ new_child s
unfolding raised
raised_first t s level place lt e =
    let test : nat_le level t.levels ≡ false = grind (arith, nat_tests) in
    let first : nat_eq place 0 ≡ true = grind (arith, nat_tests) in rw (test, first) refl

pub raised_other : (t : Rooted) (s level place : ℕ) → t.levels < level → place ≢ 0 → raised t s level place ≡ hole
unfolding raised
raised_other t s level place lt e =
    let test : nat_le level t.levels ≡ false = grind (arith, nat_tests) in
    let first : nat_eq place 0 ≡ false = grind (arith, nat_tests) in rw (test, first) refl

-- from the old root's level up, there is nothing but the first range
pub raised_edge : (t : Rooted) (s level place : ℕ) → t.levels ≤ level → place ≢ 0 → raised t s level place ≡ hole
raised_edge t s level place le differs = elim (cases_eq level t.levels) [
  | inl same ↦
      let test : (place == 0) ≡ false = grind (arith, nat_tests) in
      raised_old t s level place (omega arith) ∙ ap (λ k. pointer_at t k place) same ∙ (own_way t).top place ∙ ap (λ b. if b then t.root else hole) test
  | inr above ↦ raised_other t s level place (omega arith) differs
]

-- the nodes over a raised tree
pub record IsRaised (t v : Rooted) (i s : ℕ) : Type 0 where
  pub owner : v.owner ≡ t.owner
  pub under : v.under ≡ t.under
  pub more : t.levels < v.levels
  pub root : v.root ≡ new_child s
  pub past : fan ^ t.levels ≤ i
  pub old_nodes : (level place : ℕ) → level ≤ t.levels → place ≢ i / fan ^ level → v.nodes level place ≡ t.nodes level place
  pub grown : (level : ℕ) → t.levels < level → level ≤ v.levels → (xs : List Pointer) × (v.nodes level 0 ≡ Some xs) × (level ≡ t.levels + 1 → get_or xs 0 hole ≡ t.root)
      × (level ≢ t.levels + 1 → get_or xs 0 hole ≡ new_child s) × ((slot : ℕ) → slot ≢ 0 → get_or xs slot hole ≡ hole)

-- a node of a new level
raised_node : (t v : Rooted) (i s level place : ℕ) → IsRaised t v i s → s ≢ 0 → t.levels ≤ level → level < v.levels
    → get_or (pointers_at v (level + 1) (place / fan) (raised t s (level + 1) (place / fan))) (place % fan) hole ≡ raised t s level place
raised_node t v i s level place is some low high = elim (cases_eq (place / fan) 0) [
  | inl first_range ↦
      let node = is.grown (level + 1) (omega arith) (omega arith) in
      let own : place % fan ≡ place = omega (arith, first_range, div-add-mod' place fan) in
      let first : raised t s (level + 1) (place / fan) ≡ new_child s = raised_first t s (level + 1) (place / fan) (omega arith) first_range in
      let list : pointers_at v (level + 1) (place / fan) (raised t s (level + 1) (place / fan)) ≡ node.0 =
      kept_pointers v (level + 1) (place / fan) (raised t s (level + 1) (place / fan)) node.0 (λ e. some (sym (ap (λ (p : Pointer). p.stamp) first) ∙ e)) (ap (v.nodes (level + 1)) first_range ∙ node.1) in
      (λ j. get_or (list j) (own j) hole) ∙ elim (cases_eq place 0) [
        | inl e ↦ ap (λ q. get_or node.0 q hole) e ∙ elim (cases_eq level t.levels) [
          | inl same ↦ node.2 (omega (arith, same)) ∙ sym (raised_old t s level place (omega (arith, same)) ∙ (λ j. pointer_at t (same j) (e j)) ∙ (own_way t).top 0)
          | inr above ↦ node.3 (λ f. above (omega (arith, f))) ∙ sym (raised_first t s level place (omega arith) e)
        ]
        | inr differs ↦ node.4 place differs ∙ sym (raised_edge t s level place low differs)
      ]
  | inr differs ↦
      under_hole v (level + 1) (place / fan) (place % fan) (raised t s (level + 1) (place / fan)) (ap (λ (p : Pointer). p.stamp) (raised_other t s (level + 1) (place / fan) (omega arith) differs))
      ∙ sym (raised_edge t s level place low (λ e. differs (ap (λ q. q / fan) e)))
]

-- an old node
old_node : (t v : Rooted) (i s level place : ℕ) → IsRaised t v i s → level < t.levels
    → get_or (pointers_at v (level + 1) (place / fan) (raised t s (level + 1) (place / fan))) (place % fan) hole ≡ raised t s level place
old_node t v i s level place is lt =
    ap (λ p. get_or (pointers_at v (level + 1) (place / fan) p) (place % fan) hole) (raised_old t s (level + 1) (place / fan) (omega arith))
    ∙ elim (cases_eq (place / fan) (i / fan ^ (level + 1))) [
      | inl same ↦
          let none : (pointer_at t (level + 1) (place / fan)).stamp ≡ 0 = ap (λ (p : Pointer). p.stamp) (ap (pointer_at t (level + 1)) same ∙ past_at t i (level + 1) is.past (omega arith)) in
          under_hole v (level + 1) (place / fan) (place % fan) (pointer_at t (level + 1) (place / fan)) none ∙ sym (under_hole t (level + 1) (place / fan) (place % fan) (pointer_at t (level + 1) (place / fan)) none)
      | inr differs ↦ ap (λ (xs : List Pointer). get_or xs (place % fan) hole) (alike t v (level + 1) (place / fan) (pointer_at t (level + 1) (place / fan)) is.owner is.under (is.old_nodes (level + 1) (place / fan) (omega arith) differs))
    ]
    ∙ sym ((own_way t).down level place lt) ∙ sym (raised_old t s level place (omega arith))

pub raised_way : (t v : Rooted) (i s : ℕ) → IsRaised t v i s → s ≢ 0 → IsWay v (raised t s)
raised_way t v i s is some = record {
  top = λ place. elim (cases_eq place 0) [
    | inl e ↦ raised_first t s v.levels place is.more e ∙ sym is.root ∙ sym (ap (λ q. if q == 0 then v.root else hole) e)
    | inr differs ↦
        let test : (place == 0) ≡ false = grind (arith, nat_tests) in
        raised_other t s v.levels place is.more differs ∙ sym (ap (λ b. if b then v.root else hole) test)
  ];
  down = λ level place lt. elim (cases_lt level t.levels) [
    | inl below ↦ sym (old_node t v i s level place is below)
    | inr le ↦ sym (raised_node t v i s level place is some le lt)
  ];
}
