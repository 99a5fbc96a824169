-- The pointers of a tree from which a cell was unlinked.
use Rattle.std.proofs.Common.{◌≡◌, ◌≢◌, ◌≤◌, ◌<◌, ℕ, zero, suc, ◌+◌, ◌-◌, ◌*◌, ◌/◌, ◌%◌, ◌^◌, ◌⊎◌, inl, inr, true, false, cond, List, Option, Some, None, get_or, length, refl, sym, ap, subst, ◌∙◌, arith, ◌==◌, ◌&&◌, nat_eq, nat_le, nat_lt, if◌then◌else◌}
use Rattle.std.specs.Option.{option_map}
use Rattle.std.specs.BTreeMap as tree
use Rattle.std.proofs.Math.Nat.{div-eq_of_lt}
use Rattle.std.proofs.lemmas.Bool.{cases_eq, cases_lt}
use Rattle.std.proofs.lemmas.Bool.Decides.{nat_tests}
use Rattle.std.proofs.lemmas.List.{get_or-set_same, get_or-set_other, get_or_past}
use Rattle.fv_codec.specs.declared.pointer.Pointer.{Pointer}
use Rattle.fv_model.specs.Trees.{fan, spot_cmp}
use Rattle.fv_tree.specs.declared.kept.Tree.{Tree}
use Rattle.fv_tree.specs.declared.kept.KeptNode.{KeptNode}
use Rattle.fv_tree.specs.Spelled.{Under, Rooted, hole, pointers_at, pointer_at}
use Rattle.fv_tree.specs.Standing.{standing, node_in}
use Rattle.fv_tree.specs.Writing.{stamped, stamped_in, slot_of}
use Rattle.fv_tree.specs.Erasing.{StandsAt}
use Rattle.fv_tree.specs.Unlinking.{HasWay, AreBare, Unlinks, cleared_in}
use Rattle.fv_tree.proofs.Below.{no_pointers, kept_pointers}
use Rattle.fv_tree.proofs.Raised.{past_at}
use Rattle.fv_tree.proofs.Stamped.{above, apart, one_stamped, this_stamped}
use Rattle.fv_tree.proofs.Ways.{IsWay, own_way, is_way, past, alike}
use Rattle.fv_tree.proofs.Writes.{none_at}

-- ---- holes, and what is below them

pub hole_below : (t : Rooted) (level place : ℕ) → level < t.levels → (pointer_at t (level + 1) (place / fan)).stamp ≡ 0 → (pointer_at t level place).stamp ≡ 0
hole_below t level place lt none =
    ap (λ (p : Pointer). p.stamp) ((own_way t).down level place lt ∙ ap (λ (xs : List Pointer). get_or xs (place % fan) hole) (no_pointers t (level + 1) (place / fan) (pointer_at t (level + 1) (place / fan)) none))

-- no cell lies under a hole
pub cells_below : (t : Rooted) (level k : ℕ) → level ≤ t.levels → (pointer_at t level (k / fan ^ level)).stamp ≡ 0 → (pointer_at t 0 k).stamp ≡ 0
cells_below t zero k le none = let first : k / fan ^ 0 ≡ k = omega arith in ap (λ q. (pointer_at t 0 q).stamp) (sym first) ∙ none
cells_below t (suc level) k le none =
    let n : level + 1 ≡ suc level = omega arith in
    cells_below t level k (omega arith) (hole_below t level (k / fan ^ level) (omega arith) (ap (λ q. (pointer_at t (level + 1) q).stamp) (above k level) ∙ ap (λ m. (pointer_at t m (k / fan ^ m)).stamp) n ∙ none))

pub marks_above : (t : Rooted) (level k : ℕ) → level ≤ t.levels → StandsAt t 0 k → StandsAt t level (k / fan ^ level)
marks_above t level k le stands none = stands (cells_below t level k le none)

-- a cell that stands lies within the levels
pub cell_within : (t : Rooted) (k : ℕ) → StandsAt t 0 k → k < fan ^ t.levels
cell_within t k stands = elim (cases_lt k (fan ^ t.levels)) [
  | inl lt ↦ lt
  | inr le ↦
      let first : k / fan ^ 0 ≡ k = omega arith in
      absurd (stands (ap (λ q. (pointer_at t 0 q).stamp) (sym first) ∙ ap (λ (p : Pointer). p.stamp) (past_at t k 0 le (omega arith))))
]

pub mark_within : (t : Rooted) (level place : ℕ) → StandsAt t level place → level ≤ t.levels
mark_within t level place stands = elim (cases_lt t.levels level) [
  | inl lt ↦ absurd (stands (ap (λ (p : Pointer). p.stamp) (past t level place lt)))
  | inr le ↦ le
]

pub top_alone : (t : Rooted) (place : ℕ) → StandsAt t t.levels place → place ≡ 0
top_alone t place stands = elim (cases_eq place 0) [
  | inl e ↦ e
  | inr differs ↦
      let test : (place == 0) ≡ false = grind (arith, nat_tests) in
      absurd (stands (ap (λ (p : Pointer). p.stamp) ((own_way t).top place) ∙ ap (λ b. (if b then t.root else hole).stamp) test))
]

-- a node in memory has 128 pointers
long_kept : (o : Option KeptNode) (xs : List Pointer) → option_map (λ (kept : KeptNode). kept.children) o ≡ Some xs → length xs ≡ 128
long_kept None xs e = absurd cc
long_kept (Some kept) xs e = let same : kept.children ≡ xs = cc in ap length (sym same) ∙ kept.long

pub long_node : (t : Tree) (level place : ℕ) (xs : List Pointer) → node_in t level place ≡ Some xs → length xs ≡ 128
long_node t level place xs is = long_kept (tree.get spot_cmp t.nodes (level, place)) xs is

-- ---- a way to a cell whose lowest nodes lead to nothing else
module _ (blocks : Under) (t : Tree) (i lost : ℕ) (way : HasWay t i) (are : AreBare t i lost) (stands : StandsAt (standing blocks t) 0 i) where
  abbrev s : Rooted
  s = standing blocks t

  -- what a pointer of a node on the way is
  pub child : (level place : ℕ) → level < t.levels → place / fan ≡ i / fan ^ (level + 1) → (xs : List Pointer) → node_in t (level + 1) (i / fan ^ (level + 1)) ≡ Some xs
      → pointer_at s level place ≡ get_or xs (place % fan) hole
  child level place lt at xs node =
      (own_way s).down level place lt
      ∙ ap (λ (ys : List Pointer). get_or ys (place % fan) hole) (kept_pointers s (level + 1) (place / fan) (pointer_at s (level + 1) (place / fan)) xs (λ none. marks_above s (level + 1) i (omega arith) stands (ap (λ q. (pointer_at s (level + 1) q).stamp) (sym at) ∙ none)) (ap (node_in t (level + 1)) at ∙ node))

  slot_is : (level : ℕ) → slot_of i (level + 1) ≡ i / fan ^ level % fan
  slot_is level = let n : (level + 1) - 1 ≡ level = omega arith in ap (λ k. i / fan ^ k % fan) n

  -- beside the way, below one of those nodes
  beside : (level place : ℕ) → level < lost → place / fan ≡ i / fan ^ (level + 1) → place ≢ i / fan ^ level → (pointer_at s level place).stamp ≡ 0
  beside level place lt at differs =
      let few = are.few in
      let node = way (level + 1) (omega arith) (omega (arith, few)) in
      ap (λ (p : Pointer). p.stamp) (child level place (omega (arith, few)) at node.0 node.1)
      ∙ are.bare (level + 1) (omega arith) (omega arith) node.0 node.1 (place % fan) (λ e. apart place (i / fan ^ level) (at ∙ sym (above i level)) differs (e ∙ slot_is level))

  -- no other cell lies below those nodes
  pub alone : (level k : ℕ) → level ≤ lost → k / fan ^ level ≡ i / fan ^ level → k ≢ i → (pointer_at s 0 k).stamp ≡ 0
  alone zero k le at differs = absurd (differs (let a : k / fan ^ 0 ≡ k = omega arith in let b : i / fan ^ 0 ≡ i = omega arith in sym a ∙ at ∙ b))
  alone (suc level) k le at differs =
      let few = are.few in
      let n : suc level ≡ level + 1 = omega arith in
      let up : k / fan ^ level / fan ≡ i / fan ^ (level + 1) = above k level ∙ ap (λ m. k / fan ^ m) (sym n) ∙ at ∙ ap (λ m. i / fan ^ m) n in
      elim (cases_eq (k / fan ^ level) (i / fan ^ level)) [
        | inl same ↦ alone level k (omega arith) same differs
        | inr other ↦ cells_below s level k (omega (arith, few)) (beside level (k / fan ^ level) (omega arith) up other)
      ]

  -- where all nodes over the cell are such, nothing else stands at all
  lone_from : (steps level place : ℕ) → lost ≡ t.levels → level + steps ≡ t.levels → place ≢ i / fan ^ level → (pointer_at s level place).stamp ≡ 0
  lone_from zero level place all n differs =
      let top : level ≡ t.levels = omega arith in
      let none : i / fan ^ t.levels ≡ 0 = div-eq_of_lt (cell_within s i stands) in
      elim (cases_eq (pointer_at s level place).stamp 0) [
        | inl e ↦ e
        | inr some ↦ absurd (differs (top_alone s place (subst (λ k. StandsAt s k place) top some) ∙ sym none ∙ ap (λ k. i / fan ^ k) (sym top)))
      ]
  lone_from (suc steps) level place all n differs = elim (cases_eq (place / fan) (i / fan ^ (level + 1))) [
    | inl at ↦ beside level place (omega (arith, all, n)) at differs
    | inr other ↦ hole_below s level place (omega (arith, n)) (lone_from steps (level + 1) (place / fan) all (omega (arith, n)) other)
  ]

  pub lone : (level place : ℕ) → lost ≡ t.levels → place ≢ i / fan ^ level → (pointer_at s level place).stamp ≡ 0
  lone level place all differs = elim (cases_lt t.levels level) [
    | inl lt ↦ ap (λ (p : Pointer). p.stamp) (past s level place lt)
    | inr le ↦ lone_from (t.levels - level) level place all (omega arith) differs
  ]

  -- where one leads to something else, that stands
  pub another : lost < t.levels → (place : ℕ) × (place ≢ i / fan ^ lost) × (place / fan ≡ i / fan ^ (lost + 1)) × StandsAt s lost place
  another lt =
      let node = way (lost + 1) (omega arith) (omega arith) in
      let other = are.other lt node.0 node.1 in
      let small : other.0 < 128 = elim (cases_lt other.0 128) [
        | inl less ↦ less
        | inr le ↦ absurd (other.2 (ap (λ (p : Pointer). p.stamp) (get_or_past node.0 other.0 hole (omega (arith, long_node t (lost + 1) (i / fan ^ (lost + 1)) node.0 node.1, le)))))
      ] in
      let up : (i / fan ^ (lost + 1) * fan + other.0) / fan ≡ i / fan ^ (lost + 1) = omega (arith, small) in
      let slot : (i / fan ^ (lost + 1) * fan + other.0) % fan ≡ other.0 = omega (arith, small) in (
        i / fan ^ (lost + 1) * fan + other.0,
        (λ e. other.1 (sym slot ∙ ap (λ q. q % fan) e ∙ sym (slot_is lost))),
        up,
        (λ none. other.2 (ap (λ q. (get_or node.0 q hole).stamp) (sym slot) ∙ ap (λ (p : Pointer). p.stamp) (sym (child lost (i / fan ^ (lost + 1) * fan + other.0) lt up node.0 node.1)) ∙ none)),
      )

  -- ---- once the cell is unlinked
  module _ (u : Tree) (start stamp : ℕ) (is : Unlinks t u i lost start stamp) (some : stamp ≢ 0) where
    abbrev v : Rooted
    v = standing blocks u

    pub emptied : lost ≡ t.levels → (level place : ℕ) → (pointer_at v level place).stamp ≡ 0
    emptied all = none_at v (ap (λ (p : Pointer). p.stamp) (is.root ∙ (let test : nat_eq lost t.levels ≡ true = grind (arith, nat_tests) in ap (λ b. cond b hole (stamped t.root stamp)) test)))

    -- the pointers below and above
    unfoldable pub after : ℕ → ℕ → Pointer
    after level place = cond (nat_eq place (i / fan ^ level))
        (cond (nat_le level lost) hole (stamped (pointer_at s level place) stamp))
        (cond (nat_lt level lost && nat_eq (place / fan) (i / fan ^ (level + 1))) hole (pointer_at s level place))

    pub low : (level place : ℕ) → place ≡ i / fan ^ level → level ≤ lost → after level place ≡ hole
    unfolding after
    low level place at le =
        let here : nat_eq place (i / fan ^ level) ≡ true = grind (arith, nat_tests) in
        let test : nat_le level lost ≡ true = grind (arith, nat_tests) in rw (here, test) refl

    pub high : (level place : ℕ) → place ≡ i / fan ^ level → lost < level → after level place ≡ stamped (pointer_at s level place) stamp
    unfolding after
    high level place at lt =
        let here : nat_eq place (i / fan ^ level) ≡ true = grind (arith, nat_tests) in
        let test : nat_le level lost ≡ false = grind (arith, nat_tests) in rw (here, test) refl

    -- beside the way below a node that is gone, and elsewhere
    pub next_to : (level place : ℕ) → place ≢ i / fan ^ level → level < lost → place / fan ≡ i / fan ^ (level + 1) → after level place ≡ hole
    unfolding after
    next_to level place differs lt at =
        let test : nat_eq place (i / fan ^ level) ≡ false = grind (arith, nat_tests) in
        let both : (nat_lt level lost && nat_eq (place / fan) (i / fan ^ (level + 1))) ≡ true = grind (arith, nat_tests) in rw (test, both) refl

    pub off_way : (level place : ℕ) → place ≢ i / fan ^ level → (lost ≤ level) ⊎ (place / fan ≢ i / fan ^ (level + 1)) → after level place ≡ pointer_at s level place
    unfolding after
    off_way level place differs (inl le) =
        let test : nat_eq place (i / fan ^ level) ≡ false = grind (arith, nat_tests) in
        let both : (nat_lt level lost && nat_eq (place / fan) (i / fan ^ (level + 1))) ≡ false = grind (arith, nat_tests) in rw (test, both) refl
    off_way level place differs (inr other) =
        let test : nat_eq place (i / fan ^ level) ≡ false = grind (arith, nat_tests) in
        let both : (nat_lt level lost && nat_eq (place / fan) (i / fan ^ (level + 1))) ≡ false = grind (arith, nat_tests) in rw (test, both) refl

    -- off the way nothing changes but what led nowhere
    pub off_same : (level place : ℕ) → place ≢ i / fan ^ level → (after level place ≡ pointer_at s level place) ⊎ (((after level place).stamp ≡ 0) × ((pointer_at s level place).stamp ≡ 0))
    off_same level place differs = elim (cases_lt level lost) [
      | inl lt ↦ elim (cases_eq (place / fan) (i / fan ^ (level + 1))) [
        | inl at ↦ inr (ap (λ (p : Pointer). p.stamp) (next_to level place differs lt at), beside level place lt at differs)
        | inr other ↦ inl (off_way level place differs (inr other))
      ]
      | inr le ↦ inl (off_way level place differs (inl le))
    ]

    -- a node on the way that still stands
    module _ (lt : lost < t.levels) where
      pub same_levels : u.levels ≡ t.levels
      same_levels = is.levels ∙ (let test : nat_eq lost t.levels ≡ false = grind (arith, nat_tests) in ap (λ b. cond b start t.levels) test)

      pub new_root : u.root ≡ stamped t.root stamp
      new_root = is.root ∙ (let test : nat_eq lost t.levels ≡ false = grind (arith, nat_tests) in ap (λ b. cond b hole (stamped t.root stamp)) test)

      -- the children of a node on the way, from its list
      under : (level place : ℕ) → level < t.levels → place / fan ≡ i / fan ^ (level + 1) → lost < level + 1 → (xs : List Pointer) → node_in u (level + 1) (i / fan ^ (level + 1)) ≡ Some xs
          → get_or (pointers_at v (level + 1) (place / fan) (after (level + 1) (place / fan))) (place % fan) hole ≡ get_or xs (place % fan) hole
      under level place below at above_lost xs node =
          let p : after (level + 1) (place / fan) ≡ stamped (pointer_at s (level + 1) (place / fan)) stamp = high (level + 1) (place / fan) at above_lost in
          ap (λ (ys : List Pointer). get_or ys (place % fan) hole) (kept_pointers v (level + 1) (place / fan) (after (level + 1) (place / fan)) xs (λ none. some (sym (ap (λ (q : Pointer). q.stamp) p) ∙ none)) (ap (node_in u (level + 1)) at ∙ node))

      slot_at : (level place : ℕ) → place ≡ i / fan ^ level → place % fan ≡ slot_of i (level + 1)
      slot_at level place e = ap (λ q. q % fan) e ∙ sym (slot_is level)

      slot_off : (level place : ℕ) → place / fan ≡ i / fan ^ (level + 1) → place ≢ i / fan ^ level → place % fan ≢ slot_of i (level + 1)
      slot_off level place at differs e = apart place (i / fan ^ level) (at ∙ sym (above i level)) differs (e ∙ slot_is level)

      -- the lowest node that still stands: its pointer to the way is a hole
      at_lowest : (place : ℕ) → place / fan ≡ i / fan ^ (lost + 1) → get_or (pointers_at v (lost + 1) (place / fan) (after (lost + 1) (place / fan))) (place % fan) hole ≡ after lost place
      at_lowest place at =
          let node = way (lost + 1) (omega arith) (omega arith) in
          let slot = slot_of i (lost + 1) in
          let now : node_in u (lost + 1) (i / fan ^ (lost + 1)) ≡ Some (cleared_in slot node.0) = is.lowest lt ∙ ap (option_map (cleared_in slot)) node.1 in
          under lost place lt at (omega arith) (cleared_in slot node.0) now ∙ elim (cases_eq place (i / fan ^ lost)) [
            | inl same ↦
                ap (λ q. get_or (cleared_in slot node.0) q hole) (slot_at lost place same)
                ∙ get_or-set_same node.0 slot hole hole (omega (arith, long_node t (lost + 1) (i / fan ^ (lost + 1)) node.0 node.1))
                ∙ sym (low lost place same (omega arith))
            | inr differs ↦
                get_or-set_other node.0 slot (place % fan) hole hole (slot_off lost place at differs)
                ∙ sym (child lost place lt at node.0 node.1) ∙ sym (off_way lost place differs (inl (omega arith)))
          ]

      -- the nodes above it
      at_higher : (level place : ℕ) → lost < level → level < t.levels → place / fan ≡ i / fan ^ (level + 1) → get_or (pointers_at v (level + 1) (place / fan) (after (level + 1) (place / fan))) (place % fan) hole ≡ after level place
      at_higher level place above_lost below at =
          let node = way (level + 1) (omega arith) (omega arith) in
          let slot = slot_of i (level + 1) in
          let now : node_in u (level + 1) (i / fan ^ (level + 1)) ≡ Some (stamped_in slot stamp node.0) = is.above (level + 1) (omega arith) (omega arith) ∙ ap (option_map (stamped_in slot stamp)) node.1 in
          under level place below at (omega arith) (stamped_in slot stamp node.0) now ∙ elim (cases_eq place (i / fan ^ level)) [
            | inl same ↦
                ap (λ q. get_or (stamped_in slot stamp node.0) q hole) (slot_at level place same)
                ∙ this_stamped node.0 slot stamp (omega (arith, long_node t (level + 1) (i / fan ^ (level + 1)) node.0 node.1))
                ∙ ap (λ q. stamped (get_or node.0 q hole) stamp) (sym (slot_at level place same))
                ∙ ap (λ p. stamped p stamp) (sym (child level place below at node.0 node.1))
                ∙ sym (high level place same above_lost)
            | inr differs ↦
                one_stamped node.0 slot (place % fan) stamp (slot_off level place at differs)
                ∙ sym (child level place below at node.0 node.1) ∙ sym (off_way level place differs (inl (omega arith)))
          ]

      -- what lies below those that are gone
      at_gone : (level place : ℕ) → level < lost → place / fan ≡ i / fan ^ (level + 1) → get_or (pointers_at v (level + 1) (place / fan) (after (level + 1) (place / fan))) (place % fan) hole ≡ after level place
      at_gone level place below at =
          let none : (after (level + 1) (place / fan)).stamp ≡ 0 = ap (λ (p : Pointer). p.stamp) (low (level + 1) (place / fan) at (omega arith)) in
          ap (λ (xs : List Pointer). get_or xs (place % fan) hole) (no_pointers v (level + 1) (place / fan) (after (level + 1) (place / fan)) none) ∙ elim (cases_eq place (i / fan ^ level)) [
            | inl same ↦ sym (low level place same (omega arith))
            | inr differs ↦ sym (next_to level place differs below at)
          ]

      -- off the way
      at_other : (level place : ℕ) → level < t.levels → place / fan ≢ i / fan ^ (level + 1) → get_or (pointers_at v (level + 1) (place / fan) (after (level + 1) (place / fan))) (place % fan) hole ≡ after level place
      at_other level place below other =
          let differs : place ≢ i / fan ^ level = λ e. other (ap (λ q. q / fan) e ∙ above i level) in
          elim (off_same (level + 1) (place / fan) other) [
            | inl same ↦
                ap (λ p. get_or (pointers_at v (level + 1) (place / fan) p) (place % fan) hole) same
                ∙ ap (λ (xs : List Pointer). get_or xs (place % fan) hole) (alike s v (level + 1) (place / fan) (pointer_at s (level + 1) (place / fan)) is.owner refl (is.others lt (level + 1) (place / fan) other))
                ∙ sym ((own_way s).down level place below) ∙ sym (off_way level place differs (inr other))
            | inr none ↦
                ap (λ (xs : List Pointer). get_or xs (place % fan) hole) (no_pointers v (level + 1) (place / fan) (after (level + 1) (place / fan)) none.0)
                ∙ sym (ap (λ (xs : List Pointer). get_or xs (place % fan) hole) (no_pointers s (level + 1) (place / fan) (pointer_at s (level + 1) (place / fan)) none.1))
                ∙ sym ((own_way s).down level place below) ∙ sym (off_way level place differs (inr other))
          ]

      after_way : IsWay v after
      after_way = record {
        top = λ place. ap (λ k. after k place) same_levels ∙ elim (cases_eq place 0) [
          | inl e ↦
              let none : i / fan ^ t.levels ≡ 0 = div-eq_of_lt (cell_within s i stands) in
              high t.levels place (e ∙ sym none) lt ∙ ap (λ p. stamped p stamp) ((own_way s).top place ∙ ap (λ q. if q == 0 then t.root else hole) e) ∙ sym new_root ∙ sym (ap (λ q. if q == 0 then u.root else hole) e)
          | inr differs ↦
              let none : i / fan ^ t.levels ≡ 0 = div-eq_of_lt (cell_within s i stands) in
              let test : (place == 0) ≡ false = grind (arith, nat_tests) in
              off_way t.levels place (λ e. differs (e ∙ none)) (inl (omega arith)) ∙ (own_way s).top place ∙ ap (λ b. if b then t.root else hole) test ∙ sym (ap (λ b. if b then u.root else hole) test)
        ];
        down = λ level place below. let less : level < t.levels = omega (arith, below, same_levels) in elim (cases_eq (place / fan) (i / fan ^ (level + 1))) [
          | inl at ↦ elim (cases_lt level lost) [
            | inl gone ↦ sym (at_gone level place gone at)
            | inr le ↦ elim (cases_eq level lost) [
              | inl same ↦ sym (subst (λ k. place / fan ≡ i / fan ^ (k + 1) → get_or (pointers_at v (k + 1) (place / fan) (after (k + 1) (place / fan))) (place % fan) hole ≡ after k place) (sym same) (at_lowest place) at)
              | inr differs ↦ sym (at_higher level place (omega arith) less at)
            ]
          ]
          | inr other ↦ sym (at_other level place less other)
        ];
      }

      pub unlinked : (level place : ℕ) → level ≤ t.levels → pointer_at v level place ≡ after level place
      unlinked level place le = is_way v after after_way level place (omega (arith, le, same_levels))
