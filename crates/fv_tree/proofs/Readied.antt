-- A cell that is in memory with the nodes over it, and the tree over any blocks.
use Rattle.std.proofs.Common.{◌≡◌, ◌≢◌, ◌≤◌, ◌<◌, ℕ, zero, suc, ◌+◌, ◌-◌, ◌/◌, ◌%◌, ◌^◌, inl, inr, Bool, true, false, ◌&&◌, List, Option, Some, None, get_or, length, is_some, nat_lt, refl, sym, ap, subst, ◌∙◌, arith, ◌==◌, if◌then◌else◌}
use Rattle.std.specs.Option.{option_map}
use Rattle.std.proofs.Math.Nat.{div-eq_of_lt}
use Rattle.std.proofs.lemmas.Bool.{cases_eq, cases_lt}
use Rattle.std.proofs.lemmas.Bool.Decides.{nat_tests}
use Rattle.fv_codec.specs.declared.pointer.Pointer.{Pointer}
use Rattle.fv_model.specs.Trees.{fan}
use Rattle.fv_tree.specs.declared.kept.Tree.{Tree}
use Rattle.fv_tree.specs.Spelled.{Under, hole, pointer_at, block_at}
use Rattle.fv_tree.specs.Standing.{standing, node_in, cell_in}
use Rattle.fv_tree.specs.Keeping.{IsKept}
use Rattle.fv_tree.specs.Writing.{Stamps, stamped_in, slot_of}
use Rattle.fv_tree.specs.Erasing.{StandsAt}
use Rattle.fv_tree.specs.Refilling.{IsFilledWay}
use Rattle.fv_tree.specs.Unlinking.{HasWay}
use Rattle.fv_tree.specs.Flushing.{child_of, pointer_in}
use Rattle.fv_tree.specs.Readying.{HoldsWay, IsReady}
use Rattle.fv_tree.proofs.Below.{kept_pointers}
use Rattle.fv_tree.proofs.Held.{at_root}
use Rattle.fv_tree.proofs.Pointers.{one_filled}
use Rattle.fv_tree.proofs.Stamped.{above, one_stamped, this_stamped}
use Rattle.fv_tree.proofs.Unlinked.{long_node}
use Rattle.fv_tree.proofs.Ways.{own_way}
use Rattle.fv_tree.proofs.Writes.{block_here}

-- ---- pointers as memory has them

pub pointer_low : (t : Tree) (level place : ℕ) → level < t.levels → pointer_in t level place ≡ child_of (node_in t (level + 1) (place / fan)) (place % fan)
unfolding pointer_in
pointer_low t level place lt = let test : nat_lt level t.levels ≡ true = grind (arith, nat_tests) in rw test refl

pub pointer_up : (t : Tree) (level place : ℕ) → t.levels ≤ level → pointer_in t level place ≡ (if level == t.levels && place == 0 then t.root else hole)
unfolding pointer_in
pointer_up t level place le = let test : nat_lt level t.levels ≡ false = grind (arith, nat_tests) in rw test refl

pub pointer_top : (t : Tree) (level place : ℕ) → level ≡ t.levels → place ≡ 0 → pointer_in t level place ≡ t.root
pointer_top t level place at first =
    let test : (level == t.levels && place == 0) ≡ true = grind (arith, nat_tests) in
    pointer_up t level place (omega (arith, at)) ∙ ap (λ b. if b then t.root else hole) test

-- the pointer to a position is that of the root or of the node over it
pub pointer_as : (t u : Tree) (level place : ℕ) → u.levels ≡ t.levels → u.root ≡ t.root → (level < t.levels → node_in u (level + 1) (place / fan) ≡ node_in t (level + 1) (place / fan)) → pointer_in u level place ≡ pointer_in t level place
pointer_as t u level place levels root node = elim (cases_lt level t.levels) [
  | inl lt ↦ pointer_low u level place (omega (arith, lt, levels)) ∙ ap (λ (o : Option (List Pointer)). child_of o (place % fan)) (node lt) ∙ sym (pointer_low t level place lt)
  | inr le ↦ pointer_up u level place (omega (arith, le, levels)) ∙ (λ j. if level == levels j && place == 0 then root j else hole) ∙ sym (pointer_up t level place le)
]

held_of : (o : Option (List Pointer)) (slot : ℕ) → (child_of o slot).stamp ≢ 0 → (xs : List Pointer) × (o ≡ Some xs)
held_of None slot some = absurd (some refl)
held_of (Some xs) slot some = (xs, refl)

-- a way that is held where nothing but cells and marks changed
pub way_as : (t u : Tree) (i : ℕ) → u.levels ≡ t.levels → u.root ≡ t.root → ((level place : ℕ) → node_in u level place ≡ node_in t level place) → HoldsWay t i → HoldsWay u i
way_as t u i levels root nodes way level le none =
    way level (omega (arith, le, levels)) (ap (λ (p : Pointer). p.stamp) (sym (pointer_as t u level (i / fan ^ level) levels root (λ _. nodes (level + 1) (i / fan ^ level / fan)))) ∙ none)

-- ---- the nodes of a way that is held

module _ (t : Tree) (i : ℕ) (way : HoldsWay t i) where
  pub way_node : (level : ℕ) → level < t.levels → (xs : List Pointer) × (node_in t (level + 1) (i / fan ^ (level + 1)) ≡ Some xs)
  way_node level lt =
      let found = held_of (node_in t (level + 1) (i / fan ^ level / fan)) (i / fan ^ level % fan) (λ none. way level (omega (arith, lt)) (ap (λ (p : Pointer). p.stamp) (pointer_low t level (i / fan ^ level) lt) ∙ none)) in
      (found.0, ap (node_in t (level + 1)) (sym (above i level)) ∙ found.1)

  pub has_way : HasWay t i
  has_way level low high =
      let n : (level - 1) + 1 ≡ level = omega arith in
      subst (λ k. (xs : List Pointer) × (node_in t k (i / fan ^ k) ≡ Some xs)) n (way_node (level - 1) (omega arith))

  pub filled_way : IsFilledWay t i
  filled_way level low high xs node =
      let k = level - 1 in
      let n : k + 1 ≡ level = omega arith in
      let at : node_in t (k + 1) (i / fan ^ k / fan) ≡ Some xs = ap (node_in t (k + 1)) (above i k) ∙ ap (λ m. node_in t m (i / fan ^ m)) n ∙ node in
      one_filled xs (i / fan ^ k % fan) (λ none. way k (omega arith) (ap (λ (p : Pointer). p.stamp) (pointer_low t k (i / fan ^ k) (omega arith) ∙ ap (λ (o : Option (List Pointer)). child_of o (i / fan ^ k % fan)) at) ∙ none))

-- ---- over any blocks

module _ (blocks : Under) (t : Tree) (i : ℕ) (covers : i < fan ^ t.levels) (way : HoldsWay t i) where
  from_top : (steps level : ℕ) → level + steps ≡ t.levels → pointer_at (standing blocks t) level (i / fan ^ level) ≡ pointer_in t level (i / fan ^ level)
  from_top zero level n =
      let at : level ≡ t.levels = omega (arith, n) in
      (λ j. pointer_at (standing blocks t) (at j) (i / fan ^ at j)) ∙ sym (at_root (standing blocks t) i covers) ∙ sym (pointer_top t level (i / fan ^ level) at ((λ j. i / fan ^ at j) ∙ div-eq_of_lt covers))
  from_top (suc steps) level n =
      let lt : level < t.levels = omega (arith, n) in
      let up : pointer_at (standing blocks t) (level + 1) (i / fan ^ level / fan) ≡ pointer_in t (level + 1) (i / fan ^ (level + 1)) = ap (pointer_at (standing blocks t) (level + 1)) (above i level) ∙ from_top steps (level + 1) (omega (arith, n)) in
      let node = way_node t i way level lt in
      let here : node_in t (level + 1) (i / fan ^ level / fan) ≡ Some node.0 = ap (node_in t (level + 1)) (above i level) ∙ node.1 in
      (own_way (standing blocks t)).down level (i / fan ^ level) lt
      ∙ ap (λ (xs : List Pointer). get_or xs (i / fan ^ level % fan) hole) (kept_pointers (standing blocks t) (level + 1) (i / fan ^ level / fan) _ node.0 (λ none. way (level + 1) (omega (arith, lt)) (ap (λ (p : Pointer). p.stamp) (sym up) ∙ none)) here)
      ∙ sym (pointer_low t level (i / fan ^ level) lt ∙ ap (λ (o : Option (List Pointer)). child_of o (i / fan ^ level % fan)) here)

  pub way_pointers : (level : ℕ) → level ≤ t.levels → pointer_at (standing blocks t) level (i / fan ^ level) ≡ pointer_in t level (i / fan ^ level)
  way_pointers level le = from_top (t.levels - level) level (omega arith)

  pub way_stands : (level : ℕ) → level ≤ t.levels → StandsAt (standing blocks t) level (i / fan ^ level)
  way_stands level le none = way level le (ap (λ (p : Pointer). p.stamp) (sym (way_pointers level le)) ∙ none)

  pub way_kept : (level : ℕ) → 1 ≤ level → level ≤ t.levels → IsKept (standing blocks t) level (i / fan ^ level)
  way_kept level low le = let node = has_way t i way level low le in record {
    pointers = node.0;
    node = node.1;
    long = long_node t level (i / fan ^ level) node.0 node.1;
    empty = λ none. absurd (way_stands level le none);
  }

-- the cell stands, and so do the marks over it
pub ready_stands : (blocks : Under) (t : Tree) (i : ℕ) → IsReady t i → (level : ℕ) → level ≤ t.levels → StandsAt (standing blocks t) level (i / fan ^ level)
ready_stands blocks t i ready = way_stands blocks t i ready.covers ready.way

pub ready_cell : (blocks : Under) (t : Tree) (i : ℕ) → IsReady t i → StandsAt (standing blocks t) 0 i
ready_cell blocks t i ready =
    let first : i / fan ^ 0 ≡ i = omega arith in
    subst (StandsAt (standing blocks t) 0) first (ready_stands blocks t i ready 0 (omega arith))

-- its content is the one in memory
pub ready_block : (blocks : Under) (t : Tree) (i : ℕ) → IsReady t i → block_at (standing blocks t) i ≡ cell_in t i
ready_block blocks t i ready = at (cell_in t i) refl ready.cell
  where
    at : (o : Option (List ℕ)) → cell_in t i ≡ o → is_some (cell_in t i) ≡ true → block_at (standing blocks t) i ≡ cell_in t i
    at None none is = absurd (let wrong : false ≡ true = ap is_some (sym none) ∙ is in grind (arith, wrong))
    at (Some block) there is = block_here (standing blocks t) i block (ready_cell blocks t i ready) there ∙ sym there

-- ---- stamps leave a way

stays_led : (b : Bool) (p q : Pointer) → q.stamp ≢ 0 → (if b then p else hole).stamp ≢ 0 → (if b then q else hole).stamp ≢ 0
stays_led true p q some was = some
stays_led false p q some was = was

pub child_stamped : (o : Option (List Pointer)) (slot k s : ℕ) → s ≢ 0 → k < 128 → ((xs : List Pointer) → o ≡ Some xs → 128 ≡ length xs) → (child_of o k).stamp ≢ 0 → (child_of (option_map (stamped_in slot s) o) k).stamp ≢ 0
child_stamped None slot k s some lt long was = was
child_stamped (Some xs) slot k s some lt long was = elim (cases_eq k slot) [
  | inl at ↦ λ none. some (sym (ap (λ (p : Pointer). p.stamp) (ap (λ n. get_or (stamped_in slot s xs) n hole) at ∙ this_stamped xs slot s (let whole = long xs refl in omega (arith, lt, at, whole)))) ∙ none)
  | inr differs ↦ λ none. was (ap (λ (p : Pointer). p.stamp) (sym (one_stamped xs slot k s differs)) ∙ none)
]

pub stamps_lead : (t u : Tree) (i s level place : ℕ) → Stamps t u i s → s ≢ 0 → (pointer_in t level place).stamp ≢ 0 → (pointer_in u level place).stamp ≢ 0
stamps_lead t u i s level place stamps some was = elim (cases_lt level t.levels) [
  | inl lt ↦
      let low = pointer_low t level place lt in
      let now : pointer_in u level place ≡ child_of (node_in u (level + 1) (place / fan)) (place % fan) = pointer_low u level place (let same = stamps.levels in omega (arith, lt, same)) in
      let led : (child_of (node_in t (level + 1) (place / fan)) (place % fan)).stamp ≢ 0 = λ none. was (ap (λ (p : Pointer). p.stamp) low ∙ none) in
      elim (cases_eq (place / fan) (i / fan ^ (level + 1))) [
        | inl at ↦ λ none. child_stamped (node_in t (level + 1) (place / fan)) (slot_of i (level + 1)) (place % fan) s some (omega arith) (λ xs node. sym (long_node t (level + 1) (place / fan) xs node)) led
            (ap (λ (o : Option (List Pointer)). (child_of o (place % fan)).stamp) (sym (ap (node_in u (level + 1)) at ∙ stamps.way (level + 1) (omega arith) (omega (arith, lt)) ∙ ap (λ q. option_map (stamped_in (slot_of i (level + 1)) s) (node_in t (level + 1) q)) (sym at)))
            ∙ ap (λ (p : Pointer). p.stamp) (sym now) ∙ none)
        | inr differs ↦ λ none. led (ap (λ (o : Option (List Pointer)). (child_of o (place % fan)).stamp) (sym (stamps.others (level + 1) (place / fan) differs)) ∙ ap (λ (p : Pointer). p.stamp) (sym now) ∙ none)
      ]
  | inr le ↦
      let rooted : u.root.stamp ≢ 0 = λ none. some (sym (ap (λ (p : Pointer). p.stamp) stamps.root) ∙ none) in
      let led : (if level == t.levels && place == 0 then t.root else hole).stamp ≢ 0 = λ none. was (ap (λ (p : Pointer). p.stamp) (pointer_up t level place le) ∙ none) in
      λ none. stays_led (level == t.levels && place == 0) t.root u.root rooted led
      ((λ j. (if level == sym stamps.levels j && place == 0 then u.root else hole).stamp) ∙ ap (λ (p : Pointer). p.stamp) (sym (pointer_up u level place (let same = stamps.levels in omega (arith, le, same)))) ∙ none)
]
