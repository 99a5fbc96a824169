-- Cells that are ready stay so while another one is removed.
use Rattle.std.proofs.Common.{◌≡◌, ◌≢◌, ◌≤◌, ◌<◌, ℕ, zero, suc, ◌+◌, ◌-◌, ◌/◌, ◌%◌, ◌^◌, inl, inr, false, cond, List, Option, Some, None, is_some, nat_eq, refl, sym, ap, subst, ◌∙◌, arith}
use Rattle.std.specs.Option.{option_map}
use Rattle.std.proofs.Math.Nat.{div-eq_of_lt}
use Rattle.std.proofs.lemmas.Bool.{cases_eq, cases_lt}
use Rattle.std.proofs.lemmas.Bool.Decides.{nat_tests}
use Rattle.std.proofs.lemmas.List.{get_or-set_other}
use Rattle.fv_codec.specs.declared.pointer.Pointer.{Pointer}
use Rattle.fv_model.specs.Trees.{fan}
use Rattle.fv_tree.specs.declared.kept.Tree.{Tree}
use Rattle.fv_tree.specs.Spelled.{hole}
use Rattle.fv_tree.specs.Standing.{node_in}
use Rattle.fv_tree.specs.Writing.{stamped, stamped_in, slot_of}
use Rattle.fv_tree.specs.Unlinking.{AreBare, Unlinks, cleared_in}
use Rattle.fv_tree.specs.Flushing.{child_of, pointer_in}
use Rattle.fv_tree.specs.Readying.{IsReady}
use Rattle.fv_tree.proofs.Readied.{child_stamped, has_way, pointer_low, pointer_top}
use Rattle.fv_tree.proofs.Stamped.{above, apart}
use Rattle.fv_tree.proofs.Unlinked.{long_node}

-- the pointer on the way to a cell, by the node over it
low_pointer : (t : Tree) (j level : ℕ) → level < t.levels → pointer_in t level (j / fan ^ level) ≡ child_of (node_in t (level + 1) (j / fan ^ (level + 1))) (j / fan ^ level % fan)
low_pointer t j level lt = pointer_low t level (j / fan ^ level) lt ∙ ap (λ q. child_of (node_in t (level + 1) q) (j / fan ^ level % fan)) (above j level)

module _ (t u : Tree) (i j lost start s : ℕ) (ready : IsReady t i) (other : IsReady t j) (differs : j ≢ i) (bare : AreBare t i lost) (is : Unlinks t u i lost start s) (some : s ≢ 0) where
  slots : (level : ℕ) → j / fan ^ level ≢ i / fan ^ level → j / fan ^ (level + 1) ≡ i / fan ^ (level + 1) → j / fan ^ level % fan ≢ slot_of i (level + 1)
  slots level off same =
      let n : (level + 1) - 1 ≡ level = omega arith in
      λ e. apart (j / fan ^ level) (i / fan ^ level) (above j level ∙ same ∙ sym (above i level)) off (e ∙ ap (λ k. i / fan ^ k % fan) n)

  -- no node that goes is over the other cell
  off_way : (level : ℕ) → level ≤ lost → j / fan ^ level ≢ i / fan ^ level
  off_way zero le same = differs (let one : j / fan ^ 0 ≡ j = omega arith in let two : i / fan ^ 0 ≡ i = omega arith in sym one ∙ same ∙ two)
  off_way (suc level) le same =
      let few = bare.few in
      let lt : level < t.levels = omega (arith, le, few) in
      let at : level + 1 ≡ suc level = omega arith in
      let one : j / fan ^ (level + 1) ≡ i / fan ^ (level + 1) = subst (λ n. j / fan ^ n ≡ i / fan ^ n) (sym at) same in
      let node = has_way t i ready.way (level + 1) (omega arith) (omega (arith, lt)) in
      let empty = bare.bare (level + 1) (omega arith) (omega (arith, le)) node.0 node.1 (j / fan ^ level % fan) (slots level (off_way level (omega (arith, le))) one) in
      other.way level (omega (arith, lt)) (ap (λ (p : Pointer). p.stamp) (low_pointer t j level lt ∙ ap (λ q. child_of (node_in t (level + 1) q) (j / fan ^ level % fan)) one ∙ ap (λ (o : Option (List Pointer)). child_of o (j / fan ^ level % fan)) node.1) ∙ empty)

  some_left : lost < t.levels
  some_left = elim (cases_lt lost t.levels) [
    | inl lt ↦ lt
    | inr ge ↦ absurd (off_way t.levels ge (div-eq_of_lt other.covers ∙ sym (div-eq_of_lt ready.covers)))
  ]

  test : nat_eq lost t.levels ≡ false
  test = let lt = some_left in grind (arith, nat_tests, lt)

  levels : u.levels ≡ t.levels
  levels = is.levels ∙ ap (λ b. cond b start t.levels) test

  root : u.root ≡ stamped t.root s
  root = is.root ∙ ap (λ b. cond b hole (stamped t.root s)) test

  was_led : (level : ℕ) → level < t.levels → (child_of (node_in t (level + 1) (j / fan ^ (level + 1))) (j / fan ^ level % fan)).stamp ≢ 0
  was_led level lt none = other.way level (omega (arith, lt)) (ap (λ (p : Pointer). p.stamp) (low_pointer t j level lt) ∙ none)

  child_cleared : (o : Option (List Pointer)) (slot k : ℕ) → k ≢ slot → child_of (option_map (cleared_in slot) o) k ≡ child_of o k
  child_cleared None slot k off = refl
  child_cleared (Some xs) slot k off = get_or-set_other xs slot k hole hole off

  node_led : (level : ℕ) → level < t.levels → (child_of (node_in u (level + 1) (j / fan ^ (level + 1))) (j / fan ^ level % fan)).stamp ≢ 0
  node_led level lt = elim (cases_eq (j / fan ^ (level + 1)) (i / fan ^ (level + 1))) [
    | inr off ↦ λ none. was_led level lt (ap (λ (o : Option (List Pointer)). (child_of o (j / fan ^ level % fan)).stamp) (sym (is.others some_left (level + 1) (j / fan ^ (level + 1)) off)) ∙ none)
    | inl same ↦ elim (cases_lt lost level) [
      | inl high ↦ λ none. child_stamped (node_in t (level + 1) (j / fan ^ (level + 1))) (slot_of i (level + 1)) (j / fan ^ level % fan) s some (omega arith) (λ xs node. sym (long_node t (level + 1) (j / fan ^ (level + 1)) xs node)) (was_led level lt)
          (ap (λ (o : Option (List Pointer)). (child_of o (j / fan ^ level % fan)).stamp) (sym (ap (node_in u (level + 1)) same ∙ is.above (level + 1) (omega (arith, high)) (omega (arith, lt)) ∙ ap (λ q. option_map (stamped_in (slot_of i (level + 1)) s) (node_in t (level + 1) q)) (sym same))) ∙ none)
      | inr low ↦ elim (cases_lt level lost) [
        | inl under ↦ absurd (off_way (level + 1) (omega (arith, under)) same)
        | inr ge ↦
            let at : lost ≡ level = omega (arith, low, ge) in
            let off : j / fan ^ level % fan ≢ slot_of i (level + 1) = slots level (off_way level (omega (arith, at))) same in
            let now : node_in u (level + 1) (j / fan ^ (level + 1)) ≡ option_map (cleared_in (slot_of i (level + 1))) (node_in t (level + 1) (j / fan ^ (level + 1))) =
            ap (node_in u (level + 1)) same ∙ subst (λ n. node_in u (n + 1) (i / fan ^ (n + 1)) ≡ option_map (cleared_in (slot_of i (n + 1))) (node_in t (n + 1) (i / fan ^ (n + 1)))) at (is.lowest some_left) ∙ ap (λ q. option_map (cleared_in (slot_of i (level + 1))) (node_in t (level + 1) q)) (sym same) in
            λ none. was_led level lt (ap (λ (p : Pointer). p.stamp) (sym (ap (λ (o : Option (List Pointer)). child_of o (j / fan ^ level % fan)) now ∙ child_cleared (node_in t (level + 1) (j / fan ^ (level + 1))) (slot_of i (level + 1)) (j / fan ^ level % fan) off)) ∙ none)
      ]
    ]
  ]

  way_left : (level : ℕ) → level ≤ u.levels → (pointer_in u level (j / fan ^ level)).stamp ≢ 0
  way_left level le = elim (cases_lt level t.levels) [
    | inl lt ↦ λ none. node_led level lt (ap (λ (p : Pointer). p.stamp) (sym (low_pointer u j level (let same = levels in omega (arith, lt, same)))) ∙ none)
    | inr ge ↦
        let same = levels in
        let at : level ≡ u.levels = omega (arith, le, ge, same) in
        let first : j / fan ^ level ≡ 0 = (λ k. j / fan ^ (at ∙ same) k) ∙ div-eq_of_lt other.covers in
        λ none. some (ap (λ (p : Pointer). p.stamp) (sym (pointer_top u level (j / fan ^ level) at first ∙ root)) ∙ none)
  ]

  pub other_ready : IsReady u j
  other_ready = record {
    covers = subst (λ n. j < fan ^ n) (sym levels) other.covers;
    cell = ap is_some (is.cells some_left j differs) ∙ other.cell;
    way = way_left;
  }
