-- One step of a flush, from its calls.
use Rattle.std.proofs.Common.{◌≡◌, ◌≤◌, ◌<◌, ℕ, ◌+◌, ◌/◌, ◌%◌, ◌⊎◌, inl, inr, Bool, true, false, not, List, [], ◌∷◌, Option, Some, None, length, is_some, slice_set, refl, sym, ap, subst, ◌∙◌, arith, ◌≢◌, ◌&&◌, ◌==◌, if◌then◌else◌, nat_lt}
use Rattle.std.specs.Map.{lookup}
use Rattle.std.specs.Ordering.{nat_cmp}
use Rattle.std.specs.Option.{option_map}
use Rattle.std.specs.BTreeMap as tree
use Rattle.std.proofs.lemmas.Bool.{cases_eq, cases_lt}
use Rattle.std.proofs.lemmas.Bool.Decides.{nat_tests}
use Rattle.fv_codec.specs.declared.pointer.Pointer.{Pointer}
use Rattle.fv_model.specs.Trees.{fan, Spot, spot_cmp}
use Rattle.fv_tree.specs.declared.kept.Tree.{Tree}
use Rattle.fv_tree.specs.declared.kept.KeptNode.{KeptNode}
use Rattle.fv_tree.specs.declared.kept.KeptCell.{KeptCell}
use Rattle.fv_tree.specs.Spelled.{hole, pointer_at}
use Rattle.fv_tree.specs.Sources.{Shown}
use Rattle.fv_tree.specs.Standing.{standing, under, children_in, node_in}
use Rattle.fv_tree.specs.Flushing.{Stands, Flushes, IsPlaced, HoldsAsMuch, Points, IsHidden, IsMoved, IsCellStep, IsNodeStep, ForgetsCell, ForgetsNode, loaded, changed_of, cell_changed, node_changed, node_placed, cell_placed, all_known, has_unknown_root, child_of, pointer_in}
use Rattle.fv_tree.specs.Readying.{HasCell}
use Rattle.fv_tree.proofs.Cases.{bit}
use Rattle.fv_tree.proofs.Hints.{hides_all, not_false, not_told}
use Rattle.fv_tree.proofs.Pointers.{both}
use Rattle.fv_tree.proofs.Flushed.{flushes_placed, placed_fresh}
use Rattle.fv_tree.proofs.Forgotten.{flushes_none, none_flushed}
use Rattle.fv_tree.proofs.Gone.{Goes, cell_goes, node_goes, is_memory, changed_cell, spot_changed, cell_led, spot_led, forgets_is}
use Rattle.fv_tree.proofs.Moved.{hidden_is, no_stray, replaces_is, spells, one_unknown, unknown_in}
use Rattle.fv_tree.proofs.Ways.{past, spot_is}

none_in : {K X : Type 0} (test : K → Bool) (es : List (K × X)) → length es ≡ 0 → lookup test es ≡ None
none_in test [] e = refl
none_in test (x ∷ xs) e = absurd (omega (arith, e))

pub no_cell : (t : Tree) → tree.btree_map_len t.cells ≡ 0 → (i : ℕ) → tree.get nat_cmp t.cells i ≡ None
no_cell t none i = none_in (tree.is_at (nat_cmp i)) t.cells.entries none

pub no_node : (t : Tree) → tree.btree_map_len t.nodes ≡ 0 → (k q : ℕ) → tree.get spot_cmp t.nodes (k, q) ≡ None
no_node t none k q = none_in (tree.is_at (spot_cmp (k, q))) t.nodes.entries none

-- One step of a flush. What it places was free before.
pub record Step (hides : Bool) (old new : Shown) (t u : Tree) : Type 0 where
  pub flushes : Flushes hides (loaded old t) old.used (loaded new u) new.used
  pub fresh : (v : ℕ) → IsPlaced (loaded old t) (loaded new u) v → (under old v ≡ None) × (old.used v ≡ None)

-- what goes out of memory and needs no place
idle_step : {hides : Bool} (old new : Shown) (t u : Tree) (k q : ℕ) → Stands old t → new.held ≡ old.held → new.used ≡ old.used → Goes t u k q → (changed_of t k q ≡ false) ⊎ ((pointer_at (standing (under old) t) k q).stamp ≡ 0)
    → Step hides old new t u
idle_step {hides = hides} old new t u k q stands held used goes why =
    let forgets = forgets_is old new t u k q held goes why in record {
      flushes = subst (Flushes hides (loaded old t) old.used (loaded new u)) (sym used) (flushes_none (loaded old t) (loaded new u) old.used k q stands (is_memory old t) forgets);
      fresh = λ v placed. absurd (none_flushed (loaded old t) (loaded new u) old.used k q stands (is_memory old t) forgets placed.level placed.place placed.flushed);
    }

cell_written : (hides : Bool) (old new : Shown) (t mid u : Tree) (q : ℕ) (cell : KeptCell) → Stands old t → tree.get nat_cmp t.cells q ≡ Some cell → changed_of t 0 q ≡ true → IsHidden old t 0 q new mid ⊎ IsMoved old t 0 q cell.block.value cell.placed (not hides && not (has_unknown_root t.owner cell.block.value)) new mid → ForgetsCell mid u q
    → Step hides old new t u
cell_written hides old new t mid u q cell stands held was (inl hidden) forgets =
    idle_step old new t u 0 q stands hidden.untouched.held hidden.untouched.used (cell_goes t u q (subst (λ v. ForgetsCell v u q) hidden.tree forgets)) (inr (hidden_is old t stands 0 q was hidden.none))
cell_written hides old new t mid u q cell stands held was (inr moved) forgets =
    let replaces = replaces_is hides old new t mid u 0 q cell.block.value cell.placed (not hides && not (has_unknown_root t.owner cell.block.value)) stands was (sym (cell_led t 0 q refl ∙ ap cell_placed held)) (λ j c e. absurd (omega (arith, e))) moved (cell_goes mid u q forgets)
    (λ low. absurd (omega (arith, low))) (λ low. absurd (omega (arith, low))) (λ e. ap (option_map (λ (kept : KeptCell). kept.block.value)) held)
    (λ _ unknown. ap (λ b. not hides && not b) unknown ∙ both (not hides)) (hides_all hides (not (has_unknown_root t.owner cell.block.value)))
    (λ tells none. inr (
      refl,
      record {
        block = cell.block.value;
        held = ap (option_map (λ (kept : KeptCell). kept.block.value)) held;
        unknown = not_false (has_unknown_root t.owner cell.block.value) (not_told hides (not (has_unknown_root t.owner cell.block.value)) tells none);
      },
    )) in record {
      flushes = flushes_placed (loaded old t) old.used (loaded new u) new.used 0 q moved.pointer stands (is_memory old t) replaces;
      fresh = placed_fresh (loaded old t) old.used (loaded new u) new.used 0 q moved.pointer stands (is_memory old t) replaces;
    }

pub cell_step : (hides : Bool) (old new : Shown) (t mid u : Tree) (q : ℕ) (cell : KeptCell) → Stands old t → tree.get nat_cmp t.cells q ≡ Some cell → IsCellStep hides old t q cell.block.value cell.changed cell.placed new mid → ForgetsCell mid u q → Step hides old new t u
cell_step hides old new t mid u q cell stands held (inl idle) forgets =
    idle_step old new t u 0 q stands idle.untouched.held idle.untouched.used (cell_goes t u q (subst (λ v. ForgetsCell v u q) idle.tree forgets)) (inl (changed_cell t 0 q refl ∙ ap cell_changed held ∙ idle.why))
cell_step hides old new t mid u q cell stands held (inr is) forgets = cell_written hides old new t mid u q cell stands held (changed_cell t 0 q refl ∙ ap cell_changed held ∙ is.changed) is.moved forgets

-- the same of a cell that was found in memory
pub found_step : {held : Option KeptCell} {hides : Bool} {content : List ℕ} {differs named : Bool} (old new : Shown) (t mid : Tree) (q : ℕ) (found : HasCell held content differs named) → IsCellStep hides old t q content differs named new mid
    → IsCellStep hides old t q found.cell.block.value found.cell.changed found.cell.placed new mid
found_step {hides = hides} {content = content} {differs = differs} old new t mid q found is =
    subst (λ b. IsCellStep hides old t q b found.cell.changed found.cell.placed new mid) (sym found.block)
    (subst (λ b. IsCellStep hides old t q content b found.cell.placed new mid) (sym found.changed) (subst (λ b. IsCellStep hides old t q content differs b new mid) (sym found.placed) is))

-- it names no stray
none_strays : (known : Bool) (old new : Shown) (t mid : Tree) (q : ℕ) (cell : KeptCell) → Stands old t → tree.get nat_cmp t.cells q ≡ Some cell → changed_of t 0 q ≡ true → IsHidden old t 0 q new mid ⊎ IsMoved old t 0 q cell.block.value cell.placed known new mid
    → new.strays ≡ old.strays
none_strays known old new t mid q cell stands held was (inl hidden) = hidden.untouched.strays
none_strays known old new t mid q cell stands held was (inr moved) = no_stray old new t mid 0 q cell.block.value cell.placed known stands was (sym (cell_led t 0 q refl ∙ ap cell_placed held)) moved

pub cell_strays : {hides : Bool} (old new : Shown) (t mid : Tree) (q : ℕ) (cell : KeptCell) → Stands old t → tree.get nat_cmp t.cells q ≡ Some cell → IsCellStep hides old t q cell.block.value cell.changed cell.placed new mid → new.strays ≡ old.strays
cell_strays old new t mid q cell stands held (inl idle) = idle.untouched.strays
cell_strays {hides = hides} old new t mid q cell stands held (inr is) = none_strays (not hides && not (has_unknown_root t.owner cell.block.value)) old new t mid q cell stands held (changed_cell t 0 q refl ∙ ap cell_changed held ∙ is.changed) is.moved

pub node_strays : {hides : Bool} (old new : Shown) (t mid : Tree) (k q : ℕ) (node : KeptNode) → Stands old t → tree.get spot_cmp t.nodes (k, q) ≡ Some node → IsNodeStep hides old t k q node new mid → new.strays ≡ old.strays
node_strays old new t mid k q node stands held (inl idle) = idle.untouched.strays
node_strays old new t mid k q node stands held (inr (inl hidden)) = hidden.untouched.strays
node_strays {hides = hides} old new t mid k q node stands held (inr (inr is)) =
    no_stray old new t mid k q is.block node.placed (not hides && all_known node.children) stands (spot_changed t k q is.low ∙ ap node_changed held ∙ is.changed) (sym (spot_led t k q is.low ∙ ap node_placed held)) is.moved

module _ (hides : Bool) (old new : Shown) (t mid u : Tree) (k q : ℕ) (node : KeptNode) (stands : Stands old t) (none : tree.btree_map_len t.cells ≡ 0) (held : tree.get spot_cmp t.nodes (k, q) ≡ Some node) where
  -- there are no nodes of level 0, and there is no cell
  no_change : k ≡ 0 → changed_of t k q ≡ false
  no_change e = changed_cell t k q e ∙ ap cell_changed (no_cell t none q)

  goes_at : ForgetsNode t u k q → Goes t u k q
  goes_at forgets = elim (cases_eq k 0) [
    | inl e ↦ record {
      owner = forgets.owner;
      levels = forgets.levels;
      root = forgets.root;
      own_node = λ low. absurd (omega (arith, low, e));
      own_cell = λ _. ap (λ (cells : tree.BTreeMap ℕ KeptCell). tree.get nat_cmp cells q) forgets.cells ∙ no_cell t none q;
      nodes = λ j c _ other. forgets.others j c other;
      cells = λ i _. ap (λ (cells : tree.BTreeMap ℕ KeptCell). tree.get nat_cmp cells i) forgets.cells;
    }
    | inr low ↦ node_goes t u k q (omega arith) forgets
  ]

  unchanged_or : (1 ≤ k → changed_of t k q ≡ true → (pointer_at (standing (under old) t) k q).stamp ≡ 0) → (changed_of t k q ≡ false) ⊎ ((pointer_at (standing (under old) t) k q).stamp ≡ 0)
  unchanged_or so = elim (cases_eq k 0) [
    | inl e ↦ inl (no_change e)
    | inr low ↦ elim (bit (changed_of t k q)) [
      | inl same ↦ inl same
      | inr changed ↦ inr (so (omega arith) changed)
    ]
  ]

  idle_why : (node.changed ≡ false) ⊎ ((k ≡ 0) ⊎ (t.levels < k)) → (changed_of t k q ≡ false) ⊎ ((pointer_at (standing (under old) t) k q).stamp ≡ 0)
  idle_why (inl same) = elim (cases_eq k 0) [
    | inl e ↦ inl (no_change e)
    | inr low ↦ inl (spot_changed t k q (omega arith) ∙ ap node_changed held ∙ same)
  ]
  idle_why (inr (inl e)) = inl (no_change e)
  idle_why (inr (inr lt)) = inr (ap (λ (p : Pointer). p.stamp) (past (standing (under old) t) k q lt))

  -- below the lowest nothing changed
  first : ((j c : ℕ) → j < k → tree.get spot_cmp t.nodes (j, c) ≡ None) → (j c : ℕ) → j + 1 ≡ k → changed_of t j c ≡ false
  first lowest j c up = elim (cases_eq j 0) [
    | inl e ↦ changed_cell t j c e ∙ ap cell_changed (no_cell t none c)
    | inr low ↦ spot_changed t j c (omega arith) ∙ ap node_changed (lowest j c (omega (arith, up)))
  ]

  pub node_step : ((j c : ℕ) → j < k → tree.get spot_cmp t.nodes (j, c) ≡ None) → IsNodeStep hides old t k q node new mid → ForgetsNode mid u k q → Step hides old new t u
  node_step lowest (inl idle) forgets =
      idle_step old new t u k q stands idle.untouched.held idle.untouched.used (goes_at (subst (λ v. ForgetsNode v u k q) idle.tree forgets)) (idle_why idle.why)
  node_step lowest (inr (inl hidden)) forgets =
      idle_step old new t u k q stands hidden.untouched.held hidden.untouched.used (goes_at (subst (λ v. ForgetsNode v u k q) hidden.tree forgets)) (unchanged_or (λ _ changed. hidden_is old t stands k q changed hidden.none))
  node_step lowest (inr (inr is)) forgets =
      let was : changed_of t k q ≡ true = spot_changed t k q is.low ∙ ap node_changed held ∙ is.changed in
      let replaces = replaces_is hides old new t mid u k q is.block node.placed (not hides && all_known node.children) stands was (sym (spot_led t k q is.low ∙ ap node_placed held)) (first lowest) is.moved (node_goes mid u k q is.low forgets)
      (λ low. (node.children, ap (option_map (λ (kept : KeptNode). kept.children)) held, spells t.owner k q node.children is.block is.spells, λ slot some none. ap (λ b. not hides && b) (one_unknown node.children slot some none) ∙ both (not hides)))
      (λ _. record { block = is.block; lies = refl; children = node.children; spells = is.spells })
      (λ e. absurd (omega (arith, e, is.low))) (λ e. absurd (omega (arith, e, is.low))) (hides_all hides (all_known node.children))
      (λ tells none. inl (is.low, unknown_in node (node_in t k q) (ap (option_map (λ (kept : KeptNode). kept.children)) held) (not_told hides (all_known node.children) tells none))) in record {
        flushes = flushes_placed (loaded old t) old.used (loaded new u) new.used k q is.moved.pointer stands (is_memory old t) replaces;
        fresh = placed_fresh (loaded old t) old.used (loaded new u) new.used k q is.moved.pointer stands (is_memory old t) replaces;
      }

-- from the levels on only the root leads anywhere
top_hole : (t : Tree) (level place : ℕ) → t.levels ≤ level → t.root.stamp ≡ 0 → (pointer_in t level place).stamp ≡ 0
unfolding pointer_in
top_hole t level place top none =
    let test : nat_lt level t.levels ≡ false = grind (arith, nat_tests, top) in
    ap (λ b. (if b then child_of (node_in t (level + 1) (place / fan)) (place % fan) else if level == t.levels && place == 0 then t.root else hole).stamp) test ∙ either (level == t.levels && place == 0)
  where
    either : (b : Bool) → (if b then t.root else hole).stamp ≡ 0
    either true = none
    either false = refl

-- another pointer in a node
pub holds_as_much : (t u : Tree) (level place : ℕ) (p : Pointer) → (pointer_in t level place).stamp ≢ 0 → Points t u level place p → HoldsAsMuch t u
holds_as_much t u level place p some points = record {
  owner = points.owner;
  levels = points.levels;
  root = λ none. elim (cases_lt level t.levels) [
    | inl low ↦ points.low low
    | inr top ↦ absurd (some (top_hole t level place top none))
  ];
  cells = points.cells;
  len = points.len;
  there = λ k q. seen (tree.get spot_cmp u.nodes (k, q)) ∙ there k q ∙ sym (seen (tree.get spot_cmp t.nodes (k, q)));
}
  where
    seen : (o : Option KeptNode) → is_some o ≡ is_some (option_map (λ (kept : KeptNode). kept.children) o)
    seen None = refl
    seen (Some kept) = refl

    written : (o : Option (List Pointer)) (slot : ℕ) → is_some (option_map (λ (xs : List Pointer). slice_set xs slot p) o) ≡ is_some o
    written None slot = refl
    written (Some xs) slot = refl

    there : (k q : ℕ) → is_some (node_in u k q) ≡ is_some (node_in t k q)
    there k q = elim (cases_lt level t.levels) [
      | inr top ↦ ap (λ (nodes : tree.BTreeMap Spot KeptNode). is_some (children_in nodes k q)) (points.still top)
      | inl low ↦ elim (spot_is k q (level + 1) (place / fan)) [
        | inl at ↦ (λ i. is_some (node_in u (at.0 i) (at.1 i))) ∙ ap is_some (points.node low) ∙ written (node_in t (level + 1) (place / fan)) (place % fan) ∙ sym (λ i. is_some (node_in t (at.0 i) (at.1 i)))
        | inr other ↦ ap is_some (points.others k q other)
      ]
    ]
