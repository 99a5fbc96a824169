-- A node that comes into memory, and how the tree stands to its blocks then.
use Rattle.std.proofs.Common.{◌≡◌, ◌≢◌, ◌≤◌, ◌<◌, ℕ, ◌+◌, ◌/◌, ◌⊎◌, inl, inr, true, false, cond, ◌&&◌, List, Option, Some, None, Result, Ok, Err, OnOk, OnErr, get_or, is_some, nat_eq, replicate, sym, ap, ◌∙◌, arith}
use Rattle.std.specs.Ordering.{nat_cmp}
use Rattle.std.specs.Option.{option_map}
use Rattle.std.specs.BTreeMap as tree
use Rattle.std.specs.FinMap as fin
use Rattle.std.proofs.lemmas.Bool.{cases_eq}
use Rattle.fv_codec.specs.declared.pointer.Pointer.{Pointer}
use Rattle.fv_model.specs.Trees.{fan}
use Rattle.fv_disk.specs.declared.fault.BlockFault.{BlockFault}
use Rattle.fv_tree.specs.declared.kept.Tree.{Tree}
use Rattle.fv_tree.specs.declared.kept.KeptNode.{KeptNode}
use Rattle.fv_tree.specs.declared.kept.KeptCell.{KeptCell}
use Rattle.fv_tree.specs.Spelled.{Under, hole, pointers_in, pointer_at}
use Rattle.fv_tree.specs.Sources.{Shown, Use}
use Rattle.fv_tree.specs.Standing.{standing, under, node_in, cell_in, IsSameBut}
use Rattle.fv_tree.specs.Keeping.{IsSame}
use Rattle.fv_tree.specs.Flushing.{Leads, IsEmptyNode, Stands, loaded, changed_of, placed_of, placed_in, node_changed, node_placed, cell_changed, cell_placed, kind_for}
use Rattle.fv_tree.specs.Carried.{kept_at, IsBlank, IsRead, Brings}
use Rattle.fv_tree.proofs.Cases.{false_is_true}
use Rattle.fv_tree.proofs.Gone.{changed_cell, spot_changed, cell_led, spot_led}
use Rattle.fv_tree.proofs.Hints.{right_as}
use Rattle.fv_tree.proofs.Spots.{here, elsewhere}
use Rattle.fv_tree.proofs.Ways.{under_none, spot_is, nothing_there}

or_this : {X : Type 0} → X → Option X → X
or_this x None = x
or_this x (Some y) = y

pub some_same : {X : Type 0} (x y : X) → Some x ≡ Some y → x ≡ y
unfolding or_this
some_same x y e = ap (or_this x) e

-- all other nodes are in memory as they were
pub but_one : (t u : Tree) (level place : ℕ) (node : KeptNode) (r : Result Unit BlockFault)
    → OnOk r ((k q : ℕ) → kept_at u k q ≡ cond (nat_eq k level && nat_eq q place) (Some node) (kept_at t k q))
    → OnErr r ((k q : ℕ) → kept_at u k q ≡ kept_at t k q)
    → (k q : ℕ) → (k ≢ level) ⊎ (q ≢ place) → kept_at u k q ≡ kept_at t k q
but_one t u level place node (Ok xs) done failed k q other = done k q ∙ ap (λ b. cond b (Some node) (kept_at t k q)) (elsewhere k q level place other)
but_one t u level place node (Err e) done failed k q other = failed k q

pub brought : (blocks : Under) (t u : Tree) (level place : ℕ) (p : Pointer) (node : KeptNode) (r : Result Unit BlockFault)
    → OnOk r ((k q : ℕ) → kept_at u k q ≡ cond (nat_eq k level && nat_eq q place) (Some node) (kept_at t k q))
    → OnErr r ((k q : ℕ) → kept_at u k q ≡ kept_at t k q)
    → (kept_at u level place ≡ Some node → ((p.stamp ≡ 0) × IsBlank (kept_at u level place)) ⊎ ((p.stamp ≢ 0) × (kept_at t level place ≡ None) × IsRead blocks p.vvbn (kept_at u level place)))
    → Brings blocks t u level place p
brought blocks t u level place p node (Ok xs) done failed own = record {
  others = but_one t u level place node (Ok xs) done tt;
  own = inr (own (done level place ∙ ap (λ b. cond b (Some node) (kept_at t level place)) (here level place)));
}
brought blocks t u level place p node (Err e) done failed own = record {
  others = λ k q _. failed k q;
  own = inl (failed level place);
}

pub blank_now : (t u : Tree) (level place : ℕ) (node : KeptNode) (r : Result Unit BlockFault) → node.children ≡ replicate 128 hole → node.changed ≡ false → node.placed ≡ false
    → OnOk r ((k q : ℕ) → kept_at u k q ≡ cond (nat_eq k level && nat_eq q place) (Some node) (kept_at t k q)) → OnOk r (IsBlank (kept_at u level place))
blank_now t u level place node (Ok xs) children changed placed done = record {
  node = node;
  is = done level place ∙ ap (λ b. cond b (Some node) (kept_at t level place)) (here level place);
  children = children;
  changed = changed;
  placed = placed;
}
blank_now t u level place node (Err e) children changed placed done = tt

pub blank_unplaced : (t : Tree) (k q : ℕ) → IsBlank (kept_at t k q) → placed_in t.nodes k q ≡ false
blank_unplaced t k q blank = ap node_placed blank.is ∙ blank.placed

pub blank_empty : (blocks : Under) (t : Tree) (k q : ℕ) → IsBlank (kept_at t k q) → IsEmptyNode (standing blocks t) k q
blank_empty blocks t k q blank xs node slot =
    let is : xs ≡ replicate 128 hole = some_same xs (replicate 128 hole) (sym node ∙ ap (option_map (λ (kept : KeptNode). kept.children)) blank.is ∙ ap Some blank.children) in
    ap (λ (ys : List Pointer). get_or ys slot hole) is ∙ nothing_there slot

-- a pointer that isn't a hole is in a node to which one leads
pub leads_on : (t : Tree) (level place slot : ℕ) (p : Pointer) (xs : List Pointer) → node_in t level place ≡ Some xs → (p.stamp ≡ 0 → IsBlank (kept_at t level place)) → (get_or xs slot hole).stamp ≢ 0 → p.stamp ≢ 0
leads_on t level place slot p xs node blank some none = some (ap (λ (q : Pointer). q.stamp) (blank_empty (λ _. None) t level place (blank none) xs node slot))

-- the tree stands on its blocks as it did
module _ (old new : Shown) (t u : Tree) (level place : ℕ) (low : 1 ≤ level) (held : new.held ≡ old.held) (used : new.used ≡ old.used) (fields : IsSameBut t u)
    (same : IsSame (standing (under old) t) (standing (under new) u)) (brings : Brings (under old) t u level place (pointer_at (standing (under old) t) level place)) (stands : Stands old t) where
  other_changed : (j c : ℕ) → (j ≢ level) ⊎ (c ≢ place) → changed_of u j c ≡ changed_of t j c
  other_changed j c other = elim (cases_eq j 0) [
    | inl e ↦ changed_cell u j c e ∙ ap (λ (cells : tree.BTreeMap ℕ KeptCell). cell_changed (tree.get nat_cmp cells c)) fields.cells ∙ sym (changed_cell t j c e)
    | inr some ↦ spot_changed u j c (omega arith) ∙ ap node_changed (brings.others j c other) ∙ sym (spot_changed t j c (omega arith))
  ]

  other_led : (j c : ℕ) → (j ≢ level) ⊎ (c ≢ place) → placed_of u j c ≡ placed_of t j c
  other_led j c other = elim (cases_eq j 0) [
    | inl e ↦ cell_led u j c e ∙ ap (λ (cells : tree.BTreeMap ℕ KeptCell). cell_placed (tree.get nat_cmp cells c)) fields.cells ∙ sym (cell_led t j c e)
    | inr some ↦ spot_led u j c (omega arith) ∙ ap node_placed (brings.others j c other) ∙ sym (spot_led t j c (omega arith))
  ]

  own_led : (pointer_at (standing (under old) t) level place).stamp ≢ 0 → placed_of u level place ≡ true → placed_of t level place ≡ true
  own_led some now = spot_led t level place low ∙ elim brings.own [
    | inl kept ↦ sym (ap node_placed kept) ∙ sym (spot_led u level place low) ∙ now
    | inr (inl blank) ↦ absurd (some blank.0)
    | inr (inr read) ↦ ap node_placed read.1
  ]

  own_was : changed_of u level place ≡ true → changed_of t level place ≡ true
  own_was now = elim brings.own [
    | inl kept ↦ spot_changed t level place low ∙ sym (ap node_changed kept) ∙ sym (spot_changed u level place low) ∙ now
    | inr (inl blank) ↦ false_is_true (changed_of u level place) (spot_changed u level place low ∙ ap node_changed blank.1.is ∙ blank.1.changed) now
    | inr (inr read) ↦ false_is_true (changed_of u level place) (spot_changed u level place low ∙ ap node_changed read.2.is ∙ read.2.changed) now
  ]

  own_still : (pointer_at (standing (under old) t) level place).stamp ≢ 0 → changed_of t level place ≡ true → changed_of u level place ≡ true
  own_still some was = elim brings.own [
    | inl kept ↦ spot_changed u level place low ∙ ap node_changed kept ∙ sym (spot_changed t level place low) ∙ was
    | inr (inl blank) ↦ absurd (some blank.0)
    | inr (inr read) ↦ false_is_true (changed_of t level place) (spot_changed t level place low ∙ ap node_changed read.1) was
  ]

  stamps : (j c : ℕ) → (pointer_at (standing (under new) u) j c).stamp ≡ (pointer_at (standing (under old) t) j c).stamp
  stamps j c = ap (λ (p : Pointer). p.stamp) (same.pointers j c)

  leads_old : (j c v : ℕ) → Leads (loaded new u) j c v → Leads (loaded old t) j c v
  leads_old j c v leads = let some : (pointer_at (standing (under old) t) j c).stamp ≢ 0 = λ e. leads.some (stamps j c ∙ e) in record {
    some = some;
    placed = elim (spot_is j c level place) [
      | inl at ↦ (λ i. placed_of t (at.0 i) (at.1 i)) ∙ own_led (λ e. some ((λ i. (pointer_at (standing (under old) t) (at.0 i) (at.1 i)).stamp) ∙ e)) (sym (λ i. placed_of u (at.0 i) (at.1 i)) ∙ leads.placed)
      | inr other ↦ sym (other_led j c other) ∙ leads.placed
    ];
    vvbn = sym (ap (λ (p : Pointer). p.vvbn) (same.pointers j c)) ∙ leads.vvbn;
  }

  was_changed : (j c : ℕ) → changed_of u j c ≡ true → changed_of t j c ≡ true
  was_changed j c now = elim (spot_is j c level place) [
    | inl at ↦ (λ i. changed_of t (at.0 i) (at.1 i)) ∙ own_was (sym (λ i. changed_of u (at.0 i) (at.1 i)) ∙ now)
    | inr other ↦ sym (other_changed j c other) ∙ now
  ]

  still_changed : (j c : ℕ) → (pointer_at (standing (under old) t) j c).stamp ≢ 0 → changed_of t j c ≡ true → changed_of u j c ≡ true
  still_changed j c some was = elim (spot_is j c level place) [
    | inl at ↦ (λ i. changed_of u (at.0 i) (at.1 i)) ∙ own_still (λ e. some ((λ i. (pointer_at (standing (under old) t) (at.0 i) (at.1 i)).stamp) ∙ e)) (sym (λ i. changed_of t (at.0 i) (at.1 i)) ∙ was)
    | inr other ↦ other_changed j c other ∙ was
  ]

  over : (j c : ℕ) → changed_of u j c ≡ true → (pointer_at (standing (under new) u) j c).stamp ≢ 0 → j < u.levels → changed_of u (j + 1) (c / fan) ≡ true
  over j c now reached lt =
      let less : j < t.levels = omega (arith, lt, fields.levels) in
      let some : (pointer_at (standing (under old) t) j c).stamp ≢ 0 = λ e. reached (stamps j c ∙ e) in
      still_changed (j + 1) (c / fan) (λ e. some (under_none (standing (under old) t) j c less e)) (stands.over j c (was_changed j c now) some less)

  seen_blocks : under new ≡ under old
  seen_blocks i v = fin.get (held i) v

  own_same : (xs : List Pointer) → node_in u level place ≡ Some xs → changed_of u level place ≡ false → (pointer_at (standing (under old) t) level place).stamp ≢ 0
      → (pointers_in (under old (pointer_at (standing (under old) t) level place).vvbn) ≡ xs) × (placed_of u level place ≡ true)
  own_same xs node now some = elim brings.own [
    | inl kept ↦
        let was = stands.same level place xs low (sym (ap (option_map (λ (kept : KeptNode). kept.children)) kept) ∙ node) (spot_changed t level place low ∙ sym (ap node_changed kept) ∙ sym (spot_changed u level place low) ∙ now) some in
        (was.0, spot_led u level place low ∙ ap node_placed kept ∙ sym (spot_led t level place low) ∙ was.1)
    | inr (inl blank) ↦ absurd (some blank.0)
    | inr (inr read) ↦
        (read.2.spelled ∙ some_same read.2.node.children xs (sym (ap (option_map (λ (kept : KeptNode). kept.children)) read.2.is) ∙ node), spot_led u level place low ∙ ap node_placed read.2.is ∙ read.2.placed)
  ]

  other_node : (j c : ℕ) → (j ≢ level) ⊎ (c ≢ place) → node_in u j c ≡ node_in t j c
  other_node j c other = ap (option_map (λ (kept : KeptNode). kept.children)) (brings.others j c other)

  same_old : (j c : ℕ) (xs : List Pointer) → 1 ≤ j → node_in u j c ≡ Some xs → changed_of u j c ≡ false → (pointer_at (standing (under old) t) j c).stamp ≢ 0
      → (pointers_in (under old (pointer_at (standing (under old) t) j c).vvbn) ≡ xs) × (placed_of u j c ≡ true)
  same_old j c xs some node now reached = elim (spot_is j c level place) [
    | inl at ↦
        let own = own_same xs (sym (λ i. node_in u (at.0 i) (at.1 i)) ∙ node) (sym (λ i. changed_of u (at.0 i) (at.1 i)) ∙ now) (λ e. reached ((λ i. (pointer_at (standing (under old) t) (at.0 i) (at.1 i)).stamp) ∙ e)) in
        ((λ i. pointers_in (under old (pointer_at (standing (under old) t) (at.0 i) (at.1 i)).vvbn)) ∙ own.0, (λ i. placed_of u (at.0 i) (at.1 i)) ∙ own.1)
    | inr other ↦
        let was = stands.same j c xs some (sym (other_node j c other) ∙ node) (sym (other_changed j c other) ∙ now) reached in
        (was.0, other_led j c other ∙ was.1)
  ]

  same_nodes : (j c : ℕ) (xs : List Pointer) → 1 ≤ j → node_in u j c ≡ Some xs → changed_of u j c ≡ false → (pointer_at (standing (under new) u) j c).stamp ≢ 0
      → (pointers_in (under new (pointer_at (standing (under new) u) j c).vvbn) ≡ xs) × (placed_of u j c ≡ true)
  same_nodes j c xs some node now reached =
      let was = same_old j c xs some node now (λ e. reached (stamps j c ∙ e)) in
      ((λ i. pointers_in (seen_blocks i (same.pointers j c i).vvbn)) ∙ was.0, was.1)

  in_cells : (index : ℕ) (block : List ℕ) → cell_in u index ≡ Some block → changed_of u 0 index ≡ false → (pointer_at (standing (under new) u) 0 index).stamp ≢ 0
      → (under new (pointer_at (standing (under new) u) 0 index).vvbn ≡ Some block) × (placed_of u 0 index ≡ true)
  in_cells index block cell now reached =
      let other : (0 ≢ level) ⊎ (index ≢ place) = inl (λ e. absurd (omega (arith, low, e))) in
      let was = stands.cells index block (sym (ap (λ (cells : tree.BTreeMap ℕ KeptCell). option_map (λ (kept : KeptCell). kept.block.value) (tree.get nat_cmp cells index)) fields.cells) ∙ cell) (sym (other_changed 0 index other) ∙ now) (λ e. reached (stamps 0 index ∙ e)) in
      ((λ i. seen_blocks i (same.pointers 0 index i).vvbn) ∙ was.0, other_led 0 index other ∙ was.1)

  own_empty : (pointer_at (standing (under old) t) level place).stamp ≡ 0 → IsEmptyNode (standing (under old) t) level place → IsEmptyNode (standing (under new) u) level place
  own_empty none was = elim brings.own [
    | inl kept ↦ λ xs node. was xs (sym (ap (option_map (λ (kept : KeptNode). kept.children)) kept) ∙ node)
    | inr (inl blank) ↦ blank_empty (under new) u level place blank.1
    | inr (inr read) ↦ absurd (read.0 none)
  ]

  empty_old : (j c : ℕ) → (pointer_at (standing (under old) t) j c).stamp ≡ 0 → IsEmptyNode (standing (under old) t) j c → IsEmptyNode (standing (under new) u) j c
  empty_old j c none was = elim (spot_is j c level place) [
    | inl at ↦ λ xs node slot. own_empty (sym (λ i. (pointer_at (standing (under old) t) (at.0 i) (at.1 i)).stamp) ∙ none) (λ ys there. was ys ((λ i. node_in t (at.0 i) (at.1 i)) ∙ there)) xs (sym (λ i. node_in u (at.0 i) (at.1 i)) ∙ node) slot
    | inr other ↦ λ xs node. was xs (sym (other_node j c other) ∙ node)
  ]

  empty_where : (j c : ℕ) → (j ≤ u.levels) ⊎ ((c ≢ 0) ⊎ (u.root.stamp ≡ 0)) → (j ≤ t.levels) ⊎ ((c ≢ 0) ⊎ (t.root.stamp ≡ 0))
  empty_where j c (inl le) = inl (omega (arith, le, fields.levels))
  empty_where j c (inr (inl differs)) = inr (inl differs)
  empty_where j c (inr (inr none)) = inr (inr (sym (ap (λ (p : Pointer). p.stamp) fields.root) ∙ none))

  pub brings_stands : Stands new u
  brings_stands = record {
    once = λ j c k q v first second. stands.once j c k q v (leads_old j c v first) (leads_old k q v second);
    held = λ j c v leads. ap (λ (blocks : Under). is_some (blocks v)) seen_blocks ∙ stands.held j c v (leads_old j c v leads);
    used = λ j c v leads.
        right_as (kind_for t.owner j) (kind_for u.owner j) (ap (λ (o : ℕ). kind_for o j) fields.owner) (pointer_at (standing (under old) t) j c) (pointer_at (standing (under new) u) j c) (old.used v) (new.used v) (ap (λ (p : Pointer). p.pvbn) (same.pointers j c)) (ap (λ (u : ℕ → Option Use). u v) used) (stands.used j c v (leads_old j c v leads));
    over = over;
    same = same_nodes;
    cells = in_cells;
    empty = λ j c some none which. empty_old j c (sym (stamps j c) ∙ none) (stands.empty j c some (sym (stamps j c) ∙ none) (empty_where j c which));
  }
