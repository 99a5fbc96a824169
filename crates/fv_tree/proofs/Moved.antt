-- A block that was placed, to which the pointer in the node above leads, as it is to the tree over its blocks.
use Rattle.std.proofs.Common.{◌≡◌, ◌≢◌, ◌≤◌, ◌<◌, ℕ, ◌+◌, ◌/◌, ◌%◌, ◌⊎◌, inl, inr, Bool, true, false, not, ◌&&◌, List, [], ◌∷◌, zero, suc, Option, Some, None, Ok, get_or, length, is_some, slice_set, refl, sym, ap, subst, ◌∙◌, arith, nat_lt, ◌==◌}
use Rattle.std.specs.Ordering.{nat_cmp}
use Rattle.std.specs.Option.{option_map}
use Rattle.std.specs.BTreeMap as tree
use Rattle.std.specs.FinMap as fin
use Rattle.std.proofs.lemmas.Bool.{cases_eq, cases_lt}
use Rattle.std.proofs.lemmas.Bool.Decides.{nat_tests}
use Rattle.fv_codec.specs.declared.pointer.Pointer.{Pointer}
use Rattle.fv_codec.specs.Blocks.{node_at}
use Rattle.fv_model.specs.Trees.{fan, Spot, spot_cmp}
use Rattle.fv_tree.specs.declared.kept.Tree.{Tree}
use Rattle.fv_tree.specs.declared.kept.KeptNode.{KeptNode}
use Rattle.fv_tree.specs.declared.kept.KeptCell.{KeptCell}
use Rattle.fv_tree.specs.Spelled.{Rooted, hole, pointers_of, pointers_in, pointer_at}
use Rattle.fv_tree.specs.Sources.{Shown}
use Rattle.fv_tree.specs.Standing.{standing, under, node_in, cell_in}
use Rattle.fv_tree.specs.Flushing.{Leads, Stands, IsMoved, has_unknown_root, IsNodeOf, NamesUsed, loaded, changed_of, placed_of, changed_in, node_changed, cell_changed, cell_placed, pointer_in, is_unknown, all_known, kind_for}
use Rattle.fv_tree.proofs.Below.{no_pointers, kept_pointers}
use Rattle.fv_tree.proofs.Cases.{there, bit, false_is_true, none_some}
use Rattle.fv_tree.proofs.Flushed.{Replaces}
use Rattle.fv_tree.proofs.Gone.{Goes, map_none, changed_cell, spot_changed, cell_led, spot_led, gone_changed, gone_led, other_changed, other_led, other_node, other_content, gone_node, gone_cell}
use Rattle.fv_tree.proofs.Hints.{HasUnknown, HasUnknownRoot, find_unknown, right_some}
use Rattle.fv_tree.proofs.Pointers.{both}
use Rattle.fv_tree.proofs.Ways.{own_way, past}

-- ---- the block of a node

pub spells : (owner level place : ℕ) (xs : List Pointer) (block : List ℕ) → node_at block ≡ Ok (record { level = level; owner = owner; place = place; children = xs }) → pointers_in (Some block) ≡ xs
spells owner level place xs block is = ap pointers_of is

pub one_unknown : (xs : List Pointer) (slot : ℕ) → (get_or xs slot hole).stamp ≢ 0 → (get_or xs slot hole).pvbn ≡ 0 → all_known xs ≡ false
one_unknown [] slot some none = absurd (some refl)
one_unknown (x ∷ xs) zero some none =
    let one : (x.stamp == 0) ≡ false = grind (arith, nat_tests) in
    let two : (x.pvbn == 0) ≡ true = grind (arith, nat_tests) in
    (λ i. not (not (one i) && two i) && all_known xs)
one_unknown (x ∷ xs) (suc slot) some none = ap (λ b. not (is_unknown x) && b) (one_unknown xs slot some none) ∙ both (not (is_unknown x))

pub unknown_in : (node : KeptNode) (held : Option (List Pointer)) → held ≡ Some node.children → all_known node.children ≡ false → HasUnknown held
unknown_in node held is some = let one = find_unknown node.children some in record {
  xs = node.children;
  held = is;
  slot = one.0;
  low = omega (arith, one.1, node.long);
  some = one.2;
  unknown = one.3;
}

-- ---- the pointer in memory is the tree's

module _ (source : Shown) (t : Tree) (stands : Stands source t) (k q : ℕ) where
  root : Rooted
  root = standing (under source) t

  -- the node over it is in memory
  held_pointer : (xs : List Pointer) → k < t.levels → node_in t (k + 1) (q / fan) ≡ Some xs → get_or xs (q % fan) hole ≡ pointer_at (standing (under source) t) k q
  held_pointer xs lt held = elim (cases_eq (pointer_at (standing (under source) t) (k + 1) (q / fan)).stamp 0) [
    | inl e ↦
        stands.empty (k + 1) (q / fan) (omega arith) e (inl (omega (arith, lt))) xs held (q % fan)
        ∙ sym ((own_way (standing (under source) t)).down k q lt ∙ ap (λ (ys : List Pointer). get_or ys (q % fan) hole) (no_pointers (standing (under source) t) (k + 1) (q / fan) (pointer_at (standing (under source) t) (k + 1) (q / fan)) e))
    | inr some ↦ sym ((own_way (standing (under source) t)).down k q lt ∙ ap (λ (ys : List Pointer). get_or ys (q % fan) hole) (kept_pointers (standing (under source) t) (k + 1) (q / fan) (pointer_at (standing (under source) t) (k + 1) (q / fan)) xs some held))
  ]

  -- it isn't in memory, so nothing leads to what changed
  no_pointer : changed_of t k q ≡ true → k < t.levels → node_in t (k + 1) (q / fan) ≡ None → (pointer_at (standing (under source) t) k q).stamp ≡ 0
  no_pointer changed lt none = elim (cases_eq (pointer_at (standing (under source) t) k q).stamp 0) [
    | inl e ↦ e
    | inr some ↦
        let absent : changed_of t (k + 1) (q / fan) ≡ false = spot_changed t (k + 1) (q / fan) (omega arith) ∙ ap node_changed (map_none (λ (kept : KeptNode). kept.children) (tree.get spot_cmp t.nodes (k + 1, q / fan)) none) in
        false_is_true (changed_of t (k + 1) (q / fan)) absent (stands.over k q changed some lt)
  ]

  pointer_low : changed_of t k q ≡ true → k < t.levels → (((pointer_in t k q).stamp ≡ 0) × ((pointer_at (standing (under source) t) k q).stamp ≡ 0)) ⊎ (pointer_in t k q ≡ pointer_at (standing (under source) t) k q)
  unfolding pointer_in
  pointer_low changed lt =
      let test : nat_lt k t.levels ≡ true = grind (arith, nat_tests) in
      elim (there (node_in t (k + 1) (q / fan))) [
        | inl none ↦ inl (rw (test, none) refl, no_pointer changed lt none)
        | inr held ↦ inr (rw (test, held.1) (held_pointer held.0 lt held.1))
      ]

  pointer_top : k ≡ t.levels → pointer_in t k q ≡ pointer_at (standing (under source) t) k q
  unfolding pointer_in
  pointer_top e =
      let test : nat_lt k t.levels ≡ false = grind (arith, nat_tests) in
      let same : (k == t.levels) ≡ true = grind (arith, nat_tests) in
      rw (test, same) (sym (ap (λ n. pointer_at (standing (under source) t) n q) e ∙ (own_way (standing (under source) t)).top q))

  pointer_past : t.levels < k → pointer_in t k q ≡ pointer_at (standing (under source) t) k q
  unfolding pointer_in
  pointer_past lt =
      let test : nat_lt k t.levels ≡ false = grind (arith, nat_tests) in
      let other : (k == t.levels) ≡ false = grind (arith, nat_tests) in
      rw (test, other) (sym (past (standing (under source) t) k q lt))

  pub pointer_is : changed_of t k q ≡ true → (((pointer_in t k q).stamp ≡ 0) × ((pointer_at (standing (under source) t) k q).stamp ≡ 0)) ⊎ (pointer_in t k q ≡ pointer_at (standing (under source) t) k q)
  pointer_is changed = elim (cases_lt k t.levels) [
    | inl lt ↦ pointer_low changed lt
    | inr le ↦ elim (cases_eq k t.levels) [
      | inl e ↦ inr (pointer_top e)
      | inr differs ↦ inr (pointer_past (omega arith))
    ]
  ]

  pub hidden_is : changed_of t k q ≡ true → (pointer_in t k q).stamp ≡ 0 → (pointer_at (standing (under source) t) k q).stamp ≡ 0
  hidden_is changed none = elim (pointer_is changed) [
    | inl both ↦ both.1
    | inr same ↦ sym (ap (λ (p : Pointer). p.stamp) same) ∙ none
  ]

  pub shown_is : changed_of t k q ≡ true → (pointer_in t k q).stamp ≢ 0 → pointer_in t k q ≡ pointer_at (standing (under source) t) k q
  shown_is changed some = elim (pointer_is changed) [
    | inl both ↦ absurd (some both.0)
    | inr same ↦ same
  ]

-- ---- it is placed

-- the block that is named is in use
pub names_used : (old : Shown) (t : Tree) (k q : ℕ) (named : Bool) → Stands old t → changed_of t k q ≡ true → named ≡ placed_of t k q → NamesUsed old named (pointer_in t k q)
names_used old t k q named stands was led e some =
    let same = shown_is old t stands k q was some in
    let v = (pointer_in t k q).vvbn in
    right_some (kind_for t.owner k) (pointer_at (standing (under old) t) k q) (old.used v)
    (stands.used k q v (record { some = λ none. some (ap (λ (p : Pointer). p.stamp) same ∙ none); placed = sym led ∙ e; vvbn = sym (ap (λ (p : Pointer). p.vvbn) same) }))

pub no_stray : (old new : Shown) (t mid : Tree) (k q : ℕ) (content : List ℕ) (named known : Bool) → Stands old t → changed_of t k q ≡ true → named ≡ placed_of t k q → IsMoved old t k q content named known new mid → new.strays ≡ old.strays
no_stray old new t mid k q content named known stands was led moved = moved.swaps.strays (λ e. names_used old t k q named stands was led e moved.some)

module _ (hides : Bool) (old new : Shown) (t mid u : Tree) (k q : ℕ) (content : List ℕ) (named known : Bool) (stands : Stands old t) (was : changed_of t k q ≡ true) (led : named ≡ placed_of t k q)
    (first : (j c : ℕ) → j + 1 ≡ k → changed_of t j c ≡ false) (moved : IsMoved old t k q content named known new mid) (goes : Goes mid u k q)
    (node : 1 ≤ k → (xs : List Pointer) × (node_in t k q ≡ Some xs) × (pointers_in (Some content) ≡ xs) × ((slot : ℕ) → (get_or xs slot hole).stamp ≢ 0 → (get_or xs slot hole).pvbn ≡ 0 → known ≡ false))
    (names : 1 ≤ k → IsNodeOf t.owner k q (Some content)) (cell : k ≡ 0 → cell_in t q ≡ Some content)
    (roots : k ≡ 0 → has_unknown_root t.owner content ≡ true → known ≡ false) (hide : hides ≡ true → known ≡ false)
    (hidden : hides ≡ false → known ≡ false → ((1 ≤ k) × HasUnknown (node_in t k q)) ⊎ ((k ≡ 0) × HasUnknownRoot t.owner (cell_in t q))) where
  p : Pointer
  p = moved.pointer

  shown : pointer_in t k q ≡ pointer_at (standing (under old) t) k q
  shown = shown_is old t stands k q was moved.some

  some : (pointer_at (standing (under old) t) k q).stamp ≢ 0
  some e = moved.some (ap (λ (p : Pointer). p.stamp) shown ∙ e)

  same_vvbn : (pointer_in t k q).vvbn ≡ (pointer_at (standing (under old) t) k q).vvbn
  same_vvbn = ap (λ (p : Pointer). p.vvbn) shown

  -- the block that is replaced is led to
  leads : named ≡ true → Leads (loaded old t) k q (pointer_in t k q).vvbn
  leads e = record { some = some; placed = sym led ∙ e; vvbn = sym same_vvbn }

  apart : (named ≡ false) ⊎ ((pointer_in t k q).vvbn ≢ moved.pointer.vvbn)
  apart = elim (bit named) [
    | inl none ↦ inl none
    | inr e ↦ inr (λ same. none_some (fin.get old.held (pointer_in t k q).vvbn) (ap (λ v. fin.get old.held v) same ∙ moved.swaps.fresh) (stands.held k q (pointer_in t k q).vvbn (leads e)))
  ]

  other : (v : ℕ) → (Leads (loaded old t) k q v → ⊥) → (named ≡ false) ⊎ (v ≢ (pointer_in t k q).vvbn)
  other v not = elim (bit named) [
    | inl none ↦ inl none
    | inr e ↦ inr (λ same. not (subst (Leads (loaded old t) k q) (sym same) (leads e)))
  ]

  -- the node above
  over : k < t.levels → (xs : List Pointer) × (node_in t (k + 1) (q / fan) ≡ Some xs) × (node_in u (k + 1) (q / fan) ≡ Some (slice_set xs (q % fan) moved.pointer)) × (length xs ≡ 128)
  over lt =
      let changed : changed_of t (k + 1) (q / fan) ≡ true = stands.over k q was some lt in
      elim (there (tree.get spot_cmp t.nodes (k + 1, q / fan))) [
        | inl none ↦ false_is_true (changed_of t (k + 1) (q / fan)) (spot_changed t (k + 1) (q / fan) (omega arith) ∙ ap node_changed none) changed
        | inr held ↦
            let kept : node_in t (k + 1) (q / fan) ≡ Some held.0.children = ap (option_map (λ (kept : KeptNode). kept.children)) held.1 in (
              held.0.children,
              kept,
              other_node mid u k q goes (k + 1) (q / fan) (omega arith) (inl (omega arith)) ∙ moved.points.node lt ∙ ap (option_map (λ xs. slice_set xs (q % fan) moved.pointer)) kept,
              held.0.long,
            )
      ]

  -- what changed above still does
  mid_changed : (j c : ℕ) → (j ≢ k) ⊎ (c ≢ q) → changed_of mid j c ≡ changed_of t j c
  mid_changed j c differs = elim (cases_eq j 0) [
    | inl e ↦ changed_cell mid j c e ∙ ap (λ (cells : tree.BTreeMap ℕ KeptCell). cell_changed (tree.get nat_cmp cells c)) moved.points.cells ∙ sym (changed_cell t j c e)
    | inr low ↦ spot_changed mid j c (omega arith) ∙ elim (cases_lt k t.levels) [
      | inl lt ↦ moved.points.changed j c (elim (cases_eq j (k + 1)) [
        | inl up ↦ elim (cases_eq c (q / fan)) [
          | inl at ↦ inr (sym (spot_changed t j c (omega arith)) ∙ (λ i. changed_of t (up i) (at i)) ∙ stands.over k q was some lt)
          | inr place ↦ inl (inr place)
        ]
        | inr level ↦ inl (inl level)
      ])
      | inr le ↦ ap (λ (nodes : tree.BTreeMap Spot KeptNode). changed_in nodes j c) (moved.points.still le)
    ] ∙ sym (spot_changed t j c (omega arith))
  ]

  mid_led : (j c : ℕ) → placed_of mid j c ≡ placed_of t j c
  mid_led j c = elim (cases_eq j 0) [
    | inl e ↦ cell_led mid j c e ∙ ap (λ (cells : tree.BTreeMap ℕ KeptCell). cell_placed (tree.get nat_cmp cells c)) moved.points.cells ∙ sym (cell_led t j c e)
    | inr low ↦ spot_led mid j c (omega arith) ∙ moved.points.placed j c ∙ sym (spot_led t j c (omega arith))
  ]

  placed_now : fin.get new.held moved.pointer.vvbn ≡ Some content
  placed_now = moved.swaps.block apart

  pub replaces_is : Replaces hides (loaded old t) old.used (loaded new u) new.used k q moved.pointer
  replaces_is = record {
    was = was;
    some = some;
    stamp = moved.stamp ∙ ap (λ (p : Pointer). p.stamp) shown;
    first = first;
    owner = goes.owner ∙ moved.points.owner;
    levels = goes.levels ∙ moved.points.levels;
    low = λ lt. goes.root ∙ moved.points.low lt;
    top = λ le. goes.root ∙ moved.points.top le;
    over = over;
    own = gone_node mid u k q goes;
    own_cell = gone_cell mid u k q goes;
    nodes = λ j c low differs beside. other_node mid u k q goes j c low differs ∙ moved.points.others j c beside;
    cells = λ i differs. other_content mid u k q goes i differs ∙ ap (λ (cells : tree.BTreeMap ℕ KeptCell). option_map (λ (kept : KeptCell). kept.block.value) (tree.get nat_cmp cells i)) moved.points.cells;
    node = λ low. let is = node low in (is.0, is.1, ap pointers_in placed_now ∙ is.2, λ slot filled none. moved.swaps.unknown (is.3 slot filled none));
    names = λ low. subst (IsNodeOf t.owner k q) (sym placed_now) (names low);
    cell = λ e. (content, cell e, placed_now, λ unknown. moved.swaps.unknown (roots e unknown));
    fresh = moved.swaps.fresh;
    unused = moved.swaps.unused;
    now = ap is_some placed_now;
    taken = moved.swaps.used apart;
    hidden = λ hides. moved.swaps.unknown (hide hides);
    told = λ tells. elim (bit known) [
      | inl not_known ↦ inr (hidden tells not_known)
      | inr shown ↦ inl (moved.swaps.told shown apart)
    ];
    others = λ v differs not. moved.swaps.others v differs (other v not);
    gone = λ v to differs. ap new.used (sym (same_vvbn ∙ to.vvbn)) ∙ moved.swaps.gone (led ∙ to.placed);
    changed = gone_changed mid u k q goes;
    changed_others = λ j c differs. other_changed mid u k q goes j c differs ∙ mid_changed j c differs;
    placed = gone_led mid u k q goes;
    placed_others = λ j c differs. other_led mid u k q goes j c differs ∙ mid_led j c;
  }
