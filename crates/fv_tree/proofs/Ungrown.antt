-- Nodes past the levels that come into memory, and how the tree stands to its blocks while its levels are what they were.
use Rattle.std.proofs.Common.{◌≡◌, ◌≢◌, ◌≤◌, ◌<◌, ℕ, ◌+◌, ◌/◌, ◌^◌, ◌⊎◌, inl, inr, true, false, List, Option, Some, refl, sym, ap, ◌∙◌, arith}
use Rattle.std.specs.Ordering.{nat_cmp}
use Rattle.std.specs.Option.{option_map}
use Rattle.std.specs.BTreeMap as tree
use Rattle.std.proofs.lemmas.Bool.{cases_eq}
use Rattle.fv_codec.specs.declared.pointer.Pointer.{Pointer}
use Rattle.fv_model.specs.Trees.{fan}
use Rattle.fv_tree.specs.Sources.{Use}
use Rattle.fv_tree.specs.declared.kept.Tree.{Tree}
use Rattle.fv_tree.specs.declared.kept.KeptNode.{KeptNode}
use Rattle.fv_tree.specs.declared.kept.KeptCell.{KeptCell}
use Rattle.fv_tree.specs.Spelled.{Under, hole, pointers_in, pointer_at}
use Rattle.fv_tree.specs.Standing.{standing, node_in, cell_in, IsSameBut}
use Rattle.fv_tree.specs.Keeping.{IsSame}
use Rattle.fv_tree.specs.Flushing.{IsSound, IsEmptyNode, loaded_over, changed_of, placed_of, node_changed, node_placed, cell_changed, cell_placed, kind_for}
use Rattle.fv_tree.specs.Carried.{kept_at, BringsNew}
use Rattle.fv_tree.specs.Leading.{KeepsHints, LeadsNoMore}
use Rattle.fv_tree.specs.Altering.{Leaves}
use Rattle.fv_tree.proofs.Brought.{blank_empty}
use Rattle.fv_tree.proofs.Ways.{under_none, reached_within}
use Rattle.fv_tree.proofs.Gone.{changed_cell, spot_changed, cell_led, spot_led}
use Rattle.fv_tree.proofs.Hints.{right_as}
use Rattle.fv_tree.proofs.Raised.{past_at}

-- a range that something leads to isn't over a cell past the levels
pub not_past : (blocks : Under) (t : Tree) (i level place : ℕ) → fan ^ t.levels ≤ i → (pointer_at (standing blocks t) level place).stamp ≢ 0 → place ≢ i / fan ^ level
not_past blocks t i level place far some at =
    some (ap (λ (p : Pointer). p.stamp) (ap (pointer_at (standing blocks t) level) at ∙ past_at (standing blocks t) i level far (reached_within (standing blocks t) level place some)))

-- what is said of a node to which something leads stays
module _ (blocks : Under) (t v : Tree) (i : ℕ) (far : fan ^ t.levels ≤ i) (brings : BringsNew t v i) where
  pub kept_old : (level place : ℕ) → (pointer_at (standing blocks t) level place).stamp ≢ 0 → kept_at v level place ≡ kept_at t level place
  kept_old level place some = elim (brings level place) [
    | inl same ↦ same
    | inr (inl blank) ↦ absurd (not_past blocks t i level place far some blank.0)
    | inr (inr high) ↦ absurd (omega (arith, high.1, reached_within (standing blocks t) level place some))
  ]

  -- a node that isn't over the cell, nor over the root
  pub kept_off : (level place : ℕ) → place ≢ i / fan ^ level → (level ≤ t.levels) ⊎ ((place ≢ 0) ⊎ (t.root.stamp ≡ 0)) → kept_at v level place ≡ kept_at t level place
  kept_off level place differs which = elim (brings level place) [
    | inl same ↦ same
    | inr (inl blank) ↦ absurd (differs blank.0)
    | inr (inr high) ↦ elim which [
      | inl le ↦ absurd (omega (arith, high.1, le))
      | inr (inl other) ↦ absurd (other high.2)
      | inr (inr none) ↦ absurd (high.0 none)
    ]
  ]

-- ---- the growth found no memory

module _ (blocks : Under) (t v : Tree) (i : ℕ) (far : fan ^ t.levels ≤ i) (fields : IsSameBut t v) (same : IsSame (standing blocks t) (standing blocks v)) (brings : BringsNew t v i) where
  stamps : (k q : ℕ) → (pointer_at (standing blocks v) k q).stamp ≡ (pointer_at (standing blocks t) k q).stamp
  stamps k q = ap (λ (p : Pointer). p.stamp) (same.pointers k q)

  led_old : (k q : ℕ) → (pointer_at (standing blocks t) k q).stamp ≢ 0 → placed_of v k q ≡ placed_of t k q
  led_old k q some = elim (cases_eq k 0) [
    | inl e ↦ cell_led v k q e ∙ ap (λ (cells : tree.BTreeMap ℕ KeptCell). cell_placed (tree.get nat_cmp cells q)) fields.cells ∙ sym (cell_led t k q e)
    | inr low ↦ spot_led v k q (omega arith) ∙ ap node_placed (kept_old blocks t v i far brings k q some) ∙ sym (spot_led t k q (omega arith))
  ]

  changed_old : (k q : ℕ) → (pointer_at (standing blocks t) k q).stamp ≢ 0 → changed_of v k q ≡ changed_of t k q
  changed_old k q some = elim (cases_eq k 0) [
    | inl e ↦ changed_cell v k q e ∙ ap (λ (cells : tree.BTreeMap ℕ KeptCell). cell_changed (tree.get nat_cmp cells q)) fields.cells ∙ sym (changed_cell t k q e)
    | inr low ↦ spot_changed v k q (omega arith) ∙ ap node_changed (kept_old blocks t v i far brings k q some) ∙ sym (spot_changed t k q (omega arith))
  ]

  pub still_same : Leaves (loaded_over blocks t) (loaded_over blocks v)
  still_same = record {
    levels = fields.levels;
    root = fields.root;
    places = λ k q. elim (cases_eq (pointer_at (standing blocks v) k q).stamp 0) [
      | inl none ↦ inl none
      | inr some ↦ inr (record { pointer = same.pointers k q; changed = changed_old k q (λ e. some (stamps k q ∙ e)) })
    ];
  }

  pub still_hints : KeepsHints (loaded_over blocks t) (loaded_over blocks v)
  still_hints k q x leads = ap (λ (p : Pointer). p.pvbn) (same.pointers k q)

  pub still_leads : LeadsNoMore (loaded_over blocks t) (loaded_over blocks v)
  still_leads k q x leads = let some : (pointer_at (standing blocks t) k q).stamp ≢ 0 = λ e. leads.some (stamps k q ∙ e) in record {
    some = some;
    placed = sym (led_old k q some) ∙ leads.placed;
    vvbn = sym (ap (λ (p : Pointer). p.vvbn) (same.pointers k q)) ∙ leads.vvbn;
  }

  pub still_keeps : LeadsNoMore (loaded_over blocks v) (loaded_over blocks t)
  still_keeps k q x leads = record {
    some = λ e. leads.some (sym (stamps k q) ∙ e);
    placed = led_old k q leads.some ∙ leads.placed;
    vvbn = ap (λ (p : Pointer). p.vvbn) (same.pointers k q) ∙ leads.vvbn;
  }

  module _ (used : ℕ → Option Use) (sound : IsSound used (loaded_over blocks t)) where
    over : (k q : ℕ) → changed_of v k q ≡ true → (pointer_at (standing blocks v) k q).stamp ≢ 0 → k < v.levels → changed_of v (k + 1) (q / fan) ≡ true
    over k q now reached lt =
        let less : k < t.levels = omega (arith, lt, fields.levels) in
        let some : (pointer_at (standing blocks t) k q).stamp ≢ 0 = λ e. reached (stamps k q ∙ e) in
        changed_old (k + 1) (q / fan) (λ e. some (under_none (standing blocks t) k q less e)) ∙ sound.over k q (sym (changed_old k q some) ∙ now) some less

    same_nodes : (k q : ℕ) (xs : List Pointer) → 1 ≤ k → node_in v k q ≡ Some xs → changed_of v k q ≡ false → (pointer_at (standing blocks v) k q).stamp ≢ 0
        → (pointers_in (blocks (pointer_at (standing blocks v) k q).vvbn) ≡ xs) × (placed_of v k q ≡ true)
    same_nodes k q xs low node now reached =
        let some : (pointer_at (standing blocks t) k q).stamp ≢ 0 = λ e. reached (stamps k q ∙ e) in
        let was = sound.same k q xs low (sym (ap (option_map (λ (kept : KeptNode). kept.children)) (kept_old blocks t v i far brings k q some)) ∙ node) (sym (changed_old k q some) ∙ now) some in
        ((λ j. pointers_in (blocks (same.pointers k q j).vvbn)) ∙ was.0, led_old k q some ∙ was.1)

    in_cells : (index : ℕ) (block : List ℕ) → cell_in v index ≡ Some block → changed_of v 0 index ≡ false → (pointer_at (standing blocks v) 0 index).stamp ≢ 0
        → (blocks (pointer_at (standing blocks v) 0 index).vvbn ≡ Some block) × (placed_of v 0 index ≡ true)
    in_cells index block cell now reached =
        let some : (pointer_at (standing blocks t) 0 index).stamp ≢ 0 = λ e. reached (stamps 0 index ∙ e) in
        let was = sound.cells index block (sym (ap (λ (cells : tree.BTreeMap ℕ KeptCell). option_map (λ (kept : KeptCell). kept.block.value) (tree.get nat_cmp cells index)) fields.cells) ∙ cell) (sym (changed_old 0 index some) ∙ now) some in
        ((λ j. blocks (same.pointers 0 index j).vvbn) ∙ was.0, led_old 0 index some ∙ was.1)

    empty : (k q : ℕ) → 1 ≤ k → (pointer_at (standing blocks v) k q).stamp ≡ 0 → (k ≤ v.levels) ⊎ ((q ≢ 0) ⊎ (v.root.stamp ≡ 0)) → IsEmptyNode (standing blocks v) k q
    empty k q low none which =
        let where_ : (k ≤ t.levels) ⊎ ((q ≢ 0) ⊎ (t.root.stamp ≡ 0)) = elim which [
          | inl le ↦ inl (omega (arith, le, fields.levels))
          | inr (inl differs) ↦ inr (inl differs)
          | inr (inr hole) ↦ inr (inr (sym (ap (λ (p : Pointer). p.stamp) fields.root) ∙ hole))
        ] in
        let was : IsEmptyNode (standing blocks t) k q = sound.empty k q low (sym (stamps k q) ∙ none) where_ in
        elim (brings k q) [
          | inl kept ↦ λ xs node. was xs (sym (ap (option_map (λ (kept : KeptNode). kept.children)) kept) ∙ node)
          | inr (inl blank) ↦ blank_empty blocks v k q blank.1
          | inr (inr high) ↦ elim where_ [
            | inl le ↦ absurd (omega (arith, high.1, le))
            | inr (inl differs) ↦ absurd (differs high.2)
            | inr (inr hole) ↦ absurd (high.0 hole)
          ]
        ]

    pub still_sound : IsSound used (loaded_over blocks v)
    still_sound = record {
      once = λ j c k q x first second. sound.once j c k q x (still_leads j c x first) (still_leads k q x second);
      held = λ k q x leads. sound.held k q x (still_leads k q x leads);
      used = λ k q x leads.
          right_as (kind_for t.owner k) (kind_for v.owner k) (ap (λ (o : ℕ). kind_for o k) fields.owner) (pointer_at (standing blocks t) k q) (pointer_at (standing blocks v) k q) (used x) (used x) (ap (λ (p : Pointer). p.pvbn) (same.pointers k q)) refl (sound.used k q x (still_leads k q x leads));
      over = over;
      same = same_nodes;
      cells = in_cells;
      empty = empty;
    }
