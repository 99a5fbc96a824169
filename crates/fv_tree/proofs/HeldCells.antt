-- A cell's content that comes into memory as its block has it, and the tree then.
use Rattle.std.proofs.Common.{◌≡◌, ◌≢◌, ℕ, ◌+◌, ◌/◌, ◌⊎◌, inl, inr, Bool, true, false, List, Option, Some, None, is_some, refl, sym, ap, ◌∙◌, arith}
use Rattle.std.specs.Ordering.{nat_cmp}
use Rattle.std.specs.Option.{option_map}
use Rattle.std.specs.BTreeMap as tree
use Rattle.std.proofs.lemmas.Bool.{cases_eq}
use Rattle.fv_codec.specs.declared.pointer.Pointer.{Pointer}
use Rattle.fv_model.specs.Trees.{fan, Spot}
use Rattle.fv_tree.specs.declared.kept.Tree.{Tree}
use Rattle.fv_tree.specs.declared.kept.KeptNode.{KeptNode}
use Rattle.fv_tree.specs.declared.kept.KeptCell.{KeptCell}
use Rattle.fv_tree.specs.Spelled.{Under, pointers_in, pointer_at, stamp_in, block_at}
use Rattle.fv_tree.specs.Sources.{Shown, Use}
use Rattle.fv_tree.specs.Standing.{standing, under, node_in, cell_in, children_in}
use Rattle.fv_tree.specs.Writing.{IsAlike}
use Rattle.fv_tree.specs.Flushing.{IsSound, loaded_over, changed_of, placed_of, changed_in, placed_in, cell_changed, cell_placed, kind_for}
use Rattle.fv_tree.specs.Leading.{Carries, LeadsNoMore}
use Rattle.fv_tree.specs.Readying.{HasCell, HoldsCell, KeepsReady}
use Rattle.fv_tree.proofs.Cases.{some_none}
use Rattle.fv_tree.proofs.Unchanged.{block_read}
use Rattle.fv_tree.proofs.Gone.{changed_cell, spot_changed, cell_led, spot_led}
use Rattle.fv_tree.proofs.Hints.{right_as}
use Rattle.fv_tree.proofs.Ready.{nodes_alone}
use Rattle.fv_tree.proofs.StillReady.{cells_ready}
use Rattle.fv_tree.proofs.Writes.{block_here, block_same}

abbrev content : Option KeptCell → Option (List ℕ)
content = option_map (λ (kept : KeptCell). kept.block.value)

-- a cell in memory has a content
pub filled_cell : (o : Option KeptCell) → is_some o ≡ true → is_some (content o) ≡ true
filled_cell None is = is
filled_cell (Some kept) is = refl

module _ (t u : Tree) (i : ℕ) (block : List ℕ) (is : HoldsCell t u i block) where
  -- what is the same of no cell and of this one is the same of all
  seen_as : (f : Option KeptCell → Bool) → ((cell : KeptCell) → cell.changed ≡ false → cell.placed ≡ true → f (Some cell) ≡ f None) → (j : ℕ) → f (tree.get nat_cmp u.cells j) ≡ f (tree.get nat_cmp t.cells j)
  seen_as f same j = elim (cases_eq j i) [
    | inr differs ↦ ap f (is.others j differs)
    | inl at ↦ (λ k. f (tree.get nat_cmp u.cells (at k))) ∙ here is.own ∙ sym (λ k. f (tree.get nat_cmp t.cells (at k)))
  ]
    where
      here : ((is_some (cell_in t i) ≡ true) × (tree.get nat_cmp u.cells i ≡ tree.get nat_cmp t.cells i)) ⊎ ((tree.get nat_cmp t.cells i ≡ None) × HasCell (tree.get nat_cmp u.cells i) block false true)
          → f (tree.get nat_cmp u.cells i) ≡ f (tree.get nat_cmp t.cells i)
      here (inl kept) = ap f kept.1
      here (inr new) = ap f new.1.is ∙ same new.1.cell new.1.changed new.1.placed ∙ sym (ap f new.0)

  pub held_changed : (k q : ℕ) → changed_of u k q ≡ changed_of t k q
  held_changed k q = elim (cases_eq k 0) [
    | inl e ↦ changed_cell u k q e ∙ seen_as cell_changed (λ cell changed placed. changed) q ∙ sym (changed_cell t k q e)
    | inr low ↦ spot_changed u k q (omega arith) ∙ ap (λ (nodes : tree.BTreeMap Spot KeptNode). changed_in nodes k q) is.fields.nodes ∙ sym (spot_changed t k q (omega arith))
  ]

  same_placed : (k q : ℕ) → placed_of u k q ≡ placed_of t k q
  same_placed k q = elim (cases_eq k 0) [
    | inl e ↦ cell_led u k q e ∙ seen_as cell_placed (λ cell changed placed. placed) q ∙ sym (cell_led t k q e)
    | inr low ↦ spot_led u k q (omega arith) ∙ ap (λ (nodes : tree.BTreeMap Spot KeptNode). placed_in nodes k q) is.fields.nodes ∙ sym (spot_led t k q (omega arith))
  ]

  same_node : (k q : ℕ) → node_in u k q ≡ node_in t k q
  same_node k q = ap (λ (nodes : tree.BTreeMap Spot KeptNode). children_in nodes k q) is.fields.nodes

  pub held_pointers : (blocks : Under) (k q : ℕ) → pointer_at (standing blocks u) k q ≡ pointer_at (standing blocks t) k q
  held_pointers blocks = nodes_alone (standing blocks t) (standing blocks u) is.fields.owner refl is.fields.levels is.fields.root same_node

  -- a cell is in memory as it was, or it is the new one
  cell_as : (j : ℕ) → (cell_in u j ≡ cell_in t j) ⊎ ((j ≡ i) × (cell_in t i ≡ None) × (cell_in u i ≡ Some block))
  cell_as j = elim (cases_eq j i) [
    | inr differs ↦ inl (ap content (is.others j differs))
    | inl at ↦ elim is.own [
      | inl kept ↦ inl (ap (cell_in u) at ∙ ap content kept.1 ∙ ap (cell_in t) (sym at))
      | inr new ↦ inr (at, ap content new.0, ap content new.1.is ∙ ap Some new.1.block)
    ]
  ]

  pub held_there : is_some (cell_in u i) ≡ true
  held_there = elim is.own [
    | inl kept ↦ ap (λ (o : Option KeptCell). is_some (content o)) kept.1 ∙ kept.0
    | inr new ↦ ap (λ (o : Option KeptCell). is_some (content o)) new.1.is
  ]

  pub held_ready : KeepsReady t u
  held_ready = cells_ready t u is.fields (λ j there. elim (cell_as j) [
    | inl same ↦ ap is_some same ∙ there
    | inr new ↦ ap (λ k. is_some (cell_in u k)) new.0 ∙ ap is_some new.2
  ])

  module _ (blocks : Under) (some : (pointer_at (standing blocks t) 0 i).stamp ≢ 0) (has : block_at (standing blocks t) i ≡ Some block) where
    pointers : (k q : ℕ) → pointer_at (standing blocks u) k q ≡ pointer_at (standing blocks t) k q
    pointers = held_pointers blocks

    stood : (k q : ℕ) → (pointer_at (standing blocks u) k q).stamp ≢ 0 → (pointer_at (standing blocks t) k q).stamp ≢ 0
    stood k q there none = there (ap (λ (p : Pointer). p.stamp) (pointers k q) ∙ none)

    stands : (k q : ℕ) → (pointer_at (standing blocks t) k q).stamp ≢ 0 → (pointer_at (standing blocks u) k q).stamp ≢ 0
    stands k q there none = there (ap (λ (p : Pointer). p.stamp) (sym (pointers k q)) ∙ none)

    pub held_alike : IsAlike (standing blocks t) (standing blocks u)
    held_alike = record {
      levels = is.fields.levels;
      stamps = λ k q. ap stamp_in (pointers k q);
      blocks = λ j. elim (cell_as j) [
        | inl same ↦ block_same (standing blocks t) (standing blocks u) j (pointers 0 j) same refl
        | inr new ↦ ap (block_at (standing blocks u)) new.0 ∙ block_here (standing blocks u) i block (stands 0 i some) new.2 ∙ sym has ∙ ap (block_at (standing blocks t)) (sym new.0)
      ];
    }

    leads : LeadsNoMore (loaded_over blocks t) (loaded_over blocks u)
    leads k q v led = record {
      some = stood k q led.some;
      placed = sym (same_placed k q) ∙ led.placed;
      vvbn = ap (λ (p : Pointer). p.vvbn) (sym (pointers k q)) ∙ led.vvbn;
    }

    keeps : LeadsNoMore (loaded_over blocks u) (loaded_over blocks t)
    keeps k q v led = record {
      some = stands k q led.some;
      placed = same_placed k q ∙ led.placed;
      vvbn = ap (λ (p : Pointer). p.vvbn) (pointers k q) ∙ led.vvbn;
    }

    module _ (used : ℕ → Option Use) (sound : IsSound used (loaded_over blocks t)) where
      -- the new cell stands in its block
      new_cell : (b : List ℕ) → cell_in t i ≡ None → cell_in u i ≡ Some block → cell_in u i ≡ Some b → (blocks (pointer_at (standing blocks u) 0 i).vvbn ≡ Some b) × (placed_of u 0 i ≡ true)
      new_cell b none own cell = (
        (λ j. blocks (pointers 0 i j).vvbn) ∙ sym (block_read (standing blocks t) i some none) ∙ has ∙ sym own ∙ cell,
        same_placed 0 i ∙ cell_led t 0 i refl ∙ unkept (tree.get nat_cmp t.cells i) none,
      )
        where
          unkept : (o : Option KeptCell) → content o ≡ None → cell_placed o ≡ true
          unkept None e = refl
          unkept (Some kept) e = some_none (content (Some kept)) kept.block.value e refl

      in_cells : (index : ℕ) (b : List ℕ) → cell_in u index ≡ Some b → changed_of u 0 index ≡ false → (pointer_at (standing blocks u) 0 index).stamp ≢ 0
          → (blocks (pointer_at (standing blocks u) 0 index).vvbn ≡ Some b) × (placed_of u 0 index ≡ true)
      in_cells index b cell unchanged there = elim (cell_as index) [
        | inl same ↦
            let was = sound.cells index b (sym same ∙ cell) (sym (held_changed 0 index) ∙ unchanged) (stood 0 index there) in
            ((λ j. blocks (pointers 0 index j).vvbn) ∙ was.0, same_placed 0 index ∙ was.1)
        | inr new ↦
            let now = new_cell b new.1 new.2 (ap (cell_in u) (sym new.0) ∙ cell) in
            ((λ j. blocks (pointer_at (standing blocks u) 0 (new.0 j)).vvbn) ∙ now.0, (λ j. placed_of u 0 (new.0 j)) ∙ now.1)
      ]

      held_sound : IsSound used (loaded_over blocks u)
      held_sound = record {
        once = λ level place k q v one other. sound.once level place k q v (leads level place v one) (leads k q v other);
        held = λ level place v led. sound.held level place v (leads level place v led);
        used = λ level place v led.
            right_as (kind_for t.owner level) (kind_for u.owner level) (ap (λ (o : ℕ). kind_for o level) is.fields.owner) (pointer_at (standing blocks t) level place) (pointer_at (standing blocks u) level place) (used v) (used v)
            (ap (λ (p : Pointer). p.pvbn) (pointers level place)) refl (sound.used level place v (leads level place v led));
        over = λ level place changed there lt. held_changed (level + 1) (place / fan) ∙ sound.over level place (sym (held_changed level place) ∙ changed) (stood level place there) (omega (arith, lt, is.fields.levels));
        same = λ level place xs low node unchanged there.
            let was = sound.same level place xs low (sym (same_node level place) ∙ node) (sym (held_changed level place) ∙ unchanged) (stood level place there) in
            ((λ j. pointers_in (blocks (pointers level place j).vvbn)) ∙ was.0, same_placed level place ∙ was.1);
        cells = in_cells;
        empty = λ level place low none which xs node. sound.empty level place low (sym (ap (λ (p : Pointer). p.stamp) (pointers level place)) ∙ none) (elim which [
          | inl le ↦ inl (omega (arith, le, is.fields.levels))
          | inr (inl differs) ↦ inr (inl differs)
          | inr (inr hole) ↦ inr (inr (ap (λ (p : Pointer). p.stamp) (sym is.fields.root) ∙ hole))
        ]) xs (sym (same_node level place) ∙ node);
      }

pub carries_held : (source : Shown) (t u : Tree) (i : ℕ) (block : List ℕ) → HoldsCell t u i block → (pointer_at (standing (under source) t) 0 i).stamp ≢ 0 → block_at (standing (under source) t) i ≡ Some block → Carries source source t u
carries_held source t u i block is some has = record {
  stands = held_sound t u i block is (under source) some has source.used;
  leads = leads t u i block is (under source) some has;
  keeps = keeps t u i block is (under source) some has;
  hints = λ k q v led. ap (λ (p : Pointer). p.pvbn) (pointers t u i block is (under source) some has k q);
}
