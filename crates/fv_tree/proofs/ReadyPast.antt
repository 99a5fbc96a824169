-- A tree whose levels grow, before the marks of a write, and how it stands to its blocks.
use Rattle.std.proofs.Common.{◌≡◌, ◌≢◌, ◌≤◌, ◌<◌, ℕ, ◌+◌, ◌/◌, ◌^◌, ◌⊎◌, inl, inr, true, false, List, Option, Some, refl, sym, ap, subst, ◌∙◌, arith}
use Rattle.std.specs.Ordering.{nat_cmp}
use Rattle.std.specs.Option.{option_map}
use Rattle.std.specs.BTreeMap as tree
use Rattle.std.proofs.lemmas.Bool.{cases_eq, cases_lt}
use Rattle.fv_codec.specs.declared.pointer.Pointer.{Pointer}
use Rattle.fv_model.specs.Trees.{fan}
use Rattle.fv_tree.specs.Sources.{Use}
use Rattle.fv_tree.specs.declared.kept.Tree.{Tree}
use Rattle.fv_tree.specs.declared.kept.KeptNode.{KeptNode}
use Rattle.fv_tree.specs.declared.kept.KeptCell.{KeptCell}
use Rattle.fv_tree.specs.Spelled.{Under, hole, pointers_in, pointer_at}
use Rattle.fv_tree.specs.Standing.{standing, node_in, cell_in}
use Rattle.fv_tree.specs.Flushing.{Leads, IsSound, IsEmptyNode, loaded_over, changed_of, placed_of, changed_in, placed_in, node_changed, node_placed, cell_changed, cell_placed, kind_for}
use Rattle.fv_tree.specs.Carried.{kept_at, IsBlank, BringsNew, IsTop}
use Rattle.fv_tree.specs.Leading.{KeepsHints, LeadsNoMore}
use Rattle.fv_tree.proofs.Brought.{blank_unplaced}
use Rattle.fv_tree.proofs.Cases.{false_is_true}
use Rattle.fv_tree.proofs.Gone.{changed_cell, spot_changed, cell_led, spot_led}
use Rattle.fv_tree.proofs.Hints.{right_as}
use Rattle.fv_tree.proofs.Marked.{IsReady}
use Rattle.fv_tree.proofs.Past.{Raises, more, top, seen, alone}
use Rattle.fv_tree.proofs.Raised.{raised_old, raised_first, raised_other, lone_elsewhere}
use Rattle.fv_tree.proofs.Ready.{first_range}
use Rattle.fv_tree.proofs.Ungrown.{not_past, kept_old, kept_off}
use Rattle.fv_tree.proofs.Ways.{under_none, reached_within, top_is_first, past, spot_is}
use Rattle.fv_tree.proofs.Writes.{none_at}
use Rattle.fv_tree.specs.Altering.{IsAsBefore, IsChanged, IsHole}

module _ (blocks : Under) (t v : Tree) (i s : ℕ) (is : Raises t v i s) (some : s ≢ 0) (brings : BringsNew t v i)
    (blank : (level : ℕ) → 1 ≤ level → level ≤ v.levels → (level < v.levels) ⊎ (t.root.stamp ≡ 0) → IsBlank (kept_at v level (i / fan ^ level)))
    (tops : t.root.stamp ≢ 0 → (level : ℕ) → t.levels < level → level ≤ v.levels → IsTop v level)
    (own : cell_placed (tree.get nat_cmp v.cells i) ≡ false) (others : (j : ℕ) → j ≢ i → tree.get nat_cmp v.cells j ≡ tree.get nat_cmp t.cells j) where
  grows : t.levels < v.levels
  grows = more blocks t v i s is some

  top_range : i / fan ^ v.levels ≡ 0
  top_range = top blocks t v i s is some

  cell_off : (k q : ℕ) → k ≡ 0 → q ≢ i / fan ^ k → q ≢ i
  cell_off k q e differs same = differs (same ∙ sym (first_range i) ∙ (λ j. i / fan ^ sym e j))

  led_same : (k q : ℕ) → q ≢ i / fan ^ k → kept_at v k q ≡ kept_at t k q → placed_of v k q ≡ placed_of t k q
  led_same k q differs kept = elim (cases_eq k 0) [
    | inl e ↦ cell_led v k q e ∙ ap cell_placed (others q (cell_off k q e differs)) ∙ sym (cell_led t k q e)
    | inr low ↦ spot_led v k q (omega arith) ∙ ap node_placed kept ∙ sym (spot_led t k q (omega arith))
  ]

  changed_same : (k q : ℕ) → q ≢ i / fan ^ k → kept_at v k q ≡ kept_at t k q → changed_of v k q ≡ changed_of t k q
  changed_same k q differs kept = elim (cases_eq k 0) [
    | inl e ↦ changed_cell v k q e ∙ ap cell_changed (others q (cell_off k q e differs)) ∙ sym (changed_cell t k q e)
    | inr low ↦ spot_changed v k q (omega arith) ∙ ap node_changed kept ∙ sym (spot_changed t k q (omega arith))
  ]

  led_old : (k q : ℕ) → (pointer_at (standing blocks t) k q).stamp ≢ 0 → placed_of v k q ≡ placed_of t k q
  led_old k q reached = led_same k q (not_past blocks t i k q is.far reached) (kept_old blocks t v i is.far brings k q reached)

  changed_old : (k q : ℕ) → (pointer_at (standing blocks t) k q).stamp ≢ 0 → changed_of v k q ≡ changed_of t k q
  changed_old k q reached = changed_same k q (not_past blocks t i k q is.far reached) (kept_old blocks t v i is.far brings k q reached)

  -- nothing on the way has a block
  pub past_unplaced : (level : ℕ) → level ≤ v.levels → placed_of v level (i / fan ^ level) ≡ false
  past_unplaced level le = elim (cases_eq level 0) [
    | inl e ↦ cell_led v level (i / fan ^ level) e ∙ ap (λ n. cell_placed (tree.get nat_cmp v.cells n)) ((λ j. i / fan ^ e j) ∙ first_range i) ∙ own
    | inr low ↦ spot_led v level (i / fan ^ level) (omega arith) ∙ elim (cases_eq t.root.stamp 0) [
      | inl none ↦ blank_unplaced v level (i / fan ^ level) (blank level (omega arith) le (inr none))
      | inr cell ↦ elim (cases_eq level v.levels) [
        | inl at ↦ ap (λ q. placed_in v.nodes level q) ((λ j. i / fan ^ at j) ∙ top_range) ∙ (tops cell level (omega (arith, at, grows)) (omega (arith, at))).placed
        | inr below ↦ blank_unplaced v level (i / fan ^ level) (blank level (omega arith) le (inl (omega arith)))
      ]
    ]
  ]

  -- what leads somewhere did before, or is new
  old_or_new : (k q : ℕ) → (pointer_at (standing blocks v) k q).stamp ≢ 0
      → (((pointer_at (standing blocks t) k q).stamp ≢ 0) × (pointer_at (standing blocks v) k q ≡ pointer_at (standing blocks t) k q))
      ⊎ (((t.root.stamp ≢ 0) × (t.levels < k) × (q ≡ 0)) ⊎ ((t.root.stamp ≡ 0) × (k ≡ v.levels) × (q ≡ 0)))
  old_or_new k q reached = let le : k ≤ v.levels = reached_within (standing blocks v) k q reached in elim (cases_eq t.root.stamp 0) [
    | inl none ↦ elim (spot_is k q v.levels 0) [
      | inl at ↦ inr (inr (none, at.0, at.1))
      | inr other ↦ absurd (reached (ap (λ (p : Pointer). p.stamp) (alone blocks t v i s is some none k q le ∙ lone_elsewhere v.levels s k q other)))
    ]
    | inr cell ↦ elim (cases_lt t.levels k) [
      | inl lt ↦ elim (cases_eq q 0) [
        | inl e ↦ inr (inl (cell, lt, e))
        | inr differs ↦ absurd (reached (ap (λ (p : Pointer). p.stamp) (seen blocks t v i s is some cell k q le ∙ raised_other (standing blocks t) s k q lt differs)))
      ]
      | inr low ↦
          let same : pointer_at (standing blocks v) k q ≡ pointer_at (standing blocks t) k q = seen blocks t v i s is some cell k q le ∙ raised_old (standing blocks t) s k q low in
          inl ((λ e. reached (ap (λ (p : Pointer). p.stamp) same ∙ e)), same)
    ]
  ]

  top_unplaced : (k q : ℕ) → k ≤ v.levels → t.root.stamp ≢ 0 → t.levels < k → q ≡ 0 → placed_of v k q ≡ false
  top_unplaced k q le cell lt e = spot_led v k q (omega (arith, lt)) ∙ ap (placed_in v.nodes k) e ∙ (tops cell k lt le).placed

  top_changed : (k q : ℕ) → k ≤ v.levels → t.root.stamp ≢ 0 → t.levels < k → q ≡ 0 → changed_of v k q ≡ true
  top_changed k q le cell lt e = spot_changed v k q (omega (arith, lt)) ∙ ap (changed_in v.nodes k) e ∙ (tops cell k lt le).changed

  lone_on : (k q : ℕ) → k ≡ v.levels → q ≡ 0 → q ≡ i / fan ^ k
  lone_on k q at e = e ∙ sym top_range ∙ (λ j. i / fan ^ sym at j)

  -- what leads to a block did before
  was_pointer : (k q x : ℕ) → Leads (loaded_over blocks v) k q x → ((pointer_at (standing blocks t) k q).stamp ≢ 0) × (pointer_at (standing blocks v) k q ≡ pointer_at (standing blocks t) k q)
  was_pointer k q x leads = elim (old_or_new k q leads.some) [
    | inl old ↦ old
    | inr (inl high) ↦ false_is_true (placed_of v k q) (top_unplaced k q (reached_within (standing blocks v) k q leads.some) high.0 high.1 high.2) leads.placed
    | inr (inr lone) ↦ false_is_true (placed_of v k q) ((λ j. placed_of v k (lone_on k q lone.1 lone.2 j)) ∙ past_unplaced k (omega (arith, lone.1))) leads.placed
  ]

  pub past_leads : LeadsNoMore (loaded_over blocks t) (loaded_over blocks v)
  past_leads k q x leads = let old = was_pointer k q x leads in record {
    some = old.0;
    placed = sym (led_old k q old.0) ∙ leads.placed;
    vvbn = sym (ap (λ (p : Pointer). p.vvbn) old.1) ∙ leads.vvbn;
  }

  pub past_hints : KeepsHints (loaded_over blocks t) (loaded_over blocks v)
  past_hints k q x leads = ap (λ (p : Pointer). p.pvbn) (was_pointer k q x leads).1

  -- and still does
  still_pointer : (k q : ℕ) → (pointer_at (standing blocks t) k q).stamp ≢ 0 → pointer_at (standing blocks v) k q ≡ pointer_at (standing blocks t) k q
  still_pointer k q reached =
      let cell : t.root.stamp ≢ 0 = λ e. reached (none_at (standing blocks t) e k q) in
      let le : k ≤ t.levels = reached_within (standing blocks t) k q reached in
      seen blocks t v i s is some cell k q (omega (arith, le, grows)) ∙ raised_old (standing blocks t) s k q le

  pub past_keeps : LeadsNoMore (loaded_over blocks v) (loaded_over blocks t)
  past_keeps k q x leads = record {
    some = λ e. leads.some (ap (λ (p : Pointer). p.stamp) (sym (still_pointer k q leads.some)) ∙ e);
    placed = led_old k q leads.some ∙ leads.placed;
    vvbn = ap (λ (p : Pointer). p.vvbn) (still_pointer k q leads.some) ∙ leads.vvbn;
  }

  -- off the way a place is as before, or it is a new one over the old root
  pub past_place : (k q : ℕ) → q ≢ i / fan ^ k → IsHole (loaded_over blocks v) k q ⊎ (IsChanged s (loaded_over blocks v) k q ⊎ IsAsBefore (loaded_over blocks t) (loaded_over blocks v) k q)
  past_place k q differs = elim (cases_eq (pointer_at (standing blocks v) k q).stamp 0) [
    | inl none ↦ inl none
    | inr reached ↦ elim (old_or_new k q reached) [
      | inl old ↦ inr (inr (record { pointer = old.1; changed = changed_old k q old.0 }))
      | inr (inl high) ↦ let le : k ≤ v.levels = reached_within (standing blocks v) k q reached in inr (inl (record {
        stamped = ap (λ (p : Pointer). p.stamp) (seen blocks t v i s is some high.0 k q le ∙ raised_first (standing blocks t) s k q high.1 high.2);
        changed = top_changed k q le high.0 high.1 high.2;
      }))
      | inr (inr lone) ↦ absurd (differs (lone_on k q lone.1 lone.2))
    ]
  ]

  module _ (used : ℕ → Option Use) (sound : IsSound used (loaded_over blocks t)) where
    over_old : (k q : ℕ) → changed_of v k q ≡ true → (pointer_at (standing blocks t) k q).stamp ≢ 0 → k < v.levels → changed_of v (k + 1) (q / fan) ≡ true
    over_old k q now reached lt = elim (cases_lt k t.levels) [
      | inl less ↦ changed_old (k + 1) (q / fan) (λ e. reached (under_none (standing blocks t) k q less e)) ∙ sound.over k q (sym (changed_old k q reached) ∙ now) reached less
      | inr le ↦
          let at : k ≡ t.levels = omega (arith, le, reached_within (standing blocks t) k q reached) in
          let first : q ≡ 0 = top_is_first (standing blocks t) q (subst (λ n. (pointer_at (standing blocks t) n q).stamp ≢ 0) at reached) in
          let cell : t.root.stamp ≢ 0 = λ e. reached (none_at (standing blocks t) e k q) in
          top_changed (k + 1) (q / fan) (omega (arith, lt)) cell (omega (arith, at)) (ap (λ n. n / fan) first)
    ]

    over : (k q : ℕ) → q ≢ i / fan ^ k → changed_of v k q ≡ true → (pointer_at (standing blocks v) k q).stamp ≢ 0 → k < v.levels → changed_of v (k + 1) (q / fan) ≡ true
    over k q differs now reached lt = elim (old_or_new k q reached) [
      | inl old ↦ over_old k q now old.0 lt
      | inr (inl high) ↦ top_changed (k + 1) (q / fan) (omega (arith, lt)) high.0 (omega (arith, high.1)) (ap (λ n. n / fan) high.2)
      | inr (inr lone) ↦ absurd (omega (arith, lone.1, lt))
    ]

    same : (k q : ℕ) (xs : List Pointer) → q ≢ i / fan ^ k → 1 ≤ k → node_in v k q ≡ Some xs → changed_of v k q ≡ false → (pointer_at (standing blocks v) k q).stamp ≢ 0
        → (pointers_in (blocks (pointer_at (standing blocks v) k q).vvbn) ≡ xs) × (placed_of v k q ≡ true)
    same k q xs differs low node now reached = elim (old_or_new k q reached) [
      | inl old ↦
          let was = sound.same k q xs low (sym (ap (option_map (λ (kept : KeptNode). kept.children)) (kept_old blocks t v i is.far brings k q old.0)) ∙ node) (sym (changed_old k q old.0) ∙ now) old.0 in
          ((λ j. pointers_in (blocks (old.1 j).vvbn)) ∙ was.0, led_old k q old.0 ∙ was.1)
      | inr (inl high) ↦ false_is_true (changed_of v k q) now (top_changed k q (reached_within (standing blocks v) k q reached) high.0 high.1 high.2)
      | inr (inr lone) ↦ absurd (differs (lone_on k q lone.1 lone.2))
    ]

    in_cells : (index : ℕ) (block : List ℕ) → index ≢ i / fan ^ 0 → cell_in v index ≡ Some block → changed_of v 0 index ≡ false → (pointer_at (standing blocks v) 0 index).stamp ≢ 0
        → (blocks (pointer_at (standing blocks v) 0 index).vvbn ≡ Some block) × (placed_of v 0 index ≡ true)
    in_cells index block differs cell now reached = elim (old_or_new 0 index reached) [
      | inl old ↦
          let was = sound.cells index block (sym (ap (option_map (λ (kept : KeptCell). kept.block.value)) (others index (cell_off 0 index refl differs))) ∙ cell) (sym (changed_old 0 index old.0) ∙ now) old.0 in
          ((λ j. blocks (old.1 j).vvbn) ∙ was.0, led_old 0 index old.0 ∙ was.1)
      | inr (inl high) ↦ absurd (omega (arith, high.1))
      | inr (inr lone) ↦ absurd (differs (lone_on 0 index lone.1 lone.2))
    ]

    -- where nothing leads now, nothing did
    none_before : (k q : ℕ) → (pointer_at (standing blocks v) k q).stamp ≡ 0 → (pointer_at (standing blocks t) k q).stamp ≡ 0
    none_before k q none = elim (cases_eq t.root.stamp 0) [
      | inl hole ↦ none_at (standing blocks t) hole k q
      | inr cell ↦ elim (cases_lt t.levels k) [
        | inl lt ↦ ap (λ (p : Pointer). p.stamp) (past (standing blocks t) k q lt)
        | inr le ↦ sym (ap (λ (p : Pointer). p.stamp) (seen blocks t v i s is some cell k q (omega (arith, le, grows)) ∙ raised_old (standing blocks t) s k q le)) ∙ none
      ]
    ]

    -- the first ranges above the old levels, where there was a root, lead somewhere
    not_high : {P : Type 0} (k q : ℕ) → (pointer_at (standing blocks v) k q).stamp ≡ 0 → (k ≤ v.levels) ⊎ (q ≢ 0) → t.root.stamp ≢ 0 → t.levels < k → q ≡ 0 → P
    not_high k q none (inr differs) cell lt e = absurd (differs e)
    not_high k q none (inl le) cell lt e = absurd (some (sym (ap (λ (p : Pointer). p.stamp) (seen blocks t v i s is some cell k q le ∙ raised_first (standing blocks t) s k q lt e)) ∙ none))

    empty_where : (k q : ℕ) → (pointer_at (standing blocks v) k q).stamp ≡ 0 → (k ≤ v.levels) ⊎ (q ≢ 0) → (k ≤ t.levels) ⊎ ((q ≢ 0) ⊎ (t.root.stamp ≡ 0))
    empty_where k q none which = elim (cases_lt t.levels k) [
      | inr le ↦ inl le
      | inl lt ↦ elim (cases_eq q 0) [
        | inr differs ↦ inr (inl differs)
        | inl e ↦ elim (cases_eq t.root.stamp 0) [
          | inl hole ↦ inr (inr hole)
          | inr cell ↦ not_high k q none which cell lt e
        ]
      ]
    ]

    empty : (k q : ℕ) → q ≢ i / fan ^ k → 1 ≤ k → (pointer_at (standing blocks v) k q).stamp ≡ 0 → (k ≤ v.levels) ⊎ (q ≢ 0) → IsEmptyNode (standing blocks v) k q
    empty k q differs low none which xs node =
        let where_ = empty_where k q none which in
        sound.empty k q low (none_before k q none) where_ xs (sym (ap (option_map (λ (kept : KeptNode). kept.children)) (kept_off blocks t v i is.far brings k q differs where_)) ∙ node)

    pub past_ready : IsReady used (loaded_over blocks v) i
    past_ready = record {
      once = λ j c k q x first second. sound.once j c k q x (past_leads j c x first) (past_leads k q x second);
      held = λ k q x leads. sound.held k q x (past_leads k q x leads);
      used = λ k q x leads.
          right_as (kind_for t.owner k) (kind_for v.owner k) (ap (λ (o : ℕ). kind_for o k) is.owner) (pointer_at (standing blocks t) k q) (pointer_at (standing blocks v) k q) (used x) (used x) (ap (λ (p : Pointer). p.pvbn) (was_pointer k q x leads).1) refl (sound.used k q x (past_leads k q x leads));
      unplaced = λ level le _. past_unplaced level le;
      over = over;
      same = same;
      cells = in_cells;
      empty = empty;
    }
