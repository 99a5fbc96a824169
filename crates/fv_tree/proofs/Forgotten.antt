-- A cell or node that goes out of memory and needs no place: it didn't change, or nothing leads to it.
use Rattle.std.proofs.Common.{◌≡◌, ◌≢◌, ◌≤◌, ◌<◌, ℕ, ◌+◌, ◌/◌, ◌%◌, ◌⊎◌, inl, inr, Bool, true, false, List, Option, Some, None, get_or, is_some, refl, sym, ap, ◌∙◌, arith, ◌==◌, if◌then◌else◌}
use Rattle.std.proofs.lemmas.Bool.{cases_eq, cases_lt}
use Rattle.fv_codec.specs.declared.pointer.Pointer.{Pointer}
use Rattle.fv_model.specs.Trees.{fan}
use Rattle.fv_tree.specs.Sources.{Use}
use Rattle.fv_tree.specs.Spelled.{hole, pointers_at, pointers_in, pointer_at, stamp_in, block_at}
use Rattle.fv_tree.specs.Flushing.{Loaded, Leads, IsSound, IsEmptyNode, IsFlushed, Flushes, kind_for}
use Rattle.fv_tree.proofs.Below.{no_pointers, kept_pointers, read_pointers}
use Rattle.fv_tree.proofs.Cases.{there, false_is_true, some_none}
use Rattle.fv_tree.proofs.Unchanged.{IsMemory, block_read, unchanged_placed, changed_before}
use Rattle.fv_tree.proofs.Hints.{right_as}
use Rattle.fv_tree.proofs.Ways.{under_none, IsWay, own_way, is_way, past, alike, spot_is}
use Rattle.fv_tree.proofs.Writes.{block_here, block_none, block_same}

pub record Forgets (s u : Loaded) (k q : ℕ) : Type 0 where
  pub why : (s.changed k q ≡ false) ⊎ ((pointer_at s.tree k q).stamp ≡ 0)
  pub owner : u.tree.owner ≡ s.tree.owner
  pub levels : u.tree.levels ≡ s.tree.levels
  pub root : u.tree.root ≡ s.tree.root
  pub under : u.tree.under ≡ s.tree.under
  pub own : 1 ≤ k → u.tree.nodes k q ≡ None
  pub own_cell : k ≡ 0 → u.tree.cells q ≡ None
  pub nodes : (j c : ℕ) → 1 ≤ j → (j ≢ k) ⊎ (c ≢ q) → u.tree.nodes j c ≡ s.tree.nodes j c
  pub cells : (i : ℕ) → (k ≢ 0) ⊎ (i ≢ q) → u.tree.cells i ≡ s.tree.cells i
  pub changed : u.changed k q ≡ false
  pub changed_others : (j c : ℕ) → (j ≢ k) ⊎ (c ≢ q) → u.changed j c ≡ s.changed j c
  pub placed_others : (j c : ℕ) → (j ≢ k) ⊎ (c ≢ q) → u.placed j c ≡ s.placed j c

module _ (s u : Loaded) (used : ℕ → Option Use) (k q : ℕ) (sound : IsSound used s) (memory : IsMemory s) (is : Forgets s u k q) where
  unchanged : (pointer_at s.tree k q).stamp ≢ 0 → s.changed k q ≡ false
  unchanged some = elim is.why [
    | inl same ↦ same
    | inr none ↦ absurd (some none)
  ]

  -- ---- the pointers

  own_pointers : 1 ≤ k → pointers_at u.tree k q (pointer_at s.tree k q) ≡ pointers_at s.tree k q (pointer_at s.tree k q)
  own_pointers low = elim (cases_eq (pointer_at s.tree k q).stamp 0) [
    | inl e ↦ no_pointers u.tree k q (pointer_at s.tree k q) e ∙ sym (no_pointers s.tree k q (pointer_at s.tree k q) e)
    | inr some ↦
        let now : pointers_at u.tree k q (pointer_at s.tree k q) ≡ pointers_in (s.tree.under (pointer_at s.tree k q).vvbn) =
        read_pointers u.tree k q (pointer_at s.tree k q) some (is.own low) ∙ (λ i. pointers_in (is.under i (pointer_at s.tree k q).vvbn)) in
        elim (there (s.tree.nodes k q)) [
          | inl none ↦ now ∙ sym (read_pointers s.tree k q (pointer_at s.tree k q) some none)
          | inr held ↦ now ∙ (sound.same k q held.0 low held.1 (unchanged some) some).0 ∙ sym (kept_pointers s.tree k q (pointer_at s.tree k q) held.0 some held.1)
        ]
  ]

  same_pointers : (j c : ℕ) → 1 ≤ j → pointers_at u.tree j c (pointer_at s.tree j c) ≡ pointers_at s.tree j c (pointer_at s.tree j c)
  same_pointers j c low = elim (spot_is j c k q) [
    | inl at ↦
        (λ i. pointers_at u.tree (at.0 i) (at.1 i) (pointer_at s.tree (at.0 i) (at.1 i))) ∙ own_pointers (omega (arith, low, at.0))
        ∙ sym (λ i. pointers_at s.tree (at.0 i) (at.1 i) (pointer_at s.tree (at.0 i) (at.1 i)))
    | inr other ↦ alike s.tree u.tree j c (pointer_at s.tree j c) is.owner is.under (is.nodes j c low other)
  ]

  way : IsWay u.tree (pointer_at s.tree)
  way = record {
    top = λ place. ap (λ n. pointer_at s.tree n place) is.levels ∙ (own_way s.tree).top place ∙ ap (λ r. if place == 0 then r else hole) (sym is.root);
    down = λ j c lt. (own_way s.tree).down j c (omega (arith, lt, is.levels)) ∙ sym (ap (λ (xs : List Pointer). get_or xs (c % fan) hole) (same_pointers (j + 1) (c / fan) (omega arith)));
  }

  pub pointers : (j c : ℕ) → pointer_at u.tree j c ≡ pointer_at s.tree j c
  pointers j c = elim (cases_lt s.tree.levels j) [
    | inl lt ↦ past u.tree j c (omega (arith, lt, is.levels)) ∙ sym (past s.tree j c lt)
    | inr le ↦ is_way u.tree (pointer_at s.tree) way j c (omega (arith, le, is.levels))
  ]

  same_stamps : (j c : ℕ) → (pointer_at u.tree j c).stamp ≡ (pointer_at s.tree j c).stamp
  same_stamps j c = ap (λ (p : Pointer). p.stamp) (pointers j c)

  -- ---- the cells' blocks

  block_own : k ≡ 0 → block_at u.tree q ≡ block_at s.tree q
  block_own none = elim (there (s.tree.cells q)) [
    | inl absent ↦ block_same s.tree u.tree q (pointers 0 q) (is.own_cell none ∙ sym absent) is.under
    | inr held ↦ elim (cases_eq (pointer_at s.tree 0 q).stamp 0) [
      | inl e ↦ block_none u.tree q (same_stamps 0 q ∙ e) ∙ sym (block_none s.tree q e)
      | inr some ↦
          let same : s.changed 0 q ≡ false = (λ i. s.changed (sym none i) q) ∙ unchanged (λ e. some ((λ i. (pointer_at s.tree (sym none i) q).stamp) ∙ e)) in
          block_read u.tree q (λ e. some (sym (same_stamps 0 q) ∙ e)) (is.own_cell none) ∙ (λ i. is.under i (pointers 0 q i).vvbn) ∙ (sound.cells q held.0 held.1 same some).0 ∙ sym (block_here s.tree q held.0 some held.1)
    ]
  ]

  same_blocks : (i : ℕ) → block_at u.tree i ≡ block_at s.tree i
  same_blocks i = elim (spot_is 0 i k q) [
    | inl at ↦ ap (block_at u.tree) at.1 ∙ block_own (sym at.0) ∙ sym (ap (block_at s.tree) at.1)
    | inr other ↦ block_same s.tree u.tree i (pointers 0 i) (is.cells i (elim other [
      | inl level ↦ inl (λ e. level (sym e))
      | inr place ↦ inr place
    ])) is.under
  ]

  -- ---- the tree stands on its blocks

  own_placed : (pointer_at s.tree k q).stamp ≢ 0 → s.placed k q ≡ true
  own_placed some = unchanged_placed s used sound memory k q (unchanged some) some

  leads_old : (j c v : ℕ) → Leads u j c v → Leads s j c v
  leads_old j c v leads = let some : (pointer_at s.tree j c).stamp ≢ 0 = λ e. leads.some (same_stamps j c ∙ e) in record {
    some = some;
    placed = elim (spot_is j c k q) [
      | inl at ↦ (λ i. s.placed (at.0 i) (at.1 i)) ∙ own_placed (λ e. some ((λ i. (pointer_at s.tree (at.0 i) (at.1 i)).stamp) ∙ e))
      | inr other ↦ sym (is.placed_others j c other) ∙ leads.placed
    ];
    vvbn = sym (ap (λ (p : Pointer). p.vvbn) (pointers j c)) ∙ leads.vvbn;
  }

  still : (j c : ℕ) → u.changed j c ≡ true → ((j ≢ k) ⊎ (c ≢ q)) × (s.changed j c ≡ true)
  still = changed_before s u k q is.changed is.changed_others

  over : (j c : ℕ) → u.changed j c ≡ true → (pointer_at u.tree j c).stamp ≢ 0 → j < u.tree.levels → u.changed (j + 1) (c / fan) ≡ true
  over j c changed reached lt =
      let less : j < s.tree.levels = omega (arith, lt, is.levels) in
      let some : (pointer_at s.tree j c).stamp ≢ 0 = λ e. reached (same_stamps j c ∙ e) in
      let above : s.changed (j + 1) (c / fan) ≡ true = sound.over j c (still j c changed).1 some less in
      elim (spot_is (j + 1) (c / fan) k q) [
        | inl at ↦ false_is_true (s.changed (j + 1) (c / fan)) ((λ i. s.changed (at.0 i) (at.1 i)) ∙ unchanged (λ e. some (under_none s.tree j c less ((λ i. (pointer_at s.tree (at.0 i) (at.1 i)).stamp) ∙ e)))) above
        | inr other ↦ is.changed_others (j + 1) (c / fan) other ∙ above
      ]

  same : (j c : ℕ) (xs : List Pointer) → 1 ≤ j → u.tree.nodes j c ≡ Some xs → u.changed j c ≡ false → (pointer_at u.tree j c).stamp ≢ 0
      → (pointers_in (u.tree.under (pointer_at u.tree j c).vvbn) ≡ xs) × (u.placed j c ≡ true)
  same j c xs low node changed reached = elim (spot_is j c k q) [
    | inl at ↦ some_none (u.tree.nodes j c) xs ((λ i. u.tree.nodes (at.0 i) (at.1 i)) ∙ is.own (omega (arith, low, at.0))) node
    | inr other ↦
        let was = sound.same j c xs low (sym (is.nodes j c low other) ∙ node) (sym (is.changed_others j c other) ∙ changed) (λ e. reached (same_stamps j c ∙ e)) in
        ((λ i. pointers_in (is.under i (pointers j c i).vvbn)) ∙ was.0, is.placed_others j c other ∙ was.1)
  ]

  in_cells : (index : ℕ) (block : List ℕ) → u.tree.cells index ≡ Some block → u.changed 0 index ≡ false → (pointer_at u.tree 0 index).stamp ≢ 0
      → (u.tree.under (pointer_at u.tree 0 index).vvbn ≡ Some block) × (u.placed 0 index ≡ true)
  in_cells index block cell changed reached = elim (spot_is 0 index k q) [
    | inl at ↦ some_none (u.tree.cells index) block (ap u.tree.cells at.1 ∙ is.own_cell (sym at.0)) cell
    | inr other ↦
        let apart : (k ≢ 0) ⊎ (index ≢ q) = elim other [
          | inl level ↦ inl (λ e. level (sym e))
          | inr place ↦ inr place
        ] in
        let was = sound.cells index block (sym (is.cells index apart) ∙ cell) (sym (is.changed_others 0 index other) ∙ changed) (λ e. reached (same_stamps 0 index ∙ e)) in
        ((λ i. is.under i (pointers 0 index i).vvbn) ∙ was.0, is.placed_others 0 index other ∙ was.1)
  ]

  empty : (j c : ℕ) → 1 ≤ j → (pointer_at u.tree j c).stamp ≡ 0 → (j ≤ u.tree.levels) ⊎ ((c ≢ 0) ⊎ (u.tree.root.stamp ≡ 0)) → IsEmptyNode u.tree j c
  empty j c low none where_ = λ xs node. elim (spot_is j c k q) [
    | inl at ↦ some_none (u.tree.nodes j c) xs ((λ i. u.tree.nodes (at.0 i) (at.1 i)) ∙ is.own (omega (arith, low, at.0))) node
    | inr other ↦ sound.empty j c low (sym (same_stamps j c) ∙ none) (elim where_ [
      | inl le ↦ inl (omega (arith, le, is.levels))
      | inr (inl differs) ↦ inr (inl differs)
      | inr (inr hole) ↦ inr (inr (sym (ap (λ (p : Pointer). p.stamp) is.root) ∙ hole))
    ]) xs (sym (is.nodes j c low other) ∙ node)
  ]

  pub stands : IsSound used u
  stands = record {
    once = λ j c m n v first second. sound.once j c m n v (leads_old j c v first) (leads_old m n v second);
    held = λ j c v leads. ap (λ under. is_some (under v)) is.under ∙ sound.held j c v (leads_old j c v leads);
    used = λ j c v leads. right_as (kind_for s.tree.owner j) (kind_for u.tree.owner j) (ap (λ (o : ℕ). kind_for o j) is.owner) (pointer_at s.tree j c) (pointer_at u.tree j c) (used v) (used v) (ap (λ (p : Pointer). p.pvbn) (pointers j c)) refl (sound.used j c v (leads_old j c v leads));
    over = over;
    same = same;
    cells = in_cells;
    empty = empty;
  }

  -- nothing was placed
  pub none_flushed : {P : Type 0} (j c : ℕ) → IsFlushed s u j c → P
  none_flushed j c flushed = elim (spot_is j c k q) [
    | inl at ↦ false_is_true (s.changed j c) ((λ i. s.changed (at.0 i) (at.1 i)) ∙ unchanged (λ e. flushed.some ((λ i. (pointer_at s.tree (at.0 i) (at.1 i)).stamp) ∙ e))) flushed.was
    | inr other ↦ false_is_true (s.changed j c) (sym (is.changed_others j c other) ∙ flushed.done) flushed.was
  ]

  pub flushes_none : {hides : Bool} → Flushes hides s used u used
  flushes_none = record {
    owner = is.owner;
    sound = stands;
    alike = record { levels = is.levels; stamps = λ j c. ap stamp_in (pointers j c); blocks = same_blocks };
    stamps = same_stamps;
    fewer = λ j c changed. ((still j c changed).1, is.placed_others j c (still j c changed).0);
    stays = λ j c _. pointers j c;
    blocks = λ v block _ held. (λ i. is.under i v) ∙ held;
    others = λ v _ _. ((λ i. is.under i v), refl);
    fresh = λ v placed _. none_flushed placed.level placed.place placed.flushed;
    gone = λ v replaced _. none_flushed replaced.level replaced.place replaced.flushed;
    unknown = λ j c flushed _ _. none_flushed (j + 1) (c / fan) flushed;
    unknown_roots = λ c block flushed _ _. none_flushed 0 c flushed;
    hidden = λ _ j c flushed. none_flushed j c flushed;
    told = λ _ j c flushed. none_flushed j c flushed;
    kinds = λ j c flushed. none_flushed j c flushed;
    positions = λ j c low flushed. none_flushed j c flushed;
  }
