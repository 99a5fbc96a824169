-- A write, from what it marks as changed, and how the tree stands to its blocks then.
use Rattle.std.proofs.Common.{◌≡◌, ◌≢◌, ◌≤◌, ◌<◌, ℕ, ◌+◌, ◌/◌, ◌^◌, ◌⊎◌, inl, inr, true, false, List, Option, Some, is_some, refl, sym, ap, subst, ◌∙◌, arith}
use Rattle.std.proofs.Math.Nat.{div-eq_of_lt, pow-le-pow_right}
use Rattle.std.proofs.lemmas.Bool.{cases_eq, cases_lt}
use Rattle.fv_codec.specs.declared.pointer.Pointer.{Pointer}
use Rattle.fv_model.specs.Trees.{fan}
use Rattle.fv_tree.specs.Sources.{Use}
use Rattle.fv_tree.specs.Spelled.{hole, pointers_in, pointer_at}
use Rattle.fv_tree.specs.Flushing.{Loaded, Leads, IsRight, IsSound, IsEmptyNode, kind_for}
use Rattle.fv_tree.specs.Leading.{KeepsHints, LeadsNoMore}
use Rattle.fv_tree.proofs.Cases.{false_is_true}
use Rattle.fv_tree.proofs.Hints.{right_as}
use Rattle.fv_tree.proofs.Stamped.{above}
use Rattle.fv_tree.proofs.Ways.{reached_within, past}

-- what holds of a tree of which the way to a cell is in memory, before that is marked
pub record IsReady (taken : ℕ → Option Use) (v : Loaded) (i : ℕ) : Type 0 where
  pub once : (level place k q w : ℕ) → Leads v level place w → Leads v k q w → (level ≡ k) × (place ≡ q)
  pub held : (level place w : ℕ) → Leads v level place w → is_some (v.tree.under w) ≡ true
  pub used : (level place w : ℕ) → Leads v level place w → IsRight (kind_for v.tree.owner level) (pointer_at v.tree level place) (taken w)
  pub unplaced : (level : ℕ) → level ≤ v.tree.levels → (pointer_at v.tree level (i / fan ^ level)).stamp ≡ 0 → v.placed level (i / fan ^ level) ≡ false
  pub over : (level place : ℕ) → place ≢ i / fan ^ level → v.changed level place ≡ true → (pointer_at v.tree level place).stamp ≢ 0 → level < v.tree.levels → v.changed (level + 1) (place / fan) ≡ true
  pub same : (level place : ℕ) (xs : List Pointer) → place ≢ i / fan ^ level → 1 ≤ level → v.tree.nodes level place ≡ Some xs → v.changed level place ≡ false → (pointer_at v.tree level place).stamp ≢ 0
      → (pointers_in (v.tree.under (pointer_at v.tree level place).vvbn) ≡ xs) × (v.placed level place ≡ true)
  pub cells : (index : ℕ) (block : List ℕ) → index ≢ i / fan ^ 0 → v.tree.cells index ≡ Some block → v.changed 0 index ≡ false → (pointer_at v.tree 0 index).stamp ≢ 0
      → (v.tree.under (pointer_at v.tree 0 index).vvbn ≡ Some block) × (v.placed 0 index ≡ true)
  pub empty : (level place : ℕ) → place ≢ i / fan ^ level → 1 ≤ level → (pointer_at v.tree level place).stamp ≡ 0 → (level ≤ v.tree.levels) ⊎ (place ≢ 0) → IsEmptyNode v.tree level place

-- another pointer that leads to the same block, with some stamp
pub record IsReached (p r : Pointer) : Type 0 where
  pub vvbn : r.vvbn ≡ p.vvbn
  pub pvbn : r.pvbn ≡ p.pvbn
  pub some : r.stamp ≢ 0

-- the way to a cell has stamps and is marked as changed
pub record IsMarked (v u : Loaded) (i : ℕ) : Type 0 where
  pub owner : u.tree.owner ≡ v.tree.owner
  pub under : u.tree.under ≡ v.tree.under
  pub levels : u.tree.levels ≡ v.tree.levels
  pub root : u.tree.root.stamp ≢ 0
  pub reached : (level : ℕ) → level ≤ v.tree.levels → IsReached (pointer_at v.tree level (i / fan ^ level)) (pointer_at u.tree level (i / fan ^ level))
  pub beside : (level place : ℕ) → level ≤ v.tree.levels → place ≢ i / fan ^ level → pointer_at u.tree level place ≡ pointer_at v.tree level place
  pub nodes : (level place : ℕ) → place ≢ i / fan ^ level → u.tree.nodes level place ≡ v.tree.nodes level place
  pub cells : (index : ℕ) → u.tree.cells index ≡ v.tree.cells index
  pub placed : (level place : ℕ) → u.placed level place ≡ v.placed level place
  pub way : (level : ℕ) → level ≤ v.tree.levels → u.changed level (i / fan ^ level) ≡ true
  pub others : (level place : ℕ) → place ≢ i / fan ^ level → u.changed level place ≡ v.changed level place

module _ (v u : Loaded) (i : ℕ) (marked : IsMarked v u i) where
  -- a range on the way, or another
  on_or_off : (level place : ℕ) → (place ≡ i / fan ^ level) ⊎ (place ≢ i / fan ^ level)
  on_or_off level place = cases_eq place (i / fan ^ level)

  pointer_on : (level place : ℕ) → level ≤ v.tree.levels → place ≡ i / fan ^ level → IsReached (pointer_at v.tree level place) (pointer_at u.tree level place)
  pointer_on level place le at = subst (λ q. IsReached (pointer_at v.tree level q) (pointer_at u.tree level q)) (sym at) (marked.reached level le)

  pointer_off : (level place : ℕ) → place ≢ i / fan ^ level → pointer_at u.tree level place ≡ pointer_at v.tree level place
  pointer_off level place differs = elim (cases_lt v.tree.levels level) [
    | inl lt ↦ past u.tree level place (omega (arith, lt, marked.levels)) ∙ sym (past v.tree level place lt)
    | inr le ↦ marked.beside level place le differs
  ]

  same_hint : (level place : ℕ) → level ≤ v.tree.levels → (pointer_at u.tree level place).pvbn ≡ (pointer_at v.tree level place).pvbn
  same_hint level place le = elim (on_or_off level place) [
    | inl at ↦ (pointer_on level place le at).pvbn
    | inr differs ↦ ap (λ (p : Pointer). p.pvbn) (pointer_off level place differs)
  ]

  within : (level place : ℕ) → (pointer_at u.tree level place).stamp ≢ 0 → level ≤ v.tree.levels
  within level place reached = omega (arith, marked.levels, reached_within u.tree level place reached)

  pub marked_hints : KeepsHints v u
  marked_hints level place w leads = same_hint level place (within level place leads.some)

  module _ (unplaced : (level : ℕ) → level ≤ v.tree.levels → (pointer_at v.tree level (i / fan ^ level)).stamp ≡ 0 → v.placed level (i / fan ^ level) ≡ false) where
    on_leads : (level place w : ℕ) → place ≡ i / fan ^ level → Leads u level place w → Leads v level place w
    on_leads level place w at leads =
        let le : level ≤ v.tree.levels = within level place leads.some in
        let now : v.placed level place ≡ true = sym (marked.placed level place) ∙ leads.placed in record {
          some = λ e. false_is_true (v.placed level place) ((λ j. v.placed level (at j)) ∙ unplaced level le (sym (λ j. (pointer_at v.tree level (at j)).stamp) ∙ e)) now;
          placed = now;
          vvbn = sym (pointer_on level place le at).vvbn ∙ leads.vvbn;
        }

    -- what is led to was
    pub marked_leads : LeadsNoMore v u
    marked_leads level place w leads = elim (on_or_off level place) [
      | inl at ↦ on_leads level place w at leads
      | inr differs ↦ record {
        some = λ e. leads.some (ap (λ (p : Pointer). p.stamp) (pointer_off level place differs) ∙ e);
        placed = sym (marked.placed level place) ∙ leads.placed;
        vvbn = sym (ap (λ (p : Pointer). p.vvbn) (pointer_off level place differs)) ∙ leads.vvbn;
      }
    ]

  -- and still is
  pub marked_keeps : LeadsNoMore u v
  marked_keeps level place w leads = let le : level ≤ v.tree.levels = reached_within v.tree level place leads.some in elim (on_or_off level place) [
    | inl at ↦ record {
      some = (pointer_on level place le at).some;
      placed = marked.placed level place ∙ leads.placed;
      vvbn = (pointer_on level place le at).vvbn ∙ leads.vvbn;
    }
    | inr differs ↦ record {
      some = λ e. leads.some (ap (λ (p : Pointer). p.stamp) (sym (pointer_off level place differs)) ∙ e);
      placed = marked.placed level place ∙ leads.placed;
      vvbn = ap (λ (p : Pointer). p.vvbn) (pointer_off level place differs) ∙ leads.vvbn;
    }
  ]

  module _ (taken : ℕ → Option Use) (covers : i < fan ^ v.tree.levels) (ready : IsReady taken v i) where
    leads_old : LeadsNoMore v u
    leads_old = marked_leads ready.unplaced

    over_way : (level place : ℕ) → level < v.tree.levels → place / fan ≡ i / fan ^ (level + 1) → u.changed (level + 1) (place / fan) ≡ true
    over_way level place lt at = (λ j. u.changed (level + 1) (at j)) ∙ marked.way (level + 1) (omega (arith, lt))

    over : (level place : ℕ) → u.changed level place ≡ true → (pointer_at u.tree level place).stamp ≢ 0 → level < u.tree.levels → u.changed (level + 1) (place / fan) ≡ true
    over level place now reached less = let lt : level < v.tree.levels = omega (arith, less, marked.levels) in elim (on_or_off level place) [
      | inl at ↦ over_way level place lt (ap (λ n. n / fan) at ∙ above i level)
      | inr differs ↦ elim (on_or_off (level + 1) (place / fan)) [
        | inl at ↦ over_way level place lt at
        | inr apart ↦ marked.others (level + 1) (place / fan) apart
            ∙ ready.over level place differs (sym (marked.others level place differs) ∙ now) (λ e. reached (ap (λ (p : Pointer). p.stamp) (pointer_off level place differs) ∙ e)) lt
      ]
    ]

    same : (level place : ℕ) (xs : List Pointer) → 1 ≤ level → u.tree.nodes level place ≡ Some xs → u.changed level place ≡ false → (pointer_at u.tree level place).stamp ≢ 0
        → (pointers_in (u.tree.under (pointer_at u.tree level place).vvbn) ≡ xs) × (u.placed level place ≡ true)
    same level place xs low node now reached = elim (on_or_off level place) [
      | inl at ↦ false_is_true (u.changed level place) now ((λ j. u.changed level (at j)) ∙ marked.way level (within level place reached))
      | inr differs ↦
          let was = ready.same level place xs differs low (sym (marked.nodes level place differs) ∙ node) (sym (marked.others level place differs) ∙ now) (λ e. reached (ap (λ (p : Pointer). p.stamp) (pointer_off level place differs) ∙ e)) in
          ((λ j. pointers_in (marked.under j (pointer_off level place differs j).vvbn)) ∙ was.0, marked.placed level place ∙ was.1)
    ]

    in_cells : (index : ℕ) (block : List ℕ) → u.tree.cells index ≡ Some block → u.changed 0 index ≡ false → (pointer_at u.tree 0 index).stamp ≢ 0
        → (u.tree.under (pointer_at u.tree 0 index).vvbn ≡ Some block) × (u.placed 0 index ≡ true)
    in_cells index block cell now reached = elim (on_or_off 0 index) [
      | inl at ↦ false_is_true (u.changed 0 index) now ((λ j. u.changed 0 (at j)) ∙ marked.way 0 (within 0 index reached))
      | inr differs ↦
          let was = ready.cells index block differs (sym (marked.cells index) ∙ cell) (sym (marked.others 0 index differs) ∙ now) (λ e. reached (ap (λ (p : Pointer). p.stamp) (pointer_off 0 index differs) ∙ e)) in
          ((λ j. marked.under j (pointer_off 0 index differs j).vvbn) ∙ was.0, marked.placed 0 index ∙ was.1)
    ]

    -- a range on the way that nothing leads to lies above the levels
    on_empty : {P : Type 0} (level place : ℕ) → place ≡ i / fan ^ level → (pointer_at u.tree level place).stamp ≡ 0 → (level ≤ u.tree.levels) ⊎ ((place ≢ 0) ⊎ (u.tree.root.stamp ≡ 0)) → P
    on_empty level place at none which = elim (cases_lt v.tree.levels level) [
      | inl lt ↦
          let wide : fan ^ v.tree.levels ≤ fan ^ level = pow-le-pow_right {n = fan} (omega arith) {i = v.tree.levels} {j = level} (omega arith) in
          let first : place ≡ 0 = at ∙ div-eq_of_lt (omega (arith, covers, wide)) in
          elim which [
            | inl le ↦ absurd (omega (arith, le, lt, marked.levels))
            | inr (inl differs) ↦ absurd (differs first)
            | inr (inr hole) ↦ absurd (marked.root hole)
          ]
      | inr le ↦ absurd ((pointer_on level place le at).some none)
    ]

    empty : (level place : ℕ) → 1 ≤ level → (pointer_at u.tree level place).stamp ≡ 0 → (level ≤ u.tree.levels) ⊎ ((place ≢ 0) ⊎ (u.tree.root.stamp ≡ 0)) → IsEmptyNode u.tree level place
    empty level place low none which = elim (on_or_off level place) [
      | inl at ↦ on_empty level place at none which
      | inr differs ↦ λ xs node. ready.empty level place differs low (sym (ap (λ (p : Pointer). p.stamp) (pointer_off level place differs)) ∙ none) (elim which [
        | inl le ↦ inl (omega (arith, le, marked.levels))
        | inr (inl other) ↦ inr other
        | inr (inr hole) ↦ absurd (marked.root hole)
      ]) xs (sym (marked.nodes level place differs) ∙ node)
    ]

    pub marked_sound : IsSound taken u
    marked_sound = record {
      once = λ level place k q w first second. ready.once level place k q w (leads_old level place w first) (leads_old k q w second);
      held = λ level place w leads. ap (λ under. is_some (under w)) marked.under ∙ ready.held level place w (leads_old level place w leads);
      used = λ level place w leads. right_as (kind_for v.tree.owner level) (kind_for u.tree.owner level) (ap (λ (o : ℕ). kind_for o level) marked.owner) (pointer_at v.tree level place) (pointer_at u.tree level place) (taken w) (taken w) (same_hint level place (within level place leads.some)) refl (ready.used level place w (leads_old level place w leads));
      over = over;
      same = same;
      cells = in_cells;
      empty = empty;
    }
