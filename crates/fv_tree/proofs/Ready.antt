-- A cell's content that comes into memory, and the marks over it.
use Rattle.std.proofs.Common.{◌≡◌, ◌≢◌, ◌≤◌, ◌<◌, ℕ, ◌+◌, ◌/◌, ◌%◌, ◌^◌, ◌⊎◌, inl, inr, Bool, true, false, not, cond, nat_eq, ◌&&◌, List, Option, Some, None, get_or, is_some, refl, sym, ap, subst, ◌∙◌, arith, ◌==◌, if◌then◌else◌}
use Rattle.std.specs.Ordering.{nat_cmp}
use Rattle.std.specs.Option.{option_map}
use Rattle.std.specs.BTreeMap as tree
use Rattle.std.specs.FinMap as fin
use Rattle.std.proofs.lemmas.Bool.{cases_eq, cases_lt}
use Rattle.std.proofs.lemmas.Bool.Decides.{nat_tests}
use Rattle.fv_codec.specs.declared.pointer.Pointer.{Pointer}
use Rattle.fv_model.specs.Trees.{fan, Spot, spot_cmp}
use Rattle.fv_tree.specs.declared.kept.Tree.{Tree}
use Rattle.fv_tree.specs.declared.kept.KeptNode.{KeptNode}
use Rattle.fv_tree.specs.declared.kept.KeptCell.{KeptCell}
use Rattle.fv_tree.specs.Spelled.{Under, Rooted, hole, pointers_in, pointer_at}
use Rattle.fv_tree.specs.Sources.{Shown, Use}
use Rattle.fv_tree.specs.Standing.{standing, under, node_in, cell_in, IsSameButCells}
use Rattle.fv_tree.specs.Keeping.{IsKept}
use Rattle.fv_tree.specs.Writing.{Stamps}
use Rattle.fv_tree.specs.Flushing.{IsSound, Stands, loaded, loaded_over, changed_of, placed_of, changed_in, placed_in, cell_changed, cell_placed, kind_for}
use Rattle.fv_tree.specs.Carried.{kept_at, Marks}
use Rattle.fv_tree.specs.Leading.{LeadsNoMore}
use Rattle.fv_tree.proofs.Cases.{false_is_true}
use Rattle.fv_tree.proofs.Gone.{map_some, changed_cell, spot_changed, cell_led, spot_led}
use Rattle.fv_tree.proofs.Hints.{right_as}
use Rattle.fv_tree.proofs.Marked.{IsReady, IsMarked}
use Rattle.fv_tree.proofs.Stamped.{on_way, on, off, stamped_way}
use Rattle.fv_tree.proofs.Steps.{stamps_way}
use Rattle.fv_tree.proofs.Ways.{own_way, is_way, past, alike}
use Rattle.fv_tree.proofs.Writes.{same_standing}

-- ---- nothing that counts changed

pub stands_again : (old new : Shown) (t u : Tree) → new.held ≡ old.held → new.used ≡ old.used → u ≡ t → Stands old t → Stands new u
stands_again old new t u held used same stands =
    subst (λ v. IsSound new.used (loaded new v)) (sym same)
    (subst (λ h. IsSound new.used (loaded_over (λ v. fin.get h v) t)) (sym held)
    (subst (λ w. IsSound w (loaded old t)) (sym used) stands))

pub cells_loaded : (blocks : Under) (t u : Tree) → IsSameButCells t u → ((i : ℕ) → tree.get nat_cmp u.cells i ≡ tree.get nat_cmp t.cells i) → loaded_over blocks u ≡ loaded_over blocks t
cells_loaded blocks t u same cells = λ j. record {
  tree = same_standing blocks t u same (λ i. ap (option_map (λ (kept : KeptCell). kept.block.value)) (cells i)) j;
  changed = λ level place. if level == 0 then cell_changed (cells place j) else changed_in (same.nodes j) level place;
  placed = λ level place. if level == 0 then cell_placed (cells place j) else placed_in (same.nodes j) level place;
}

pub cells_again : (blocks : Under) (used : ℕ → Option Use) (t u : Tree) → IsSameButCells t u → ((i : ℕ) → tree.get nat_cmp u.cells i ≡ tree.get nat_cmp t.cells i) → IsSound used (loaded_over blocks t) → IsSound used (loaded_over blocks u)
cells_again blocks used t u same cells = subst (IsSound used) (sym (cells_loaded blocks t u same cells))

-- pointers don't depend on cells
pub nodes_alone : (t u : Rooted) → u.owner ≡ t.owner → u.under ≡ t.under → u.levels ≡ t.levels → u.root ≡ t.root → ((k q : ℕ) → u.nodes k q ≡ t.nodes k q) → (k q : ℕ) → pointer_at u k q ≡ pointer_at t k q
nodes_alone t u owner under levels root nodes k q = elim (cases_lt t.levels k) [
  | inl lt ↦ past u k q (omega (arith, lt, levels)) ∙ sym (past t k q lt)
  | inr le ↦ is_way u (pointer_at t) (record {
    top = λ place. ap (λ n. pointer_at t n place) levels ∙ (own_way t).top place ∙ ap (λ r. if place == 0 then r else hole) (sym root);
    down = λ level place lt. (own_way t).down level place (omega (arith, lt, levels))
        ∙ sym (ap (λ (xs : List Pointer). get_or xs (place % fan) hole) (alike t u (level + 1) (place / fan) (pointer_at t (level + 1) (place / fan)) owner under (nodes (level + 1) (place / fan))));
  }) k q (omega (arith, le, levels))
]

pub first_range : (i : ℕ) → i / fan ^ 0 ≡ i
first_range i = omega arith

pub both_true : (a b : Bool) → (a && b) ≡ true → (a ≡ true) × (b ≡ true)
both_true true b e = (refl, e)
both_true false b e = false_is_true false refl e

pub and_false : (a b : Bool) → a ≡ false → (a && b) ≡ false
and_false a b e = ap (λ c. c && b) e

-- ---- the marks

module _ (blocks : Under) (v u : Tree) (i : ℕ) (cells : u.cells ≡ v.cells) (marks : Marks v u i)
    (kept : (level : ℕ) → 1 ≤ level → level ≤ v.levels → IsKept (standing blocks v) level (i / fan ^ level)) (cell : cell_changed (tree.get nat_cmp v.cells i) ≡ true) where
  pub way_changed : (level : ℕ) → level ≤ v.levels → changed_of u level (i / fan ^ level) ≡ true
  way_changed level le = elim (cases_eq level 0) [
    | inl e ↦ (λ j. changed_of u (e j) (i / fan ^ e j)) ∙ ap (changed_of u 0) (first_range i) ∙ changed_cell u 0 i refl ∙ ap (λ (m : tree.BTreeMap ℕ KeptCell). cell_changed (tree.get nat_cmp m i)) cells ∙ cell
    | inr low ↦ spot_changed u level (i / fan ^ level) (omega arith)
        ∙ marks.way level (omega arith) le (ap is_some (map_some (λ (kept : KeptNode). kept.children) (kept_at v level (i / fan ^ level)) (kept level (omega arith) le).pointers (kept level (omega arith) le).node).1)
  ]

  pub others_changed : (level place : ℕ) → place ≢ i / fan ^ level → changed_of u level place ≡ changed_of v level place
  others_changed level place differs = elim (cases_eq level 0) [
    | inl e ↦ changed_cell u level place e ∙ ap (λ (m : tree.BTreeMap ℕ KeptCell). cell_changed (tree.get nat_cmp m place)) cells ∙ sym (changed_cell v level place e)
    | inr low ↦ spot_changed u level place (omega arith) ∙ marks.others level place differs ∙ sym (spot_changed v level place (omega arith))
  ]

  pub all_led : (level place : ℕ) → placed_of u level place ≡ placed_of v level place
  all_led level place = elim (cases_eq level 0) [
    | inl e ↦ cell_led u level place e ∙ ap (λ (m : tree.BTreeMap ℕ KeptCell). cell_placed (tree.get nat_cmp m place)) cells ∙ sym (cell_led v level place e)
    | inr low ↦ spot_led u level place (omega arith) ∙ marks.placed level place ∙ sym (spot_led v level place (omega arith))
  ]

module _ (blocks : Under) (v u : Tree) (i s : ℕ) (stamps : Stamps v u i s) (marks : Marks v u i) (some : s ≢ 0) (covers : i < fan ^ v.levels)
    (kept : (level : ℕ) → 1 ≤ level → level ≤ v.levels → IsKept (standing blocks v) level (i / fan ^ level)) (cell : cell_changed (tree.get nat_cmp v.cells i) ≡ true) where
  no_change : IsSameButCells v v
  no_change = record { owner = refl; levels = refl; root = refl; nodes = refl }

  pub marked_pointers : (level place : ℕ) → level ≤ v.levels → pointer_at (standing blocks u) level place ≡ on_way (pointer_at (standing blocks v)) i s level place
  marked_pointers level place le = is_way (standing blocks u) _ (stamped_way (standing blocks v) (standing blocks u) i s (stamps_way blocks v v u i s no_change stamps) some covers kept) level place (omega (arith, le, stamps.levels))

  pub marked_is : IsMarked (loaded_over blocks v) (loaded_over blocks u) i
  marked_is = record {
    owner = stamps.owner;
    under = refl;
    levels = stamps.levels;
    root = λ none. some (sym (ap (λ (p : Pointer). p.stamp) stamps.root) ∙ none);
    reached = λ level le. let is = marked_pointers level (i / fan ^ level) le ∙ on (pointer_at (standing blocks v)) i s level (i / fan ^ level) refl in record {
      vvbn = ap (λ (p : Pointer). p.vvbn) is;
      pvbn = ap (λ (p : Pointer). p.pvbn) is;
      some = λ none. some (sym (ap (λ (p : Pointer). p.stamp) is) ∙ none);
    };
    beside = λ level place le differs. marked_pointers level place le ∙ off (pointer_at (standing blocks v)) i s level place differs;
    nodes = stamps.others;
    cells = λ index. ap (λ (m : tree.BTreeMap ℕ KeptCell). option_map (λ (kept : KeptCell). kept.block.value) (tree.get nat_cmp m index)) stamps.cells;
    placed = all_led blocks v u i stamps.cells marks kept cell;
    way = way_changed blocks v u i stamps.cells marks kept cell;
    others = others_changed blocks v u i stamps.cells marks kept cell;
  }

-- ---- within the levels

module _ (blocks : Under) (w v : Tree) (i : ℕ) (named : Bool) (same : IsSameButCells w v)
    (own : cell_placed (tree.get nat_cmp v.cells i) ≡ (named && cell_placed (tree.get nat_cmp w.cells i))) (others : (j : ℕ) → j ≢ i → tree.get nat_cmp v.cells j ≡ tree.get nat_cmp w.cells j) where
  same_node : (k q : ℕ) → node_in v k q ≡ node_in w k q
  same_node k q = ap (λ (nodes : tree.BTreeMap Spot KeptNode). option_map (λ (kept : KeptNode). kept.children) (tree.get spot_cmp nodes (k, q))) same.nodes

  pub cell_pointers : (k q : ℕ) → pointer_at (standing blocks v) k q ≡ pointer_at (standing blocks w) k q
  cell_pointers = nodes_alone (standing blocks w) (standing blocks v) same.owner refl same.levels same.root same_node

  pub cell_kept : (level : ℕ) → IsKept (standing blocks w) level (i / fan ^ level) → IsKept (standing blocks v) level (i / fan ^ level)
  cell_kept level kept = record {
    pointers = kept.pointers;
    node = same_node level (i / fan ^ level) ∙ kept.node;
    long = kept.long;
    empty = λ e slot. kept.empty (sym (ap (λ (p : Pointer). p.stamp) (cell_pointers level (i / fan ^ level))) ∙ e) slot;
  }

  led_off : (k q : ℕ) → (k ≢ 0) ⊎ (q ≢ i) → placed_of v k q ≡ placed_of w k q
  led_off k q other = elim (cases_eq k 0) [
    | inl e ↦ cell_led v k q e ∙ ap cell_placed (others q (elim other [
      | inl level ↦ absurd (level e)
      | inr differs ↦ differs
    ])) ∙ sym (cell_led w k q e)
    | inr low ↦ spot_led v k q (omega arith) ∙ ap (λ (nodes : tree.BTreeMap Spot KeptNode). placed_in nodes k q) same.nodes ∙ sym (spot_led w k q (omega arith))
  ]

  pub changed_off : (k q : ℕ) → q ≢ i / fan ^ k → changed_of v k q ≡ changed_of w k q
  changed_off k q differs = elim (cases_eq k 0) [
    | inl e ↦ changed_cell v k q e ∙ ap cell_changed (others q (λ same. differs (same ∙ sym (first_range i) ∙ (λ j. i / fan ^ sym e j)))) ∙ sym (changed_cell w k q e)
    | inr low ↦ spot_changed v k q (omega arith) ∙ ap (λ (nodes : tree.BTreeMap Spot KeptNode). changed_in nodes k q) same.nodes ∙ sym (spot_changed w k q (omega arith))
  ]

  was_led : (k q : ℕ) → placed_of v k q ≡ true → placed_of w k q ≡ true
  was_led k q now = elim (cases_eq k 0) [
    | inl e ↦ elim (cases_eq q i) [
      | inl at ↦ cell_led w k q e ∙ ap (λ n. cell_placed (tree.get nat_cmp w.cells n)) at
          ∙ (both_true named (cell_placed (tree.get nat_cmp w.cells i)) (sym own ∙ ap (λ n. cell_placed (tree.get nat_cmp v.cells n)) (sym at) ∙ sym (cell_led v k q e) ∙ now)).1
      | inr differs ↦ sym (led_off k q (inr differs)) ∙ now
    ]
    | inr low ↦ sym (led_off k q (inl low)) ∙ now
  ]

  pub cell_leads : LeadsNoMore (loaded_over blocks w) (loaded_over blocks v)
  cell_leads k q x leads = record {
    some = λ e. leads.some (ap (λ (p : Pointer). p.stamp) (cell_pointers k q) ∙ e);
    placed = was_led k q leads.placed;
    vvbn = sym (ap (λ (p : Pointer). p.vvbn) (cell_pointers k q)) ∙ leads.vvbn;
  }

  still_led : ((pointer_at (standing blocks w) 0 i).stamp ≢ 0 → named ≡ true) → (k q : ℕ) → (pointer_at (standing blocks w) k q).stamp ≢ 0 → placed_of w k q ≡ true → placed_of v k q ≡ true
  still_led names k q some was = elim (cases_eq k 0) [
    | inl e ↦ elim (cases_eq q i) [
      | inl at ↦ cell_led v k q e ∙ ap (λ n. cell_placed (tree.get nat_cmp v.cells n)) at ∙ own
          ∙ (λ j. names (λ none. some ((λ j. (pointer_at (standing blocks w) (e j) (at j)).stamp) ∙ none)) j && cell_placed (tree.get nat_cmp w.cells i))
          ∙ ap (λ n. cell_placed (tree.get nat_cmp w.cells n)) (sym at) ∙ sym (cell_led w k q e) ∙ was
      | inr differs ↦ led_off k q (inr differs) ∙ was
    ]
    | inr low ↦ led_off k q (inl low) ∙ was
  ]

  pub cell_keeps : ((pointer_at (standing blocks w) 0 i).stamp ≢ 0 → named ≡ true) → LeadsNoMore (loaded_over blocks v) (loaded_over blocks w)
  cell_keeps names k q x leads = record {
    some = λ e. leads.some (ap (λ (p : Pointer). p.stamp) (sym (cell_pointers k q)) ∙ e);
    placed = still_led names k q leads.some leads.placed;
    vvbn = ap (λ (p : Pointer). p.vvbn) (cell_pointers k q) ∙ leads.vvbn;
  }

  module _ (unnamed : (pointer_at (standing blocks w) 0 i).stamp ≡ 0 → named ≡ false)
      (unplaced : (level : ℕ) → 1 ≤ level → level ≤ w.levels → (pointer_at (standing blocks w) level (i / fan ^ level)).stamp ≡ 0 → placed_in w.nodes level (i / fan ^ level) ≡ false) where
    pub way_unplaced : (level : ℕ) → level ≤ v.levels → (pointer_at (standing blocks v) level (i / fan ^ level)).stamp ≡ 0 → placed_of v level (i / fan ^ level) ≡ false
    way_unplaced level le none = let old : (pointer_at (standing blocks w) level (i / fan ^ level)).stamp ≡ 0 = sym (ap (λ (p : Pointer). p.stamp) (cell_pointers level (i / fan ^ level))) ∙ none in elim (cases_eq level 0) [
      | inl e ↦
          let at : i / fan ^ level ≡ i = (λ j. i / fan ^ e j) ∙ first_range i in
          cell_led v level (i / fan ^ level) e ∙ ap (λ n. cell_placed (tree.get nat_cmp v.cells n)) at ∙ own ∙ and_false named (cell_placed (tree.get nat_cmp w.cells i)) (unnamed (sym (λ j. (pointer_at (standing blocks w) (e j) (at j)).stamp) ∙ old))
      | inr low ↦ led_off level (i / fan ^ level) (inl low) ∙ spot_led w level (i / fan ^ level) (omega arith) ∙ unplaced level (omega arith) (omega (arith, le, same.levels)) old
    ]

    module _ (used : ℕ → Option Use) (sound : IsSound used (loaded_over blocks w)) where
      pub within_ready : IsReady used (loaded_over blocks v) i
      within_ready = record {
        once = λ level place k q x first second. sound.once level place k q x (cell_leads level place x first) (cell_leads k q x second);
        held = λ level place x leads. sound.held level place x (cell_leads level place x leads);
        used = λ level place x leads.
            right_as (kind_for w.owner level) (kind_for v.owner level) (ap (λ (o : ℕ). kind_for o level) same.owner) (pointer_at (standing blocks w) level place) (pointer_at (standing blocks v) level place) (used x) (used x) (ap (λ (p : Pointer). p.pvbn) (cell_pointers level place)) refl (sound.used level place x (cell_leads level place x leads));
        unplaced = way_unplaced;
        over = λ level place differs now reached lt.
            let above = sound.over level place (sym (changed_off level place differs) ∙ now) (λ e. reached (ap (λ (p : Pointer). p.stamp) (cell_pointers level place) ∙ e)) (omega (arith, lt, same.levels)) in
            spot_changed v (level + 1) (place / fan) (omega arith) ∙ ap (λ (nodes : tree.BTreeMap Spot KeptNode). changed_in nodes (level + 1) (place / fan)) same.nodes ∙ sym (spot_changed w (level + 1) (place / fan) (omega arith)) ∙ above;
        same = λ level place xs differs low node now reached.
            let was = sound.same level place xs low (sym (same_node level place) ∙ node) (sym (changed_off level place differs) ∙ now) (λ e. reached (ap (λ (p : Pointer). p.stamp) (cell_pointers level place) ∙ e)) in
            ((λ j. pointers_in (blocks (cell_pointers level place j).vvbn)) ∙ was.0, led_off level place (inl (omega (arith, low))) ∙ was.1);
        cells = λ index block differs cell now reached.
            let off : index ≢ i = λ e. differs (e ∙ sym (first_range i)) in
            let was = sound.cells index block (sym (ap (option_map (λ (kept : KeptCell). kept.block.value)) (others index off)) ∙ cell) (sym (changed_off 0 index differs) ∙ now) (λ e. reached (ap (λ (p : Pointer). p.stamp) (cell_pointers 0 index) ∙ e)) in
            ((λ j. blocks (cell_pointers 0 index j).vvbn) ∙ was.0, led_off 0 index (inr off) ∙ was.1);
        empty = λ level place differs low none which xs node. sound.empty level place low (sym (ap (λ (p : Pointer). p.stamp) (cell_pointers level place)) ∙ none) (elim which [
          | inl le ↦ inl (omega (arith, le, same.levels))
          | inr other ↦ inr (inl other)
        ]) xs (sym (same_node level place) ∙ node);
      }

-- the cell that was written is in memory
pub cell_there : (w v : Tree) (i : ℕ) (block : List ℕ) → ((j : ℕ) → cell_in v j ≡ cond (nat_eq j i) (Some block) (cell_in w j)) → is_some (tree.get nat_cmp v.cells i) ≡ true
cell_there w v i block cells =
    let test : nat_eq i i ≡ true = grind (arith, nat_tests) in
    ap is_some (map_some (λ (kept : KeptCell). kept.block.value) (tree.get nat_cmp v.cells i) block (cells i ∙ ap (λ b. cond b (Some block) (cell_in w i)) test)).1

pub unstamped : (p : Pointer) → p.stamp ≡ 0 → not (p.stamp == 0) ≡ false
unstamped p e = let test : (p.stamp == 0) ≡ true = grind (arith, nat_tests) in ap not test

-- whether a place was answered tells whether a cell is there
pub as_there : {X : Type 0} (x : X) (at : Option ℕ) → option_map (λ (place : ℕ). x) at ≡ cond (is_some at) (Some x) None
as_there x None = refl
as_there x (Some place) = refl

pub is_stamped : (p : Pointer) → p.stamp ≢ 0 → not (p.stamp == 0) ≡ true
is_stamped p some = let test : (p.stamp == 0) ≡ false = grind (arith, nat_tests) in ap not test
