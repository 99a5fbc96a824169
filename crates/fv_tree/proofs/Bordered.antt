-- How much of a tree differs from its blocks once its cells were cut: of its nodes no more but those over the border.
use Rattle.std.proofs.Common.{Less, ◌≡◌, ◌≢◌, ◌==◌, suc, get_or, subst, ◌≤◌, ◌<◌, ◌⊎◌, inl, inr, ℕ, ◌+◌, ◌/◌, ◌^◌, ◌&&◌, Bool, true, false, cond, nat_eq, nat_le, List, [], ◌∷◌, Option, Some, None, refl, sym, ap, ◌∙◌, arith}
use Rattle.std.specs.Option.{option_map}
use Rattle.std.specs.List.{AllByRecursion}
use Rattle.std.specs.List.Sorted.{IsStrictlySortedBy}
use Rattle.std.specs.Ordering.{is_eq}
use Rattle.std.specs.Map.{keys_of, lookup, set_value}
use Rattle.std.specs.BTreeMap as maps
use Rattle.std.proofs.lemmas.Bool.{cases_eq, cases_lt}
use Rattle.std.proofs.lemmas.Bool.Decides.{nat_tests}
use Rattle.std.proofs.lemmas.Map.{keys-set_value}
use Rattle.fv_codec.specs.declared.pointer.Pointer.{Pointer}
use Rattle.fv_codec.specs.Blocks.{all_holes}
use Rattle.fv_model.specs.Trees.{fan, Spot, spot_cmp}
use Rattle.fv_tree.specs.declared.kept.Tree.{Tree}
use Rattle.fv_tree.specs.declared.kept.KeptNode.{KeptNode}
use Rattle.fv_tree.specs.Spelled.{Under, hole, pointer_at}
use Rattle.fv_tree.specs.Sources.{Use}
use Rattle.fv_tree.specs.Standing.{standing}
use Rattle.fv_tree.specs.Flushing.{IsSound, IsEmptyNode, changed_in, loaded_over, node_changed}
use Rattle.fv_tree.specs.Erasing.{IsErased}
use Rattle.fv_tree.specs.Carried.{Brings, MarksNoMore, kept_at}
use Rattle.fv_tree.specs.Unlinking.{IsOver, MarksOnly}
use Rattle.fv_tree.specs.Collecting.{IsOverPast}
use Rattle.fv_tree.specs.Costs.{cells_changed, cells_held, changes_in, pending}
use Rattle.fv_tree.proofs.Collected.{far_up}
use Rattle.fv_tree.proofs.Differing.{node_mark}
use Rattle.fv_tree.proofs.MapMarks.{counted_in, counted_more}
use Rattle.fv_tree.proofs.Erased.{hole_of}
use Rattle.fv_tree.proofs.Spots.{same_spot}
use Rattle.fv_tree.proofs.Tally.{Marks, AreOnce, is_marked, tally, three_more}
use Rattle.fv_tree.proofs.Ways.{spot_is}

-- ---- the nodes in memory by their marks

abbrev marks_in : List (Spot × KeptNode) → Marks
marks_in [] = []
marks_in (e ∷ es) = (e.0, e.1.changed) ∷ marks_in es

tallied : (es : List (Spot × KeptNode)) → tally (marks_in es) ≡ counted_in node_mark es
tallied [] = refl
tallied (e ∷ es) = ap (λ n. cond e.1.changed 1 0 + n) (tallied es) ∙ sym (counted_more node_mark e es)

marked_is : (es : List (Spot × KeptNode)) (k q : ℕ) → is_marked (marks_in es) k q ≡ node_changed (lookup (maps.is_at (spot_cmp (k, q))) es)
marked_is [] k q = refl
marked_is (e ∷ es) k q =
    ap (cond (nat_eq e.0.0 k && nat_eq e.0.1 q) e.1.changed) (marked_is es k q)
    ∙ so (nat_eq e.0.0 k && nat_eq e.0.1 q)
    ∙ ap (λ t. node_changed (cond t (Some e.1) (lookup (maps.is_at (spot_cmp (k, q))) es))) (sym (same_spot k q e.0.0 e.0.1))
  where
    so : (t : Bool) → cond t e.1.changed (node_changed (lookup (maps.is_at (spot_cmp (k, q))) es)) ≡ node_changed (cond t (Some e.1) (lookup (maps.is_at (spot_cmp (k, q))) es))
    so true = refl
    so false = refl

fresh : (a b : ℕ) (es : List (Spot × KeptNode)) → AllByRecursion (λ y. spot_cmp (a, b) y ≡ Less) (keys_of es) → is_marked (marks_in es) a b ≡ false
fresh a b [] all = refl
fresh a b (e ∷ es) all =
    let test : (nat_eq e.0.0 a && nat_eq e.0.1 b) ≡ false = sym (same_spot a b e.0.0 e.0.1) ∙ ap is_eq all.0 in
    ap (λ t. cond t e.1.changed (is_marked (marks_in es) a b)) test ∙ fresh a b es all.1

once : (es : List (Spot × KeptNode)) → IsStrictlySortedBy spot_cmp (keys_of es) → AreOnce (marks_in es)
unfolding IsStrictlySortedBy
once [] sorted = tt
once (e ∷ es) sorted = (fresh e.0.0 e.0.1 es sorted.0, once es sorted.1)

-- they stay in their order where one of them is written
pub still_ordered : (o n : maps.BTreeMap Spot KeptNode) (k : Spot) (now : KeptNode) → maps.IsOrdered spot_cmp o → n.entries ≡ set_value (maps.is_at (spot_cmp k)) o.entries now → maps.IsOrdered spot_cmp n
still_ordered o n k now ordered is =
    let keys : keys_of n.entries ≡ keys_of o.entries = ap keys_of is ∙ keys-set_value (maps.is_at (spot_cmp k)) o.entries now in
    subst (IsStrictlySortedBy spot_cmp) (sym keys) ordered

-- ---- nodes that come into memory

unmarked : {P : Type 0} (o : Option KeptNode) (node : KeptNode) → o ≡ Some node → node.changed ≡ false → node_changed o ≡ true → P
unmarked o node is unchanged changed = let wrong : true ≡ false = sym changed ∙ ap node_changed is ∙ unchanged in absurd cc

pub brings_marks : (blocks : Under) (t u : Tree) (level place : ℕ) (p : Pointer) → Brings blocks t u level place p → MarksNoMore t u
brings_marks blocks t u level place p brings k q changed = elim (spot_is k q level place) [
  | inr other ↦ sym (ap node_changed (brings.others k q other)) ∙ changed
  | inl at ↦
      let here : node_changed (kept_at u level place) ≡ true = (λ i. changed_in u.nodes (sym at.0 i) (sym at.1 i)) ∙ changed in
      elim brings.own [
        | inl same ↦ (λ i. changed_in t.nodes (at.0 i) (at.1 i)) ∙ sym (ap node_changed same) ∙ here
        | inr came ↦ elim came [
          | inl blank ↦ unmarked (kept_at u level place) blank.1.node blank.1.is blank.1.changed here
          | inr read ↦ unmarked (kept_at u level place) read.2.node read.2.is read.2.changed here
        ]
      ]
]

-- ---- the border

all_empty : (xs : List Pointer) → ((slot : ℕ) → get_or xs slot hole ≡ hole) → all_holes xs ≡ true
all_empty [] none = refl
all_empty (x ∷ xs) none =
    let first : (x.stamp == 0) ≡ true = (let none_there : x.stamp ≡ 0 = ap (λ (p : Pointer). p.stamp) (none 0) in grind (arith, nat_tests, none_there)) in
    ap (λ b. b && all_holes xs) first ∙ all_empty xs (λ slot. none (suc slot))

pub record HasNode (o : Option KeptNode) : Type 0 where
  pub node : KeptNode
  pub is : o ≡ Some node
  pub changed : node.changed ≡ true

has_node : (o : Option KeptNode) → node_changed o ≡ true → HasNode o
has_node None changed = absurd cc
has_node (Some node) changed = record { node = node; is = refl; changed = changed }

module _ (blocks : Under) (used : ℕ → Option Use) (t u : Tree) (most start s : ℕ) (erased : IsErased (standing blocks t) (standing blocks u) (nat_le most) start s) (sound : IsSound used (loaded_over blocks u)) where
  -- a node past the border led to cells that went, so it leads nowhere
  leads_nowhere : (level place : ℕ) → most / fan ^ level < place → (pointer_at (standing blocks u) level place).stamp ≡ 0
  leads_nowhere level place past = hole_of (pointer_at (standing blocks u) level place) (erased.bare level place (λ i over stands. elim (cases_lt i most) [
    | inl lt ↦ let up = far_up i most level (omega (arith, lt)) in absurd (omega (arith, up, past, over))
    | inr le ↦ (let test : nat_le most i ≡ true = grind (arith, nat_tests, le) in test)
  ]))

  -- so it didn't change
  at_border : (level place : ℕ) → changed_in u.nodes level place ≡ true → IsOverPast most level place → place ≡ most / fan ^ level
  at_border level place changed over = elim (cases_eq place (most / fan ^ level)) [
    | inl same ↦ same
    | inr differs ↦
        let up = far_up most over.cell level over.far in
        let is = over.over.over in
        let past : most / fan ^ level < place = omega (arith, up, is, differs) in
        let node = has_node (maps.get spot_cmp u.nodes (level, place)) changed in
        let empty : IsEmptyNode (standing blocks u) level place = sound.empty level place over.over.low (leads_nowhere level place past) (inr (inl (λ none. omega (arith, past, none)))) in
        let none : all_holes node.node.children ≡ true = all_empty node.node.children (empty node.node.children (ap (option_map (λ (kept : KeptNode). kept.children)) node.is)) in
        let some : all_holes node.node.children ≡ false = node.node.some node.changed in
        let wrong : true ≡ false = sym none ∙ some in absurd cc
  ]

  module _ (marks : (level place : ℕ) → changed_in u.nodes level place ≡ true → (changed_in t.nodes level place ≡ true) ⊎ IsOverPast most level place) (ordered : maps.IsOrdered spot_cmp u.nodes) where
    few_changes : changes_in u.nodes ≤ changes_in t.nodes + 3
    few_changes =
        let less = three_more (marks_in u.nodes.entries) (marks_in t.nodes.entries) (λ level. most / fan ^ level) (once u.nodes.entries ordered) at in
        let now = tallied u.nodes.entries in
        let was = tallied t.nodes.entries in
        omega (arith, less, now, was)
      where
        at : (k q : ℕ) → is_marked (marks_in u.nodes.entries) k q ≡ true → (is_marked (marks_in t.nodes.entries) k q ≡ true) ⊎ ((1 ≤ k) × (k ≤ 3) × (q ≡ most / fan ^ k))
        at k q marked =
            let changed : changed_in u.nodes k q ≡ true = sym (marked_is u.nodes.entries k q) ∙ marked in
            elim (marks k q changed) [
              | inl was ↦ inl (marked_is t.nodes.entries k q ∙ was)
              | inr over ↦ inr (over.over.low, over.over.high, at_border k q changed over)
            ]

    pub few_differ : cells_changed u.cells ≤ cells_changed t.cells → pending u ≤ pending t + 3
    few_differ cells = omega (arith, few_changes, cells)

-- ---- one cell goes

-- a tree that is cleared
pub cleared_marks : (t u : Tree) (i : ℕ) → ((level place : ℕ) → maps.get spot_cmp u.nodes (level, place) ≡ None) → pending u ≡ 0 → cells_held u ≡ 0 → maps.IsOrdered spot_cmp u.nodes → MarksOnly t u i
cleared_marks t u i none empty clear ordered = record {
  marks = λ level place changed. absurd (let wrong : true ≡ false = sym changed ∙ ap node_changed (none level place) in cc);
  cells = omega (arith, empty);
  held = omega (arith, clear);
  ordered = ordered;
}

-- a node that goes from memory
pub forgotten_marks : (o n : maps.BTreeMap Spot KeptNode) (a b : ℕ) → maps.get spot_cmp n (a, b) ≡ None → ((k q : ℕ) → (k ≢ a) ⊎ (q ≢ b) → maps.get spot_cmp n (k, q) ≡ maps.get spot_cmp o (k, q))
    → (k q : ℕ) → changed_in n k q ≡ true → changed_in o k q ≡ true
forgotten_marks o n a b own others k q changed = elim (spot_is k q a b) [
  | inl at ↦
      let here : changed_in n a b ≡ true = (λ i. changed_in n (sym at.0 i) (sym at.1 i)) ∙ changed in
      absurd (let wrong : true ≡ false = sym here ∙ ap node_changed own in cc)
  | inr other ↦ sym (ap node_changed (others k q other)) ∙ changed
]

-- nodes above a level get a stamp
pub stamped_marks : (t u : Tree) (i lowest end : ℕ) → t.levels ≤ 3 → t.levels ≤ end
    → ((level place : ℕ) → (level ≤ lowest) ⊎ (place ≢ i / fan ^ level) → maps.get spot_cmp u.nodes (level, place) ≡ maps.get spot_cmp t.nodes (level, place))
    → ((level place : ℕ) → end < level → maps.get spot_cmp u.nodes (level, place) ≡ maps.get spot_cmp t.nodes (level, place))
    → end ≤ t.levels → (level place : ℕ) → changed_in u.nodes level place ≡ true → (changed_in t.nodes level place ≡ true) ⊎ IsOver i level place
stamped_marks t u i lowest end few all same after last level place changed = elim (cases_lt lowest level) [
  | inr low ↦ inl (sym (ap node_changed (same level place (inl low))) ∙ changed)
  | inl high ↦ elim (cases_eq place (i / fan ^ level)) [
    | inr differs ↦ inl (sym (ap node_changed (same level place (inr differs))) ∙ changed)
    | inl over ↦ elim (cases_lt end level) [
      | inl past ↦ inl (sym (ap node_changed (after level place past)) ∙ changed)
      | inr within ↦ inr (record { low = omega (arith, high); high = omega (arith, within, last, few); over = over })
    ]
  ]
]

-- the lowest nodes over a cell go, the next one loses a pointer, and those above get a stamp
pub way_marks : (t v u : Tree) (w : maps.BTreeMap Spot KeptNode) (i lowest width : ℕ) → MarksNoMore t v → 1 ≤ lowest → lowest ≤ 3 → width ≡ fan ^ lowest
    → ((k q : ℕ) → (k ≢ lowest) ⊎ (q ≢ i / width) → maps.get spot_cmp w (k, q) ≡ maps.get spot_cmp v.nodes (k, q))
    → ((level place : ℕ) → changed_in u.nodes level place ≡ true → (changed_in w level place ≡ true) ⊎ IsOver i level place)
    → (level place : ℕ) → changed_in u.nodes level place ≡ true → (changed_in t.nodes level place ≡ true) ⊎ IsOver i level place
way_marks t v u w i lowest width goes low high is others above level place changed = elim (above level place changed) [
  | inr over ↦ inr over
  | inl mid ↦ elim (spot_is level place lowest (i / width)) [
    | inl at ↦ inr (record { low = omega (arith, low, at.0); high = omega (arith, high, at.0); over = at.1 ∙ (λ j. i / is j) ∙ ap (λ k. i / fan ^ k) (sym at.0) })
    | inr other ↦ inl (goes level place (sym (ap node_changed (others level place other)) ∙ mid))
  ]
]
