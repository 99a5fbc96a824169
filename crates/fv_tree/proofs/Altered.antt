-- What calls do to the places of a tree, step by step.
use Rattle.std.proofs.Common.{◌≡◌, ◌≢◌, ◌≤◌, ◌<◌, ℕ, zero, suc, ◌+◌, ◌/◌, ◌^◌, ◌⊎◌, inl, inr, Option, Bool, true, ◌&&◌, List, refl, sym, ap, subst, ◌∙◌, arith}
use Rattle.std.specs.Ordering.{nat_cmp}
use Rattle.std.specs.BTreeMap as tree
use Rattle.std.specs.FinMap as fin
use Rattle.std.proofs.lemmas.Bool.{cases_eq, cases_lt}
use Rattle.fv_codec.specs.declared.pointer.Pointer.{Pointer}
use Rattle.fv_model.specs.Trees.{fan}
use Rattle.fv_tree.specs.declared.kept.Tree.{Tree}
use Rattle.fv_tree.specs.declared.kept.KeptCell.{KeptCell}
use Rattle.fv_tree.specs.Spelled.{Under, pointer_at}
use Rattle.fv_tree.specs.Sources.{Shown, IsUntouched, Use}
use Rattle.fv_tree.specs.Erasing.{StandsAt}
use Rattle.fv_tree.specs.Standing.{standing, under, node_in, IsSameBut, IsSameButCells}
use Rattle.fv_tree.specs.Keeping.{IsKept, IsSame}
use Rattle.fv_tree.specs.Writing.{Stamps}
use Rattle.fv_tree.specs.Carried.{Brings, Marks}
use Rattle.fv_tree.specs.Readying.{HoldsCell}
use Rattle.fv_tree.specs.Flushing.{Loaded, IsSound, loaded, loaded_over, changed_in, changed_of, node_changed, cell_changed, cell_placed}
use Rattle.fv_tree.specs.Altering.{Alters, IsAsBefore, IsChanged, IsHole, Leaves}
use Rattle.fv_tree.proofs.Gone.{changed_cell, spot_changed}
use Rattle.fv_tree.proofs.HeldCells.{held_changed, held_pointers}
use Rattle.fv_tree.proofs.Ready.{cell_pointers, cells_loaded, changed_off, marked_pointers, nodes_alone, others_changed, way_changed}
use Rattle.fv_tree.proofs.Stamped.{above, on, off}
use Rattle.fv_tree.proofs.Unlinked.{marks_above}
use Rattle.fv_tree.proofs.Ways.{past, spot_is, brings_seen}

-- ---- one after another

pub leaves_itself : (s : Loaded) → Leaves s s
leaves_itself s = record { levels = refl; root = refl; places = λ level place. inr (record { pointer = refl; changed = refl }) }

pub before_then : (a b c : Loaded) (level place : ℕ) → IsAsBefore a b level place → IsAsBefore b c level place → IsAsBefore a c level place
before_then a b c level place first second = record { pointer = second.pointer ∙ first.pointer; changed = second.changed ∙ first.changed }

pub leaves_then : (a b c : Loaded) → Leaves a b → Leaves b c → Leaves a c
leaves_then a b c first second = record {
  levels = second.levels ∙ first.levels;
  root = second.root ∙ first.root;
  places = λ level place. elim (second.places level place) [
    | inl hole ↦ inl hole
    | inr now ↦ elim (first.places level place) [
      | inl none ↦ inl (ap (λ (p : Pointer). p.stamp) now.pointer ∙ none)
      | inr was ↦ inr (before_then a b c level place was now)
    ]
  ];
}

pub only_leaves : (stamp : ℕ) (a b : Loaded) → Leaves a b → Alters stamp a b
only_leaves stamp a b leaves level place = elim (leaves.places level place) [
  | inl hole ↦ inl hole
  | inr was ↦ inr (inr was)
]

pub alters_then : (stamp : ℕ) (a b c : Loaded) → Alters stamp a b → Alters stamp b c → Alters stamp a c
alters_then stamp a b c first second level place = elim (second level place) [
  | inl hole ↦ inl hole
  | inr (inl now) ↦ inr (inl now)
  | inr (inr now) ↦ elim (first level place) [
    | inl none ↦ inl (ap (λ (p : Pointer). p.stamp) now.pointer ∙ none)
    | inr (inl same) ↦ inr (inl (record { stamped = ap (λ (p : Pointer). p.stamp) now.pointer ∙ same.stamped; changed = now.changed ∙ same.changed }))
    | inr (inr was) ↦ inr (inr (before_then a b c level place was now))
  ]
]

-- nothing changed, and then something did
pub leaves_alters : (stamp : ℕ) (a b c : Loaded) → Leaves a b → Alters stamp b c → Alters stamp a c
leaves_alters stamp a b c first second = alters_then stamp a b c (only_leaves stamp a b first) second

-- over other blocks, under which each pointer is the same
pub alters_over : (stamp : ℕ) (a : Loaded) (old new : Under) (t : Tree) → ((level place : ℕ) → pointer_at (standing new t) level place ≡ pointer_at (standing old t) level place) → Alters stamp a (loaded_over old t) → Alters stamp a (loaded_over new t)
alters_over stamp a old new t pointers = λ first. alters_then stamp a (loaded_over old t) (loaded_over new t) first (λ level place. inr (inr (record { pointer = pointers level place; changed = refl })))

pub leaves_blocks : (old new : Shown) (t u : Tree) → new.held ≡ old.held → Leaves (loaded old t) (loaded new u) → Leaves (loaded old t) (loaded_over (under old) u)
leaves_blocks old new t u held = subst (λ (h : fin.FinMap nat_cmp (List ℕ)). Leaves (loaded old t) (loaded_over (λ v. fin.get h v) u)) held

-- ---- what comes into memory

pub leaves_untouched : (old new : Shown) (t : Tree) → IsUntouched old new → Leaves (loaded old t) (loaded new t)
leaves_untouched old new t untouched = record {
  levels = refl;
  root = refl;
  places = λ level place. inr (record { pointer = λ j. pointer_at (standing (λ w. fin.get (untouched.held j) w) t) level place; changed = refl });
}

pub leaves_cells : (blocks : Under) (t u : Tree) → IsSameButCells t u → ((i : ℕ) → tree.get nat_cmp u.cells i ≡ tree.get nat_cmp t.cells i) → Leaves (loaded_over blocks t) (loaded_over blocks u)
leaves_cells blocks t u same cells = subst (Leaves (loaded_over blocks t)) (sym (cells_loaded blocks t u same cells)) (leaves_itself (loaded_over blocks t))

pub leaves_held : (blocks : Under) (t u : Tree) (i : ℕ) (block : List ℕ) → HoldsCell t u i block → Leaves (loaded_over blocks t) (loaded_over blocks u)
leaves_held blocks t u i block is = record {
  levels = is.fields.levels;
  root = is.fields.root;
  places = λ level place. inr (record { pointer = held_pointers t u i block is blocks level place; changed = held_changed t u i block is level place });
}

-- a node
brings_changed : (blocks : Under) (t u : Tree) (level place : ℕ) (p : Pointer) → Brings blocks t u level place p → (k q : ℕ) → ((k ≢ level) ⊎ (q ≢ place)) ⊎ (p.stamp ≢ 0) → changed_in u.nodes k q ≡ changed_in t.nodes k q
brings_changed blocks t u level place p brings = brings_seen node_changed blocks t u level place p brings (λ none read. ap node_changed read.is ∙ read.changed ∙ sym (ap node_changed none))

same_changed : (t u : Tree) (k q : ℕ) → u.cells ≡ t.cells → (1 ≤ k → changed_in u.nodes k q ≡ changed_in t.nodes k q) → changed_of u k q ≡ changed_of t k q
same_changed t u k q cells nodes = elim (cases_eq k 0) [
  | inl e ↦ changed_cell u k q e ∙ ap (λ (m : tree.BTreeMap ℕ KeptCell). cell_changed (tree.get nat_cmp m q)) cells ∙ sym (changed_cell t k q e)
  | inr low ↦ spot_changed u k q (omega arith) ∙ nodes (omega arith) ∙ sym (spot_changed t k q (omega arith))
]

pub leaves_brought : (old new : Under) (t u : Tree) (level place : ℕ) (p : Pointer) → IsSame (standing old t) (standing new u) → pointer_at (standing old t) level place ≡ p → IsSameBut t u → Brings old t u level place p
    → Leaves (loaded_over old t) (loaded_over new u)
leaves_brought old new t u level place p same at fields brings = record {
  levels = fields.levels;
  root = fields.root;
  places = λ k q. elim (cases_eq (pointer_at (standing new u) k q).stamp 0) [
    | inl none ↦ inl none
    | inr some ↦ inr (record {
      pointer = same.pointers k q;
      changed = same_changed t u k q fields.cells (λ _. brings_changed old t u level place p brings k q (elim (spot_is k q level place) [
        | inl here ↦ inr (λ none. some (ap (λ (p : Pointer). p.stamp) (same.pointers k q ∙ (λ j. pointer_at (standing old t) (here.0 j) (here.1 j)) ∙ at) ∙ none))
        | inr other ↦ inl other
      ]));
    })
  ];
}

-- a cell that was written differs from its block
pub cell_marked : (v u : Tree) (i : ℕ) → u.cells ≡ v.cells → cell_changed (tree.get nat_cmp v.cells i) ≡ true → changed_of u 0 i ≡ true
cell_marked v u i cells changed = changed_cell u 0 i refl ∙ ap (λ (m : tree.BTreeMap ℕ KeptCell). cell_changed (tree.get nat_cmp m i)) cells ∙ changed

-- ---- the way to a cell gets a stamp

module _ (blocks : Under) (v u : Tree) (i s : ℕ) (stamps : Stamps v u i s) (marks : Marks v u i) (some : s ≢ 0) (covers : i < fan ^ v.levels)
    (kept : (level : ℕ) → 1 ≤ level → level ≤ v.levels → IsKept (standing blocks v) level (i / fan ^ level)) (cell : cell_changed (tree.get nat_cmp v.cells i) ≡ true) where
  on_way : (level place : ℕ) → level ≤ v.levels → place ≡ i / fan ^ level → IsChanged s (loaded_over blocks u) level place
  on_way level place le at = record {
    stamped = ap (λ (p : Pointer). p.stamp) (marked_pointers blocks v u i s stamps marks some covers kept cell level place le ∙ on (pointer_at (standing blocks v)) i s level place at);
    changed = (λ j. changed_of u level (at j)) ∙ way_changed blocks v u i stamps.cells marks kept cell level le;
  }

  off_way : (level place : ℕ) → level ≤ v.levels → place ≢ i / fan ^ level → IsAsBefore (loaded_over blocks v) (loaded_over blocks u) level place
  off_way level place le differs = record {
    pointer = marked_pointers blocks v u i s stamps marks some covers kept cell level place le ∙ off (pointer_at (standing blocks v)) i s level place differs;
    changed = others_changed blocks v u i stamps.cells marks kept cell level place differs;
  }

  -- after what changed at most places off the way by the same change
  pub marked_alters : (a : Loaded) → ((level place : ℕ) → place ≢ i / fan ^ level → IsHole (loaded_over blocks v) level place ⊎ (IsChanged s (loaded_over blocks v) level place ⊎ IsAsBefore a (loaded_over blocks v) level place))
      → Alters s a (loaded_over blocks u)
  marked_alters a before level place = elim (cases_lt v.levels level) [
    | inl lt ↦ inl (ap (λ (p : Pointer). p.stamp) (past (standing blocks u) level place (omega (arith, lt, stamps.levels))))
    | inr le ↦ elim (cases_eq place (i / fan ^ level)) [
      | inl at ↦ inr (inl (on_way level place le at))
      | inr differs ↦ let now = off_way level place le differs in elim (before level place differs) [
        | inl none ↦ inl (ap (λ (p : Pointer). p.stamp) now.pointer ∙ none)
        | inr (inl same) ↦ inr (inl (record { stamped = ap (λ (p : Pointer). p.stamp) now.pointer ∙ same.stamped; changed = now.changed ∙ same.changed }))
        | inr (inr was) ↦ inr (inr (before_then a (loaded_over blocks v) (loaded_over blocks u) level place was now))
      ]
    ]
  ]

-- a cell within the levels gets a content before
module _ (blocks : Under) (w v u : Tree) (i s : ℕ) (named : Bool) (same : IsSameButCells w v) (own : cell_placed (tree.get nat_cmp v.cells i) ≡ (named && cell_placed (tree.get nat_cmp w.cells i)))
    (others : (j : ℕ) → j ≢ i → tree.get nat_cmp v.cells j ≡ tree.get nat_cmp w.cells j) (stamps : Stamps v u i s) (marks : Marks v u i) (some : s ≢ 0) (covers : i < fan ^ v.levels)
    (kept : (level : ℕ) → 1 ≤ level → level ≤ v.levels → IsKept (standing blocks v) level (i / fan ^ level)) (cell : cell_changed (tree.get nat_cmp v.cells i) ≡ true) where
  pub way_alters : Alters s (loaded_over blocks w) (loaded_over blocks u)
  way_alters = marked_alters blocks v u i s stamps marks some covers kept cell (loaded_over blocks w)
      (λ level place differs. inr (inr (record { pointer = cell_pointers blocks w v i named same own others level place; changed = changed_off blocks w v i named same own others level place differs })))

-- ---- another content under the stamps that there are

-- over a cell that differs from its block each place does
pub changed_up : (s : Loaded) (used : ℕ → Option Use) → IsSound used s → (i : ℕ) → StandsAt s.tree 0 i → s.changed 0 i ≡ true → (level : ℕ) → level ≤ s.tree.levels → s.changed level (i / fan ^ level) ≡ true
changed_up s used sound i stands own zero le = let first : i / fan ^ 0 ≡ i = omega arith in ap (s.changed 0) first ∙ own
changed_up s used sound i stands own (suc n) le =
    let next : n + 1 ≡ suc n = omega arith in
    ap (λ m. s.changed m (i / fan ^ m)) (sym next) ∙ ap (s.changed (n + 1)) (sym (above i n))
    ∙ sound.over n (i / fan ^ n) (changed_up s used sound i stands own n (omega (arith, le))) (marks_above s.tree n i (omega (arith, le)) stands) (omega (arith, le))

module _ (blocks : Under) (v w u : Tree) (i : ℕ) (fields : IsSameButCells v w) (own : cell_placed (tree.get nat_cmp w.cells i) ≡ cell_placed (tree.get nat_cmp v.cells i)) (others : (j : ℕ) → j ≢ i → tree.get nat_cmp w.cells j ≡ tree.get nat_cmp v.cells j)
    (but : IsSameBut w u) (nodes : (level place : ℕ) → node_in u level place ≡ node_in w level place) (marks : Marks w u i) (kept : (level : ℕ) → 1 ≤ level → level ≤ w.levels → IsKept (standing blocks w) level (i / fan ^ level))
    (cell : cell_changed (tree.get nat_cmp w.cells i) ≡ true) where
  still : (level place : ℕ) → pointer_at (standing blocks u) level place ≡ pointer_at (standing blocks v) level place
  still level place = nodes_alone (standing blocks w) (standing blocks u) but.owner refl but.levels but.root nodes level place ∙ cell_pointers blocks v w i true fields own others level place

  pub refill_leaves : ((level : ℕ) → level ≤ v.levels → changed_of v level (i / fan ^ level) ≡ true) → Leaves (loaded_over blocks v) (loaded_over blocks u)
  refill_leaves was = record {
    levels = but.levels ∙ fields.levels;
    root = but.root ∙ fields.root;
    places = λ level place. elim (cases_lt v.levels level) [
      | inl lt ↦ inl (ap (λ (p : Pointer). p.stamp) (past (standing blocks u) level place (omega (arith, lt, but.levels, fields.levels))))
      | inr le ↦ elim (cases_eq place (i / fan ^ level)) [
        | inl at ↦ inr (record {
          pointer = still level place;
          changed = (λ j. changed_of u level (at j)) ∙ way_changed blocks w u i but.cells marks kept cell level (omega (arith, le, fields.levels)) ∙ sym (was level le) ∙ sym (λ j. changed_of v level (at j));
        })
        | inr differs ↦ inr (record {
          pointer = still level place;
          changed = others_changed blocks w u i but.cells marks kept cell level place differs ∙ changed_off blocks v w i true fields own others level place differs;
        })
      ]
    ];
  }

-- what comes into memory on the way stays as changed as it was
pub way_again : (a b : Loaded) (i : ℕ) → Leaves a b → StandsAt b.tree 0 i → ((level : ℕ) → level ≤ a.tree.levels → a.changed level (i / fan ^ level) ≡ true) → (level : ℕ) → level ≤ b.tree.levels → b.changed level (i / fan ^ level) ≡ true
way_again a b i leaves stands was level le = elim (leaves.places level (i / fan ^ level)) [
  | inl none ↦ absurd (marks_above b.tree level i le stands none)
  | inr same ↦ same.changed ∙ was level (omega (arith, le, leaves.levels))
]
