-- What calls do to the places of a table's trees, tree by tree.
use Rattle.std.proofs.Common.{◌≡◌, ◌≢◌, ◌⊎◌, inl, inr, ℕ, ◌/◌, ◌^◌, true, false, sym, ap, subst, ◌∙◌}
use Rattle.std.specs.Prelude.{Option, Some, None, is_some}
use Rattle.std.proofs.lemmas.Bool.{both_ways}
use Rattle.fv_codec.specs.declared.inode.InodeRecord.{InodeRecord}
use Rattle.fv_codec.specs.declared.pointer.Pointer.{Pointer}
use Rattle.fv_model.specs.Trees.{fan}
use Rattle.fv_tables.specs.Spelled.{Under, Rooted, block_at, pointer_at}
use Rattle.fv_tables.specs.Told.{records_each, file_at}
use Rattle.fv_tree.specs.declared.kept.Tree.{Tree}
use Rattle.fv_tree.specs.Standing.{standing}
use Rattle.fv_tree.specs.Flushing.{Loaded, changed_of, loaded_over}
use Rattle.fv_tree.specs.Altering.{Alters, Leaves, PlacesAnew}
use Rattle.fv_tree.specs.Beside.{unread}
use Rattle.fv_tree.proofs.Altered.{alters_then, leaves_itself, leaves_then, only_leaves}
use Rattle.fv_tree.proofs.Anew.{anew_then}
use Rattle.fv_tree.proofs.Cases.{false_is_true}
use Rattle.fv_tree.proofs.Held.{at_root}
use Rattle.fv_tree.proofs.Levels.{fan_pos}
use Rattle.fv_tree.proofs.Writes.{block_none, none_at}
use Rattle.fv_inode.proofs.Slots.{block_there}
use Rattle.fv_files.specs.declared.files.Files.{Files}
use Rattle.fv_files.specs.Apart.{Trees}
use Rattle.fv_files.specs.Tables.{tree_in}
use Rattle.fv_files.specs.Altering.{AltersIn, AltersTrees, AreLaid, LeavesIn, LeavesTrees, MatchesRecord, PlacesIn, PlacesTrees}

-- ---- one tree

-- a change left a tree that was there
abbrev pub AltersBoth : ℕ → Option Loaded → Option Loaded → Type 0
AltersBoth s None None = Unit {0}
AltersBoth s None (Some b) = ⊥
AltersBoth s (Some a) None = ⊥
AltersBoth s (Some a) (Some b) = Alters s a b

pub leaves_in_itself : (o : Option Loaded) → LeavesIn o o
leaves_in_itself None = tt
leaves_in_itself (Some a) = leaves_itself a

pub leaves_in_then : (o p q : Option Loaded) → LeavesIn o p → LeavesIn p q → LeavesIn o q
leaves_in_then None None None first second = tt
leaves_in_then None None (Some c) first second = absurd second
leaves_in_then None (Some b) q first second = absurd first
leaves_in_then (Some a) None q first second = absurd first
leaves_in_then (Some a) (Some b) None first second = absurd second
leaves_in_then (Some a) (Some b) (Some c) first second = leaves_then a b c first second

pub leaves_both : (s : ℕ) (o p : Option Loaded) → LeavesIn o p → AltersBoth s o p
leaves_both s None None is = tt
leaves_both s None (Some b) is = absurd is
leaves_both s (Some a) None is = absurd is
leaves_both s (Some a) (Some b) is = only_leaves s a b is

pub both_then : (s : ℕ) (o p q : Option Loaded) → AltersBoth s o p → AltersBoth s p q → AltersBoth s o q
both_then s None None None first second = tt
both_then s None None (Some c) first second = absurd second
both_then s None (Some b) q first second = absurd first
both_then s (Some a) None q first second = absurd first
both_then s (Some a) (Some b) None first second = absurd second
both_then s (Some a) (Some b) (Some c) first second = alters_then s a b c first second

pub both_in_then : (s : ℕ) (o p q : Option Loaded) → AltersBoth s o p → AltersIn s p q → AltersIn s o q
both_in_then s o p None first second = tt
both_in_then s None None (Some c) first second = second
both_in_then s None (Some b) (Some c) first second = absurd first
both_in_then s (Some a) None (Some c) first second = absurd first
both_in_then s (Some a) (Some b) (Some c) first second = alters_then s a b c first second

pub both_in : (s : ℕ) (o p : Option Loaded) → AltersBoth s o p → AltersIn s o p
both_in s o None is = tt
both_in s None (Some b) is = absurd is
both_in s (Some a) (Some b) is = is

pub leaves_places : (free : ℕ → Type 0) (o p : Option Loaded) → LeavesIn o p → PlacesIn free o p
leaves_places free None None is = tt
leaves_places free None (Some b) is = absurd is
leaves_places free (Some a) None is = absurd is
leaves_places free (Some a) (Some b) is = λ level place. elim (is.places level place) [
  | inl none ↦ inl none
  | inr before ↦ inr (inr before)
]

pub places_in_then : (first_free next_free free : ℕ → Type 0) → ((v : ℕ) → first_free v → free v) → ((v : ℕ) → next_free v → free v) → (o p q : Option Loaded) → PlacesIn first_free o p → PlacesIn next_free p q → PlacesIn free o q
places_in_then first_free next_free free sooner later None None None first second = tt
places_in_then first_free next_free free sooner later None None (Some c) first second = absurd second
places_in_then first_free next_free free sooner later None (Some b) q first second = absurd first
places_in_then first_free next_free free sooner later (Some a) None q first second = absurd first
places_in_then first_free next_free free sooner later (Some a) (Some b) None first second = absurd second
places_in_then first_free next_free free sooner later (Some a) (Some b) (Some c) first second = anew_then a b c first_free next_free free sooner later first second

-- a tree without a place
pub blank_alters : (s : ℕ) (o : Option Loaded) (t : Rooted) → t.root.stamp ≡ 0 → AltersIn s o (Some (unread t))
blank_alters s None t none = λ level place. none_at t none level place
blank_alters s (Some a) t none = λ level place. inl (none_at t none level place)

-- trees that are known
pub leaves_as : (o p : Option Loaded) (a b : Loaded) → o ≡ Some a → p ≡ Some b → Leaves a b → LeavesIn o p
leaves_as o p a b was now is = subst (λ (q : Option Loaded). LeavesIn q p) (sym was) (subst (LeavesIn (Some a)) (sym now) is)

pub leaves_of : (o p : Option Loaded) (a b : Loaded) → o ≡ Some a → p ≡ Some b → LeavesIn o p → Leaves a b
leaves_of o p a b was now is = subst (LeavesIn (Some a)) now (subst (λ (q : Option Loaded). LeavesIn q p) was is)

pub both_as : (s : ℕ) (o p : Option Loaded) (a b : Loaded) → o ≡ Some a → p ≡ Some b → Alters s a b → AltersBoth s o p
both_as s o p a b was now is = subst (λ (q : Option Loaded). AltersBoth s q p) (sym was) (subst (AltersBoth s (Some a)) (sym now) is)

pub places_as : (free : ℕ → Type 0) (o p : Option Loaded) (a b : Loaded) → o ≡ Some a → p ≡ Some b → PlacesAnew a free b → PlacesIn free o p
places_as free o p a b was now is = subst (λ (q : Option Loaded). PlacesIn free q p) (sym was) (subst (PlacesIn free (Some a)) (sym now) is)

-- ---- all trees

pub leaves_trees_then : (x y z : Trees) → LeavesTrees x y → LeavesTrees y z → LeavesTrees x z
leaves_trees_then x y z first second a = leaves_in_then (x a) (y a) (z a) (first a) (second a)

pub leaves_alters_trees : (s : ℕ) (x y z : Trees) → LeavesTrees x y → AltersTrees s y z → AltersTrees s x z
leaves_alters_trees s x y z first second a = both_in_then s (x a) (y a) (z a) (leaves_both s (x a) (y a) (first a)) (second a)

pub only_leaves_trees : (s : ℕ) (x y : Trees) → LeavesTrees x y → AltersTrees s x y
only_leaves_trees s x y is a = both_in s (x a) (y a) (leaves_both s (x a) (y a) (is a))

pub places_trees_then : (first_free next_free free : ℕ → Type 0) → ((v : ℕ) → first_free v → free v) → ((v : ℕ) → next_free v → free v) → (x y z : Trees) → PlacesTrees first_free x y → PlacesTrees next_free y z → PlacesTrees free x z
places_trees_then first_free next_free free sooner later x y z first second a = places_in_then first_free next_free free sooner later (x a) (y a) (z a) (first a) (second a)

pub leaves_places_trees : (free : ℕ → Type 0) (x y : Trees) → LeavesTrees x y → PlacesTrees free x y
leaves_places_trees free x y is a = leaves_places free (x a) (y a) (is a)

-- ---- trees that are as their records say

-- a place that leads nowhere or has its block's content stays so where nothing of it changes
still_after : (a b : Loaded) (level place : ℕ) → pointer_at b.tree level place ≡ pointer_at a.tree level place → b.changed level place ≡ a.changed level place
    → ((pointer_at a.tree level place).stamp ≡ 0) ⊎ (a.changed level place ≡ false) → ((pointer_at b.tree level place).stamp ≡ 0) ⊎ (b.changed level place ≡ false)
still_after a b level place pointer changed (inl none) = inl (ap (λ (p : Pointer). p.stamp) pointer ∙ none)
still_after a b level place pointer changed (inr same) = inr (changed ∙ same)

pub leaves_match : (a b : Loaded) (r : InodeRecord) → Leaves a b → MatchesRecord a r → MatchesRecord b r
leaves_match a b r leaves is = record {
  levels = leaves.levels ∙ is.levels;
  root = leaves.root ∙ is.root;
  still = λ level place. elim (leaves.places level place) [
    | inl none ↦ inl none
    | inr before ↦ still_after a b level place before.pointer before.changed (is.still level place)
  ];
}

-- a flush leaves such a tree
pub places_match : (a b : Loaded) (free : ℕ → Type 0) (r : InodeRecord) → b.tree.levels ≡ a.tree.levels → ((level place : ℕ) → (pointer_at b.tree level place).stamp ≡ (pointer_at a.tree level place).stamp) → (a.tree.root.stamp ≡ 0 → b.tree.root ≡ a.tree.root)
    → PlacesAnew a free b → MatchesRecord a r → MatchesRecord b r
places_match a b free r levels stamps root places is = record {
  levels = levels ∙ is.levels;
  root = root_same ∙ is.root;
  still = λ level place. elim (places level place) [
    | inl none ↦ inl none
    | inr (inl anew) ↦ elim (is.still level place) [
      | inl none ↦ inl (anew.stamp ∙ none)
      | inr same ↦ false_is_true (a.changed level place) same anew.was
    ]
    | inr (inr before) ↦ still_after a b level place before.pointer before.changed (is.still level place)
  ];
}
  where
    top : ℕ
    top = 0 / fan ^ a.tree.levels

    was : a.tree.root ≡ pointer_at a.tree a.tree.levels top
    was = at_root a.tree 0 (fan_pos a.tree.levels)

    now : b.tree.root ≡ pointer_at b.tree a.tree.levels top
    now = at_root b.tree 0 (fan_pos b.tree.levels) ∙ (λ i. pointer_at b.tree (levels i) (0 / fan ^ levels i))

    bare : (pointer_at a.tree a.tree.levels top).stamp ≡ 0 → b.tree.root ≡ a.tree.root
    bare none = root (ap (λ (p : Pointer). p.stamp) was ∙ none)

    root_same : b.tree.root ≡ a.tree.root
    root_same = elim (places a.tree.levels top) [
      | inl none ↦ bare (sym (stamps a.tree.levels top) ∙ none)
      | inr (inl anew) ↦ elim (is.still a.tree.levels top) [
        | inl none ↦ bare none
        | inr same ↦ false_is_true (a.changed a.tree.levels top) same anew.was
      ]
      | inr (inr before) ↦ now ∙ before.pointer ∙ sym was
    ]

-- the inode cell of a file stands
pub cell_stands : (t : Rooted) (k : ℕ) (q : InodeRecord) → file_at t k ≡ Some q → (pointer_at t 0 (k / records_each)).stamp ≢ 0
cell_stands t k q is none = absurd (both_ways (is_some (block_at t (k / records_each))) (ap is_some (block_none t (k / records_each) none)) (block_there t k (ap is_some is)))

-- one that had changed still has
pub still_changed : (s : ℕ) (old new : Under) (t u : Tree) (k : ℕ) (q : InodeRecord) → Alters s (loaded_over old t) (loaded_over new u) → file_at (standing new u) k ≡ Some q → changed_of t 0 (k / records_each) ≡ true → changed_of u 0 (k / records_each) ≡ true
still_changed s old new t u k q alters is before = elim (alters 0 (k / records_each)) [
  | inl none ↦ absurd (cell_stands (standing new u) k q is none)
  | inr (inl now) ↦ now.changed
  | inr (inr same) ↦ same.changed ∙ before
]

-- a tree in memory stays as it was, with its record
pub record IsLeftLaid (old new : Under) (f g : Files) (k : ℕ) (u : Tree) (q : InodeRecord) : Type 0 where
  pub tree : Tree
  pub was : tree_in f k ≡ Some tree
  pub file : file_at (standing old f.inode.tree) k ≡ Some q
  pub leaves : Leaves (loaded_over old tree) (loaded_over new u)
  pub cell : changed_of f.inode.tree 0 (k / records_each) ≡ true → changed_of g.inode.tree 0 (k / records_each) ≡ true

-- so each is as its record says, or its inode cell changed
pub laid_by : (old new : Under) (f g : Files) → AreLaid old f
    → ((k : ℕ) (u : Tree) (q : InodeRecord) → tree_in g k ≡ Some u → file_at (standing new g.inode.tree) k ≡ Some q → (changed_of g.inode.tree 0 (k / records_each) ≡ true) ⊎ IsLeftLaid old new f g k u q) → AreLaid new g
laid_by old new f g laid from k u q is at = elim (from k u q is at) [
  | inl marked ↦ inl marked
  | inr left ↦ elim (laid k left.tree q left.was left.file) [
    | inl before ↦ inl (left.cell before)
    | inr matches ↦ inr (leaves_match (loaded_over old left.tree) (loaded_over new u) q left.leaves matches)
  ]
]

-- none is in memory
pub none_laid : (blocks : Under) (f : Files) → ((n : ℕ) → tree_in f n ≡ None) → AreLaid blocks f
none_laid blocks f none n t r is at = absurd (both_ways (is_some (tree_in f n)) (ap is_some (none n)) (ap is_some is))
