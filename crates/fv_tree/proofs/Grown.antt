-- The nodes of new levels.
use Rattle.std.proofs.Common.{◌≡◌, ◌≢◌, ◌≤◌, ◌<◌, ℕ, ◌+◌, ◌/◌, ◌^◌, ◌⊎◌, inl, inr, List, Some, get_or, length, replicate, slice_set, sym, ap, ◌∙◌, arith}
use Rattle.std.proofs.lemmas.Bool.{cases_eq}
use Rattle.std.proofs.lemmas.List.{get_or-set_same, get_or-set_other, length-replicate}
use Rattle.fv_codec.specs.declared.pointer.Pointer.{Pointer}
use Rattle.fv_model.specs.Trees.{fan}
use Rattle.fv_tree.specs.declared.kept.Tree.{Tree}
use Rattle.fv_tree.specs.Spelled.{hole}
use Rattle.fv_tree.specs.Standing.{node_in}
use Rattle.fv_tree.specs.Writing.{IsGrownNode, HasNewLevels, HasOldNodes, new_child}
use Rattle.fv_tree.proofs.Held.{IsPut, put_there, put_elsewhere}
use Rattle.fv_tree.proofs.Levels.{not_first, fan_pos}
use Rattle.fv_tree.proofs.Ways.{nothing_there}

first_child : (p : Pointer) → get_or (slice_set (replicate 128 hole) 0 p) 0 hole ≡ p
first_child p = get_or-set_same (replicate 128 hole) 0 p hole (omega (arith, length-replicate {A = Pointer} 128 hole))

other_child : (p : Pointer) (slot : ℕ) → slot ≢ 0 → get_or (slice_set (replicate 128 hole) 0 p) slot hole ≡ hole
other_child p slot differs = get_or-set_other (replicate 128 hole) 0 slot p hole differs ∙ nothing_there slot

-- one more new level
pub one_grown : (s t u : Tree) (stamp below : ℕ) (p : Pointer) (xs : List Pointer) → IsPut t u (below + 1) 0 xs → xs ≡ slice_set (replicate 128 hole) 0 p → length xs ≡ 128
    → (below ≡ s.levels → p ≡ s.root) → (below ≢ s.levels → p ≡ new_child stamp)
    → ((level : ℕ) → s.levels < level → level ≤ below → IsGrownNode s t stamp level)
    → (level : ℕ) → s.levels < level → level ≤ below + 1 → IsGrownNode s u stamp level
one_grown s t u stamp below p xs put is long lowest higher grown level lt le = elim (cases_eq level (below + 1)) [
  | inl same ↦ record {
    pointers = xs;
    node = ap (λ k. node_in u k 0) same ∙ put_there t u (below + 1) 0 xs put;
    long = long;
    lowest = λ e. ap (λ (ys : List Pointer). get_or ys 0 hole) is ∙ first_child p ∙ lowest (omega arith);
    higher = λ e. ap (λ (ys : List Pointer). get_or ys 0 hole) is ∙ first_child p ∙ higher (λ f. e (omega (arith, f, same)));
    others = λ slot differs. ap (λ (ys : List Pointer). get_or ys slot hole) is ∙ other_child p slot differs;
  }
  | inr differs ↦ let was = grown level lt (omega arith) in record {
    pointers = was.pointers;
    node = put_elsewhere t u (below + 1) 0 xs put level 0 (inl differs) ∙ was.node;
    long = was.long;
    lowest = was.lowest;
    higher = was.higher;
    others = was.others;
  }
]

pub not_grown : (s t u : Tree) (below : ℕ) (xs : List Pointer) → IsPut t u (below + 1) 0 xs → s.levels ≤ below
    → ((level place : ℕ) → (level ≤ s.levels) ⊎ (place ≢ 0) → node_in t level place ≡ node_in s level place)
    → (level place : ℕ) → (level ≤ s.levels) ⊎ (place ≢ 0) → node_in u level place ≡ node_in s level place
not_grown s t u below xs put high others level place (inl le) = put_elsewhere t u (below + 1) 0 xs put level place (inl (omega (arith, le, high))) ∙ others level place (inl le)
not_grown s t u below xs put high others level place (inr differs) = put_elsewhere t u (below + 1) 0 xs put level place (inr differs) ∙ others level place (inr differs)

pub old_nodes : (s t u : Tree) (i : ℕ) → s.levels ≡ t.levels
    → ((level place : ℕ) → place ≢ i / fan ^ level → node_in t level place ≡ node_in s level place)
    → ((level place : ℕ) → (level ≤ t.levels) ⊎ (place ≢ 0) → node_in u level place ≡ node_in t level place)
    → HasOldNodes s u i
old_nodes s t u i same_levels others kept = λ level place le differs. kept level place (inl (omega (arith, le, same_levels))) ∙ others level place differs

-- the nodes of new levels, from the calls that put them into memory
pub new_levels : (s t u : Tree) (levels i stamp : ℕ) → s.levels ≡ t.levels → s.root ≡ t.root → s.root.stamp ≢ 0 → fan ^ s.levels ≤ i → ((level : ℕ) → level < levels → fan ^ level ≤ i)
    → ((level : ℕ) → 1 ≤ level → level ≤ levels → node_in t level (i / fan ^ level) ≡ Some (replicate 128 hole))
    → ((level place : ℕ) → place ≢ i / fan ^ level → node_in t level place ≡ node_in s level place)
    → ((level : ℕ) → t.levels < level → level ≤ levels → IsGrownNode t u stamp level)
    → ((level place : ℕ) → (level ≤ t.levels) ⊎ (place ≢ 0) → node_in u level place ≡ node_in t level place)
    → HasNewLevels s u levels i stamp
new_levels s t u levels i stamp same_levels same_root some past least way others grown kept = record {
  old_nodes = old_nodes s t u i same_levels others kept;
  way = λ level low high first. elim first [
    | inl lt ↦ kept level (i / fan ^ level) (inr (not_first i (fan ^ level) (fan_pos level) (least level lt))) ∙ way level low high
    | inr none ↦ absurd (some none)
  ];
  grown = λ _ level lt le. let was = grown level (omega (arith, lt, same_levels)) le in record {
    pointers = was.pointers;
    node = was.node;
    long = was.long;
    lowest = λ e. was.lowest (omega (arith, e, same_levels)) ∙ sym same_root;
    higher = λ e. was.higher (λ f. e (omega (arith, f, same_levels)));
    others = was.others;
  };
}
