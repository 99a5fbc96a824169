-- A tree of two levels with cells 0, 1 and 128 alone. It has 16,513 positions, so no listing of it computes; these laws say what is listed.
use Rattle.std.proofs.Common.{◌≡◌, ◌≢◌, ℕ, zero, suc, ◌+◌, ◌/◌, ◌%◌, ◌<◌, ◌≤◌, Bool, true, false, List, [], ◌∷◌, ◌++◌, replicate, refl, ap, ◌∙◌, arith, ⊎_elim, get_or}
use Rattle.std.specs.Prelude.{◌==◌, if◌then◌else◌, map, flat_map}
use Rattle.std.specs.List.{range_with_len}
use Rattle.std.specs.Ordering.{nat_cmp}
use Rattle.std.specs.FinMap as fin
use Rattle.std.proofs.lemmas.Bool.{cases_eq}
use Rattle.std.proofs.lemmas.Bool.Decides.{nat_tests}
use Rattle.std.proofs.lemmas.List.Concat.{flat_map-append}
use Rattle.std.proofs.lemmas.List.Folds.{flat_map-map}
use Rattle.fv_codec.specs.declared.pointer.Pointer.{Pointer}
use Rattle.fv_model.specs.Trees.{fan, Spot, spot_cmp}
use Rattle.fv_tables.specs.Spelled.{Under, Rooted, hole, stored, pointers_at, pointer_below, pointer_at, stamp_in, block_at}
use Rattle.fv_tables.specs.Told.{entry_or, listed, places, spots, tree_told, cells_told}
use Rattle.fv_tables.specs.Reached.{Item, item_of, reached_one, tree_items}
use Rattle.fv_tables.proofs.Pointers.{none_under, no_stamp, no_block}
use Rattle.fv_image.proofs.WellTrees.{in_node}

-- ---- listings of which most is empty

empty_parts : {X : Type 0} (f : ℕ → List X) (from count : ℕ) → ((k : ℕ) → from ≤ k → k < from + count → f k ≡ []) → flat_map f (range_with_len from count) ≡ []
empty_parts f from zero none = refl
empty_parts f from (suc count) none =
    let rest = empty_parts f (from + 1) count (λ k low high. none k (omega (arith, low)) (omega (arith, high))) in
    let first = none from (omega arith) (omega arith) in
    λ i. first i ++ rest i

-- the next part that needn't be empty
next_part : {X : Type 0} (f : ℕ → List X) (at from total count : ℕ) → at + suc count ≡ from + total → from ≤ at → ((k : ℕ) → from ≤ k → k < at → f k ≡ []) → flat_map f (range_with_len from total) ≡ f at ++ flat_map f (range_with_len (at + 1) count)
next_part f at from zero count sum low none = absurd (omega (arith, sum, low))
next_part f at from (suc total) count sum low none = ⊎_elim
    (λ (same : from ≡ at). let left : total ≡ count = omega (arith, sum, same) in λ i. f (same i) ++ flat_map f (range_with_len (same i + 1) (left i)))
    (λ (ne : from ≢ at).
    let rest = next_part f at (from + 1) total count (omega (arith, sum)) (omega (arith, low, ne)) (λ k low high. none k (omega (arith, low)) high) in
    let first = none from (omega arith) (omega (arith, low, ne)) in
    λ i. first i ++ rest i)
    (cases_eq from at)

-- a listing over three levels
by_level : {X : Type 0} (g : Spot → List X) (xs ys zs : List ℕ) → flat_map g (map (λ (p : ℕ). (0, p)) xs ++ (map (λ (p : ℕ). (1, p)) ys ++ (map (λ (p : ℕ). (2, p)) zs ++ [])))
    ≡ flat_map (λ p. g (0, p)) xs ++ (flat_map (λ p. g (1, p)) ys ++ (flat_map (λ p. g (2, p)) zs ++ []))
by_level g xs ys zs =
    let last = flat_map-append g (map (λ (p : ℕ). (2, p)) zs) [] ∙ ap (λ es. es ++ []) (flat_map-map g (λ (p : ℕ). (2, p)) zs) in
    let middle = flat_map-append g (map (λ (p : ℕ). (1, p)) ys) (map (λ (p : ℕ). (2, p)) zs ++ []) ∙ (λ i. flat_map-map g (λ (p : ℕ). (1, p)) ys i ++ last i) in
    flat_map-append g (map (λ (p : ℕ). (0, p)) xs) (map (λ (p : ℕ). (1, p)) ys ++ (map (λ (p : ℕ). (2, p)) zs ++ [])) ∙ (λ i. flat_map-map g (λ (p : ℕ). (0, p)) xs i ++ middle i)

-- ---- nodes with a pointer or two

only_holes : (n k : ℕ) → (get_or (replicate n hole) k hole).stamp ≡ 0
only_holes zero k = refl
only_holes (suc n) zero = refl
only_holes (suc n) (suc k) = only_holes n k

past_one : (a : Pointer) (n k : ℕ) → k ≢ 0 → (get_or (a ∷ replicate n hole) k hole).stamp ≡ 0
past_one a n zero ne = absurd (ne refl)
past_one a n (suc k) ne = only_holes n k

past_two : (a b : Pointer) (n k : ℕ) → k ≢ 0 → k ≢ 1 → (get_or (a ∷ b ∷ replicate n hole) k hole).stamp ≡ 0
past_two a b n zero ne other = absurd (ne refl)
past_two a b n (suc zero) ne other = absurd (other refl)
past_two a b n (suc (suc k)) ne other = only_holes n k

no_item : (e : Item) → e.pointer.stamp ≡ 0 → reached_one e ≡ []
no_item e none = let test : (e.pointer.stamp == 0) ≡ true = grind (arith, nat_tests, none) in ap (λ (b : Bool). if b then [] else e ∷ []) test

-- ---- the tree

-- a tree whose nodes have no other pointers
pub record IsDeep (t : Rooted) (a b c d e : Pointer) : Type 0 where
  pub levels : t.levels ≡ 2
  pub under_root : pointers_at t 2 0 (pointer_at t 2 0) ≡ a ∷ b ∷ replicate 126 hole
  pub under_first : pointers_at t 1 0 (pointer_at t 1 0) ≡ c ∷ d ∷ replicate 126 hole
  pub under_second : pointers_at t 1 1 (pointer_at t 1 1) ≡ e ∷ replicate 127 hole

module _ (under : Under) (owner : ℕ) (root a b c d e : Pointer) (is : IsDeep (stored under owner 2 root) a b c d e) where
  abbrev tree : Rooted
  tree = stored under owner 2 root

  -- the stamp at a place, by the pointers of the node over it
  stamp_below : (level place node at : ℕ) (ps : List Pointer) → place / fan ≡ node → place % fan ≡ at → pointers_at tree level node (pointer_at tree level node) ≡ ps
      → (get_or (pointers_at tree level (place / fan) (pointer_at tree level (place / fan))) (place % fan) hole).stamp ≡ (get_or ps at hole).stamp
  stamp_below level place node at ps over within are =
      ap (λ (q : ℕ). (get_or (pointers_at tree level q (pointer_at tree level q)) (place % fan) hole).stamp) over
      ∙ ap (λ (k : ℕ). (get_or (pointers_at tree level node (pointer_at tree level node)) k hole).stamp) within
      ∙ ap (λ (qs : List Pointer). (get_or qs at hole).stamp) are

  level_two : (place : ℕ) → place ≢ 0 → (pointer_at tree 2 place).stamp ≡ 0
  unfolding pointer_at pointer_below
  level_two place ne = let test : (place == 0) ≡ false = grind (arith, nat_tests) in ap (λ (b : Bool). (if b then root else hole).stamp) test

  level_one : (place : ℕ) → place ≢ 0 → place ≢ 1 → (pointer_at tree 1 place).stamp ≡ 0
  level_one place ne other = ap (λ (p : Pointer). p.stamp) (in_node tree 1 place (omega arith)) ∙ ⊎_elim
      (λ (low : place / fan ≡ 0).
      let same : place % fan ≡ place = omega (arith, low) in
      stamp_below 2 place 0 place (a ∷ b ∷ replicate 126 hole) low same is.under_root ∙ past_two a b 126 place ne other)
      (λ (high : place / fan ≢ 0). ap (λ (ps : List Pointer). (get_or ps (place % fan) hole).stamp) (none_under tree 2 (place / fan) (pointer_at tree 2 (place / fan)) (level_two (place / fan) high)))
      (cases_eq (place / fan) 0)

  level_zero : (i : ℕ) → i ≢ 0 → i ≢ 1 → i ≢ 128 → (pointer_at tree 0 i).stamp ≡ 0
  level_zero i ne other last = ap (λ (p : Pointer). p.stamp) (in_node tree 0 i (omega arith)) ∙ ⊎_elim
      (λ (low : i / fan ≡ 0).
      let same : i % fan ≡ i = omega (arith, low) in
      stamp_below 1 i 0 i (c ∷ d ∷ replicate 126 hole) low same is.under_first ∙ past_two c d 126 i ne other)
      (λ (high : i / fan ≢ 0). ⊎_elim
      (λ (second : i / fan ≡ 1).
      let rest : i % fan ≢ 0 = λ none. last (omega (arith, second, none)) in
      stamp_below 1 i 1 (i % fan) (e ∷ replicate 127 hole) second refl is.under_second ∙ past_one e 127 (i % fan) rest)
      (λ (far : i / fan ≢ 1). ap (λ (ps : List Pointer). (get_or ps (i % fan) hole).stamp) (none_under tree 1 (i / fan) (pointer_at tree 1 (i / fan)) (level_one (i / fan) high far)))
      (cases_eq (i / fan) 1))
      (cases_eq (i / fan) 0)

  -- ---- what is listed over its positions

  over_cells : {X : Type 0} (f : ℕ → List X) → ((i : ℕ) → (pointer_at tree 0 i).stamp ≡ 0 → f i ≡ []) → flat_map f (range_with_len 0 16384) ≡ f 0 ++ (f 1 ++ (f 128 ++ []))
  over_cells f none =
      let past = empty_parts f 129 16255 (λ k low high. none k (level_zero k (omega (arith, low)) (omega (arith, low)) (omega (arith, low)))) in
      let third = next_part f 128 2 16382 16255 (omega arith) (omega arith) (λ k low high. none k (level_zero k (omega (arith, low)) (omega (arith, low)) (omega (arith, high)))) ∙ ap (λ es. f 128 ++ es) past in
      let second = next_part f 1 1 16383 16382 (omega arith) (omega arith) (λ k low high. absurd (omega (arith, low, high))) ∙ ap (λ es. f 1 ++ es) third in
      next_part f 0 0 16384 16383 (omega arith) (omega arith) (λ k low high. absurd (omega (arith, high))) ∙ ap (λ es. f 0 ++ es) second

  over_marks : {X : Type 0} (f : ℕ → List X) → ((i : ℕ) → (pointer_at tree 1 i).stamp ≡ 0 → f i ≡ []) → flat_map f (range_with_len 0 128) ≡ f 0 ++ (f 1 ++ [])
  over_marks f none =
      let past = empty_parts f 2 126 (λ k low high. none k (level_one k (omega (arith, low)) (omega (arith, low)))) in
      let second = next_part f 1 1 127 126 (omega arith) (omega arith) (λ k low high. absurd (omega (arith, low, high))) ∙ ap (λ es. f 1 ++ es) past in
      next_part f 0 0 128 127 (omega arith) (omega arith) (λ k low high. absurd (omega (arith, high))) ∙ ap (λ es. f 0 ++ es) second

  over_spots : {X : Type 0} (f : ℕ → ℕ → List X) → ((level place : ℕ) → (pointer_at tree level place).stamp ≡ 0 → f level place ≡ [])
      → flat_map (λ (s : Spot). f s.0 s.1) (spots 2) ≡ (f 0 0 ++ (f 0 1 ++ (f 0 128 ++ []))) ++ ((f 1 0 ++ (f 1 1 ++ [])) ++ ((f 2 0 ++ []) ++ []))
  unfolding spots
  over_spots f none = by_level (λ (s : Spot). f s.0 s.1) (places 2 0) (places 2 1) (places 2 2)
      ∙ (λ i. over_cells (f 0) (none 0) i ++ (over_marks (f 1) (none 1) i ++ ((f 2 0 ++ []) ++ [])))

  -- the tree that is told
  pub deep_tree : tree_told tree ≡ record {
    levels = 2;
    stamps = fin.from_entries {R = spot_cmp} ((entry_or (0, 0) (stamp_in (pointer_at tree 0 0)) ++ (entry_or (0, 1) (stamp_in (pointer_at tree 0 1)) ++ (entry_or (0, 128) (stamp_in (pointer_at tree 0 128)) ++ [])))
        ++ ((entry_or (1, 0) (stamp_in (pointer_at tree 1 0)) ++ (entry_or (1, 1) (stamp_in (pointer_at tree 1 1)) ++ [])) ++ ((entry_or (2, 0) (stamp_in (pointer_at tree 2 0)) ++ []) ++ [])));
  }
  unfolding tree_told listed
  deep_tree = ap (λ (es : List (Spot × ℕ)). record { levels = 2; stamps = fin.from_entries {R = spot_cmp} es })
      (over_spots (λ level place. entry_or (level, place) (stamp_in (pointer_at tree level place))) (λ level place none. ap (entry_or (level, place)) (no_stamp (pointer_at tree level place) none)))

  -- and its cells
  pub deep_cells : cells_told tree ≡ fin.from_entries {R = nat_cmp} (entry_or 0 (block_at tree 0) ++ (entry_or 1 (block_at tree 1) ++ (entry_or 128 (block_at tree 128) ++ [])))
  unfolding cells_told listed
  deep_cells = ap (fin.from_entries {R = nat_cmp}) (over_cells (λ i. entry_or i (block_at tree i)) (λ i none. ap (entry_or i) (no_block tree i none)))

  -- and what it reaches
  pub deep_items : (top : Pointer) → tree_items top tree ≡ (reached_one (item_of top tree 0 0) ++ (reached_one (item_of top tree 0 1) ++ (reached_one (item_of top tree 0 128) ++ [])))
      ++ ((reached_one (item_of top tree 1 0) ++ (reached_one (item_of top tree 1 1) ++ [])) ++ ((reached_one (item_of top tree 2 0) ++ []) ++ []))
  unfolding tree_items
  deep_items top = over_spots (λ level place. reached_one (item_of top tree level place)) (λ level place none. no_item (item_of top tree level place) none)
