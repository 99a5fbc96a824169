-- What a table reaches, item by item: a test of all items is one of each position, and tables under which the same blocks stand
-- reach the same.
use Rattle.std.proofs.Common.{◌≡◌, ◌≢◌, ℕ, ◌+◌, ◌-◌, ◌*◌, ◌/◌, ◌^◌, ◌<◌, ◌≤◌, Bool, true, false, not, List, [], ◌∷◌, ◌++◌, refl, sym, ap, subst, ◌∙◌, arith, ⊎_elim}
use Rattle.std.specs.Prelude.{Option, Some, None, ◌&&◌, ◌||◌, ◌==◌, nat_lt, map, flat_map, if◌then◌else◌}
use Rattle.std.specs.List.{list_all, list_any}
use Rattle.std.proofs.lemmas.Bool.{cases_eq, cases_lt, and_parts}
use Rattle.std.proofs.lemmas.Bool.Decides.{nat_tests}
use Rattle.std.proofs.lemmas.List.Folds.{list_all-append}
use Rattle.fv_codec.specs.declared.pointer.Pointer.{Pointer}
use Rattle.fv_codec.specs.declared.inode.InodeRecord.{InodeRecord}
use Rattle.fv_model.specs.Trees.{fan, Spot}
use Rattle.fv_tables.specs.Spelled.{Under, Rooted, hole, stored, pointer_at}
use Rattle.fv_tables.specs.Told.{Standing, standing_at, records_each, places, spots, file_at, tree_of, numbers}
use Rattle.fv_tables.specs.Reached.{Item, item_of, reached_one, tree_items, file_items, items, is_listed}
use Rattle.fv_tables.specs.Kept.{over, AgreeOnTree, AgreeOnTable}
use Rattle.fv_tables.proofs.Lists.{both, all_in_range, all_of_range, all_in_part, all_of_parts, all_in_map, all_flat}
use Rattle.fv_tables.proofs.Pointers.{past, above, same_pointer}
use Rattle.fv_tables.proofs.Tables.{same_record, no_file}

-- ---- a test of the items of a tree

module _ (test : Item → Bool) where
  all_one : (e : Item) → list_all test (reached_one e) ≡ true → e.pointer.stamp ≢ 0 → test e ≡ true
  all_one e all some =
      let stands : (e.pointer.stamp == 0) ≡ false = grind (arith, nat_tests) in
      let here : list_all test (e ∷ []) ≡ true = subst (λ (b : Bool). list_all test (if b then [] else e ∷ []) ≡ true) stands all in
      (and_parts (test e) true here).0

  one_all : (e : Item) → (e.pointer.stamp ≢ 0 → test e ≡ true) → list_all test (reached_one e) ≡ true
  one_all e each = ⊎_elim
      (λ (none : e.pointer.stamp ≡ 0). let b : (e.pointer.stamp == 0) ≡ true = grind (arith, nat_tests) in rw b refl)
      (λ (some : e.pointer.stamp ≢ 0). let b : (e.pointer.stamp == 0) ≡ false = grind (arith, nat_tests) in rw b (both (test e) true (each some) refl))
      (cases_eq e.pointer.stamp 0)

  module _ (top : Pointer) (t : Rooted) where
    abbrev part : Spot → List Item
    part spot = reached_one (item_of top t spot.0 spot.1)

    -- a position whose pointer stands is one of the tree's
    inside : (level place : ℕ) → (pointer_at t level place).stamp ≢ 0 → (level ≤ t.levels) × (place < fan ^ (t.levels - level))
    inside level place some = ⊎_elim
        (λ (high : t.levels < level). absurd (some (ap (λ (p : Pointer). p.stamp) (above t level place high))))
        (λ (low : level ≤ t.levels). ⊎_elim
        (λ (within : place < fan ^ (t.levels - level)). (low, within))
        (λ far. absurd (some (ap (λ (p : Pointer). p.stamp) (past t level place far))))
        (cases_lt place (fan ^ (t.levels - level))))
        (cases_lt t.levels level)

    -- of all items, it is one of each position
    pub at_position : list_all test (tree_items top t) ≡ true → (level place : ℕ) → (pointer_at t level place).stamp ≢ 0 → test (item_of top t level place) ≡ true
    unfolding tree_items spots
    at_position all level place some =
        let at = inside level place some in
        let spotted = sym (all_flat test part (spots t.levels)) ∙ all in
        let row = all_in_part (λ spot. list_all test (part spot)) (λ k. map (λ q. (k, q)) (places t.levels k)) level 0 (t.levels + 1) spotted (omega arith) (omega (arith, at.0)) in
        let flat = sym (all_in_map (λ spot. list_all test (part spot)) (λ q. (level, q)) (places t.levels level)) ∙ row in
        all_one (item_of top t level place) (all_in_range (λ q. list_all test (part (level, q))) place 0 (fan ^ (t.levels - level)) flat (omega arith) (omega (arith, at.1))) some

    pub from_positions : ((level place : ℕ) → (pointer_at t level place).stamp ≢ 0 → test (item_of top t level place) ≡ true) → list_all test (tree_items top t) ≡ true
    unfolding tree_items spots
    from_positions each = all_flat test part (spots t.levels)
        ∙ all_of_parts (λ spot. list_all test (part spot)) (λ k. map (λ q. (k, q)) (places t.levels k)) 0 (t.levels + 1) (λ level low high.
        all_in_map (λ spot. list_all test (part spot)) (λ q. (level, q)) (places t.levels level)
        ∙ all_of_range (λ q. list_all test (part (level, q))) 0 (fan ^ (t.levels - level)) (λ place low high. one_all (item_of top t level place) (each level place)))

  -- ---- and of those of a table

  -- the pointer to the block that has the record of a file
  abbrev top_of : Standing → ℕ → Pointer
  top_of x n = pointer_at x.inode 0 (n / records_each)

  module _ (x : Standing) where
    inode_all : list_all test (items x) ≡ true → list_all test (tree_items hole x.inode) ≡ true
    unfolding items
    inode_all all = (and_parts (list_all test (tree_items hole x.inode)) _ (sym (list_all-append test (tree_items hole x.inode) (flat_map (λ n. file_items x n (file_at x.inode n)) (numbers x))) ∙ all)).0

    pub at_inode : list_all test (items x) ≡ true → (level place : ℕ) → (pointer_at x.inode level place).stamp ≢ 0 → test (item_of hole x.inode level place) ≡ true
    at_inode all = at_position hole x.inode (inode_all all)

    -- a number with a record is one of the table's
    pub number_within : (n : ℕ) (r : InodeRecord) → file_at x.inode n ≡ Some r → n < records_each * fan ^ x.inode.levels
    number_within n r is = ⊎_elim
        (λ (within : n < records_each * fan ^ x.inode.levels). within)
        (λ far. absurd (none_is r (sym (no_file x.inode n far) ∙ is)))
        (cases_lt n (records_each * fan ^ x.inode.levels))
      where
        none_is : (r : InodeRecord) → ◌≡◌ {A = Option InodeRecord} None (Some r) → ⊥
        none_is r e = cc

    pub at_file : list_all test (items x) ≡ true → (n : ℕ) (r : InodeRecord) → file_at x.inode n ≡ Some r
        → (level place : ℕ) → (pointer_at (tree_of x n r) level place).stamp ≢ 0 → test (item_of (top_of x n) (tree_of x n r) level place) ≡ true
    unfolding items
    at_file all n r is =
        let rest = (and_parts (list_all test (tree_items hole x.inode)) _ (sym (list_all-append test (tree_items hole x.inode) (flat_map (λ n. file_items x n (file_at x.inode n)) (numbers x))) ∙ all)).1 in
        let one = all_in_part test (λ n. file_items x n (file_at x.inode n)) n 0 (records_each * fan ^ x.inode.levels) rest (omega arith) (omega (arith, number_within n r is)) in
        at_position (top_of x n) (tree_of x n r) (subst (λ (o : Option InodeRecord). list_all test (file_items x n o) ≡ true) is one)

    pub from_trees : ((level place : ℕ) → (pointer_at x.inode level place).stamp ≢ 0 → test (item_of hole x.inode level place) ≡ true)
        → ((n : ℕ) (r : InodeRecord) → file_at x.inode n ≡ Some r → (level place : ℕ) → (pointer_at (tree_of x n r) level place).stamp ≢ 0 → test (item_of (top_of x n) (tree_of x n r) level place) ≡ true)
        → list_all test (items x) ≡ true
    unfolding items
    from_trees inode files = list_all-append test (tree_items hole x.inode) (flat_map (λ n. file_items x n (file_at x.inode n)) (numbers x))
        ∙ both (list_all test (tree_items hole x.inode)) _ (from_positions hole x.inode inode)
        (all_of_parts test (λ n. file_items x n (file_at x.inode n)) 0 (records_each * fan ^ x.inode.levels) (λ n low high. so n (file_at x.inode n) refl))
      where
        so : (n : ℕ) (o : Option InodeRecord) → file_at x.inode n ≡ o → list_all test (file_items x n o) ≡ true
        so n None e = refl
        so n (Some r) e = from_positions (top_of x n) (tree_of x n r) (files n r e)

-- ---- the same blocks under what is reached

-- a tree over blocks that agree on what it reaches has the same items
pub same_items : (top : Pointer) (t : Rooted) (n : Under) → AgreeOnTree t n → tree_items top (over n t) ≡ tree_items top t
unfolding tree_items
same_items top t n agree = λ i. flat_map (λ (spot : Spot). reached_one (one spot.0 spot.1 i)) (spots t.levels)
  where
    one : (level place : ℕ) → item_of top (over n t) level place ≡ item_of top t level place
    one level place = λ i. record {
      owner = t.owner;
      levels = t.levels;
      level = level;
      place = place;
      pointer = same_pointer t n agree level place i;
      holder = if nat_lt level t.levels then same_pointer t n agree (level + 1) (place / fan) i else top;
    }

module _ (m n : Under) (levels : ℕ) (root : Pointer) (agree : AgreeOnTable m n levels root) where
  abbrev old : Standing
  old = standing_at m levels root

  abbrev new : Standing
  new = standing_at n levels root

  kept_file_items : (k : ℕ) → file_items new k (file_at new.inode k) ≡ file_items old k (file_at old.inode k)
  kept_file_items k = ap (file_items new k) (same_record old.inode n agree.inode k) ∙ so (file_at old.inode k) refl
    where
      so : (o : Option InodeRecord) → file_at old.inode k ≡ o → file_items new k o ≡ file_items old k o
      so None e = refl
      so (Some r) e =
          ap (λ (p : Pointer). tree_items p (stored n k r.levels r.root)) (same_pointer old.inode n agree.inode 0 (k / records_each))
          ∙ same_items (pointer_at old.inode 0 (k / records_each)) (stored m k r.levels r.root) n (agree.files k r e)

  -- A table under which the same blocks stand reaches the same.
  pub kept_items : items new ≡ items old
  unfolding items
  kept_items = λ i. same_items hole old.inode n agree.inode i ++ flat_map (λ k. kept_file_items k i) (numbers old)

-- ---- what stands at a position is listed

none_passes : {X : Type 0} (p : X → Bool) (xs : List X) → list_any p xs ≡ false → list_all (λ x. not (p x)) xs ≡ true
none_passes p [] e = refl
none_passes p (x ∷ xs) e = so (p x) (none_passes p xs) e
  where
    so : (b : Bool) → (list_any p xs ≡ false → list_all (λ x. not (p x)) xs ≡ true) → (b || list_any p xs) ≡ false → (not b && list_all (λ x. not (p x)) xs) ≡ true
    so true rest e = absurd cc
    so false rest e = rest e

itself : (v : ℕ) → not (v == v) ≡ true → ⊥
itself v e = absurd (grind (arith, nat_tests, e))

module _ (x : Standing) where
  pub listed_inode : (level place : ℕ) → (pointer_at x.inode level place).stamp ≢ 0 → is_listed (items x) (pointer_at x.inode level place).vvbn ≡ true
  listed_inode level place some = so (is_listed (items x) (pointer_at x.inode level place).vvbn) refl
    where
      so : (b : Bool) → is_listed (items x) (pointer_at x.inode level place).vvbn ≡ b → b ≡ true
      so true e = refl
      so false e = absurd (itself (pointer_at x.inode level place).vvbn (at_inode (λ e. not (e.pointer.vvbn == (pointer_at x.inode level place).vvbn)) x (none_passes (λ e. e.pointer.vvbn == (pointer_at x.inode level place).vvbn) (items x) e) level place some))

  pub listed_file : (n : ℕ) (r : InodeRecord) → file_at x.inode n ≡ Some r → (level place : ℕ) → (pointer_at (tree_of x n r) level place).stamp ≢ 0 → is_listed (items x) (pointer_at (tree_of x n r) level place).vvbn ≡ true
  listed_file n r is level place some = so (is_listed (items x) (pointer_at (tree_of x n r) level place).vvbn) refl
    where
      so : (b : Bool) → is_listed (items x) (pointer_at (tree_of x n r) level place).vvbn ≡ b → b ≡ true
      so true e = refl
      so false e = absurd (itself (pointer_at (tree_of x n r) level place).vvbn (at_file (λ e. not (e.pointer.vvbn == (pointer_at (tree_of x n r) level place).vvbn)) x (none_passes (λ e. e.pointer.vvbn == (pointer_at (tree_of x n r) level place).vvbn) (items x) e) n r is level place some))

-- blocks that agree under each VVBN that a table reaches agree on the table
pub agree_when_listed : (m n : Under) (levels : ℕ) (root : Pointer) → ((v : ℕ) → is_listed (items (standing_at m levels root)) v ≡ true → n v ≡ m v) → AgreeOnTable m n levels root
agree_when_listed m n levels root same = record {
  inode = λ level place some. same _ (listed_inode (standing_at m levels root) level place some);
  files = λ number r is level place some. same _ (listed_file (standing_at m levels root) number r is level place some);
}
