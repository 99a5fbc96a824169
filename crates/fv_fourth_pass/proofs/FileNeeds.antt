-- What the reserve of one file still needs: the places that it stands for, without those of its tree that have a block of the active table alone.
use Rattle.std.proofs.Common.{◌≡◌, ◌≢◌, ℕ, zero, suc, ◌+◌, ◌-◌, ◌*◌, ◌/◌, ◌%◌, ◌^◌, ◌<◌, ◌≤◌, Bool, true, false, not, List, get_or, refl, sym, ap, subst, ◌∙◌, arith, add-one, ⊎_elim}
use Rattle.std.specs.Prelude.{count_by, sum_by, nat_lt, Option, Some, None, ◌&&◌, ◌||◌, ◌==◌, if◌then◌else◌}
use Rattle.std.specs.List.{range_with_len}
use Rattle.std.specs.Option.{option_map_or}
use Rattle.std.specs.FinSet as set
use Rattle.std.proofs.lemmas.Bool.{cases_eq}
use Rattle.std.proofs.lemmas.Bool.Decides.{nat_tests}
use Rattle.fv_bits.specs.Members.{is_member}
use Rattle.fv_bits.proofs.Counts.{passing, passing_same}
use Rattle.fv_codec.specs.declared.pointer.Pointer.{Pointer}
use Rattle.fv_codec.specs.declared.inode.InodeRecord.{InodeRecord}
use Rattle.fv_model.specs.Trees.{fan}
use Rattle.fv_model.specs.Tables.{File}
use Rattle.fv_model.specs.Places.{Place, Owner, InodeFile, OfFile, placed, stamps_of}
use Rattle.fv_model.specs.Space.{needs_block, reserved_places, shared_ids}
use Rattle.fv_model.specs.Volumes.{Volume}
use Rattle.fv_laws.proofs.Levels.{up}
use Rattle.fv_laws.proofs.Stamps.{get-stamps_of}
use Rattle.fv_tables.specs.Spelled.{Rooted, hole, pointer_at}
use Rattle.fv_tables.specs.Told.{Standing, records_each, used_record, file_at, file_told, tree_of, tree_told, table_told}
use Rattle.fv_tables.proofs.Pointers.{none_under, past}
use Rattle.fv_tables.proofs.TablePlaces.{pointer_in, stamp_is}
use Rattle.fv_image.specs.Views.{Head, View}
use Rattle.fv_image.specs.Chains.{under}
use Rattle.fv_image.specs.Volumes.{standing_of, volume_with, volume_told}
use Rattle.fv_image.proofs.Counts.{none_sum, others, same_sum}
use Rattle.fv_image.proofs.WellTrees.{in_node, StandsAt}
use Rattle.fv_fourth_pass.specs.Needed.{HasShared, one_if, ranges, ranges_at, reserved_of}
use Rattle.fv_fourth_pass.proofs.TreeSums.{sum_both, under_rows}
use Rattle.fv_fourth_pass.proofs.TreeSums as sums
use Rattle.fv_fourth_pass.proofs.Shares.{place_shared}
use Rattle.fv_fourth_pass.proofs.Reserved.{cut, in_file, inode_count, places_none, places_some, tree_count, wide}

twice_not : (b : Bool) → b ≡ not (not b)
twice_not true = refl
twice_not false = refl

-- a mark stands over each cell
stands_over : (t : Rooted) (k i : ℕ) → k ≤ t.levels → StandsAt t 0 i → StandsAt t k (i / fan ^ k)
stands_over t zero i low some = let whole : i ≡ i / fan ^ 0 = omega arith in subst (StandsAt t 0) whole some
stands_over t (suc k) i low some =
    let next = above (i / fan ^ k) (omega (arith, low)) (stands_over t k i (omega (arith, low)) some) in
    subst (λ (n : ℕ). StandsAt t n (i / fan ^ n)) (add-one k) (subst (StandsAt t (k + 1)) (up i k) next)
  where
    above : (place : ℕ) → k < t.levels → StandsAt t k place → StandsAt t (k + 1) (place / fan)
    above place low some none = some (ap (λ (p : Pointer). p.stamp) (in_node t k place low)
        ∙ ap (λ (xs : List Pointer). (get_or xs (place % fan) hole).stamp) (none_under t (k + 1) (place / fan) (pointer_at t (k + 1) (place / fan)) none))

-- a used record has a name
pub named : (r f : InodeRecord) → used_record r ≡ Some f → (f.name_length == 0) ≡ false
named r f is = so (r.name_length == 0) refl is
  where
    so : (b : Bool) → (r.name_length == 0) ≡ b → (if b then None else Some r) ≡ Some f → (f.name_length == 0) ≡ false
    so true e is = absurd cc
    so false e is = let same : r ≡ f = cc in ap (λ (q : InodeRecord). q.name_length == 0) (sym same) ∙ e

-- ---- counts of a tree

-- a pointer leads to a block that isn't shared
abbrev pub stood : List Bool → Pointer → Bool
stood shared p = not (p.stamp == 0) && not (is_member shared p.vvbn)

-- a place counts that the reserve stands for, where it does
abbrev pub standing_weight : List Bool → ℕ → Rooted → ℕ → ℕ → ℕ
standing_weight shared reserve t k i = one_if (nat_lt i (ranges_at reserve k) && stood shared (pointer_at t k i))

abbrev pub standing_in : List Bool → ℕ → Rooted → ℕ
standing_in shared reserve t = sums.under fan (standing_weight shared reserve t) t.levels 0

abbrev stood_at : List Bool → Rooted → ℕ → ℕ → Bool
stood_at shared t k i = stood shared (pointer_at t k i)

abbrev stood_count : List Bool → ℕ → Rooted → ℕ
stood_count shared reserve t = sum_by (λ k. passing (stood_at shared t k) 0 (ranges_at reserve k)) (range_with_len 0 (t.levels + 1))

standing_rows : (shared : List Bool) (reserve : ℕ) (t : Rooted) → standing_in shared reserve t ≡ stood_count shared reserve t
standing_rows shared reserve t =
    under_rows fan (standing_weight shared reserve t) t.levels 0
    ∙ same_sum (sums.row fan (standing_weight shared reserve t) t.levels 0) (λ k. passing (stood_at shared t k) 0 (ranges_at reserve k)) 0 (t.levels + 1) (λ k low high. one k)
  where
    none_past : (k i : ℕ) → fan ^ (t.levels - k) ≤ i → stood_at shared t k i ≡ false
    none_past k i far = ap (λ (p : Pointer). stood shared p) (past t k i far)

    one : (k : ℕ) → sums.row fan (standing_weight shared reserve t) t.levels 0 k ≡ passing (stood_at shared t k) 0 (ranges_at reserve k)
    one k =
        let start : 0 * fan ^ (t.levels - k) ≡ 0 = omega arith in
        ap (λ a. sum_by (standing_weight shared reserve t k) (range_with_len a (fan ^ (t.levels - k)))) start
        ∙ cut (λ i. nat_lt i (ranges_at reserve k)) (stood_at shared t k) (ranges_at reserve k) (fan ^ (t.levels - k))
        (λ i low. let e : nat_lt i (ranges_at reserve k) ≡ true = grind (arith, nat_tests, low) in e)
        (λ i high. let e : nat_lt i (ranges_at reserve k) ≡ false = grind (arith, nat_tests, high) in e)
        (λ i far low. none_past k i far)

-- ---- of a volume

module _ (w : View) (s : ℕ) (h : Head) (shared : List Bool) (is : HasShared w s h shared) where
  abbrev pub x : Standing
  x = standing_of w s h.active

  abbrev v : Volume
  v = volume_told w s h

  abbrev pub needs : Place → Bool
  needs = needs_block (shared_ids v) (stamps_of v.active)

  abbrev at_place : Owner → ℕ → ℕ → Pointer
  at_place o level place = pointer_in (under w s) h.active.levels h.active.root o level place

  needs_is : (o : Owner) (level place : ℕ) → needs (placed o (level, place)) ≡ not (stood shared (at_place o level place))
  unfolding needs_block volume_with
  needs_is o level place =
      ap (λ (t : Option ℕ). option_map_or (λ t. set.contains (shared_ids v) (placed o (level, place), t)) t true)
      (get-stamps_of (table_told x) o (level, place) ∙ stamp_is (under w s) h.active.levels h.active.root o level place)
      ∙ so ((at_place o level place).stamp == 0) refl
    where
      so : (b : Bool) → ((at_place o level place).stamp == 0) ≡ b
          → option_map_or (λ t. set.contains (shared_ids v) (placed o (level, place), t)) (if b then None else Some (at_place o level place).stamp) true ≡ not (not b && not (is_member shared (at_place o level place).vvbn))
      so true e = refl
      so false e =
          let some : (at_place o level place).stamp ≢ 0 = grind (arith, nat_tests, e) in
          place_shared w s h shared is o level place some ∙ twice_not (is_member shared (at_place o level place).vvbn)

  -- the blocks over the record of a file that are shared
  abbrev pub over : ℕ → ℕ
  over n = sum_by (λ k. one_if (is_member shared (pointer_at x.inode k (n / records_each / fan ^ k)).vvbn)) (range_with_len 0 (h.active.levels + 1))

  module _ (n : ℕ) (f : InodeRecord) (at : file_at x.inode n ≡ Some f) (cell : StandsAt x.inode 0 (n / records_each)) (used : (f.name_length == 0) ≡ false) where
    abbrev tree : Rooted
    tree = tree_of x n f

    abbrev pub file : File
    file = file_told tree f

    file_pointer : (k i : ℕ) → at_place (OfFile n) k i ≡ pointer_at tree k i
    file_pointer k i = ap (λ (o : Option InodeRecord). option_map_or (λ r. pointer_at (tree_of x n r) k i) o hole) at

    in_tree : tree_count needs n f.reserve f.levels + stood_count shared f.reserve tree ≡ ranges f.reserve f.levels
    unfolding ranges
    in_tree =
        sym (sum_both (λ k. passing (λ i. needs (in_file n k i)) 0 (ranges_at f.reserve k)) (λ k. passing (stood_at shared tree k) 0 (ranges_at f.reserve k)) (range_with_len 0 (f.levels + 1)))
        ∙ same_sum (λ k. passing (λ i. needs (in_file n k i)) 0 (ranges_at f.reserve k) + passing (stood_at shared tree k) 0 (ranges_at f.reserve k)) (ranges_at f.reserve) 0 (f.levels + 1) (λ k low high. one k)
      where
        one : (k : ℕ) → passing (λ i. needs (in_file n k i)) 0 (ranges_at f.reserve k) + passing (stood_at shared tree k) 0 (ranges_at f.reserve k) ≡ ranges_at f.reserve k
        one k =
            let same : passing (λ i. needs (in_file n k i)) 0 (ranges_at f.reserve k) ≡ passing (λ i. not (stood_at shared tree k i)) 0 (ranges_at f.reserve k) =
            passing_same (λ i. needs (in_file n k i)) (λ i. not (stood_at shared tree k i)) 0 0 (ranges_at f.reserve k) (λ j lt. needs_is (OfFile n) k (0 + j) ∙ ap (λ (p : Pointer). not (stood shared p)) (file_pointer k (0 + j))) in
            let all = others (stood_at shared tree k) 0 (ranges_at f.reserve k) in
            omega (arith, same, all)

    over_is : inode_count needs n h.active.levels ≡ over n
    over_is = same_sum (λ k. one_if (needs (placed InodeFile (k, n / records_each / fan ^ k)))) (λ k. one_if (is_member shared (pointer_at x.inode k (n / records_each / fan ^ k)).vvbn)) 0 (h.active.levels + 1) (λ k low high.
        let some = stands_over x.inode k (n / records_each) (omega (arith, high)) cell in
        let test : ((pointer_at x.inode k (n / records_each / fan ^ k)).stamp == 0) ≡ false = grind (arith, nat_tests, some) in
        ap one_if (needs_is InodeFile k (n / records_each / fan ^ k)
        ∙ ap (λ (b : Bool). not (not b && not (is_member shared (pointer_at x.inode k (n / records_each / fan ^ k)).vvbn))) test
        ∙ sym (twice_not (is_member shared (pointer_at x.inode k (n / records_each / fan ^ k)).vvbn))))

    -- What it needs and what stands is all that the reserve stands for.
    pub file_needs : count_by needs (reserved_places h.active.levels n file) + standing_in shared f.reserve tree ≡ reserved_of (over n) f
    unfolding file_told tree_told ranges
    file_needs =
        let rows : standing_in shared f.reserve tree ≡ stood_count shared f.reserve tree = standing_rows shared f.reserve tree in
        let all = in_tree in ⊎_elim
        (λ (none : f.reserve ≡ 0).
        let test : (f.reserve == 0) ≡ true = grind (arith, nat_tests, none) in
        let needed = places_none needs h.active.levels n file none in
        let few : ranges f.reserve f.levels ≡ 0 = no_ranges none in
        (let e : count_by needs (reserved_places h.active.levels n file) + standing_in shared f.reserve tree ≡ 0 = omega (arith, rows, all, needed, few) in e)
        ∙ sym (ap (λ b. if b || (f.reserve == 0) then 0 else ranges f.reserve f.levels + over n) used ∙ ap (λ b. if b then 0 else ranges f.reserve f.levels + over n) test))
        (λ (some : f.reserve ≢ 0).
        let test : (f.reserve == 0) ≡ false = grind (arith, nat_tests, some) in
        let needed = places_some needs h.active.levels n file (omega (arith, some)) in
        let blocks = over_is in
        (let e : count_by needs (reserved_places h.active.levels n file) + standing_in shared f.reserve tree ≡ ranges f.reserve f.levels + over n = omega (arith, rows, all, needed, blocks) in e)
        ∙ sym (ap (λ b. if b || (f.reserve == 0) then 0 else ranges f.reserve f.levels + over n) used ∙ ap (λ b. if b then 0 else ranges f.reserve f.levels + over n) test))
        (cases_eq f.reserve 0)
      where
        no_ranges : f.reserve ≡ 0 → ranges f.reserve f.levels ≡ 0
        no_ranges none = none_sum (ranges_at f.reserve) 0 (f.levels + 1) (λ k low high. ap (λ r. ranges_at r k) none ∙ (let e : (0 + fan ^ k - 1) / fan ^ k ≡ 0 = (let broad = wide k in grind (arith, broad)) in e))
