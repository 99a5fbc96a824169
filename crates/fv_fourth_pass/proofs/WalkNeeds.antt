-- What is counted along the walk of an active table is what its files' reserves stand for, file by file, and what of that stands.
use Rattle.std.proofs.Common.{◌≡◌, ℕ, zero, suc, ◌+◌, ◌-◌, ◌*◌, ◌/◌, ◌%◌, ◌^◌, ◌<◌, ◌≤◌, Bool, true, false, cond, not, List, [], ◌∷◌, ◌++◌, map, length, get_or, refl, sym, ap, subst, ◌∙◌, arith, ⊎_elim, Result, Ok, Err}
use Rattle.std.specs.Prelude.{flat_map, sum_by, nat_lt, Option, Some, None, ◌&&◌, ◌||◌, ◌==◌, if◌then◌else◌}
use Rattle.std.specs.List.{range_with_len}
use Rattle.std.specs.Option.{option_map_or}
use Rattle.std.proofs.Math.Nat.{mul_comm, pow-le-pow_right}
use Rattle.std.proofs.lemmas.Bool.{cases_lt}
use Rattle.std.proofs.lemmas.Bool.Decides.{nat_tests}
use Rattle.std.proofs.lemmas.List.{map-append}
use Rattle.std.proofs.lemmas.List.Sums.{sum_by-append, sum_by-cons}
use Rattle.fv_bits.specs.Members.{is_member}
use Rattle.fv_codec.specs.declared.shape.Shape.{Shape}
use Rattle.fv_codec.specs.declared.pointer.Pointer.{Pointer}
use Rattle.fv_codec.specs.declared.node.Node as nodes
use Rattle.fv_codec.specs.declared.inode.InodeRecord.{InodeRecord}
use Rattle.fv_codec.specs.declared.inode.InodeBlock.{InodeBlock}
use Rattle.fv_codec.specs.Blocks.{greatest_word, node_at, inodes_at}
use Rattle.fv_model.specs.Trees.{fan}
use Rattle.fv_tables.specs.Spelled.{Rooted, hole, stored, pointer_at}
use Rattle.fv_tables.specs.Told.{Standing, free_record, records_each, used_record, file_at, tree_of}
use Rattle.fv_tables.specs.Reached.{Item, item_of, holder_of}
use Rattle.fv_tables.proofs.Pointers.{past}
use Rattle.fv_image.specs.Views.{Head, Placed}
use Rattle.fv_image.specs.Chains.{under}
use Rattle.fv_image.specs.Volumes.{standing_of}
use Rattle.fv_image.proofs.Counts.{none_sum, same_sum}
use Rattle.fv_image.proofs.WellNodes.{files_of as files_long}
use Rattle.fv_image.proofs.WellTrees.{StandsAt}
use Rattle.fv_faults.specs.Walks.{Ground, file_root, files_of, used_from}
use Rattle.fv_faults.specs.Met.{Spot, files_met, met, no_more, place_at, plain}
use Rattle.fv_faults.proofs.TableMembers.{HasRecord, file_top, files_are, has_record, of_file, record_has, top_item}
use Rattle.fv_walk.specs.declared.below.Below.TheVariants.{Nothing}
use Rattle.fv_walk.specs.Sights.{below_of, inodes_in, node_in, sight_of, spelled}
use Rattle.fv_walk.specs.Visits.{visit_of}
use Rattle.fv_fourth_pass.specs.Needed.{files_after, files_along, is_standing, one_if, ranges, ranges_at, reserved_below, reserved_in, reserved_of, shared_over, standing_along}
use Rattle.fv_fourth_pass.specs.Needing.{files_on, standing_on}
use Rattle.fv_fourth_pass.proofs.Amounts.{along, of_records}
use Rattle.fv_fourth_pass.proofs.FileNeeds.{standing_in, standing_weight}
use Rattle.fv_fourth_pass.proofs.TreeSums.{sum_pieces, under_cells}
use Rattle.fv_fourth_pass.proofs.TreeSums as sums

and_false : (a : Bool) → (a && false) ≡ false
and_false true = refl
and_false false = refl

and_no : (a b : Bool) → b ≡ false → (a && b) ≡ false
and_no a b isnt = ap (λ b. a && b) isnt ∙ and_false a

add_none : (n : ℕ) → n + 0 ≡ n
add_none n = omega arith

none_more : (n : ℕ) → 0 + n ≡ n
none_more n = omega arith

same_some : {X : Type 0} (a b : X) → Some a ≡ Some b → a ≡ b
same_some a b e = cc

same_ok : (a b : InodeBlock) → ◌≡◌ {A = Result InodeBlock Shape} (Ok a) (Ok b) → a ≡ b
same_ok a b e = cc

no_some : {X : Type 0} (a : X) → ◌≡◌ {A = Option X} None (Some a) → ⊥
no_some a e = cc

same_record : (q r : InodeRecord) → used_record q ≡ Some r → q ≡ r
same_record q r is = so (q.name_length == 0) is
  where
    so : (b : Bool) → (if b then None else Some q) ≡ Some r → q ≡ r
    so true is = absurd cc
    so false is = cc

-- numbers of a list, one by one
records_sum : (u : ℕ → ℕ) (f : InodeRecord → ℕ) (a : ℕ) (rs : List InodeRecord) → ((i : ℕ) → i < length rs → u (a + i) ≡ f (get_or rs i free_record)) → sum_by u (range_with_len a (length rs)) ≡ sum_by f rs
records_sum u f a [] each = refl
records_sum u f a (r ∷ rs) each =
    let here : a ≡ a + 0 = omega arith in
    let first : u a ≡ f r = ap u here ∙ each 0 (omega arith) in
    let rest = records_sum u f (a + 1) rs (λ i low. let shift : a + 1 + i ≡ a + suc i = omega arith in ap u shift ∙ each (suc i) (omega (arith, low))) in
    omega (arith, first, rest, sum_by-cons u a (range_with_len (a + 1) (length rs)), sum_by-cons f r rs)

-- Only the block to which a cell of the inode file leads has records.
plain_below : (over : ℕ) (fs : List InodeRecord) (e : Item) (at : Option Placed) → ((e.level == 0) && (e.owner == greatest_word)) ≡ false → (reserved_below over (below_of e at) ≡ 0) × (files_after fs (below_of e at) ≡ fs)
unfolding below_of spelled
plain_below over fs e None apart = (refl, refl)
plain_below over fs e (Some x) apart = so (e.level == 0) (e.owner == greatest_word) apart
  where
    node : (r : Result nodes.Node Shape) → (reserved_below over (node_in r) ≡ 0) × (files_after fs (node_in r) ≡ fs)
    node (Ok n) = (refl, refl)
    node (Err f) = (refl, refl)

    so : (a b : Bool) → (a && b) ≡ false → (reserved_below over (if a then (if b then inodes_in (inodes_at x.block) else Nothing) else node_in (node_at x.block)) ≡ 0)
        × (files_after fs (if a then (if b then inodes_in (inodes_at x.block) else Nothing) else node_in (node_at x.block)) ≡ fs)
    so true true e = absurd cc
    so true false e = (refl, refl)
    so false b e = node (node_at x.block)

-- the sums of inode blocks, as weights of the cells that lead to them
cells_of : (ℕ → ℕ) → ℕ → ℕ → ℕ
cells_of u zero c = sum_by u (range_with_len (records_each * c) records_each)
cells_of u (suc k) c = 0

all_cells : (u : ℕ → ℕ) (levels : ℕ) → sums.under fan (cells_of u) levels 0 ≡ sum_by u (range_with_len 0 (records_each * fan ^ levels))
unfolding cells_of
all_cells u levels =
    let start : 0 * fan ^ levels ≡ 0 = omega arith in
    let first : (0 + 0) * records_each ≡ 0 = omega arith in
    under_cells fan (cells_of u) (λ k q. refl) levels 0
    ∙ ap (λ a. sum_by (cells_of u 0) (range_with_len a (fan ^ levels))) start
    ∙ same_sum (cells_of u 0) (λ c. sum_by u (range_with_len ((0 + c) * records_each) records_each)) 0 (fan ^ levels) (λ c low high.
    let at : records_each * c ≡ (0 + c) * records_each = omega arith in ap (λ a. sum_by u (range_with_len a records_each)) at)
    ∙ sum_pieces u records_each 0 0 (fan ^ levels)
    ∙ (λ j. sum_by u (range_with_len (first j) (mul_comm (fan ^ levels) records_each j)))

module _ (g : Ground) (h : Head) (shared : List Bool) (few : h.active.levels ≤ 2) (label : ℕ) where
  abbrev pub x : Standing
  x = standing_of g.view g.slot h.active

  abbrev pub inode : Rooted
  inode = stored (under g.view g.slot) greatest_word h.active.levels h.active.root

  abbrev pub top : Bool
  top = is_member shared h.active.root.vvbn

  -- the blocks over the records of the inode block under a cell that are shared
  abbrev pub over_cell : ℕ → ℕ
  over_cell c = sum_by (λ k. one_if (is_member shared (pointer_at inode k (c / fan ^ k)).vvbn)) (range_with_len 0 (h.active.levels + 1))

  -- what a file's reserve stands for, and what of that stands
  abbrev pub reserved_file : ℕ → ℕ
  reserved_file n = option_map_or (λ f. reserved_of (over_cell (n / records_each)) f) (file_at inode n) 0

  abbrev pub standing_file : ℕ → ℕ
  standing_file n = option_map_or (λ f. standing_in shared f.reserve (tree_of x n f)) (file_at inode n) 0

  abbrev reserved_at_spot : Spot → ℕ
  reserved_at_spot p = reserved_in shared top (sight_of g p)

  -- ---- the tree of a file

  abbrev OfFile : List InodeRecord → ℕ → List Spot → Type 0
  OfFile fs n ps = (sum_by reserved_at_spot ps ≡ 0) × ((standing_along shared fs (map (sight_of g) ps) ≡ n) × (files_along fs (map (sight_of g) ps) ≡ fs))

  file_none : (fs : List InodeRecord) → OfFile fs 0 []
  unfolding standing_along files_along
  file_none fs = (refl, (refl, refl))

  file_both : (fs : List InodeRecord) (a b : ℕ) (xs ys : List Spot) → OfFile fs a xs → OfFile fs b ys → OfFile fs (a + b) (xs ++ ys)
  file_both fs a b xs ys one two =
      let sum = sum_by-append reserved_at_spot xs ys in
      let first : sum_by reserved_at_spot xs ≡ 0 = one.0 in
      let second : sum_by reserved_at_spot ys ≡ 0 = two.0 in
      let parts = map-append (sight_of g) xs ys in (
        omega (arith, sum, first, second),
        (
          ap (standing_along shared fs) parts ∙ standing_on shared fs (map (sight_of g) xs) (map (sight_of g) ys)
              ∙ (λ j. one.1.0 j + standing_along shared (one.1.1 j) (map (sight_of g) ys)) ∙ ap (λ n. a + n) two.1.0,
          ap (files_along fs) parts ∙ files_on fs (map (sight_of g) xs) (map (sight_of g) ys)
              ∙ ap (λ fs. files_along fs (map (sight_of g) ys)) one.1.1 ∙ two.1.1,
        ),
      )

  one_spot : (fs : List InodeRecord) (e : Item) (block : ℕ) → ((e.level == 0) && (e.owner == greatest_word)) ≡ false → OfFile fs (one_if (is_standing shared fs (visit_of (e, block)))) ((e, block) ∷ [])
  unfolding standing_along files_along
  one_spot fs e block apart =
      let below = plain_below (shared_over shared top (visit_of (e, block))) fs e (place_at g e) apart in (
        sum_by-cons reserved_at_spot (e, block) [] ∙ ap (λ n. n + 0) below.0,
        (add_none (one_if (is_standing shared fs (visit_of (e, block)))), below.1),
      )

  module _ (fs : List InodeRecord) (n : ℕ) (f : InodeRecord) (apart : (n == greatest_word) ≡ false) (record_is : get_or fs (n % records_each) free_record ≡ f) where
    abbrev t : Rooted
    t = stored (under g.view g.slot) n f.levels f.root

    same_weight : (over : Pointer) (block k q : ℕ) → StandsAt t k q → one_if (is_standing shared fs (visit_of (item_of over t k q, block))) ≡ standing_weight shared f.reserve t k q
    same_weight over block k q some =
        let stands : ((pointer_at t k q).stamp == 0) ≡ false = grind (arith, nat_tests, some) in
        let shares : Bool = not (is_member shared (pointer_at t k q).vvbn) in
        ap (λ b. one_if (not b && (nat_lt q (ranges_at (get_or fs (n % records_each) free_record).reserve k) && shares))) apart
        ∙ ap (λ (r : InodeRecord). one_if (nat_lt q (ranges_at r.reserve k) && shares)) record_is
        ∙ sym (ap (λ b. one_if (nat_lt q (ranges_at f.reserve k) && (not b && shares))) stands)

    nothing_more : (e : Item) (o : Option Placed) → option_map_or (no_more e) o [] ≡ []
    nothing_more e None = refl
    nothing_more e (Some at) = refl

    file_amount : (p block : ℕ) → OfFile fs (standing_in shared f.reserve t) (plain g no_more f.levels (file_root (item_of hole inode 0 p) (n, f)) block)
    file_amount p block =
        subst (λ e. OfFile fs (standing_in shared f.reserve t) (plain g no_more f.levels e block)) (sym (file_top (λ e. true) g h.active p n f))
        (along (OfFile fs) (file_none fs) (file_both fs) g no_more n f.levels f.root (pointer_at inode 0 p) (standing_weight shared f.reserve t)
        (λ k q block low some. subst (λ m. OfFile fs m ((item_of (pointer_at inode 0 p) t (suc k) q, block) ∷ [])) (same_weight (pointer_at inode 0 p) block (suc k) q some)
        (one_spot fs (item_of (pointer_at inode 0 p) t (suc k) q) block (and_no (suc k == 0) (n == greatest_word) apart)))
        (λ q block some. subst (λ ps. OfFile fs (standing_weight shared f.reserve t 0 q) ((item_of (pointer_at inode 0 p) t 0 q, block) ∷ ps)) (sym (nothing_more (item_of (pointer_at inode 0 p) t 0 q) (place_at g (item_of (pointer_at inode 0 p) t 0 q))))
        (subst (λ m. OfFile fs m ((item_of (pointer_at inode 0 p) t 0 q, block) ∷ [])) (same_weight (pointer_at inode 0 p) block 0 q some)
        (one_spot fs (item_of (pointer_at inode 0 p) t 0 q) block (and_no (0 == 0) (n == greatest_word) apart))))
        (λ k q none. let gone : ((pointer_at t k q).stamp == 0) ≡ true = grind (arith, nat_tests, none) in
        ap (λ b. one_if (nat_lt q (ranges_at f.reserve k) && (not b && not (is_member shared (pointer_at t k q).vvbn)))) gone
        ∙ ap one_if (and_false (nat_lt q (ranges_at f.reserve k))))
        f.levels 0 block (omega arith))

  -- ---- the cells of the inode file

  low_cell : (c : ℕ) → StandsAt inode 0 c → c < 16384
  low_cell c some = ⊎_elim
      (λ (low : c < 16384). low)
      (λ (far : 16384 ≤ c).
      let wide : fan ^ (h.active.levels - 0) ≤ fan ^ 2 = pow-le-pow_right {n = fan} (omega arith) {i = h.active.levels - 0} {j = 2} (omega (arith, few)) in
      absurd (some (ap (λ (p : Pointer). p.stamp) (past inode 0 c (omega (arith, wide, far))))))
      (cases_lt c 16384)

  abbrev cell_item : ℕ → Item
  cell_item c = item_of hole inode 0 c

  -- the blocks over the record that a sight of the cell tells
  over_seen : (c block : ℕ) → StandsAt inode 0 c → shared_over shared top (visit_of (cell_item c, block)) ≡ over_cell c
  over_seen c block some = so h.active.levels refl few
    where
      held : ℕ → ℕ
      held k = one_if (is_member shared (pointer_at inode k (c / fan ^ k)).vvbn)

      own : ℕ
      own = one_if (is_member shared (pointer_at inode 0 c).vvbn)

      node : ℕ
      node = one_if (is_member shared (holder_of hole inode 0 c).vvbn)

      counted : ℕ → ℕ
      counted l = own + (cond (nat_lt 0 l) node 0 + cond (nat_lt 1 l) (one_if top) 0)

      listed : ℕ → ℕ
      listed l = sum_by held (range_with_len 0 (l + 1))

      own_is : own ≡ held 0
      own_is = let whole : c ≡ c / fan ^ 0 = omega arith in ap (λ n. one_if (is_member shared (pointer_at inode 0 n).vvbn)) whole

      node_is : 1 ≤ h.active.levels → node ≡ held 1
      node_is high = let test : nat_lt 0 h.active.levels ≡ true = grind (arith, nat_tests, high) in ap (λ b. one_if (is_member shared (if b then pointer_at inode 1 (c / fan) else hole).vvbn)) test

      top_is : h.active.levels ≡ 2 → one_if top ≡ held 2
      top_is two =
          let low = low_cell c some in
          let none : 0 ≡ c / 16384 = omega (arith, low) in
          let root : h.active.root ≡ pointer_at inode h.active.levels 0 = sym (ap (λ (e : Item). e.pointer) (top_item inode hole)) in
          ap (λ (p : Pointer). one_if (is_member shared p.vvbn)) (root ∙ (λ j. pointer_at inode (two j) (none j)))

      so : (l : ℕ) → h.active.levels ≡ l → l ≤ 2 → counted h.active.levels ≡ listed h.active.levels
      so zero e low =
          let sum = sum_by-cons held 0 [] in
          let is = own_is in
          ap counted e ∙ (let e : own + (0 + 0) ≡ listed 0 = omega (arith, sum, is) in e) ∙ sym (ap listed e)
      so (suc zero) e low =
          let sum = sum_by-cons held 0 (1 ∷ []) in
          let last = sum_by-cons held 1 [] in
          let is = own_is in
          let over = node_is (omega (arith, e)) in
          ap counted e ∙ (let e : own + (node + 0) ≡ listed 1 = omega (arith, sum, last, is, over) in e) ∙ sym (ap listed e)
      so (suc (suc zero)) e low =
          let sum = sum_by-cons held 0 (1 ∷ 2 ∷ []) in
          let next = sum_by-cons held 1 (2 ∷ []) in
          let last = sum_by-cons held 2 [] in
          let is = own_is in
          let over = node_is (omega (arith, e)) in
          let high = top_is e in
          ap counted e ∙ (let e : own + (node + one_if top) ≡ listed 2 = omega (arith, sum, next, last, is, over, high) in e) ∙ sym (ap listed e)
      so (suc (suc (suc l))) e low = absurd (omega (arith, low))

  -- no file is told where none of an inode block is
  gone : (n : ℕ) (f : InodeRecord → ℕ) → ((r : InodeRecord) → file_at inode n ≡ Some r → ⊥) → option_map_or f (file_at inode n) 0 ≡ 0
  gone n f none = so (file_at inode n) refl
    where
      so : (o : Option InodeRecord) → file_at inode n ≡ o → option_map_or f o 0 ≡ 0
      so None e = refl
      so (Some r) e = absurd (none r e)

  abbrev has : (n : ℕ) (r : InodeRecord) → file_at inode n ≡ Some r → HasRecord (λ e. true) g h.active n r
  has n r is = has_record (λ e. true) g h.active n r is

  block_gone : (c : ℕ) (f : ℕ → InodeRecord → ℕ) → ((n : ℕ) (r : InodeRecord) → n / records_each ≡ c → file_at inode n ≡ Some r → ⊥) → cells_of (λ n. option_map_or (f n) (file_at inode n) 0) 0 c ≡ 0
  unfolding cells_of
  block_gone c f none = none_sum (λ n. option_map_or (f n) (file_at inode n) 0) (records_each * c) records_each (λ n low high.
      let div : n / records_each ≡ c = omega (arith, low, high) in gone n (f n) (λ r is. none n r div is))

  -- ---- along the inode file

  abbrev Reserves : ℕ → List Spot → Type 0
  Reserves n ps = sum_by reserved_at_spot ps ≡ n

  abbrev Stands : ℕ → List Spot → Type 0
  Stands n ps = (fs : List InodeRecord) → standing_along shared fs (map (sight_of g) ps) ≡ n

  reserves_both : (a b : ℕ) (xs ys : List Spot) → Reserves a xs → Reserves b ys → Reserves (a + b) (xs ++ ys)
  reserves_both a b xs ys one two = sum_by-append reserved_at_spot xs ys ∙ (λ j. one j + two j)

  stands_none : Stands 0 []
  unfolding standing_along
  stands_none fs = refl

  stands_both : (a b : ℕ) (xs ys : List Spot) → Stands a xs → Stands b ys → Stands (a + b) (xs ++ ys)
  stands_both a b xs ys one two fs =
      ap (standing_along shared fs) (map-append (sight_of g) xs ys) ∙ standing_on shared fs (map (sight_of g) xs) (map (sight_of g) ys)
      ∙ (λ j. one fs j + two (files_along fs (map (sight_of g) xs)) j)

  abbrev spots_at : ℕ → ℕ → Option Placed → List Spot
  spots_at c block o = (cell_item c, block) ∷ option_map_or (files_met g (cell_item c)) o []

  record CellAmounts (c : ℕ) (ps : List Spot) : Type 0 where
    reserved : Reserves (cells_of reserved_file 0 c) ps
    standing : Stands (cells_of standing_file 0 c) ps

  -- where no records are met
  empty_cell : (c block : ℕ) → ((n : ℕ) (r : InodeRecord) → n / records_each ≡ c → file_at inode n ≡ Some r → ⊥) → reserved_at_spot (cell_item c, block) ≡ 0 → CellAmounts c ((cell_item c, block) ∷ [])
  unfolding standing_along
  empty_cell c block none empty = record {
    reserved = sum_by-cons reserved_at_spot (cell_item c, block) [] ∙ ap (λ n. n + 0) empty ∙ sym (block_gone c (λ n f. reserved_of (over_cell (n / records_each)) f) none);
    standing = λ fs. sym (block_gone c (λ n f. standing_in shared f.reserve (tree_of x n f)) none);
  }

  module _ (c block : ℕ) (some : StandsAt inode 0 c) (at : Placed) (found : place_at g (cell_item c) ≡ Some at) (b : InodeBlock) (reads : inodes_at at.block ≡ Ok b) where
    long : length b.files ≡ records_each
    long = files_long at.block b reads

    abbrev first : ℕ
    first = records_each * c

    div : (i : ℕ) → i < length b.files → (first + i) / records_each ≡ c
    div i low = let n = long in omega (arith, low, n)

    rem : (i : ℕ) → i < length b.files → (first + i) % records_each ≡ i
    rem i low = let n = long in omega (arith, low, n)

    is_file : (i : ℕ) (r : InodeRecord) → i < length b.files → used_record (get_or b.files i free_record) ≡ Some r → file_at inode (first + i) ≡ Some r
    is_file i r low used = let n = long in record_has (λ e. true) g h.active c i at b r some found reads (omega (arith, low, n)) used

    no_file : (i : ℕ) → i < length b.files → used_record (get_or b.files i free_record) ≡ None → (r : InodeRecord) → file_at inode (first + i) ≡ Some r → ⊥
    no_file i low free r is =
        let it = has (first + i) r is in
        let placed : it.at ≡ at = same_some it.at at (sym it.found ∙ ap (λ n. place_at g (cell_item n)) (div i low) ∙ found) in
        let block : it.block ≡ b = same_ok it.block b (sym it.reads ∙ ap (λ (p : Placed). inodes_at p.block) placed ∙ reads) in
        no_some r (sym free ∙ (λ j. used_record (get_or (sym block j).files (sym (rem i low) j) free_record)) ∙ it.used)

    number_apart : (i : ℕ) → i < length b.files → ((first + i) == greatest_word) ≡ false
    number_apart i low =
        let small = low_cell c some in
        let n = long in
        let lt : first + i < 262144 = omega (arith, small, low, n) in
        grind (arith, nat_tests, lt)

    -- the trees of its files
    files_amount : OfFile b.files (sum_by standing_file (range_with_len first (length b.files))) (flat_map (of_file (λ e. true) g h.active c at.pvbn) (used_from first b.files))
    files_amount = of_records (OfFile b.files) (file_none b.files) (file_both b.files) (of_file (λ e. true) g h.active c at.pvbn) standing_file first b.files
        (λ i r low used.
        subst (λ m. OfFile b.files m (of_file (λ e. true) g h.active c at.pvbn (first + i, r)))
        (sym (ap (λ (o : Option InodeRecord). option_map_or (λ f. standing_in shared f.reserve (tree_of x (first + i) f)) o 0) (is_file i r low used)))
        (file_amount b.files (first + i) r (number_apart i low)
        (ap (λ k. get_or b.files k free_record) (rem i low) ∙ same_record (get_or b.files i free_record) r used) c at.pvbn))
        (λ i low free. gone (first + i) (λ f. standing_in shared f.reserve (tree_of x (first + i) f)) (no_file i low free))

    abbrev rest : List Spot
    rest = files_met g (cell_item c) at

    rest_is : rest ≡ flat_map (of_file (λ e. true) g h.active c at.pvbn) (used_from first b.files)
    rest_is = files_are (λ e. true) g h.active c at ∙ ap (λ (r : Result InodeBlock Shape). flat_map (of_file (λ e. true) g h.active c at.pvbn) (files_of c r)) reads

    rest_amount : OfFile b.files (cells_of standing_file 0 c) rest
    unfolding cells_of
    rest_amount = subst (λ ps. OfFile b.files (cells_of standing_file 0 c) ps) (sym rest_is)
        (subst (λ n. OfFile b.files (sum_by standing_file (range_with_len first n)) (flat_map (of_file (λ e. true) g h.active c at.pvbn) (used_from first b.files))) long files_amount)

    each_record : (i : ℕ) → i < length b.files → reserved_file (first + i) ≡ reserved_of (over_cell c) (get_or b.files i free_record)
    each_record i low = so ((get_or b.files i free_record).name_length == 0) refl
      where
        q : InodeRecord
        q = get_or b.files i free_record

        so : (t : Bool) → (q.name_length == 0) ≡ t → reserved_file (first + i) ≡ reserved_of (over_cell c) q
        so true e =
            gone (first + i) (λ f. reserved_of (over_cell ((first + i) / records_each)) f) (no_file i low (ap (λ (t : Bool). if t then None else Some q) e))
            ∙ sym (ap (λ (t : Bool). if t || (q.reserve == 0) then 0 else ranges q.reserve q.levels + over_cell c) e)
        so false e =
            ap (λ (o : Option InodeRecord). option_map_or (λ f. reserved_of (over_cell ((first + i) / records_each)) f) o 0) (is_file i q low (ap (λ (t : Bool). if t then None else Some q) e))
            ∙ ap (λ n. reserved_of (over_cell n) q) (div i low)

    block_sum : sum_by (reserved_of (over_cell c)) b.files ≡ cells_of reserved_file 0 c
    unfolding cells_of
    block_sum = sym (ap (λ n. sum_by reserved_file (range_with_len first n)) (sym long) ∙ records_sum reserved_file (reserved_of (over_cell c)) first b.files each_record)

    below_is : below_of (cell_item c) (place_at g (cell_item c)) ≡ inodes_in (Ok b)
    unfolding below_of spelled
    below_is = ap (below_of (cell_item c)) found ∙ ap inodes_in reads

    cell_reserved : reserved_at_spot (cell_item c, block) ≡ cells_of reserved_file 0 c
    cell_reserved =
        ap (reserved_below (shared_over shared top (visit_of (cell_item c, block)))) below_is
        ∙ ap (λ n. sum_by (reserved_of n) b.files) (over_seen c block some)
        ∙ block_sum

    full_cell : CellAmounts c ((cell_item c, block) ∷ rest)
    unfolding standing_along
    full_cell = record {
      reserved = sum_by-cons reserved_at_spot (cell_item c, block) rest ∙ (λ j. cell_reserved j + rest_amount.0 j) ∙ add_none (cells_of reserved_file 0 c);
      standing = λ fs. none_more (standing_along shared (files_after fs (below_of (cell_item c) (place_at g (cell_item c)))) (map (sight_of g) rest))
          ∙ ap (λ fs. standing_along shared fs (map (sight_of g) rest)) (ap (files_after fs) below_is) ∙ rest_amount.1.0;
    }

  cell_amounts : (c block : ℕ) → StandsAt inode 0 c → CellAmounts c (spots_at c block (place_at g (cell_item c)))
  unfolding below_of spelled
  cell_amounts c block some = so (place_at g (cell_item c)) refl
    where
      nothing_at : (o : Option Placed) → place_at g (cell_item c) ≡ o → reserved_below (shared_over shared top (visit_of (cell_item c, block))) (below_of (cell_item c) o) ≡ 0 → reserved_at_spot (cell_item c, block) ≡ 0
      nothing_at o e none = ap (λ (o : Option Placed). reserved_below (shared_over shared top (visit_of (cell_item c, block))) (below_of (cell_item c) o)) e ∙ none

      so : (o : Option Placed) → place_at g (cell_item c) ≡ o → CellAmounts c (spots_at c block o)
      so None e = empty_cell c block (λ n r at is. let it = has n r is in no_some it.at (sym e ∙ ap (λ k. place_at g (cell_item k)) (sym at) ∙ it.found)) (nothing_at None e refl)
      so (Some at) e = read (inodes_at at.block) refl
        where
          read : (r : Result InodeBlock Shape) → inodes_at at.block ≡ r → CellAmounts c (spots_at c block (Some at))
          read (Ok b) reads = full_cell c block some at e b reads
          read (Err fault) reads =
              subst (λ ps. CellAmounts c ((cell_item c, block) ∷ ps))
              (sym (files_are (λ e. true) g h.active c at ∙ ap (λ (r : Result InodeBlock Shape). flat_map (of_file (λ e. true) g h.active c at.pvbn) (files_of c r)) reads))
              (empty_cell c block (λ n r at_cell is.
              let it = has n r is in
              let placed : it.at ≡ at = same_some it.at at (sym it.found ∙ ap (λ k. place_at g (cell_item k)) at_cell ∙ e) in
              no_ok it.block fault (sym it.reads ∙ ap (λ (p : Placed). inodes_at p.block) placed ∙ reads))
              (nothing_at (Some at) e (ap (λ (r : Result InodeBlock Shape). reserved_below (shared_over shared top (visit_of (cell_item c, block))) (inodes_in r)) reads)))
            where
              no_ok : (b : InodeBlock) (f : Shape) → ◌≡◌ {A = Result InodeBlock Shape} (Ok b) (Err f) → ⊥
              no_ok b f e = cc

  -- ---- the whole table

  cell_absent : (f : ℕ → InodeRecord → ℕ) (k c : ℕ) → (pointer_at inode k c).stamp ≡ 0 → cells_of (λ n. option_map_or (f n) (file_at inode n) 0) k c ≡ 0
  unfolding cells_of
  cell_absent f zero c none = block_gone c f (λ n r at is. let it = has n r is in absurd (it.stands (ap (λ k. (pointer_at inode 0 k).stamp) at ∙ none)))
  cell_absent f (suc k) c none = refl

  mark_apart : (k : ℕ) → ((suc k == 0) && (greatest_word == greatest_word)) ≡ false
  mark_apart k = let test : (suc k == 0) ≡ false = grind (arith, nat_tests) in ap (λ b. b && (greatest_word == greatest_word)) test

  -- What the reserves stand for is told by what is met.
  pub reserved_met : sum_by (reserved_in shared top) (map (sight_of g) (met g label h.active)) ≡ sum_by reserved_file (range_with_len 0 (records_each * fan ^ h.active.levels))
  unfolding met cells_of
  reserved_met =
      summed (met g label h.active)
      ∙ subst (λ e. Reserves (sums.under fan (cells_of reserved_file) h.active.levels 0) (plain g (files_met g) h.active.levels e label)) (top_item inode hole)
      (along Reserves refl reserves_both g (files_met g) greatest_word h.active.levels h.active.root hole (cells_of reserved_file)
      (λ k q block low some. (one_spot [] (item_of hole inode (suc k) q) block (mark_apart k)).0)
      (λ q block some. (cell_amounts q block some).reserved)
      (cell_absent (λ n f. reserved_of (over_cell (n / records_each)) f))
      h.active.levels 0 label (omega arith))
      ∙ all_cells reserved_file h.active.levels
    where
      summed : (ps : List Spot) → sum_by (reserved_in shared top) (map (sight_of g) ps) ≡ sum_by reserved_at_spot ps
      summed [] = refl
      summed (p ∷ ps) = let rest = summed ps in omega (arith, rest, sum_by-cons (reserved_in shared top) (sight_of g p) (map (sight_of g) ps), sum_by-cons reserved_at_spot p ps)

  -- And what of it stands is told, whatever records were shown before.
  pub standing_met : (fs : List InodeRecord) → standing_along shared fs (map (sight_of g) (met g label h.active)) ≡ sum_by standing_file (range_with_len 0 (records_each * fan ^ h.active.levels))
  unfolding met cells_of
  standing_met fs =
      subst (λ e. Stands (sums.under fan (cells_of standing_file) h.active.levels 0) (plain g (files_met g) h.active.levels e label)) (top_item inode hole)
      (along Stands stands_none stands_both g (files_met g) greatest_word h.active.levels h.active.root hole (cells_of standing_file)
      (λ k q block low some fs. (one_spot fs (item_of hole inode (suc k) q) block (mark_apart k)).1.0)
      (λ q block some. (cell_amounts q block some).standing)
      (cell_absent (λ n f. standing_in shared f.reserve (tree_of x n f)))
      h.active.levels 0 label (omega arith)) fs
      ∙ all_cells standing_file h.active.levels
