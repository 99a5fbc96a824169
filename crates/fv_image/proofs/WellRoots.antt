-- Each root of a volume of a sound view, and the base table of each clone, is a table of the machine.
use Rattle.std.proofs.Common.{◌≡◌, ℕ, zero, suc, ◌+◌, ◌*◌, ◌/◌, ◌^◌, ◌<◌, ◌≤◌, Bool, true, false, not, List, [], ◌∷◌, length, inl, inr, refl, sym, ap, subst, ◌∙◌, arith}
use Rattle.std.specs.Prelude.{Option, Some, None, ◌&&◌, ◌||◌, ◌==◌, nat_le, nat_lt, map, flat_map, if◌then◌else◌}
use Rattle.std.specs.List.{list_all, range_with_len}
use Rattle.std.specs.Option.{is_some, option_map, option_or, option_and_then}
use Rattle.std.proofs.lemmas.Bool.{and_parts, and_from}
use Rattle.std.proofs.lemmas.Bool.Decides.{nat_tests}
use Rattle.std.proofs.lemmas.List.Folds.{list_all-map}
use Rattle.fv_codec.specs.declared.pointer.Pointer.{Pointer}
use Rattle.fv_codec.specs.declared.inode.InodeRecord.{InodeRecord}
use Rattle.fv_codec.specs.Blocks.{greatest_word}
use Rattle.fv_model.specs.Trees.{fan}
use Rattle.fv_laws.specs.WellFormed.{IsWellTable}
use Rattle.fv_laws.proofs.Lists.{In}
use Rattle.fv_tables.specs.Spelled.{hole, stored, pointer_at}
use Rattle.fv_tables.specs.Told.{Standing, entry_or, listed, records_each, file_at, records}
use Rattle.fv_tables.specs.Reached.{Item, item_of, items}
use Rattle.fv_tables.proofs.Lists.{all_in_part}
use Rattle.fv_tables.proofs.Items.{at_inode, at_file, number_within}
use Rattle.fv_image.specs.Views.{Placed, Rooted, Head, View}
use Rattle.fv_image.specs.Chains.{along, place, under, parent_in, span_at}
use Rattle.fv_image.specs.Volumes.{standing_of, table_at}
use Rattle.fv_image.specs.Seen.{Reached, Root, VolumeSeen, reached_at, root_seen, roots_of, volume_seen, seen}
use Rattle.fv_image.specs.BlockRules.{is_fine}
use Rattle.fv_image.specs.ReachRules.{all_roots, shape_for, block_is, has_reached_shapes, are_distinct, has_distinct_files, reaches_once, is_same_position}
use Rattle.fv_image.specs.TableRules.{is_below_mark, has_marks_over, is_cell_of, has_cells_within, are_levels, has_levels}
use Rattle.fv_image.specs.Soundness.{AreTables}
use Rattle.fv_image.proofs.Counts.{le_of_test}
use Rattle.fv_image.proofs.SameSeen.{of_volume}
use Rattle.fv_image.proofs.WellTrees.{StandsAt}
use Rattle.fv_image.proofs.WellNodes.{HasBlock, IsSoundTree}
use Rattle.fv_image.proofs.WellTables.{IsSoundTable, well_table}

-- ---- lists

-- what holds of all holds of one
pub all_one : {X Y : Type 0} (p : Y → Bool) (f : X → Y) (xs : List X) (x : X) → list_all p (map f xs) ≡ true → In x xs → p (f x) ≡ true
all_one p f [] x all there = absurd there
all_one p f (y ∷ ys) x all (inl e) = ap (λ z. p (f z)) (sym e) ∙ (and_parts (p (f y)) _ all).0
all_one p f (y ∷ ys) x all (inr there) = all_one p f ys x (and_parts (p (f y)) _ all).1 there

-- of a listing, of each value
one_listed : (p : ℕ × InodeRecord → Bool) (f : ℕ → Option InodeRecord) (count n : ℕ) (r : InodeRecord) → list_all p (listed f (range_with_len 0 count)) ≡ true → n < count → f n ≡ Some r → p (n, r) ≡ true
unfolding listed
one_listed p f count n r all low is =
    let here = all_in_part p (λ k. entry_or k (f k)) n 0 count all (omega arith) (omega (arith, low)) in
    (and_parts (p (n, r)) true (subst (λ (o : Option InodeRecord). list_all p (entry_or n o) ≡ true) is here)).0

-- what all records of a table pass each does
pub of_records : (x : Standing) (p : ℕ × InodeRecord → Bool) → list_all p (records x) ≡ true → (n : ℕ) (q : InodeRecord) → file_at x.inode n ≡ Some q → p (n, q) ≡ true
unfolding records
of_records x p all n q is = one_listed p (file_at x.inode) (records_each * fan ^ x.inode.levels) n q all (number_within (λ e. true) x n q is) is

-- ---- blocks of a view

-- each entry holds a whole block
abbrev pub HasWholeBlocks : View → Type 0
HasWholeBlocks w = (s v : ℕ) (p : Placed) → w.entry s v ≡ Some p → length p.block ≡ 4096

module _ (w : View) (whole : HasWholeBlocks w) where
  along_whole : (n s v : ℕ) (p : Placed) → along w n s v ≡ Some p → length p.block ≡ 4096
  unfolding along
  along_whole zero s v p e = absurd cc
  along_whole (suc n) s v p e = so (w.entry s v) refl (parent_in (w.head s)) (λ k f. along_whole n k v p f) e
    where
      so : (o : Option Placed) → w.entry s v ≡ o → (k : Option ℕ) → ((k : ℕ) → along w n k v ≡ Some p → length p.block ≡ 4096) → option_or o (option_and_then (λ q. along w n q v) k) ≡ Some p → length p.block ≡ 4096
      so (Some q) there k rest e = whole s v p (there ∙ e)
      so None there None rest e = absurd cc
      so None there (Some k) rest e = rest k e

  place_whole : (s v : ℕ) (p : Placed) → place w s v ≡ Some p → length p.block ≡ 4096
  unfolding place
  place_whole s v p e = so (nat_lt v (span_at w s)) e
    where
      so : (b : Bool) → (if b then along w 64 s v else w.entry s v) ≡ Some p → length p.block ≡ 4096
      so true e = along_whole 64 s v p e
      so false e = whole s v p e

-- ---- a tree of a root

module _ (w : View) (whole : HasWholeBlocks w) (s now : ℕ) (r : Rooted) where
  -- what is asked of all that a root reaches
  pub record AreReached : Type 0 where
    pub shapes : list_all (λ e. block_is (λ block. is_fine (shape_for e block)) (place w s e.pointer.vvbn)) (items (standing_of w s r)) ≡ true
    pub there : list_all (λ e. is_some (place w s e.pointer.vvbn)) (items (standing_of w s r)) ≡ true
    pub stamps : list_all (λ e. nat_le e.pointer.stamp now) (items (standing_of w s r)) ≡ true
    pub marks : list_all (λ e. not (is_below_mark e) || nat_le e.pointer.stamp e.holder.stamp) (items (standing_of w s r)) ≡ true

  module _ (are : AreReached) (reserve : ℕ) (top : Pointer) (owner levels : ℕ) (root : Pointer) (starts : are_levels reserve levels root.stamp ≡ true)
      (each : (test : Item → Bool) → list_all test (items (standing_of w s r)) ≡ true → (level place : ℕ) → StandsAt (stored (under w s) owner levels root) level place → test (item_of top (stored (under w s) owner levels root) level place) ≡ true) where
    block_at_position : (level q : ℕ) → StandsAt (stored (under w s) owner levels root) level q → HasBlock top (stored (under w s) owner levels root) level q
    unfolding under
    block_at_position level q some =
        let e : Item = item_of top (stored (under w s) owner levels root) level q in
        by (place w s e.pointer.vvbn) refl
        (each (λ e. is_some (place w s e.pointer.vvbn)) are.there level q some)
        (each (λ e. block_is (λ block. is_fine (shape_for e block)) (place w s e.pointer.vvbn)) are.shapes level q some)
      where
        by : (o : Option Placed) → place w s (pointer_at (stored (under w s) owner levels root) level q).vvbn ≡ o → is_some o ≡ true
            → block_is (λ block. is_fine (shape_for (item_of top (stored (under w s) owner levels root) level q) block)) o ≡ true → HasBlock top (stored (under w s) owner levels root) level q
        by None is there shape = absurd cc
        by (Some p) is there shape = record {
          block = p.block;
          there = ap (option_map (λ (p : Placed). p.block)) is;
          long = place_whole w whole s _ p is;
          shape = shape;
        }

    pub sound_tree : IsSoundTree now reserve top (stored (under w s) owner levels root)
    sound_tree = record {
      blocks = block_at_position;
      stamps = λ level q some. le_of_test (pointer_at (stored (under w s) owner levels root) level q).stamp now (each (λ e. nat_le e.pointer.stamp now) are.stamps level q some);
      marks = λ level q low some.
          let test : nat_lt level levels ≡ true = grind (arith, nat_tests, low) in
          let t = stored (under w s) owner levels root in
          let at = each (λ e. not (is_below_mark e) || nat_le e.pointer.stamp e.holder.stamp) are.marks level q some in
          le_of_test (pointer_at t level q).stamp (pointer_at t (level + 1) (q / fan)).stamp
          (subst (λ (b : Bool). (not b || nat_le (pointer_at t level q).stamp (if b then pointer_at t (level + 1) (q / fan) else top).stamp) ≡ true) test at);
      levels = starts;
    }

-- ---- a root

module _ (w : View) (tables : AreTables (seen w)) (whole : HasWholeBlocks w) (s : ℕ) (h : Head) (small : s < 64) (there : w.head s ≡ Some h) (r : ℕ × Rooted) (one : In r (roots_of h)) where
  -- what is asked of each root
  of_root : (test : VolumeSeen → Root → Bool) → all_roots (seen w) test ≡ true → test (volume_seen w s h) (root_seen w s r.0 r.1) ≡ true
  unfolding volume_seen
  of_root test all = all_one (test (volume_seen w s h)) (λ (r : ℕ × Rooted). root_seen w s r.0 r.1) (roots_of h) r (of_volume w (λ s x. list_all (test x) x.roots) s h all small there) one

  -- and of each pointer that it reaches
  of_reached : (test : Reached → Bool) → all_roots (seen w) (λ x r. list_all test r.reached) ≡ true → list_all (λ e. test (reached_at w s e)) (items (standing_of w s r.1)) ≡ true
  unfolding root_seen
  of_reached test all = sym (list_all-map test (reached_at w s) (items (standing_of w s r.1))) ∙ of_root (λ x r. list_all test r.reached) all

  reached_with : (now : ℕ) → list_all (λ e. nat_le e.pointer.stamp now) (items (standing_of w s r.1)) ≡ true → AreReached w whole s now r.1
  unfolding has_reached_shapes reaches_once has_marks_over root_seen
  reached_with now stamps = record {
    shapes = of_reached (λ e. block_is (λ block. is_fine (shape_for e.item block)) e.at) tables.shapes;
    there = once;
    stamps = stamps;
    marks = of_reached (λ e. not (is_below_mark e.item) || nat_le e.item.pointer.stamp e.item.holder.stamp) tables.marks;
  }
    where
      firsts : (rest : Reached → Bool) (es : List Reached) → list_all (λ a. is_some a.at && rest a) es ≡ true → list_all (λ a. is_some a.at) es ≡ true
      firsts rest [] all = refl
      firsts rest (e ∷ es) all =
          let parts = and_parts (is_some e.at && rest e) _ all in
          and_from (is_some e.at) _ (and_parts (is_some e.at) (rest e) parts.0).0 (firsts rest es parts.1)

      once : list_all (λ e. is_some (place w s e.pointer.vvbn)) (items (standing_of w s r.1)) ≡ true
      once = sym (list_all-map (λ (a : Reached). is_some a.at) (reached_at w s) (items (standing_of w s r.1)))
          ∙ firsts _ (map (reached_at w s) (items (standing_of w s r.1))) (of_root (λ x r. list_all (λ a. is_some a.at && list_all (λ b. not (a.item.pointer.vvbn == b.item.pointer.vvbn) || is_same_position a.item b.item) r.reached) r.reached) tables.once)

  levels_of : (are_levels 0 r.1.levels r.1.root.stamp && list_all (λ (f : ℕ × InodeRecord). are_levels f.1.reserve f.1.levels f.1.root.stamp) (records (standing_of w s r.1))) ≡ true
  unfolding has_levels root_seen
  levels_of = of_root (λ x r. are_levels 0 r.rooted.levels r.rooted.root.stamp && list_all (λ (f : ℕ × InodeRecord). are_levels f.1.reserve f.1.levels f.1.root.stamp) r.files) tables.levels

  names_of : are_distinct (map (λ (f : ℕ × InodeRecord). Rattle.std.specs.Prelude.take f.1.name_length f.1.name) (records (standing_of w s r.1))) ≡ true
  unfolding has_distinct_files root_seen
  names_of = of_root (λ x r. are_distinct (map (λ (f : ℕ × InodeRecord). Rattle.std.specs.Prelude.take f.1.name_length f.1.name) r.files)) tables.files

  cells_of : list_all (λ (f : ℕ × InodeRecord). list_all (λ e. not (is_cell_of f.0 e.item) || nat_lt e.item.place f.1.length) (map (reached_at w s) (items (standing_of w s r.1)))) (records (standing_of w s r.1)) ≡ true
  unfolding has_cells_within root_seen
  cells_of = of_root (λ x r. list_all (λ (f : ℕ × InodeRecord). list_all (λ e. not (is_cell_of f.0 e.item) || nat_lt e.item.place f.1.length) r.reached) r.files) tables.cells

  -- With stamps up to a number the root is a table.
  pub sound_root : (now : ℕ) → list_all (λ e. nat_le e.pointer.stamp now) (items (standing_of w s r.1)) ≡ true → r.1.levels ≤ 2 → IsSoundTable now (under w s) r.1.levels r.1.root
  sound_root now stamps few =
      let are = reached_with now stamps in
      let x = standing_of w s r.1 in
      let levels = and_parts (are_levels 0 r.1.levels r.1.root.stamp) _ levels_of in
      record {
        inode = sound_tree w whole s now r.1 are 0 hole greatest_word r.1.levels r.1.root levels.0 (λ test all. at_inode test x all);
        files = λ n q is. sound_tree w whole s now r.1 are q.reserve (pointer_at x.inode 0 (n / records_each)) n q.levels q.root
            (of_records x (λ f. are_levels f.1.reserve f.1.levels f.1.root.stamp) levels.1 n q is) (λ test all. at_file test x all n q is);
        names = names_of;
        cells = λ n q is i some.
            let test : Item → Bool = λ e. not (is_cell_of n e) || nat_lt e.place q.length in
            let all = of_records x (λ f. list_all (λ e. not (is_cell_of f.0 e.item) || nat_lt e.item.place f.1.length) (map (reached_at w s) (items x))) cells_of n q is in
            let each : list_all (λ e. not (is_cell_of n e) || nat_lt e.place q.length) (items x) ≡ true = sym (list_all-map (λ (e : Reached). not (is_cell_of n e.item) || nat_lt e.item.place q.length) (reached_at w s) (items x)) ∙ all in
            below n i q.length (at_file (λ e. not (is_cell_of n e) || nat_lt e.place q.length) x each n q is 0 i some);
        few = few;
      }
    where
      below : (n i length : ℕ) → (not ((n == n) && (0 == 0)) || nat_lt i length) ≡ true → i < length
      below n i length e = let itself : (n == n) ≡ true = grind (arith, nat_tests) in grind (arith, nat_tests, e, itself)

  -- and so it is one of the machine's
  pub well_root : (now : ℕ) → list_all (λ e. nat_le e.pointer.stamp now) (items (standing_of w s r.1)) ≡ true → r.1.levels ≤ 2 → IsWellTable now (table_at w s r.1)
  well_root now stamps few = well_table now (under w s) r.1.levels r.1.root (sound_root now stamps few)
