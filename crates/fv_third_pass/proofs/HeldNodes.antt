-- The blocks of a container's nodes, as they are counted and as a layout has them.
use Rattle.std.proofs.Common.{◌≡◌, ℕ, zero, suc, ◌+◌, ◌-◌, ◌/◌, ◌%◌, ◌<◌, ◌≤◌, Bool, true, false, List, [], ◌∷◌, ◌++◌, get_or, refl, sym, ap, ◌∙◌, arith}
use Rattle.std.specs.Prelude.{Some, None, flat_map, ◌&&◌, nat_le, nat_lt, ◌==◌, if◌then◌else◌}
use Rattle.std.specs.List.{range_with_len}
use Rattle.std.proofs.lemmas.Bool.Decides.{nat_tests}
use Rattle.std.proofs.lemmas.List.Folds.{flat_map-map}
use Rattle.std.proofs.lemmas.List.FromFn.{get_or-map-range_with_len}
use Rattle.std.proofs.lemmas.List.{append-nil}
use Rattle.fv_disk.specs.Shown.{Image}
use Rattle.fv_codec.specs.declared.label.Label.{Label}
use Rattle.fv_codec.specs.Blocks.{inner_at}
use Rattle.fv_laws.proofs.Lists.{from_range}
use Rattle.fv_image.specs.Containers.{fan, level_width, lying, child_in, node_of, node_below, height_of}
use Rattle.fv_image.specs.Views.{entry_count}
use Rattle.fv_image.specs.Held.{lying_at, node_from, place_lying, at_positions}
use Rattle.fv_third_pass.specs.Tallied.{times}
use Rattle.fv_third_pass.specs.Words.{at_place}
use Rattle.fv_third_pass.specs.Nodes.{over, at_places, nodes_below, below_blocks, node_blocks}
use Rattle.fv_first_pass.proofs.Ranges.{same_parts}
use Rattle.fv_third_pass.proofs.Times.{times_both}

module _ (i : Image) (l : Label) where
  abbrev width : ℕ → ℕ
  width level = level_width (entry_count l.span) level

  abbrev place_at : ℕ → ℕ → ℕ
  place_at level q = node_of i l.container l.height level q

  abbrev blocks_at : ℕ → ℕ → List ℕ
  blocks_at level q = place_lying (node_from (Some l) i level q)

  -- the blocks of a level's nodes
  abbrev of_level : ℕ → List ℕ
  of_level level = flat_map (blocks_at level) (range_with_len 0 (width level))

  lying_place : (p : ℕ) → place_lying (lying_at i p) ≡ at_place p
  lying_place zero = refl
  lying_place (suc p) = refl

  block_is : (level q : ℕ) → level ≤ l.height → q < width level → blocks_at level q ≡ at_place (place_at level q)
  unfolding node_from
  block_is level q low inside =
      let height : nat_le level l.height ≡ true = grind (arith, nat_tests, low) in
      let test : nat_lt q (width level) ≡ true = grind (arith, nat_tests, inside) in
      ap (λ (b : Bool). place_lying (if b && nat_lt q (width level) then lying_at i (place_at level q) else None)) height
      ∙ ap (λ (b : Bool). place_lying (if b then lying_at i (place_at level q) else None)) test
      ∙ lying_place (place_at level q)

  -- a level whose nodes lie where those over them say
  level_is : (level : ℕ) (above : List ℕ) → suc level ≤ l.height → ((q : ℕ) → q < width level → get_or above (q / fan) 0 ≡ place_at (suc level) (q / fan)) → of_level level ≡ at_places (nodes_below i l level above)
  unfolding node_below
  level_is level above low are =
      same_parts (blocks_at level) (λ q. at_place (child_in (over i above q) (q % fan))) (range_with_len 0 (width level)) (λ q there.
      let inside : q < 0 + width level = (from_range 0 (width level) q there).1 in
      let steps : l.height - level ≡ suc (l.height - suc level) = omega (arith, low) in
      block_is level q (omega (arith, low)) (omega (arith, inside))
      ∙ ap (λ n. at_place (node_below i l.container n q)) steps
      ∙ ap (λ p. at_place (child_in (lying inner_at i p) (q % fan))) (sym (are q (omega (arith, inside)))))
      ∙ sym (flat_map-map at_place (λ q. child_in (over i above q) (q % fan)) (range_with_len 0 (width level)))

  -- the root alone
  top_is : width l.height ≡ 1 → of_level l.height ≡ at_places (l.container ∷ [])
  unfolding node_below
  top_is one =
      let none : l.height - l.height ≡ 0 = omega arith in
      ap (λ n. flat_map (blocks_at l.height) (range_with_len 0 n)) one
      ∙ append-nil (blocks_at l.height 0)
      ∙ block_is l.height 0 (omega arith) (omega (arith, one))
      ∙ ap (λ n. at_place (node_below i l.container n 0)) none
      ∙ sym (append-nil (at_place l.container))

  -- the place of the root, by number
  root_at : (k n : ℕ) → n ≡ 0 → get_or (l.container ∷ []) k 0 ≡ node_below i l.container n k
  unfolding node_below
  root_at zero n none = sym (ap (λ n. node_below i l.container n 0) none)
  root_at (suc k) n none =
      let test : (suc k == 0) ≡ false = grind (arith, nat_tests) in
      sym (ap (λ n. node_below i l.container n (suc k)) none ∙ ap (λ (b : Bool). if b then l.container else 0) test)

  -- ---- of both heights

  abbrev positions : List ℕ
  positions = at_positions l blocks_at

  abbrev top : List ℕ
  top = l.container ∷ []

  one_level : (b : ℕ) → l.height ≡ 1 → width l.height ≡ 1 → times b (node_blocks i l) ≡ times b positions
  unfolding at_positions
  one_level b one root =
      let leaves : of_level 0 ≡ at_places (nodes_below i l 0 top) = level_is 0 top (omega (arith, one)) (λ q inside. root_at (q / fan) (l.height - 1) (omega (arith, one))) in
      let first : of_level l.height ≡ at_places top = top_is root in
      let test : (l.height == 1) ≡ true = grind (arith, nat_tests, one) in
      let below : below_blocks i l top ≡ of_level 0 =
      ap (λ (t : Bool). if t then at_places (nodes_below i l 0 top) else at_places (nodes_below i l 1 top) ++ at_places (nodes_below i l 0 (nodes_below i l 1 top))) test ∙ sym leaves in
      let all : positions ≡ of_level 0 ++ (of_level l.height ++ []) =
      ap (λ h. flat_map of_level (range_with_len 0 (suc h))) one ∙ ap (λ h. of_level 0 ++ (of_level h ++ [])) (sym one) in
      let mine : times b (node_blocks i l) ≡ times b (of_level l.height) + times b (of_level 0) =
      times_both b (at_places top) (below_blocks i l top) ∙ ap (λ xs. times b xs + times b (below_blocks i l top)) (sym first) ∙ ap (λ xs. times b (of_level l.height) + times b xs) below in
      let its : times b positions ≡ times b (of_level 0) + times b (of_level l.height) =
      ap (times b) all ∙ times_both b (of_level 0) (of_level l.height ++ []) ∙ ap (λ xs. times b (of_level 0) + times b xs) (append-nil (of_level l.height)) in
      omega (arith, mine, its)

  -- the place of a node over a leaf
  middle_at : l.height ≡ 2 → (q : ℕ) → q < width 0 → get_or (nodes_below i l 1 top) (q / fan) 0 ≡ place_at 1 (q / fan)
  unfolding node_below
  middle_at two q inside =
      let over_it : q / 256 < width 1 = omega (arith, inside) in
      let steps : l.height - 1 ≡ 1 = omega (arith, two) in
      get_or-map-range_with_len (λ q. child_in (over i top q) (q % fan)) 0 (width 1) (q / fan) (q / fan) 0 over_it (omega arith)
      ∙ ap (λ p. child_in (lying inner_at i p) (q / fan % fan)) (root_at (q / fan / fan) 0 refl)
      ∙ sym (ap (λ n. node_below i l.container n (q / fan)) steps)

  two_levels : (b : ℕ) → l.height ≡ 2 → width l.height ≡ 1 → times b (node_blocks i l) ≡ times b positions
  unfolding at_positions
  two_levels b two root =
      let middle : of_level 1 ≡ at_places (nodes_below i l 1 top) = level_is 1 top (omega (arith, two)) (λ q inside. root_at (q / fan) (l.height - 2) (omega (arith, two))) in
      let leaves : of_level 0 ≡ at_places (nodes_below i l 0 (nodes_below i l 1 top)) = level_is 0 (nodes_below i l 1 top) (omega (arith, two)) (middle_at two) in
      let first : of_level l.height ≡ at_places top = top_is root in
      let test : (l.height == 1) ≡ false = grind (arith, nat_tests, two) in
      let below : below_blocks i l top ≡ of_level 1 ++ of_level 0 =
      ap (λ (t : Bool). if t then at_places (nodes_below i l 0 top) else at_places (nodes_below i l 1 top) ++ at_places (nodes_below i l 0 (nodes_below i l 1 top))) test
      ∙ ap (λ xs. xs ++ at_places (nodes_below i l 0 (nodes_below i l 1 top))) (sym middle) ∙ ap (λ xs. of_level 1 ++ xs) (sym leaves) in
      let all : positions ≡ of_level 0 ++ (of_level 1 ++ (of_level l.height ++ [])) =
      ap (λ h. flat_map of_level (range_with_len 0 (suc h))) two ∙ ap (λ h. of_level 0 ++ (of_level 1 ++ (of_level h ++ []))) (sym two) in
      let mine : times b (node_blocks i l) ≡ times b (of_level l.height) + (times b (of_level 1) + times b (of_level 0)) =
      times_both b (at_places top) (below_blocks i l top) ∙ ap (λ xs. times b xs + times b (below_blocks i l top)) (sym first)
      ∙ ap (λ xs. times b (of_level l.height) + times b xs) below ∙ ap (λ n. times b (of_level l.height) + n) (times_both b (of_level 1) (of_level 0)) in
      let its : times b positions ≡ times b (of_level 0) + (times b (of_level 1) + times b (of_level l.height)) =
      ap (times b) all ∙ times_both b (of_level 0) (of_level 1 ++ (of_level l.height ++ []))
      ∙ ap (λ n. times b (of_level 0) + n) (times_both b (of_level 1) (of_level l.height ++ [])) ∙ ap (λ xs. times b (of_level 0) + (times b (of_level 1) + times b xs)) (append-nil (of_level l.height)) in
      omega (arith, mine, its)

  -- a container of the least height
  pub nodes_counted : (b : ℕ) → l.height ≡ height_of (entry_count l.span) → l.span ≤ 1048576 → times b (node_blocks i l) ≡ times b positions
  nodes_counted b high most = so (nat_le (width 0) fan) refl high
    where
      so : (t : Bool) → nat_le (width 0) fan ≡ t → l.height ≡ (if t then 1 else 2) → times b (node_blocks i l) ≡ times b positions
      so true test is =
          let narrow : width 0 ≤ 256 = grind (arith, nat_tests, test) in
          one_level b is (ap width is ∙ (let e : width 1 ≡ 1 = omega (arith, narrow) in e))
      so false test is = two_levels b is (ap width is ∙ (let e : width 2 ≡ 1 = omega (arith, most) in e))
