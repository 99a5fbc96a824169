-- Lists that hold a number once, in parts, and that the nodes of a whole tree are different blocks.
use Rattle.std.proofs.Common.{◌≡◌, ℕ, zero, suc, ◌+◌, ◌<◌, ◌≤◌, true, false, cond, List, [], ◌++◌, sym, ◌∙◌, arith, ⊎_elim}
use Rattle.std.specs.Prelude.{Option, Some, None, ◌==◌, flat_map, count_by}
use Rattle.std.specs.List.{range_with_len}
use Rattle.std.proofs.lemmas.List.Sums.{sum_by-cons, sum_by-append}
use Rattle.fv_disk.specs.Shown.{Image}
use Rattle.fv_codec.specs.declared.label.Label.{Label}
use Rattle.fv_image.specs.Containers.{level_width, IsWholeTree}
use Rattle.fv_image.specs.Views.{Placed, entry_count}
use Rattle.fv_image.specs.Held.{Lying, node_from, place_lying, place_of, at_positions}
use Rattle.fv_image.proofs.Named.{is_in}
use Rattle.fv_image.proofs.Counts.{one_or_none}
use Rattle.fv_image.proofs.Replaced.{listed_tells}
use Rattle.fv_image.proofs.NodesOnce.{nodes_once}
use Rattle.fv_image.proofs.HeldPlaces.{part_with, in_node, node_blocks}

-- ---- numbers that are in a list once

abbrev pub times : ℕ → List ℕ → ℕ
times b xs = count_by (λ x. x == b) xs

abbrev pub mark : ℕ → ℕ → ℕ
mark b x = cond (x == b) 1 0

-- parts of which at most one has the number
pub once_in_parts : (b : ℕ) (part : ℕ → List ℕ) (from count : ℕ) → ((k : ℕ) → from ≤ k → k < from + count → times b (part k) ≤ 1)
    → ((j k : ℕ) → from ≤ j → j < k → k < from + count → is_in b (part j) ≡ true → is_in b (part k) ≡ true → ⊥) → times b (flat_map part (range_with_len from count)) ≤ 1
once_in_parts b part from zero each apart = omega arith
once_in_parts b part from (suc count) each apart =
    let rest = flat_map part (range_with_len (from + 1) count) in
    let whole = sum_by-append (mark b) (part from) rest in ⊎_elim
    (λ (some : (is_in b (part from) ≡ true) × (1 ≤ times b (part from))). ⊎_elim
    (λ (later : (is_in b rest ≡ true) × (1 ≤ times b rest)). let p = part_with part b (from + 1) count later.0 in absurd (apart from p.0 (omega arith) (omega (arith, p.1)) (omega (arith, p.2)) some.0 p.3))
    (λ (never : (is_in b rest ≡ false) × (times b rest ≡ 0)). let one = each from (omega arith) (omega arith) in omega (arith, whole, one, never.1))
    (listed_tells (λ x. x == b) rest))
    (λ (none : (is_in b (part from) ≡ false) × (times b (part from) ≡ 0)).
    let more = once_in_parts b part (from + 1) count (λ k low high. each k (omega arith) (omega arith)) (λ j k low order high. apart j k (omega arith) order (omega arith)) in
    omega (arith, whole, none.1, more))
    (listed_tells (λ x. x == b) (part from))

-- two lists of which at most one has the number
pub once_in_two : (b : ℕ) (xs ys : List ℕ) → times b xs ≤ 1 → times b ys ≤ 1 → (is_in b xs ≡ true → is_in b ys ≡ true → ⊥) → times b (xs ++ ys) ≤ 1
once_in_two b xs ys first second apart =
    let whole = sum_by-append (mark b) xs ys in ⊎_elim
    (λ (left : (is_in b xs ≡ true) × (1 ≤ times b xs)). ⊎_elim
    (λ (right : (is_in b ys ≡ true) × (1 ≤ times b ys)). absurd (apart left.0 right.0))
    (λ (none : (is_in b ys ≡ false) × (times b ys ≡ 0)). omega (arith, whole, first, none.1))
    (listed_tells (λ x. x == b) ys))
    (λ (none : (is_in b xs ≡ false) × (times b xs ≡ 0)). omega (arith, whole, second, none.1))
    (listed_tells (λ x. x == b) xs)

pub once_in_lying : (b : ℕ) (o : Option Lying) → times b (place_lying o) ≤ 1
once_in_lying b None = omega arith
once_in_lying b (Some x) = omega (arith, sum_by-cons (mark b) x.place [], one_or_none (x.place == b))

pub once_in_entry : (b : ℕ) (o : Option Placed) → times b (place_of o) ≤ 1
once_in_entry b None = omega arith
once_in_entry b (Some x) = omega (arith, sum_by-cons (mark b) x.pvbn [], one_or_none (x.pvbn == b))

-- ---- the nodes of a whole tree

module _ (i : Image) (l : Label) (whole : IsWholeTree i l.container l.height (entry_count l.span)) (b : ℕ) where
  abbrev width : ℕ → ℕ
  width level = level_width (entry_count l.span) level

  same_node : (level number high other : ℕ) → level ≤ l.height → number < width level → high ≤ l.height → other < width high → is_in b (node_blocks i l level number) ≡ true → is_in b (node_blocks i l high other) ≡ true → (level ≡ high) × (number ≡ other)
  same_node level number high other low within low' within' first second =
      let a = in_node i l b level number low within first in
      let c = in_node i l b high other low' within' second in
      nodes_once i l.container l.height (entry_count l.span) whole level number high other low within low' within' (λ none. a.1 (a.0 ∙ none)) (sym a.0 ∙ c.0)

  -- each block is the node of one position at most
  pub nodes_are_once : times b (at_positions l (node_blocks i l)) ≤ 1
  unfolding at_positions
  nodes_are_once = once_in_parts b (λ level. flat_map (node_blocks i l level) (range_with_len 0 (width level))) 0 (suc l.height)
      (λ level least high. let low : level ≤ l.height = omega (arith, high) in once_in_parts b (node_blocks i l level) 0 (width level)
      (λ number first last. once_in_lying b (node_from (Some l) i level number))
      (λ j k first order last one two. let e = (same_node level j level k low (omega (arith, order, last)) low (omega (arith, last)) one two).1 in omega (arith, order, e)))
      (λ level high first order last one two.
      let p = part_with (node_blocks i l level) b 0 (width level) one in
      let q = part_with (node_blocks i l high) b 0 (width high) two in
      let e = (same_node level p.0 high q.0 (omega (arith, order, last)) (omega (arith, p.2)) (omega (arith, last)) (omega (arith, q.2)) p.3 q.3).0 in
      omega (arith, order, e))
