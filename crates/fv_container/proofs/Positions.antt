-- A tree that was read, each node of which is the one of its position.
use Rattle.std.proofs.Common.{◌≡◌, ◌≢◌, ℕ, ◌+◌, ◌-◌, ◌*◌, ◌/◌, ◌%◌, ◌<◌, ◌≤◌, List, length, get_or, Bool, true, false, ◌&&◌, ◌==◌, refl, sym, ap, subst, ◌∙◌, arith, ⊎_elim, Ok, Option, None}
use Rattle.std.specs.Prelude.{nat_lt}
use Rattle.std.proofs.lemmas.Bool.{and_parts, cases_eq, cases_lt}
use Rattle.std.proofs.lemmas.Bool.Decides.{nat_tests}
use Rattle.std.proofs.lemmas.List.{get_or_past}
use Rattle.fv_disk.specs.Shown.{Image}
use Rattle.fv_codec.specs.declared.container.ContainerInner.{ContainerInner}
use Rattle.fv_codec.specs.Blocks.{inner_at, leaf_at}
use Rattle.fv_image.specs.Containers.{child_in, entry_in, level_width, lying, node_below, node_of}
use Rattle.fv_container.specs.declared.entry.Entry.{Entry}
use Rattle.fv_container.specs.Spelled.{pair_of}
use Rattle.fv_container.specs.Reading.{IsInnerAs, StandInner, StandLeaves, StandsInner, TreeAt}
use Rattle.fv_container.specs.Written.{AreWritten, IsInnerOf, IsLeafOf}
use Rattle.fv_container.proofs.Nodes.{lying_read}
use Rattle.fv_container.proofs.Walks.{leaf_of}

-- ---- one node more

pub inner_more : (i : Image) (places : List ℕ) (leaves q at : ℕ) (node : ContainerInner) (whole own : Bool) → at ≡ get_or places (leaves + q) 0
    → (at ≢ 0 → inner_at (i at) ≡ Ok node) → (own ≡ true → at ≢ 0 → IsInnerAs node 1 q (leaves - 256 * q))
    → (whole ≡ true → StandInner i places leaves q) → (whole && own) ≡ true → StandInner i places leaves (q + 1)
inner_more i places leaves q at node whole own is said own_is so_far all k lt some =
    let parts = and_parts whole own all in
    let here : get_or places (leaves + q) 0 ≢ 0 → StandsInner i (get_or places (leaves + q) 0) 1 q (leaves - 256 * q) =
    subst (λ (p : ℕ). p ≢ 0 → StandsInner i p 1 q (leaves - 256 * q)) is (λ there. record { node = node; said = said there; own = own_is parts.1 there }) in
    ⊎_elim
    (λ (e : k ≡ q). subst (λ (n : ℕ). get_or places (leaves + n) 0 ≢ 0 → StandsInner i (get_or places (leaves + n) 0) 1 n (leaves - 256 * n)) (sym e) here some)
    (λ (ne : k ≢ q). so_far parts.0 k (omega (arith, lt, ne)) some)
    (cases_eq k q)

-- the same nodes, by the same places
pub stand_at : (i j : Image) (leaves count : ℕ) (above places : List ℕ) → j ≡ i → ((m : ℕ) → leaves ≤ m → get_or places m 0 ≡ get_or above m 0) → StandInner j above leaves count → StandInner i places leaves count
stand_at i j leaves count above places same past stand q within some =
    let at : get_or places (leaves + q) 0 ≡ get_or above (leaves + q) 0 = past (leaves + q) (omega arith) in
    rw (at, ← same) (stand q within (λ none. some (at ∙ none)))

-- ---- the whole tree

below_root : (i : Image) (root height c : ℕ) → height ≡ 2 → c < 256 → node_of i root height 1 c ≡ child_in (lying inner_at i root) c
unfolding node_below
below_root i root height c high lt =
    let first : c / 256 ≡ 0 = omega (arith, lt) in
    let itself : c % 256 ≡ c = omega (arith, lt) in
    rw (high, first, itself) refl

module _ (i : Image) (root height : ℕ) (es : List (Option Entry)) (places : List ℕ) (tree : TreeAt i root height (length es) places)
    (read : (v : ℕ) → v < length es → pair_of (get_or es v None) ≡ entry_in (lying leaf_at i (get_or places (v / 256) 0)) (v % 256))
    (stand_leaves : StandLeaves i (length es) places (level_width (length es) 0)) (stand_inner : StandInner i places (level_width (length es) 0) (level_width (length es) 1))
    (stands_top : height ≡ 2 → root ≢ 0 → StandsInner i root 2 0 (level_width (length es) 1))
  where
    abbrev n : ℕ
    n = length es

    abbrev leaves : ℕ
    leaves = level_width n 0

    abbrev inner : ℕ
    inner = level_width n 1

    few_inner : inner ≤ 256
    few_inner = omega (arith, tree.few)

    leaf_place : (k : ℕ) → k < leaves → get_or places k 0 ≡ child_in (lying inner_at i (get_or places (leaves + k / 256) 0)) (k % 256)
    leaf_place k within =
        let up : k / 256 < inner = omega (arith, within) in
        tree.leaf k within ∙ sym (leaf_of i root height k tree.least) ∙ ap (λ (p : ℕ). child_in (lying inner_at i p) (k % 256)) (sym (tree.inner (k / 256) up))

    leaf_block : (k : ℕ) → k < leaves → get_or places k 0 ≢ 0 → IsLeafOf es k (i (get_or places k 0))
    leaf_block k within some =
        let stands = stand_leaves k within some in
        record {
          leaf = stands.leaf;
          said = stands.said;
          index_said = stands.own.index_said;
          entries = λ c lt. ⊎_elim
              (λ (inside : 256 * k + c < n).
              let at : (256 * k + c) / 256 ≡ k = omega (arith, lt) in
              let rest : (256 * k + c) % 256 ≡ c = omega (arith, lt) in
              let here : pair_of (get_or es (256 * k + c) None) ≡ entry_in (lying leaf_at i (get_or places k 0)) c =
              read (256 * k + c) inside ∙ ap (λ (m : ℕ). entry_in (lying leaf_at i (get_or places m 0)) ((256 * k + c) % 256)) at ∙ ap (λ (m : ℕ). entry_in (lying leaf_at i (get_or places k 0)) m) rest in
              sym (here ∙ ap (λ l. entry_in l c) (lying_read leaf_at i (get_or places k 0) stands.leaf some stands.said)))
              (λ (past : n ≤ 256 * k + c). rw (stands.own.pvbns c (omega (arith, past)) lt, stands.own.kinds c (omega (arith, past)) lt) (sym (ap pair_of (get_or_past es (256 * k + c) None past))))
              (cases_lt (256 * k + c) n);
        }

    -- the children of an inner node, where it has them from a number on
    children : (at level number from end : ℕ) → at ≢ 0 → StandsInner i at level number (end - from) → ((c : ℕ) → c < 256 → from + c < end → get_or places (from + c) 0 ≡ child_in (lying inner_at i at) c)
        → IsInnerOf places level number from end (i at)
    children at level number from end some stands below = record {
      node = stands.node;
      said = stands.said;
      level_said = stands.own.level_said;
      number_said = stands.own.number_said;
      children = λ c lt. ⊎_elim
          (λ (inside : from + c < end).
          let test : nat_lt (from + c) end ≡ true = grind (arith, nat_tests) in
          rw test (sym (below c lt inside ∙ ap (λ m. child_in m c) (lying_read inner_at i at stands.node some stands.said))))
          (λ (past : end ≤ from + c).
          let test : nat_lt (from + c) end ≡ false = grind (arith, nat_tests) in
          rw test (stands.own.ends c (omega (arith, past)) lt))
          (cases_lt (from + c) end);
    }

    inner_block : (q : ℕ) → q < inner → get_or places (leaves + q) 0 ≢ 0 → IsInnerOf places 1 q (256 * q) leaves (i (get_or places (leaves + q) 0))
    inner_block q within some = children (get_or places (leaves + q) 0) 1 q (256 * q) leaves some (stand_inner q within some) (λ c lt inside.
        let up : (256 * q + c) / 256 ≡ q = omega (arith, lt) in
        let rest : (256 * q + c) % 256 ≡ c = omega (arith, lt) in
        leaf_place (256 * q + c) inside ∙ ap (λ (p : ℕ). child_in (lying inner_at i (get_or places (leaves + p) 0)) ((256 * q + c) % 256)) up
        ∙ ap (λ (m : ℕ). child_in (lying inner_at i (get_or places (leaves + q) 0)) m) rest)

    top_block : get_or places (leaves + inner) 0 ≢ 0 → IsInnerOf places 2 0 leaves (leaves + inner) (i (get_or places (leaves + inner) 0))
    top_block some = ⊎_elim
        (λ (high : height ≡ 2).
        let place : get_or places (leaves + inner) 0 ≡ root = tree.top ∙ rw high refl in
        let there : root ≢ 0 = λ none. some (place ∙ none) in
        let width : (leaves + inner) - leaves ≡ inner = omega arith in
        subst (λ (p : ℕ). IsInnerOf places 2 0 leaves (leaves + inner) (i p)) (sym place)
        (children root 2 0 leaves (leaves + inner) there (subst (StandsInner i root 2 0) (sym width) (stands_top high there)) (λ c lt inside.
        tree.inner c (omega (arith, inside)) ∙ below_root i root height c high lt)))
        (λ (low : height ≢ 2).
        let test : (height == 2) ≡ false = grind (arith, nat_tests, low) in
        absurd (some (tree.top ∙ rw test refl)))
        (cases_eq height 2)

    pub read_over : AreWritten es places (length places) i
    read_over m within some = record {
      leaf = λ low. leaf_block m low some;
      inner = λ low high.
          let at : leaves + (m - leaves) ≡ m = omega (arith, low) in
          subst (λ (k : ℕ). IsInnerOf places 1 (m - leaves) (256 * (m - leaves)) leaves (i (get_or places k 0))) at
          (inner_block (m - leaves) (omega (arith, low, high)) (λ none. some (ap (λ (k : ℕ). get_or places k 0) (sym at) ∙ none)));
      top = λ top. subst (λ (k : ℕ). IsInnerOf places 2 0 leaves (leaves + inner) (i (get_or places k 0))) (sym top) (top_block (λ none. some (ap (λ (k : ℕ). get_or places k 0) top ∙ none)));
    }
