-- A tree that was spelled stays where its nodes stay, and one that was flushed is as an opening would read it.
use Rattle.std.proofs.Common.{◌≡◌, ◌≢◌, ◌<◌, ◌≤◌, ◌+◌, ◌-◌, ◌*◌, ℕ, suc, true, false, List, length, get_or, Option, refl, sym, ap, subst, ◌∙◌, ⊎_elim, arith, Ok}
use Rattle.std.specs.Prelude.{nat_lt}
use Rattle.std.proofs.lemmas.Bool.{cases_eq, cases_lt}
use Rattle.std.proofs.lemmas.Bool.Decides.{nat_tests}
use Rattle.fv_disk.specs.Shown.{Image}
use Rattle.fv_codec.specs.Fields.{in_range}
use Rattle.fv_image.specs.Containers.{IsNodePlace, inner_for, leaf_for, level_width, node_of, node_shape, node_verdict}
use Rattle.fv_image.proofs.NodesOnce.{one_position}
use Rattle.fv_image.proofs.SameContainers.{AgreeOnTree, ends_still, nodes_still, same_entries, same_place}
use Rattle.fv_container.specs.declared.entry.Entry.{Entry}
use Rattle.fv_container.specs.Mapped.{Mapped, node_count}
use Rattle.fv_container.specs.Spelled.{IsOpened, Spelled, names}
use Rattle.fv_container.specs.Clean.{IsCleanTree, IsOver}
use Rattle.fv_container.specs.Flushed.{IsFlushed}
use Rattle.fv_container.specs.Written.{IsInnerOf, IsLeafOf, IsNodeOf}
use Rattle.fv_container.proofs.Named.{named_at, named_where}

-- a node's place is one in another image where each node of the tree has the same place there
node_moved : (i j : Image) (root height entries : ℕ) → ((level number : ℕ) → level ≤ height → number < level_width entries level → node_of i root height level number ≡ node_of j root height level number)
    → (b : ℕ) → IsNodePlace i root height entries b → IsNodePlace j root height entries b
node_moved i j root height entries same b node = record {
  level = node.level;
  number = node.number;
  below = node.below;
  within = node.within;
  place = node.place ∙ same node.level node.number node.below node.within;
  some = node.some;
}

module _ (i j : Image) (root height : ℕ) (map : Mapped) where
  module _ (agree : AgreeOnTree i j root height (length map.entries)) where
    node_kept : (b : ℕ) → IsNodePlace i root height (length map.entries) b → IsNodePlace j root height (length map.entries) b
    node_kept = node_moved i j root height (length map.entries) (λ level number below within. sym (same_place i j root height (length map.entries) level number agree below within))

    node_was : (b : ℕ) → IsNodePlace j root height (length map.entries) b → IsNodePlace i root height (length map.entries) b
    node_was = node_moved j i root height (length map.entries) (λ level number below within. same_place i j root height (length map.entries) level number agree below within)

    -- So does one that was opened: each of its leaves stands at the same place.
    pub opened_kept : IsOpened i root height map → IsOpened j root height map
    opened_kept is = record {
      leaves = λ k within. is.leaves k within ∙ sym (same_place i j root height (length map.entries) 0 k agree (omega arith) within);
      above = record {
        nodes = λ level number low le within some.
            let same : node_of j root height level number ≡ node_of i root height level number = same_place i j root height (length map.entries) level number agree le within in
            let there : node_of i root height level number ≢ 0 = λ none. some (same ∙ none) in
            subst (λ (b : List ℕ). node_shape level b ≡ Ok tt)
            (sym (ap j same ∙ agree (node_of i root height level number) (record { level = level; number = number; below = le; within = within; place = refl; some = there })))
            (is.above.nodes level number low le within there);
      };
      entries = λ v. same_entries i j root height (length map.entries) agree v ∙ is.entries v;
      nodes = λ b node. is.nodes b (node_was b node);
      places = λ b named. node_kept b (is.places b named);
    }

    pub spelled_kept : Spelled i root height map → Spelled j root height map
    spelled_kept is = record {
      shaped = record { nodes = nodes_still i j root height (length map.entries) (λ level number b. node_shape level b ≡ Ok tt) agree is.shaped.nodes };
      entries = λ v. same_entries i j root height (length map.entries) agree v ∙ is.entries v;
      nodes = λ b node. is.nodes b (node_was b node);
      places = λ b named. node_kept b (is.places b named);
    }

  -- So does one that was flushed.
  pub flushed_still : IsFlushed i root height map → ((b : ℕ) → names map.tree b ≡ true → j b ≡ i b) → IsFlushed j root height map
  flushed_still is same =
      let agree : AgreeOnTree i j root height (length map.entries) = λ b node. same b (is.spelled.nodes b node) in
      record {
        spelled = spelled_kept agree is.spelled;
        whole = record { nodes = nodes_still i j root height (length map.entries) (λ level number b. node_verdict level number b ≡ Ok tt) agree is.whole.nodes };
        ends = ends_still i j root height (length map.entries) agree is.ends;
      }

-- A tree that is whole in one image was whole in each that has the same blocks at its nodes.
pub clean_tree_was : (i j : Image) (root height entries : ℕ) → AgreeOnTree i j root height entries → IsCleanTree j root height entries → IsCleanTree i root height entries
clean_tree_was i j root height entries agree is =
    let kept : (b : ℕ) → IsNodePlace i root height entries b → IsNodePlace j root height entries b =
    node_moved i j root height entries (λ level number below within. sym (same_place i j root height entries level number agree below within)) in
    let was : (b : ℕ) → IsNodePlace j root height entries b → IsNodePlace i root height entries b =
    node_moved j i root height entries (λ level number below within. same_place i j root height entries level number agree below within) in
    let back : AgreeOnTree j i root height entries = λ b node. sym (agree b (was b node)) in
    record {
      whole = record { nodes = nodes_still j i root height entries (λ level number b. node_verdict level number b ≡ Ok tt) back is.whole.nodes };
      ends = ends_still j i root height entries back is.ends;
      bounded = λ b node. is.bounded b (kept b node);
    }

-- ---- a tree that was flushed

in_one : (a x : ℕ) → x ≡ a → in_range a a x ≡ Ok tt
in_one a x same = let test : nat_lt a a ≡ false = grind (arith, nat_tests) in rw (same, test) refl

leaf_there : (es : List (Option Entry)) (index : ℕ) (block : List ℕ) → IsLeafOf es index block → node_verdict 0 index block ≡ Ok tt
unfolding leaf_for
leaf_there es index block is = rw (is.said, in_one index is.leaf.index is.index_said) refl

inner_there : (places : List ℕ) (level number from end : ℕ) (block : List ℕ) → IsInnerOf places (suc level) number from end block → node_verdict (suc level) number block ≡ Ok tt
unfolding inner_for
inner_there places level number from end block is = rw (is.said, in_one (suc level) is.node.level is.level_said, in_one number is.node.place is.number_said) refl

module _ (i : Image) (root height : ℕ) (map : Mapped) (is : IsFlushed i root height map) (over : IsOver i map) (nodes : length map.tree ≡ node_count (length map.entries)) where
  abbrev leaves : ℕ
  leaves = level_width (length map.entries) 0

  abbrev inner : ℕ
  inner = level_width (length map.entries) 1

  stands : (m : ℕ) → m < length map.tree → get_or map.tree m 0 ≢ 0 → IsNodeOf over.stored map.tree m (i (get_or map.tree m 0))
  stands m within some = over.written m within some

  -- what stands at a leaf's number is that leaf, and what stands at another number is none
  leaf_at_number : (m : ℕ) → m < leaves → get_or map.tree m 0 ≢ 0 → node_verdict 0 m (i (get_or map.tree m 0)) ≡ Ok tt
  leaf_at_number m low some = leaf_there over.stored m (i (get_or map.tree m 0)) ((stands m (omega (arith, nodes, low)) some).leaf (rw (over.long) low))

  -- a block that the tree has as the leaf of a number stands there in the row of places
  number_is : (k m : ℕ) → m < length map.tree → get_or map.tree m 0 ≢ 0 → node_verdict 0 k (i (get_or map.tree m 0)) ≡ Ok tt → m ≡ k
  number_is k m within some says = ⊎_elim
      (λ (low : m < leaves). (one_position (i (get_or map.tree m 0)) 0 m 0 k (leaf_at_number m low some) says).1)
      (λ (past : leaves ≤ m). ⊎_elim
      (λ (mid : m < leaves + inner).
      let node = (stands m within some).inner (rw (over.long) past) (rw (over.long) mid) in
      let wrong : 1 ≡ 0 = (one_position (i (get_or map.tree m 0)) 1 (m - level_width (length over.stored) 0) 0 k (inner_there map.tree 0 (m - level_width (length over.stored) 0) (256 * (m - level_width (length over.stored) 0)) (level_width (length over.stored) 0) (i (get_or map.tree m 0)) node) says).0 in
      absurd (omega (arith, wrong)))
      (λ (high : leaves + inner ≤ m).
      let node = (stands m within some).top (rw (over.long) (omega (arith, nodes, within, high))) in
      let wrong : 2 ≡ 0 = (one_position (i (get_or map.tree m 0)) 2 0 0 k (inner_there map.tree 1 0 (level_width (length over.stored) 0) (level_width (length over.stored) 0 + level_width (length over.stored) 1) (i (get_or map.tree m 0)) node) says).0 in
      absurd (omega (arith, wrong)))
      (cases_lt m (leaves + inner)))
      (cases_lt m leaves)

  leaf_place : (k : ℕ) → k < leaves → get_or map.tree k 0 ≡ node_of i root height 0 k
  leaf_place k low = ⊎_elim
      (λ (none : node_of i root height 0 k ≡ 0). ⊎_elim (λ (zero_too : get_or map.tree k 0 ≡ 0). zero_too ∙ sym none) (λ (some : get_or map.tree k 0 ≢ 0). there some) (cases_eq (get_or map.tree k 0) 0))
      (λ (some : node_of i root height 0 k ≢ 0).
      let named = is.spelled.nodes (node_of i root height 0 k) (record { level = 0; number = k; below = omega arith; within = low; place = refl; some = some }) in
      let at = named_where map.tree (node_of i root height 0 k) named in
      let says : node_verdict 0 k (i (get_or map.tree at.number 0)) ≡ Ok tt = subst (λ (p : ℕ). node_verdict 0 k (i p) ≡ Ok tt) (sym at.place) (is.whole.nodes 0 k (omega arith) low some) in
      sym (ap (λ (n : ℕ). get_or map.tree n 0) (number_is k at.number at.within (λ none. some (sym at.place ∙ none)) says)) ∙ at.place)
      (cases_eq (node_of i root height 0 k) 0)
    where
      there : get_or map.tree k 0 ≢ 0 → get_or map.tree k 0 ≡ node_of i root height 0 k
      there some =
          let node = is.spelled.places (get_or map.tree k 0) (named_at map.tree k (get_or map.tree k 0) (omega (arith, nodes, low)) refl some) in
          let says : node_verdict node.level node.number (i (get_or map.tree k 0)) ≡ Ok tt = subst (λ (p : ℕ). node_verdict node.level node.number (i p) ≡ Ok tt) (sym node.place)
          (is.whole.nodes node.level node.number node.below node.within (λ none. some (node.place ∙ none))) in
          let one = one_position (i (get_or map.tree k 0)) 0 k node.level node.number (leaf_at_number k low some) says in
          node.place ∙ sym (λ j. node_of i root height (one.0 j) (one.1 j))

  -- So a tree that was flushed is as an opening reads it.
  pub flushed_opened : IsOpened i root height map
  flushed_opened = record {
    leaves = leaf_place;
    above = record { nodes = λ level number low le within some. is.spelled.shaped.nodes level number le within some };
    entries = is.spelled.entries;
    nodes = is.spelled.nodes;
    places = is.spelled.places;
  }
