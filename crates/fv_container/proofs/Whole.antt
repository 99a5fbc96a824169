-- A tree that is whole on the disk is found so.
use Rattle.std.proofs.Common.{◌≡◌, ◌≢◌, ℕ, zero, suc, ◌+◌, ◌-◌, ◌*◌, ◌<◌, ◌≤◌, List, length, get_or, Bool, true, false, not, ◌&&◌, ◌||◌, ◌==◌, refl, sym, ap, subst, ◌∙◌, arith, ⊎_elim, Result, Ok}
use Rattle.std.specs.Prelude.{nat_lt}
use Rattle.std.specs.List.{list_all, range_with_len}
use Rattle.std.proofs.lemmas.Bool.{and_from, and_parts, cases_eq, cases_lt}
use Rattle.std.proofs.lemmas.Bool.Decides.{nat_tests}
use Rattle.std.proofs.lemmas.List.{get_or_past}
use Rattle.fv_disk.specs.Shown.{Image}
use Rattle.fv_disk.specs.declared.fault.BlockFault.{BlockFault}
use Rattle.fv_disk.specs.declared.fault.BlockFault.TheVariants.{DiskFault, Damaged, Memory}
use Rattle.fv_codec.specs.declared.shape.Shape.{Shape}
use Rattle.fv_codec.specs.declared.container.ContainerLeaf.{ContainerLeaf}
use Rattle.fv_codec.specs.declared.container.ContainerInner.{ContainerInner}
use Rattle.fv_codec.specs.Fields.{up_to}
use Rattle.fv_codec.specs.Blocks.{IsEntry, inner_at, last_place, leaf_at}
use Rattle.fv_image.specs.Containers.{child_in, entry_in, has_none_past, level_width, node_of, node_verdict, shaped}
use Rattle.fv_image.proofs.NodesOnce.{inner_says, leaf_says}
use Rattle.fv_container.specs.Clean.{IsCleanTree}
use Rattle.fv_container.specs.Reading.{AreWholeLeaves, IsBadNode, IsInnerAs, IsLeafAs, IsLevelFault, StandInner, StandLeaves, StandsInner, TreeAt}
use Rattle.fv_container.proofs.Trees.{node_named, top_root}

-- ---- one node

-- a block spells one node
one_node : {X : Type 0} (r : Result X Shape) (x y : X) → r ≡ Ok x → r ≡ Ok y → x ≡ y
one_node r x y first second = cc

-- what a test of a whole range says of one number
each_between : (test : ℕ → Bool) (from count k : ℕ) → list_all test (range_with_len from count) ≡ true → from ≤ k → k < from + count → test k ≡ true
each_between test from zero k all low high = absurd (omega (arith, low, high))
each_between test from (suc count) k all low high =
    let parts = and_parts (test from) (list_all test (range_with_len (from + 1) count)) all in
    ⊎_elim
    (λ (e : k ≡ from). ap test e ∙ parts.0)
    (λ (ne : k ≢ from). each_between test (from + 1) count k parts.1 (omega (arith, low, ne)) (omega (arith, high)))
    (cases_eq k from)

-- past the end there is nothing
is_none : (n end a : ℕ) → (nat_lt n end || (a == 0)) ≡ true → end ≤ n → a ≡ 0
is_none n end a test past =
    let out : nat_lt n end ≡ false = grind (arith, nat_tests) in
    let none : (a == 0) ≡ true = ap (λ (b : Bool). b || (a == 0)) (sym out) ∙ test in
    grind (arith, nat_tests, none)

-- a hole has no place
no_place : (pvbn kind : ℕ) → IsEntry (pvbn, kind) → kind ≡ 0 → pvbn ≡ 0
no_place pvbn kind is none =
    let test : (kind == 0) ≡ true = grind (arith, nat_tests, none) in
    let bound : pvbn ≤ 0 = subst (λ (t : Bool). pvbn ≤ up_to (not t) last_place) test is.0 in
    omega (arith, bound)

leaf_as : (entries index : ℕ) (block : List ℕ) (leaf : ContainerLeaf) → leaf_at block ≡ Ok leaf → ((c : ℕ) → c < 256 → IsEntry (get_or leaf.pvbns c 0, get_or leaf.kinds c 0))
    → node_verdict 0 index block ≡ Ok tt → has_none_past entries 0 index block ≡ true → IsLeafAs leaf index (entries - 256 * index)
leaf_as entries index block leaf said range own ends = record {
  index_said = let says = leaf_says index block own in ap (λ (l : ContainerLeaf). l.index) (one_node (leaf_at block) leaf says.0 said says.1) ∙ says.2;
  pvbns = λ c past within. no_place (get_or leaf.pvbns c 0) (get_or leaf.kinds c 0) (range c within) (kind c past within);
  kinds = kind;
}
  where
    kind : (c : ℕ) → entries - 256 * index ≤ c → c < 256 → get_or leaf.kinds c 0 ≡ 0
    kind c past within =
        let test = each_between (λ c. nat_lt (index * 256 + c) entries || ((entry_in (shaped (leaf_at block)) c).1 == 0)) 0 256 c ends (omega arith) (omega (arith, within)) in
        sym (ap (λ (r : Result ContainerLeaf Shape). (entry_in (shaped r) c).1) said) ∙ is_none (index * 256 + c) entries _ test (omega (arith, past))

inner_stands : (i : Image) (entries at level number width : ℕ) → width ≡ level_width entries level - 256 * number → node_verdict (suc level) number (i at) ≡ Ok tt → has_none_past entries (suc level) number (i at) ≡ true → StandsInner i at (suc level) number width
inner_stands i entries at level number width wide own ends =
    let says = inner_says level number (i at) own in
    record {
      node = says.0;
      said = says.1;
      own = record {
        level_said = says.2;
        number_said = says.3;
        ends = λ c past within.
            let test = each_between (λ c. nat_lt (number * 256 + c) (level_width entries level) || (child_in (shaped (inner_at (i at))) c == 0)) 0 256 c ends (omega arith) (omega (arith, within)) in
            sym (ap (λ (r : Result ContainerInner Shape). child_in (shaped r) c) says.1) ∙ is_none (number * 256 + c) (level_width entries level) _ test (omega (arith, past, wide));
      };
    }

-- the node that stands at a place is the one that was read
pub inner_as : (i : Image) (at level number width : ℕ) (node : ContainerInner) → inner_at (i at) ≡ Ok node → StandsInner i at level number width → IsInnerAs node level number width
inner_as i at level number width node said stands = subst (λ (n : ContainerInner). IsInnerAs n level number width) (one_node (inner_at (i at)) stands.node node stands.said said) stands.own

-- ---- one node more

pub inner_kept : (i : Image) (places : List ℕ) (leaves q at : ℕ) (node : ContainerInner) (whole own : Bool) → at ≡ get_or places (leaves + q) 0
    → (at ≢ 0 → inner_at (i at) ≡ Ok node) → ((at ≢ 0 → IsInnerAs node 1 q (leaves - 256 * q)) → own ≡ true)
    → (StandInner i places leaves q → whole ≡ true) → StandInner i places leaves (q + 1) → (whole && own) ≡ true
inner_kept i places leaves q at node whole own is said own_is so_far all =
    and_from whole own
    (so_far (λ k lt some. all k (omega (arith, lt)) some))
    (own_is (λ some. inner_as i at 1 q (leaves - 256 * q) node (said some) (subst (λ (p : ℕ). StandsInner i p 1 q (leaves - 256 * q)) (sym is) (all q (omega arith) (λ none. some (is ∙ none))))))

pub all_both : (top level all : Bool) → all ≡ (top && level) → top ≡ true → level ≡ true → all ≡ true
all_both top level all both a b = both ∙ and_from top level a b

-- a leaf that was read without its shape
pub bad_leaf : (i j : Image) (places : List ℕ) (k count : ℕ) (fault : BlockFault) → j ≡ i → k < count → IsBadNode j (get_or places k 0) 0 fault → IsLevelFault i 0 places 0 count fault
bad_leaf i j places k count (Damaged at want found) same within bad =
    let first : 0 + k ≡ k = omega arith in
    record {
      number = k;
      within = within;
      place = bad.0 ∙ ap (λ (n : ℕ). get_or places n 0) (sym first);
      some = λ none. bad.1 (sym bad.0 ∙ none);
      fault = rw (bad.0, ← same) bad.2;
    }
bad_leaf i j places k count DiskFault same within bad = tt
bad_leaf i j places k count Memory same within bad = tt

-- ---- the whole tree

-- the same nodes, by the same places
pub stand_back : (i j : Image) (leaves count : ℕ) (above places : List ℕ) → j ≡ i → ((m : ℕ) → leaves ≤ m → get_or places m 0 ≡ get_or above m 0) → StandInner i places leaves count → StandInner j above leaves count
stand_back i j leaves count above places same past stand q within some =
    let at : get_or places (leaves + q) 0 ≡ get_or above (leaves + q) 0 = past (leaves + q) (omega arith) in
    rw (same, ← at) (stand q within (λ none. some (sym at ∙ none)))

module _ (i : Image) (root height entries : ℕ) (places : List ℕ) (tree : TreeAt i root height entries places) (clean : IsCleanTree i root height entries) where
  pub whole_leaves : AreWholeLeaves i entries places (level_width entries 0)
  whole_leaves k within some =
      let is = tree.leaf k within in
      let there : node_of i root height 0 k ≢ 0 = λ none. some (is ∙ none) in (
        subst (λ (p : ℕ). node_verdict 0 k (i p) ≡ Ok tt) (sym is) (clean.whole.nodes 0 k (omega arith) within there),
        subst (λ (p : ℕ). has_none_past entries 0 k (i p) ≡ true) (sym is) (clean.ends.nodes 0 k (omega arith) within there),
      )

  pub whole_inner : StandInner i places (level_width entries 0) (level_width entries 1)
  whole_inner q within some =
      let is = tree.inner q within in
      let there : node_of i root height 1 q ≢ 0 = λ none. some (is ∙ none) in
      inner_stands i entries (get_or places (level_width entries 0 + q) 0) 0 q (level_width entries 0 - 256 * q) refl
      (subst (λ (p : ℕ). node_verdict 1 q (i p) ≡ Ok tt) (sym is) (clean.whole.nodes 1 q tree.least within there))
      (subst (λ (p : ℕ). has_none_past entries 1 q (i p) ≡ true) (sym is) (clean.ends.nodes 1 q tree.least within there))

-- the root stands where it is above the second level
pub whole_top : (i : Image) (root height entries : ℕ) → IsCleanTree i root height entries → height ≡ 2 → root ≢ 0 → StandsInner i root 2 0 (level_width entries 1)
whole_top i root height entries clean high some =
    let is : node_of i root height 2 0 ≡ root = rw high (top_root i root) in
    let there : node_of i root height 2 0 ≢ 0 = λ none. some (sym is ∙ none) in
    inner_stands i entries root 1 0 (level_width entries 1) (omega arith)
    (subst (λ (p : ℕ). node_verdict 2 0 (i p) ≡ Ok tt) is (clean.whole.nodes 2 0 (omega (arith, high)) (omega arith) there))
    (subst (λ (p : ℕ). has_none_past entries 2 0 (i p) ≡ true) is (clean.ends.nodes 2 0 (omega (arith, high)) (omega arith) there))

-- each leaf stands where the row says
module _ (i : Image) (root height entries : ℕ) (places : List ℕ) (tree : TreeAt i root height entries places) (clean : IsCleanTree i root height entries) (range : (at : ℕ) (leaf : ContainerLeaf) → leaf_at (i at) ≡ Ok leaf → (c : ℕ) → c < 256 → IsEntry (get_or leaf.pvbns c 0, get_or leaf.kinds c 0)) where
  pub leaves_stand : StandLeaves i entries places (level_width entries 0)
  leaves_stand k within some =
      let here = whole_leaves i root height entries places tree clean k within some in
      let says = leaf_says k (i (get_or places k 0)) here.0 in
      record { leaf = says.0; said = says.1; own = leaf_as entries k (i (get_or places k 0)) says.0 says.1 (range (get_or places k 0) says.0 says.1) here.0 here.1 }

-- each of its places is within
pub whole_bounded : (i : Image) (root height entries : ℕ) (places : List ℕ) → TreeAt i root height entries places → IsCleanTree i root height entries → (m : ℕ) → get_or places m 0 ≤ last_place
whole_bounded i root height entries places tree clean m = ⊎_elim
    (λ (none : get_or places m 0 ≡ 0). omega (arith, none))
    (λ (some : get_or places m 0 ≢ 0).
    let within : m < length places = ⊎_elim (λ (is : m < length places). is) (λ (past : length places ≤ m). absurd (some (get_or_past places m 0 past))) (cases_lt m (length places)) in
    clean.bounded (get_or places m 0) (node_named i root height entries places tree m (get_or places m 0) within refl some))
    (cases_eq (get_or places m 0) 0)
