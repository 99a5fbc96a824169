-- A tree whose nodes stand at a row of places: the leaves, the level above them, and a root above that.
use Rattle.std.proofs.Common.{◌≡◌, ◌≢◌, ℕ, zero, suc, ◌+◌, ◌-◌, ◌/◌, ◌%◌, ◌<◌, ◌≤◌, List, length, get_or, Bool, true, false, ◌==◌, if◌then◌else◌, refl, sym, ap, subst, ◌∙◌, arith, ⊎_elim, Ok, Option, None}
use Rattle.std.specs.Prelude.{nat_lt, slice_set}
use Rattle.std.proofs.lemmas.Bool.{cases_eq, cases_lt}
use Rattle.std.proofs.lemmas.Bool.Decides.{nat_tests}
use Rattle.std.proofs.lemmas.List.{get_or-set_same, get_or-set_other, get_or_past}
use Rattle.fv_disk.specs.Shown.{Image}
use Rattle.fv_codec.specs.Blocks.{inner_at, leaf_at}
use Rattle.fv_image.specs.Containers.{child_in, container_entry, entry_in, level_width, lying, most_entries, node_below, node_of, node_shape, IsNodePlace, IsShapedTree}
use Rattle.fv_container.specs.declared.entry.Entry.{Entry}
use Rattle.fv_container.specs.Kept.{map_of}
use Rattle.fv_container.specs.Spelled.{IsOpened, IsShapedAbove, Spelled, names, pair_of}
use Rattle.fv_container.specs.Reading.{AreShaped, FillsFrom, TreeAt}
use Rattle.fv_container.proofs.Named.{named_at, named_where}

-- ---- the root, and the level above the leaves

pub root_low : (i : Image) (places : List ℕ) (leaves root height q : ℕ) → ((m : ℕ) → get_or places m 0 ≡ 0) → leaves < length places → height ≡ 1 → get_or (slice_set places leaves root) (leaves + q) 0 ≡ node_below i root (height - 1) q
unfolding node_below
root_low i places leaves root height zero zeros within low = rw low (ap (λ (n : ℕ). get_or (slice_set places leaves root) n 0) (plus_none leaves) ∙ get_or-set_same places leaves root 0 within)
  where
    plus_none : (n : ℕ) → n + 0 ≡ n
    plus_none n = omega arith
root_low i places leaves root height (suc q) zeros within low =
    let test : (suc q == 0) ≡ false = grind (arith, nat_tests) in
    rw low (get_or-set_other places leaves (leaves + suc q) root 0 (omega arith) ∙ zeros (leaves + suc q) ∙ sym (ap (λ t. if t then root else 0) test))

pub root_high : (i j : Image) (places children : List ℕ) (leaves inner root height q : ℕ) → j ≡ i → FillsFrom children places leaves (leaves + inner) → ((c : ℕ) → get_or children c 0 ≡ child_in (lying inner_at j root) c) → q < inner → inner ≤ 256 → height ≡ 2
    → get_or (slice_set places (leaves + inner) root) (leaves + q) 0 ≡ node_below i root (height - 1) q
unfolding node_below
root_high i j places children leaves inner root height q same filled read within few high =
    let up : q / 256 ≡ 0 = omega (arith, within, few) in
    let itself : q % 256 ≡ q = omega (arith, within, few) in
    rw high (get_or-set_other places (leaves + inner) (leaves + q) root 0 (omega (arith, within)) ∙ filled q (omega (arith, within, few)) (omega (arith, within)) ∙ read q
    ∙ ap (λ (x : Image). child_in (lying inner_at x root) q) same ∙ sym (rw (up, itself) refl))

-- ---- a tree at a row of places

few_inner : (entries : ℕ) → entries ≤ most_entries → level_width entries 1 ≤ 256
few_inner entries few = omega (arith, few)

one_top : (entries number : ℕ) → entries ≤ most_entries → number < level_width entries 2 → number ≡ 0
one_top entries number few within = omega (arith, few, within, few_inner entries few)

pub top_root : (i : Image) (root : ℕ) → node_of i root 2 2 0 ≡ root
unfolding node_below
top_root i root = refl

module _ (i : Image) (root height n : ℕ) (places : List ℕ) (tree : TreeAt i root height n places) where
  place_of_top : height ≡ 2 → get_or places (level_width n 0 + level_width n 1) 0 ≡ root
  place_of_top high = tree.top ∙ rw high refl

  top_node : (number : ℕ) → height ≡ 2 → number < level_width n 2 → node_of i root height 2 number ≡ root
  top_node number high within = rw (high, one_top n number tree.few within) (top_root i root)

  -- what is said of the nodes by their places is said of each node
  pub each_node : (Says : ℕ → ℕ → List ℕ → Type 0) → ((k : ℕ) → k < level_width n 0 → get_or places k 0 ≢ 0 → Says 0 k (i (get_or places k 0)))
      → ((q : ℕ) → q < level_width n 1 → get_or places (level_width n 0 + q) 0 ≢ 0 → Says 1 q (i (get_or places (level_width n 0 + q) 0))) → (height ≡ 2 → root ≢ 0 → Says 2 0 (i root))
      → (level number : ℕ) → level ≤ height → number < level_width n level → node_of i root height level number ≢ 0 → Says level number (i (node_of i root height level number))
  each_node Says leaves inner top zero number le within some =
      let is = tree.leaf number within in
      subst (λ (p : ℕ). Says 0 number (i p)) is (leaves number within (λ none. some (sym is ∙ none)))
  each_node Says leaves inner top (suc zero) number le within some =
      let is = tree.inner number within in
      subst (λ (p : ℕ). Says 1 number (i p)) is (inner number within (λ none. some (sym is ∙ none)))
  each_node Says leaves inner top (suc (suc zero)) number le within some =
      let high : height ≡ 2 = omega (arith, le, tree.greatest) in
      let is = top_node number high within in
      let none : number ≡ 0 = one_top n number tree.few within in
      subst (λ (q : ℕ). Says 2 q (i (node_of i root height 2 number))) (sym none) (subst (λ (p : ℕ). Says 2 0 (i p)) (sym is) (top high (λ z. some (is ∙ z))))
  each_node Says leaves inner top (suc (suc (suc level))) number le within some = absurd (omega (arith, le, tree.greatest))

  pub shaped_tree : AreShaped i 0 places 0 (level_width n 0) → AreShaped i 1 places (level_width n 0) (level_width n 1) → (height ≡ 2 → root ≢ 0 → node_shape 1 (i root) ≡ Ok tt) → IsShapedTree i root height n
  shaped_tree leaves inner top = record {
    nodes = each_node (λ level number b. node_shape level b ≡ Ok tt)
        (λ k within some.
        let first : 0 + k ≡ k = omega arith in
        let is : get_or places (0 + k) 0 ≡ get_or places k 0 = ap (λ (m : ℕ). get_or places m 0) first in
        subst (λ (p : ℕ). node_shape 0 (i p) ≡ Ok tt) is (leaves k within (λ none. some (sym is ∙ none))))
        inner top;
  }

  pub shaped_above : AreShaped i 1 places (level_width n 0) (level_width n 1) → (height ≡ 2 → root ≢ 0 → node_shape 1 (i root) ≡ Ok tt) → IsShapedAbove i root height n
  shaped_above inner top = record {
    nodes = λ level number least le within some. each_node (λ level number b. 1 ≤ level → node_shape level b ≡ Ok tt)
        (λ k within some one. absurd (omega (arith, one)))
        (λ q within some one. inner q within some)
        (λ high some one. top high some)
        level number le within some least;
  }

  pub named_node : (level number b : ℕ) → level ≤ height → number < level_width n level → b ≡ node_of i root height level number → b ≢ 0 → names places b ≡ true
  named_node zero number b le within is some = named_at places number b (omega (arith, tree.long, within)) (tree.leaf number within ∙ sym is) some
  named_node (suc zero) number b le within is some = named_at places (level_width n 0 + number) b (omega (arith, tree.long, within)) (tree.inner number within ∙ sym is) some
  named_node (suc (suc zero)) number b le within is some =
      let high : height ≡ 2 = omega (arith, le, tree.greatest) in
      named_at places (level_width n 0 + level_width n 1) b (omega (arith, tree.long)) (place_of_top high ∙ sym (is ∙ top_node number high within)) some
  named_node (suc (suc (suc level))) number b le within is some = absurd (omega (arith, le, tree.greatest))

  pub node_named : (m b : ℕ) → m < length places → get_or places m 0 ≡ b → b ≢ 0 → IsNodePlace i root height n b
  node_named m b within is some = ⊎_elim
      (λ (low : m < level_width n 0). record { level = 0; number = m; below = omega arith; within = low; place = sym is ∙ tree.leaf m low; some = some })
      (λ (past : level_width n 0 ≤ m). ⊎_elim
      (λ (mid : m - level_width n 0 < level_width n 1).
      let q = m - level_width n 0 in
      let at : level_width n 0 + q ≡ m = omega (arith, past) in
      record { level = 1; number = q; below = tree.least; within = mid; place = sym is ∙ ap (λ (k : ℕ). get_or places k 0) (sym at) ∙ tree.inner q mid; some = some })
      (λ (above : level_width n 1 ≤ m - level_width n 0).
      let at : m ≡ level_width n 0 + level_width n 1 = omega (arith, tree.long, within, past, above) in
      let here : b ≡ (if height == 2 then root else 0) = sym is ∙ ap (λ (k : ℕ). get_or places k 0) at ∙ tree.top in
      let high : height ≡ 2 = is_high height here in
      record { level = 2; number = 0; below = omega (arith, high); within = omega arith; place = here ∙ rw high (sym (top_root i root)); some = some })
      (cases_lt (m - level_width n 0) (level_width n 1)))
      (cases_lt m (level_width n 0))
    where
      is_high : (h : ℕ) → b ≡ (if h == 2 then root else 0) → h ≡ 2
      is_high h here = ⊎_elim (λ (e : h ≡ 2). e) (λ (ne : h ≢ 2). absurd (some (here ∙ not_high h ne))) (cases_eq h 2)
        where
          not_high : (h : ℕ) → h ≢ 2 → (if h == 2 then root else 0) ≡ 0
          not_high h ne = let test : (h == 2) ≡ false = grind (arith, nat_tests, ne) in rw test refl

module _ (i : Image) (root height : ℕ) (es : List (Option Entry)) (places : List ℕ) (tree : TreeAt i root height (length es) places) where
  abbrev pub size : ℕ
  size = length es

  entry_spelled : ((v : ℕ) → v < size → pair_of (get_or es v None) ≡ entry_in (lying leaf_at i (get_or places (v / 256) 0)) (v % 256)) → (v : ℕ) → container_entry i root height size v ≡ pair_of (get_or es v None)
  unfolding container_entry
  entry_spelled read v = ⊎_elim
      (λ (inside : v < size).
      let test : nat_lt v size ≡ true = grind (arith, nat_tests) in
      let k : v / 256 < level_width size 0 = omega (arith, inside) in
      let is : get_or places (v / 256) 0 ≡ node_below i root height (v / 256) = tree.leaf (v / 256) k ∙ ap (λ (h : ℕ). node_below i root h (v / 256)) (all height) in
      rw (test, ← is) (sym (read v inside)))
      (λ (past : size ≤ v).
      let test : nat_lt v size ≡ false = grind (arith, nat_tests) in
      rw (test, get_or_past es v None past) refl)
      (cases_lt v size)
    where
      all : (h : ℕ) → h - 0 ≡ h
      all h = omega arith

  pub spelled : IsShapedTree i root height size → ((v : ℕ) → v < size → pair_of (get_or es v None) ≡ entry_in (lying leaf_at i (get_or places (v / 256) 0)) (v % 256)) → (dirty : List Bool) → Spelled i root height (map_of es places dirty)
  spelled shaped read dirty = record {
    shaped = shaped;
    entries = entry_spelled read;
    nodes = λ b node. named_node i root height (length es) places tree node.level node.number b node.below node.within node.place node.some;
    places = λ b named. let at = named_where places b named in node_named i root height (length es) places tree at.number b at.within at.place at.some;
  }

  pub opened : IsShapedAbove i root height size → ((v : ℕ) → v < size → pair_of (get_or es v None) ≡ entry_in (lying leaf_at i (get_or places (v / 256) 0)) (v % 256)) → (dirty : List Bool) → IsOpened i root height (map_of es places dirty)
  opened above read dirty = record {
    leaves = tree.leaf;
    above = above;
    entries = entry_spelled read;
    nodes = λ b node. named_node i root height (length es) places tree node.level node.number b node.below node.within node.place node.some;
    places = λ b named. let at = named_where places b named in node_named i root height (length es) places tree at.number b at.within at.place at.some;
  }
