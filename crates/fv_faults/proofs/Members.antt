-- What a walk without stops meets in a tree is what the tree reaches: each position whose pointer stands, and no other.
use Rattle.std.proofs.Common.{◌≡◌, ◌≢◌, ℕ, zero, suc, ◌+◌, ◌-◌, ◌*◌, ◌/◌, ◌%◌, ◌^◌, ◌<◌, ◌≤◌, Bool, true, false, List, [], ◌∷◌, ◌++◌, map, length, get_or, refl, sym, ap, subst, ◌∙◌, arith, ⊎_elim, add-one, Result, Ok, Err}
use Rattle.std.specs.Prelude.{Option, Some, None, flat_map, ◌==◌, nat_lt, if◌then◌else◌}
use Rattle.std.specs.List.{list_all, enumerate_from}
use Rattle.std.specs.Option.{option_map, option_map_or}
use Rattle.std.proofs.lemmas.Bool.{and_parts, and_from, cases_eq, cases_lt}
use Rattle.std.proofs.lemmas.Bool.Decides.{nat_tests}
use Rattle.std.proofs.lemmas.List.Folds.{list_all-append}
use Rattle.fv_codec.specs.declared.shape.Shape.{Shape}
use Rattle.fv_codec.specs.declared.pointer.Pointer.{Pointer}
use Rattle.fv_codec.specs.declared.node.Node.{Node}
use Rattle.fv_codec.specs.Bytes.{word_at}
use Rattle.fv_codec.specs.Fields.{Verdict, items, reading, verdicts}
use Rattle.fv_codec.specs.Blocks.{node_fields, node_at, pointer_of}
use Rattle.std.specs.Prelude.{drop}
use Rattle.fv_model.specs.Trees.{fan}
use Rattle.fv_laws.proofs.Levels.{up}
use Rattle.fv_tables.specs.Spelled.{Rooted, hole, pointers_of, pointers_in, stored, pointers_at, pointer_at}
use Rattle.fv_tables.specs.Reached.{Item, item_of}
use Rattle.fv_tables.proofs.Pointers.{none_under}
use Rattle.fv_image.specs.Views.{Placed}
use Rattle.fv_image.specs.Chains.{place, under}
use Rattle.fv_image.proofs.WellTrees.{in_node, StandsAt}
use Rattle.fv_image.proofs.WellNodes.{length_items}
use Rattle.fv_faults.specs.Walks.{Ground, child_of, children_of, file_root, files_under, pointers_under}
use Rattle.fv_faults.proofs.Plain.{Spot, place_at, plain_one, plain}

-- a node has 128 pointers
pub children_long : (block : List ℕ) (n : Node) → node_at block ≡ Ok n → length n.children ≡ 128
unfolding node_at
children_long block n e = so (verdicts node_fields block) e
  where
    so : (v : Verdict) → reading v (record { level = word_at 8 block; owner = word_at 16 block; place = word_at 24 block; children = items 128 24 pointer_of (drop 1024 block) }) ≡ Ok n → length n.children ≡ 128
    so (Ok fine) e = let same : items 128 24 pointer_of (drop 1024 block) ≡ n.children = cc in ap (λ (ps : List Pointer). length ps) (sym same) ∙ length_items 128 24 pointer_of (drop 1024 block)
    so (Err fault) e = absurd cc

pub flat_mapped : {X Y Z : Type 0} (f : Y → List Z) (h : X → Y) (xs : List X) → flat_map f (map h xs) ≡ flat_map (λ x. f (h x)) xs
flat_mapped f h [] = refl
flat_mapped f h (x ∷ xs) = ap (λ rest. f (h x) ++ rest) (flat_mapped f h xs)

module _ (test : Item → Bool) where
  abbrev pub all_met : List Spot → Bool
  all_met ps = list_all (λ (p : Spot). test p.0) ps

  pub both_met : (xs ys : List Spot) → all_met (xs ++ ys) ≡ true → (all_met xs ≡ true) × (all_met ys ≡ true)
  both_met xs ys e = and_parts (all_met xs) (all_met ys) (sym (list_all-append (λ (p : Spot). test p.0) xs ys) ∙ e)

  pub met_both : (xs ys : List Spot) → all_met xs ≡ true → all_met ys ≡ true → all_met (xs ++ ys) ≡ true
  met_both xs ys a b = list_all-append (λ (p : Spot). test p.0) xs ys ∙ and_from (all_met xs) (all_met ys) a b

  at_child : (f : ℕ × Pointer → List Spot) (a c : ℕ) (ps : List Pointer) → all_met (flat_map f (enumerate_from a ps)) ≡ true → c < length ps → all_met (f (a + c, get_or ps c hole)) ≡ true
  at_child f a c [] e low = absurd (omega (arith, low))
  at_child f a zero (p ∷ ps) e low = let same : a ≡ a + 0 = omega arith in subst (λ n. all_met (f (n, p)) ≡ true) same (both_met (f (a, p)) _ e).0
  at_child f a (suc c) (p ∷ ps) e low =
      let same : a + 1 + c ≡ a + suc c = omega arith in
      subst (λ n. all_met (f (n, get_or ps c hole)) ≡ true) same (at_child f (a + 1) c ps (both_met (f (a, p)) _ e).1 (omega (arith, low)))

  of_children : (f : ℕ × Pointer → List Spot) (a : ℕ) (ps : List Pointer) → ((c : ℕ) → c < length ps → all_met (f (a + c, get_or ps c hole)) ≡ true) → all_met (flat_map f (enumerate_from a ps)) ≡ true
  of_children f a [] each = refl
  of_children f a (p ∷ ps) each =
      let same : a + 0 ≡ a = omega arith in
      met_both (f (a, p)) _ (subst (λ n. all_met (f (n, p)) ≡ true) same (each 0 (omega arith)))
      (of_children f (a + 1) ps (λ c low. let shift : a + suc c ≡ a + 1 + c = omega arith in subst (λ n. all_met (f (n, get_or ps c hole)) ≡ true) shift (each (suc c) (omega (arith, low)))))

  module _ (g : Ground) (cell : Item → Placed → List Spot) (owner levels : ℕ) (root top : Pointer) where
    abbrev pub t : Rooted
    t = stored (under g.view g.slot) owner levels root

    abbrev pub item : ℕ → ℕ → Item
    item level place = item_of top t level place

    -- a node stands over what stands
    over_one : (l q : ℕ) → l < levels → StandsAt t l q → StandsAt t (l + 1) (q / fan)
    over_one l q low some none = some (ap (λ (p : Pointer). p.stamp) (in_node t l q low)
        ∙ ap (λ (xs : List Pointer). (get_or xs (q % fan) hole).stamp) (none_under t (l + 1) (q / fan) (pointer_at t (l + 1) (q / fan)) none))

    over_all : (d l q : ℕ) → l + d ≤ levels → StandsAt t l q → StandsAt t (l + d) (q / fan ^ d)
    over_all zero l q low some = let same : l ≡ l + 0 = omega arith in let whole : q ≡ q / fan ^ 0 = omega arith in subst (λ n. StandsAt t n (q / fan ^ 0)) same (subst (StandsAt t l) whole some)
    over_all (suc d) l q low some =
        let next = over_one (l + d) (q / fan ^ d) (omega (arith, low)) (over_all d l q (omega (arith, low)) some) in
        let same : l + d + 1 ≡ l + suc d = omega arith in
        subst (λ n. StandsAt t n (q / fan ^ suc d)) same (subst (λ n. StandsAt t (l + d + 1) (q / fan ^ n)) (add-one d) (subst (StandsAt t (l + d + 1)) (up q d) next))

    -- the node over what stands, with the pointer in it
    record Node_over (k q : ℕ) : Type 0 where
      pub at : Placed
      pub found : place g.view g.slot (pointer_at t (k + 1) (q / fan)).vvbn ≡ Some at
      pub node : Node
      pub reads : node_at at.block ≡ Ok node
      pub inside : q % fan < length node.children

    node_over : (k q : ℕ) → k < levels → StandsAt t k q → Node_over k q
    unfolding pointers_at under
    node_over k q low some = so (place g.view g.slot up_there.vvbn) refl
      where
        up_there : Pointer
        up_there = pointer_at t (k + 1) (q / fan)

        stands : (up_there.stamp == 0) ≡ false
        stands = let is : up_there.stamp ≢ 0 = over_one k q low some in grind (arith, nat_tests, is)

        empty : pointers_at t (k + 1) (q / fan) up_there ≡ [] → ⊥
        empty e = some (ap (λ (p : Pointer). p.stamp) (in_node t k q low) ∙ ap (λ (xs : List Pointer). (get_or xs (q % fan) hole).stamp) e)

        here : (o : Option Placed) → place g.view g.slot up_there.vvbn ≡ o → pointers_at t (k + 1) (q / fan) up_there ≡ pointers_in (option_map (λ x. x.block) o)
        here o e = ap (λ (b : Bool). if b then [] else pointers_in (option_map (λ x. x.block) (place g.view g.slot up_there.vvbn))) stands
            ∙ ap (λ (o : Option Placed). pointers_in (option_map (λ x. x.block) o)) e

        so : (o : Option Placed) → place g.view g.slot up_there.vvbn ≡ o → Node_over k q
        so None e = absurd (empty (here None e))
        so (Some x) e = read (node_at x.block) refl
          where
            read : (r : Result Node Shape) → node_at x.block ≡ r → Node_over k q
            read (Err f) is = absurd (empty (here (Some x) e ∙ ap pointers_of is))
            read (Ok n) is = record {
              at = x;
              found = e;
              node = n;
              reads = is;
              inside = ⊎_elim (λ (low : q % fan < length n.children). low)
                  (λ (far : length n.children ≤ q % fan). let long = children_long x.block n is in absurd (omega (arith, far, long)))
                  (cases_lt (q % fan) (length n.children));
            }

    -- ---- the pointers of a node

    node_pointers : (k place_is : ℕ) (x : Placed) (n : Node) → StandsAt t (k + 1) place_is → place g.view g.slot (pointer_at t (k + 1) place_is).vvbn ≡ Some x → node_at x.block ≡ Ok n
        → pointers_at t (k + 1) place_is (pointer_at t (k + 1) place_is) ≡ n.children
    unfolding pointers_at under
    node_pointers k q x n some found reads =
        let stands : ((pointer_at t (k + 1) q).stamp == 0) ≡ false = grind (arith, nat_tests, some) in
        ap (λ (b : Bool). if b then [] else pointers_in (option_map (λ x. x.block) (place g.view g.slot (pointer_at t (k + 1) q).vvbn))) stands
        ∙ ap (λ (o : Option Placed). pointers_in (option_map (λ x. x.block) o)) found
        ∙ ap pointers_of reads

    pub child_is : (k q c : ℕ) (x : Placed) (n : Node) → k < levels → StandsAt t (k + 1) q → place g.view g.slot (pointer_at t (k + 1) q).vvbn ≡ Some x → node_at x.block ≡ Ok n → c < fan
        → child_of (item (suc k) q) (c, get_or n.children c hole) ≡ item k (fan * q + c)
    child_is k q c x n low some found reads inside =
        let div : (fan * q + c) / fan ≡ q = omega (arith, inside) in
        let rem : (fan * q + c) % fan ≡ c = omega (arith, inside) in
        let level : suc k - 1 ≡ k = omega arith in
        let same : get_or n.children c hole ≡ pointer_at t k (fan * q + c) =
        sym (in_node t k (fan * q + c) low
        ∙ ap (λ (p : ℕ). get_or (pointers_at t (k + 1) p (pointer_at t (k + 1) p)) ((fan * q + c) % fan) hole) div
        ∙ ap (λ (p : ℕ). get_or (pointers_at t (k + 1) q (pointer_at t (k + 1) q)) p hole) rem
        ∙ ap (λ (ps : List Pointer). get_or ps c hole) (node_pointers k q x n some found reads)) in
        let test : nat_lt k levels ≡ true = grind (arith, nat_tests, low) in
        let holder : pointer_at t (suc k) q ≡ (if nat_lt k levels then pointer_at t (k + 1) ((fan * q + c) / fan) else top) =
        ap (λ (n : ℕ). pointer_at t n q) (sym (add-one k)) ∙ ap (λ (p : ℕ). pointer_at t (k + 1) p) (sym div) ∙ sym (ap (λ (b : Bool). if b then pointer_at t (k + 1) ((fan * q + c) / fan) else top) test) in
        λ i. record { owner = owner; levels = levels; level = level i; place = fan * q + c; pointer = same i; holder = holder i }

    abbrev children : ℕ → ℕ → Placed → List Spot
    children k q x = flat_map (λ c. plain g cell k c x.pvbn) (pointers_under (item (suc k) q) x)

    pub children_are : (k q : ℕ) (x : Placed) (n : Node) → node_at x.block ≡ Ok n → children k q x ≡ flat_map (λ c. plain g cell k (child_of (item (suc k) q) c) x.pvbn) (enumerate_from 0 n.children)
    unfolding pointers_under
    children_are k q x n reads =
        let up_there : (suc k == 0) ≡ false = grind (arith, nat_tests) in
        ap (λ (b : Bool). flat_map (λ c. plain g cell k c x.pvbn) (if b then map (file_root (item (suc k) q)) (files_under (item (suc k) q) x) else children_of (item (suc k) q) (node_at x.block))) up_there
        ∙ ap (λ (r : Result Node Shape). flat_map (λ c. plain g cell k c x.pvbn) (children_of (item (suc k) q) r)) reads
        ∙ flat_mapped (λ c. plain g cell k c x.pvbn) (child_of (item (suc k) q)) (enumerate_from 0 n.children)

    -- ---- where a test holds of all that is met

    pub record Passes (level q : ℕ) : Type 0 where
      pub positions : (l p : ℕ) → l ≤ level → p / fan ^ (level - l) ≡ q → StandsAt t l p → test (item l p) ≡ true
      pub cells : (p : ℕ) (x : Placed) → p / fan ^ level ≡ q → StandsAt t 0 p → place_at g (item 0 p) ≡ Some x → all_met (cell (item 0 p) x) ≡ true

    opened : (below : Item → Placed → List Spot) (e : Item) (block : ℕ) → e.pointer.stamp ≢ 0 → all_met (plain_one g below e block) ≡ true → (test e ≡ true) × (all_met (option_map_or (below e) (place_at g e) []) ≡ true)
    opened below e block some all =
        let stands : (e.pointer.stamp == 0) ≡ false = grind (arith, nat_tests, some) in
        and_parts (test e) _ (sym (ap (λ (b : Bool). all_met (if b then [] else (e, block) ∷ option_map_or (below e) (place_at g e) [])) stands) ∙ all)

    found_below : (below : Item → Placed → List Spot) (e : Item) (x : Placed) → place_at g e ≡ Some x → all_met (option_map_or (below e) (place_at g e) []) ≡ true → all_met (below e x) ≡ true
    found_below below e x found all = sym (ap (λ (o : Option Placed). all_met (option_map_or (below e) o [])) found) ∙ all

    -- down to the pointer of a node
    down : (k q block : ℕ) → k < levels → all_met (plain g cell (suc k) (item (suc k) (q / fan)) block) ≡ true → StandsAt t k q → (b : ℕ) × (all_met (plain g cell k (item k q) b) ≡ true)
    unfolding plain
    down k q block low all some =
        let over = node_over k q low some in
        let stands = over_one k q low some in
        let high : StandsAt t (suc k) (q / fan) = subst (λ n. StandsAt t n (q / fan)) (add-one k) stands in
        let parts = opened (λ e x. flat_map (λ c. plain g cell k c x.pvbn) (pointers_under e x)) (item (suc k) (q / fan)) block high all in
        let found : place_at g (item (suc k) (q / fan)) ≡ Some over.at = ap (λ n. place g.view g.slot (pointer_at t n (q / fan)).vvbn) (sym (add-one k)) ∙ over.found in
        let listed = found_below (λ e x. flat_map (λ c. plain g cell k c x.pvbn) (pointers_under e x)) (item (suc k) (q / fan)) over.at found parts.1 in
        let flat : all_met (flat_map (λ c. plain g cell k (child_of (item (suc k) (q / fan)) c) over.at.pvbn) (enumerate_from 0 over.node.children)) ≡ true =
        sym (ap all_met (children_are k (q / fan) over.at over.node over.reads)) ∙ listed in
        let one = at_child (λ c. plain g cell k (child_of (item (suc k) (q / fan)) c) over.at.pvbn) 0 (q % fan) over.node.children flat over.inside in
        let none : 0 + q % fan ≡ q % fan = omega arith in
        let rest : q % fan < fan = omega arith in
        let whole : fan * (q / fan) + q % fan ≡ q = omega arith in
        let is : child_of (item (suc k) (q / fan)) (0 + q % fan, get_or over.node.children (q % fan) hole) ≡ item k q =
        ap (λ n. child_of (item (suc k) (q / fan)) (n, get_or over.node.children (q % fan) hole)) none
        ∙ child_is k (q / fan) (q % fan) over.at over.node low stands over.found over.reads rest
        ∙ ap (item k) whole in
        (over.at.pvbn, subst (λ e. all_met (plain g cell k e over.at.pvbn) ≡ true) is one)

    -- so it holds of each position
    pub from_plain : (level q block : ℕ) → level ≤ levels → all_met (plain g cell level (item level q) block) ≡ true → Passes level q
    unfolding plain
    from_plain zero q block low all = record {
      positions = λ l p le at some.
          let none : l ≡ 0 = omega (arith, le) in
          let whole : p ≡ q = so p (subst (λ n. p / fan ^ (0 - n) ≡ q) none at) in
          subst (λ n. test (item n p) ≡ true) (sym none) (subst (λ n. test (item 0 n) ≡ true) (sym whole) (opened cell (item 0 q) block (subst (λ n. StandsAt t 0 n) whole (subst (λ n. StandsAt t n p) none some)) all).0);
      cells = λ p x at some found.
          let whole : p ≡ q = so p at in
          subst (λ n. all_met (cell (item 0 n) x) ≡ true) (sym whole)
          (found_below cell (item 0 q) x (ap (λ n. place_at g (item 0 n)) (sym whole) ∙ found) (opened cell (item 0 q) block (subst (λ n. StandsAt t 0 n) whole some) all).1);
    }
      where
        so : (p : ℕ) → p / fan ^ 0 ≡ q → p ≡ q
        so p e = omega (arith, e)
    from_plain (suc k) q block low all = record {
      positions = λ l p le at some. ⊎_elim
          (λ (lower : l < suc k).
          let d : ℕ = k - l in
          let level : l + (k - l) ≡ k = omega (arith, lower) in
          let up_one : StandsAt t k (p / fan ^ (k - l)) = subst (λ n. StandsAt t n (p / fan ^ (k - l))) level (over_all (k - l) l p (omega (arith, lower, low)) some) in
          let steps : suc k - l ≡ k - l + 1 = omega (arith, lower) in
          let here : p / fan ^ (k - l) / fan ≡ q = up p (k - l) ∙ ap (λ n. p / fan ^ n) (sym steps) ∙ at in
          let one = down k (p / fan ^ (k - l)) block (omega (arith, low)) (subst (λ n. all_met (plain g cell (suc k) (item (suc k) n) block) ≡ true) (sym here) all) up_one in
          (from_plain k (p / fan ^ (k - l)) one.0 (omega (arith, low)) one.1).positions l p (omega (arith, lower)) refl some)
          (λ (top_one : suc k ≤ l).
          let same : l ≡ suc k = omega (arith, le, top_one) in
          let none : suc k - l ≡ 0 = omega (arith, same) in
          let whole : p ≡ q = so p (subst (λ n. p / fan ^ n ≡ q) none at) in
          subst (λ n. test (item n p) ≡ true) (sym same) (subst (λ n. test (item (suc k) n) ≡ true) (sym whole)
          (opened (λ e x. flat_map (λ c. plain g cell k c x.pvbn) (pointers_under e x)) (item (suc k) q) block (subst (λ n. StandsAt t (suc k) n) whole (subst (λ n. StandsAt t n p) same some)) all).0))
          (cases_lt l (suc k));
      cells = λ p x at some found.
          let from : 0 + k ≡ k = omega arith in
          let up_one : StandsAt t k (p / fan ^ k) = subst (λ n. StandsAt t n (p / fan ^ k)) from (over_all k 0 p (omega (arith, low)) some) in
          let here : p / fan ^ k / fan ≡ q = up p k ∙ ap (λ n. p / fan ^ n) (add-one k) ∙ at in
          let one = down k (p / fan ^ k) block (omega (arith, low)) (subst (λ n. all_met (plain g cell (suc k) (item (suc k) n) block) ≡ true) (sym here) all) up_one in
          (from_plain k (p / fan ^ k) one.0 (omega (arith, low)) one.1).cells p x refl some found;
    }
      where
        so : (p : ℕ) → p / fan ^ 0 ≡ q → p ≡ q
        so p e = omega (arith, e)

    -- ---- and the other way round

    closed : (below : Item → Placed → List Spot) (e : Item) (block : ℕ) → (e.pointer.stamp ≢ 0 → test e ≡ true) → (e.pointer.stamp ≢ 0 → (x : Placed) → place_at g e ≡ Some x → all_met (below e x) ≡ true) → all_met (plain_one g below e block) ≡ true
    closed below e block here rest = ⊎_elim
        (λ (none : e.pointer.stamp ≡ 0). let hole_is : (e.pointer.stamp == 0) ≡ true = grind (arith, nat_tests, none) in ap (λ (b : Bool). all_met (if b then [] else (e, block) ∷ option_map_or (below e) (place_at g e) [])) hole_is)
        (λ (some : e.pointer.stamp ≢ 0).
        let stands : (e.pointer.stamp == 0) ≡ false = grind (arith, nat_tests, some) in
        ap (λ (b : Bool). all_met (if b then [] else (e, block) ∷ option_map_or (below e) (place_at g e) [])) stands
        ∙ and_from (test e) _ (here some) (so some (place_at g e) refl))
        (cases_eq e.pointer.stamp 0)
      where
        so : e.pointer.stamp ≢ 0 → (o : Option Placed) → place_at g e ≡ o → all_met (option_map_or (below e) o []) ≡ true
        so some None is = refl
        so some (Some x) is = rest some x is

    pub none_in : (k q : ℕ) (x : Placed) (f : Shape) → node_at x.block ≡ Err f → children k q x ≡ []
    unfolding pointers_under
    none_in k q x f reads =
        let up_there : (suc k == 0) ≡ false = grind (arith, nat_tests) in
        ap (λ (b : Bool). flat_map (λ c. plain g cell k c x.pvbn) (if b then map (file_root (item (suc k) q)) (files_under (item (suc k) q) x) else children_of (item (suc k) q) (node_at x.block))) up_there
        ∙ ap (λ (r : Result Node Shape). flat_map (λ c. plain g cell k c x.pvbn) (children_of (item (suc k) q) r)) reads

    pub to_plain : (level q block : ℕ) → level ≤ levels → Passes level q → all_met (plain g cell level (item level q) block) ≡ true
    unfolding plain
    to_plain zero q block low is =
        let whole : q / fan ^ 0 ≡ q = omega arith in
        closed cell (item 0 q) block (is.positions 0 q (omega arith) whole) (λ some x found. is.cells q x whole some found)
    to_plain (suc k) q block low is =
        let none : suc k - suc k ≡ 0 = omega arith in
        let whole : q / fan ^ 0 ≡ q = omega arith in
        closed (λ e x. flat_map (λ c. plain g cell k c x.pvbn) (pointers_under e x)) (item (suc k) q) block
        (is.positions (suc k) q (omega arith) (ap (λ n. q / fan ^ n) none ∙ whole))
        (λ some x found. read (λ c block inner. to_plain k (fan * q + c) block (omega (arith, low)) inner) some x found (node_at x.block) refl)
      where
        read : ((c block : ℕ) → Passes k (fan * q + c) → all_met (plain g cell k (item k (fan * q + c)) block) ≡ true) → StandsAt t (suc k) q → (x : Placed) → place_at g (item (suc k) q) ≡ Some x → (r : Result Node Shape) → node_at x.block ≡ r → all_met (children k q x) ≡ true
        read rest some x found (Err f) reads = ap all_met (none_in k q x f reads)
        read rest some x found (Ok n) reads =
            let stands : StandsAt t (k + 1) q = subst (λ n. StandsAt t n q) (sym (add-one k)) some in
            let at_node : place g.view g.slot (pointer_at t (k + 1) q).vvbn ≡ Some x = ap (λ n. place g.view g.slot (pointer_at t n q).vvbn) (add-one k) ∙ found in
            ap all_met (children_are k q x n reads)
            ∙ of_children (λ c. plain g cell k (child_of (item (suc k) q) c) x.pvbn) 0 n.children (λ c inside.
            let long = children_long x.block n reads in
            let from : 0 + c ≡ c = omega arith in
            let small : c < fan = omega (arith, inside, long) in
            let same = child_is k q c x n (omega (arith, low)) stands at_node reads small in
            subst (λ n_c. all_met (plain g cell k (child_of (item (suc k) q) (n_c, get_or n.children c hole)) x.pvbn) ≡ true) (sym from)
            (subst (λ e. all_met (plain g cell k e x.pvbn) ≡ true) (sym same) (rest c x.pvbn (inner c small))))
          where
            inner : (c : ℕ) → c < fan → Passes k (fan * q + c)
            inner c small = record {
              positions = λ l p le at some.
                  let steps : suc k - l ≡ k - l + 1 = omega (arith, le) in
                  let div : (fan * q + c) / fan ≡ q = omega (arith, small) in
                  is.positions l p (omega (arith, le)) (ap (λ n. p / fan ^ n) steps ∙ sym (up p (k - l)) ∙ ap (λ n. n / fan) at ∙ div) some;
              cells = λ p x at some found.
                  let div : (fan * q + c) / fan ≡ q = omega (arith, small) in
                  is.cells p x (ap (λ n. p / fan ^ n) (sym (add-one k)) ∙ sym (up p k) ∙ ap (λ n. n / fan) at ∙ div) some found;
            }
