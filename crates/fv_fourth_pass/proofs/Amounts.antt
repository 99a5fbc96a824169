-- What comes together along a walk without stops, pointer by pointer, is what comes together over the positions of a tree.
use Rattle.std.proofs.Common.{◌≡◌, ◌≢◌, ◌≤◌, ◌<◌, ℕ, zero, suc, ◌+◌, ◌*◌, ◌/◌, ◌%◌, Bool, true, false, List, [], ◌∷◌, ◌++◌, length, get_or, refl, sym, ap, subst, ◌∙◌, arith, ⊎_elim, add-one, Result, Ok, Err}
use Rattle.std.specs.Prelude.{Option, Some, None, flat_map, sum_by, ◌==◌, if◌then◌else◌}
use Rattle.std.specs.List.{enumerate_from, range_with_len}
use Rattle.std.specs.Option.{option_map, option_map_or}
use Rattle.std.proofs.lemmas.Bool.{cases_eq}
use Rattle.std.proofs.lemmas.Bool.Decides.{nat_tests}
use Rattle.std.proofs.lemmas.List.Sums.{sum_by-cons}
use Rattle.fv_codec.specs.declared.shape.Shape.{Shape}
use Rattle.fv_codec.specs.declared.pointer.Pointer.{Pointer}
use Rattle.fv_codec.specs.declared.node.Node.{Node}
use Rattle.fv_codec.specs.declared.inode.InodeRecord.{InodeRecord}
use Rattle.fv_codec.specs.Blocks.{node_at}
use Rattle.fv_model.specs.Trees.{fan}
use Rattle.fv_tables.specs.Spelled.{Rooted, hole, pointers_of, pointers_in, stored, pointers_at, pointer_at}
use Rattle.fv_tables.specs.Reached.{Item, item_of}
use Rattle.fv_tables.specs.Told.{free_record, used_record}
use Rattle.fv_tables.proofs.Pointers.{none_under}
use Rattle.fv_image.specs.Views.{Placed}
use Rattle.fv_image.specs.Chains.{place, under}
use Rattle.fv_image.proofs.Counts.{none_sum}
use Rattle.fv_image.proofs.WellTrees.{in_node, StandsAt}
use Rattle.fv_faults.specs.Walks.{Ground, child_of, pointers_under, used_from}
use Rattle.fv_faults.specs.Met.{Spot, place_at, plain_one, plain}
use Rattle.fv_faults.proofs.Members.{child_is, children_are, children_long, none_in}
use Rattle.fv_fourth_pass.proofs.TreeSums as sums

module _ (P : ℕ → List Spot → Type 0) (none : P 0 []) (both : (a b : ℕ) (xs ys : List Spot) → P a xs → P b ys → P (a + b) (xs ++ ys)) where
  pub of_each : (f : ℕ × Pointer → List Spot) (u : ℕ → ℕ) (a : ℕ) (ps : List Pointer) → ((c : ℕ) → c < length ps → P (u (a + c)) (f (a + c, get_or ps c hole))) → P (sum_by u (range_with_len a (length ps))) (flat_map f (enumerate_from a ps))
  of_each f u a [] each = none
  of_each f u a (p ∷ ps) each =
      let same : a + 0 ≡ a = omega arith in
      subst (λ n. P n (f (a, p) ++ flat_map f (enumerate_from (a + 1) ps))) (sym (sum_by-cons u a (range_with_len (a + 1) (length ps))))
      (both (u a) (sum_by u (range_with_len (a + 1) (length ps))) (f (a, p)) (flat_map f (enumerate_from (a + 1) ps))
      (subst (λ n. P (u n) (f (n, p))) same (each 0 (omega arith)))
      (of_each f u (a + 1) ps (λ c low. let shift : a + suc c ≡ a + 1 + c = omega arith in subst (λ n. P (u n) (f (n, get_or ps c hole))) shift (each (suc c) (omega (arith, low))))))

  module _ (g : Ground) (cell : Item → Placed → List Spot) (owner levels : ℕ) (root top : Pointer) where
    abbrev pub t : Rooted
    t = stored (under g.view g.slot) owner levels root

    abbrev pub item : ℕ → ℕ → Item
    item level place = item_of top t level place

    abbrev yes : Item → Bool
    yes e = true

    -- ---- where no pointers stand

    no_pointer : (k q c : ℕ) → k < levels → c < fan → pointers_at t (k + 1) q (pointer_at t (k + 1) q) ≡ [] → (pointer_at t k (fan * q + c)).stamp ≡ 0
    no_pointer k q c low small empty =
        let div : (fan * q + c) / fan ≡ q = omega (arith, small) in
        ap (λ (p : Pointer). p.stamp) (in_node t k (fan * q + c) low
        ∙ ap (λ (p : ℕ). get_or (pointers_at t (k + 1) p (pointer_at t (k + 1) p)) ((fan * q + c) % fan) hole) div
        ∙ ap (λ (ps : List Pointer). get_or ps ((fan * q + c) % fan) hole) empty)

    read_as : (k q : ℕ) → StandsAt t (k + 1) q → pointers_at t (k + 1) q (pointer_at t (k + 1) q) ≡ pointers_in (option_map (λ x. x.block) (place g.view g.slot (pointer_at t (k + 1) q).vvbn))
    unfolding pointers_at under
    read_as k q some =
        let stands : ((pointer_at t (k + 1) q).stamp == 0) ≡ false = grind (arith, nat_tests, some) in
        ap (λ (b : Bool). if b then [] else pointers_in (option_map (λ x. x.block) (place g.view g.slot (pointer_at t (k + 1) q).vvbn))) stands

    -- ---- one pointer

    at_hole : (below : Item → Placed → List Spot) (e : Item) (block : ℕ) → e.pointer.stamp ≡ 0 → plain_one g below e block ≡ []
    at_hole below e block none =
        let is : (e.pointer.stamp == 0) ≡ true = grind (arith, nat_tests, none) in
        ap (λ (b : Bool). if b then [] else (e, block) ∷ option_map_or (below e) (place_at g e) []) is

    at_one : (below : Item → Placed → List Spot) (e : Item) (block : ℕ) → e.pointer.stamp ≢ 0 → plain_one g below e block ≡ (e, block) ∷ option_map_or (below e) (place_at g e) []
    at_one below e block some =
        let is : (e.pointer.stamp == 0) ≡ false = grind (arith, nat_tests, some) in
        ap (λ (b : Bool). if b then [] else (e, block) ∷ option_map_or (below e) (place_at g e) []) is

    module _ (weight : ℕ → ℕ → ℕ)
        (one : (k q block : ℕ) → k < levels → StandsAt t (suc k) q → P (weight (suc k) q) ((item (suc k) q, block) ∷ []))
        (last : (q block : ℕ) → StandsAt t 0 q → P (weight 0 q) ((item 0 q, block) ∷ option_map_or (cell (item 0 q)) (place_at g (item 0 q)) []))
        (absent : (k q : ℕ) → (pointer_at t k q).stamp ≡ 0 → weight k q ≡ 0) where
      abbrev pub amount : ℕ → ℕ → ℕ
      amount = sums.under fan weight

      abbrev below_sum : ℕ → ℕ → ℕ
      below_sum k q = sum_by (λ c. amount k (fan * q + c)) (range_with_len 0 fan)

      nothing : (k q : ℕ) → k ≤ levels → (pointer_at t k q).stamp ≡ 0 → amount k q ≡ 0
      unfolding sums.under
      nothing zero q low gone = absent 0 q gone
      nothing (suc k) q low gone =
          let here = absent (suc k) q gone in
          let level : (pointer_at t (k + 1) q).stamp ≡ 0 = ap (λ n. (pointer_at t n q).stamp) (add-one k) ∙ gone in
          let rest : below_sum k q ≡ 0 = none_sum (λ c. amount k (fan * q + c)) 0 fan (λ c least high.
          nothing k (fan * q + c) (omega (arith, low)) (no_pointer k q c (omega (arith, low)) (omega (arith, high)) (none_under t (k + 1) q (pointer_at t (k + 1) q) level))) in
          omega (arith, here, rest)

      -- no node is read
      nothing_below : (k q : ℕ) → k < levels → pointers_at t (k + 1) q (pointer_at t (k + 1) q) ≡ [] → below_sum k q ≡ 0
      nothing_below k q low empty = none_sum (λ c. amount k (fan * q + c)) 0 fan (λ c least high.
          nothing k (fan * q + c) (omega (arith, low)) (no_pointer k q c low (omega (arith, high)) empty))

      abbrev spots_below : ℕ → ℕ → Option Placed → List Spot
      spots_below k q o = option_map_or (λ x. flat_map (λ c. plain g cell k c x.pvbn) (pointers_under (item (suc k) q) x)) o []

      pub along : (k q block : ℕ) → k ≤ levels → P (amount k q) (plain g cell k (item k q) block)
      unfolding plain sums.under
      along zero q block low = ⊎_elim
          (λ (gone : (pointer_at t 0 q).stamp ≡ 0). subst (λ ps. P (weight 0 q) ps) (sym (at_hole cell (item 0 q) block gone)) (subst (λ n. P n []) (sym (absent 0 q gone)) none))
          (λ (some : StandsAt t 0 q). subst (λ ps. P (weight 0 q) ps) (sym (at_one cell (item 0 q) block some)) (last q block some))
          (cases_eq (pointer_at t 0 q).stamp 0)
      along (suc k) q block low = ⊎_elim
          (λ (gone : (pointer_at t (suc k) q).stamp ≡ 0).
          subst (λ ps. P (amount (suc k) q) ps) (sym (at_hole node_below (item (suc k) q) block gone)) (subst (λ n. P n []) (sym (nothing (suc k) q low gone)) none))
          (λ (some : StandsAt t (suc k) q).
          subst (λ ps. P (amount (suc k) q) ps) (sym (at_one node_below (item (suc k) q) block some))
          (both (weight (suc k) q) (below_sum k q) ((item (suc k) q, block) ∷ []) (spots_below k q (place_at g (item (suc k) q)))
          (one k q block (omega (arith, low)) some)
          (so (λ c block. along k (fan * q + c) block (omega (arith, low))) some (place_at g (item (suc k) q)) refl)))
          (cases_eq (pointer_at t (suc k) q).stamp 0)
        where
          node_below : Item → Placed → List Spot
          node_below e x = flat_map (λ c. plain g cell k c x.pvbn) (pointers_under e x)

          so : ((c block : ℕ) → P (amount k (fan * q + c)) (plain g cell k (item k (fan * q + c)) block)) → StandsAt t (suc k) q → (o : Option Placed) → place_at g (item (suc k) q) ≡ o → P (below_sum k q) (spots_below k q o)
          so rest some o is = by o is
            where
              stands : StandsAt t (k + 1) q
              stands = subst (λ n. StandsAt t n q) (sym (add-one k)) some

              found : (o : Option Placed) → place_at g (item (suc k) q) ≡ o → place g.view g.slot (pointer_at t (k + 1) q).vvbn ≡ o
              found o is = ap (λ n. place g.view g.slot (pointer_at t n q).vvbn) (add-one k) ∙ is

              empty : (o : Option Placed) → place_at g (item (suc k) q) ≡ o → pointers_in (option_map (λ x. x.block) o) ≡ [] → P (below_sum k q) []
              empty o is blank = subst (λ n. P n []) (sym (nothing_below k q (omega (arith, low)) (read_as k q stands ∙ ap (λ (o : Option Placed). pointers_in (option_map (λ x. x.block) o)) (found o is) ∙ blank))) none

              by : (o : Option Placed) → place_at g (item (suc k) q) ≡ o → P (below_sum k q) (spots_below k q o)
              by None is = empty None is refl
              by (Some x) is = read (node_at x.block) refl
                where
                  read : (r : Result Node Shape) → node_at x.block ≡ r → P (below_sum k q) (spots_below k q (Some x))
                  read (Err f) reads = subst (λ ps. P (below_sum k q) ps) (sym (none_in yes g cell owner levels root top k q x f reads)) (empty (Some x) is (ap pointers_of reads))
                  read (Ok n) reads =
                      let long = children_long x.block n reads in
                      subst (λ ps. P (below_sum k q) ps) (sym (children_are yes g cell owner levels root top k q x n reads))
                      (subst (λ m. P (sum_by (λ c. amount k (fan * q + c)) (range_with_len 0 m)) (flat_map (λ c. plain g cell k (child_of (item (suc k) q) c) x.pvbn) (enumerate_from 0 n.children))) long
                      (of_each (λ c. plain g cell k (child_of (item (suc k) q) c) x.pvbn) (λ c. amount k (fan * q + c)) 0 n.children (λ c inside.
                      let from : 0 + c ≡ c = omega arith in
                      let small : c < fan = omega (arith, inside, long) in
                      let same = child_is yes g cell owner levels root top k q c x n (omega (arith, low)) stands (found (Some x) is) reads small in
                      subst (λ m. P (amount k (fan * q + m)) (plain g cell k (child_of (item (suc k) q) (m, get_or n.children c hole)) x.pvbn)) (sym from)
                      (subst (λ e. P (amount k (fan * q + c)) (plain g cell k e x.pvbn)) (sym same) (rest c x.pvbn)))))

  -- ---- the used records of an inode block

  pub of_records : (f : ℕ × InodeRecord → List Spot) (u : ℕ → ℕ) (a : ℕ) (rs : List InodeRecord)
      → ((i : ℕ) (r : InodeRecord) → i < length rs → used_record (get_or rs i free_record) ≡ Some r → P (u (a + i)) (f (a + i, r)))
      → ((i : ℕ) → i < length rs → used_record (get_or rs i free_record) ≡ None → u (a + i) ≡ 0)
      → P (sum_by u (range_with_len a (length rs))) (flat_map f (used_from a rs))
  unfolding used_from
  of_records f u a [] used free = none
  of_records f u a (q ∷ rs) used free =
      subst (λ n. P n (flat_map f (if q.name_length == 0 then used_from (a + 1) rs else (a, q) ∷ used_from (a + 1) rs))) (sym (sum_by-cons u a (range_with_len (a + 1) (length rs))))
      (so (q.name_length == 0) refl (of_records f u (a + 1) rs
      (λ i r low is. subst (λ n. P (u n) (f (n, r))) (shift i) (used (suc i) r (omega (arith, low)) is))
      (λ i low is. ap u (sym (shift i)) ∙ free (suc i) (omega (arith, low)) is)))
    where
      shift : (i : ℕ) → a + suc i ≡ a + 1 + i
      shift i = omega arith

      here : a + 0 ≡ a
      here = omega arith

      so : (b : Bool) → (q.name_length == 0) ≡ b → P (sum_by u (range_with_len (a + 1) (length rs))) (flat_map f (used_from (a + 1) rs))
          → P (u a + sum_by u (range_with_len (a + 1) (length rs))) (flat_map f (if b then used_from (a + 1) rs else (a, q) ∷ used_from (a + 1) rs))
      so true e rest =
          let gone : u a ≡ 0 = ap u (sym here) ∙ free 0 (omega arith) (ap (λ (b : Bool). if b then None else Some q) e) in
          subst (λ n. P n (flat_map f (used_from (a + 1) rs))) (let e : sum_by u (range_with_len (a + 1) (length rs)) ≡ u a + sum_by u (range_with_len (a + 1) (length rs)) = omega (arith, gone) in e) rest
      so false e rest = both (u a) (sum_by u (range_with_len (a + 1) (length rs))) (f (a, q)) (flat_map f (used_from (a + 1) rs))
          (subst (λ n. P (u n) (f (n, q))) here (used 0 q (omega arith) (ap (λ (b : Bool). if b then None else Some q) e))) rest
