-- No position is met twice by a walk without stops.
use Rattle.std.proofs.Common.{◌≡◌, ◌≢◌, ℕ, zero, suc, ◌+◌, ◌-◌, ◌*◌, ◌/◌, ◌^◌, ◌<◌, ◌≤◌, Bool, true, false, not, List, [], ◌∷◌, ◌++◌, length, get_or, refl, sym, ap, subst, ◌∙◌, arith, ⊎_elim, add-one, Result, Ok, Err}
use Rattle.std.specs.Prelude.{Option, Some, None, flat_map, ◌&&◌, ◌==◌, nat_le, if◌then◌else◌}
use Rattle.std.specs.List.{enumerate_from}
use Rattle.std.specs.Option.{option_map_or}
use Rattle.std.proofs.lemmas.Bool.{and_parts, and_from, cases_eq}
use Rattle.std.proofs.lemmas.Bool.Decides.{nat_tests}
use Rattle.fv_codec.specs.declared.shape.Shape.{Shape}
use Rattle.fv_codec.specs.declared.pointer.Pointer.{Pointer}
use Rattle.fv_codec.specs.declared.node.Node.{Node}
use Rattle.fv_codec.specs.Blocks.{node_at}
use Rattle.fv_model.specs.Trees.{fan}
use Rattle.fv_tables.specs.Spelled.{Rooted, hole, stored, pointer_at}
use Rattle.fv_tables.specs.Reached.{Item, item_of}
use Rattle.fv_image.specs.Views.{Placed}
use Rattle.fv_image.specs.Chains.{place, under}
use Rattle.fv_image.specs.ReachRules.{is_same_position}
use Rattle.fv_image.proofs.WellTrees.{StandsAt}
use Rattle.fv_faults.specs.Walks.{Ground, child_of, pointers_under}
use Rattle.fv_faults.proofs.Plain.{Spot, place_at, plain_one, plain}
use Rattle.fv_faults.proofs.Members.{all_met, met_both, to_plain, children_are, none_in, child_is, children_long}

-- no two of a list have one position
abbrev pub IsDistinct : List Spot → Type 0
IsDistinct [] = Unit {0}
IsDistinct (p ∷ ps) = (all_met (λ e. not (is_same_position p.0 e)) ps ≡ true) × IsDistinct ps

-- each of one list differs from each of the other
abbrev pub AreApart : List Spot → List Spot → Type 0
AreApart [] qs = Unit {0}
AreApart (p ∷ ps) qs = (all_met (λ e. not (is_same_position p.0 e)) qs ≡ true) × AreApart ps qs

pub distinct_both : (ps qs : List Spot) → IsDistinct ps → IsDistinct qs → AreApart ps qs → IsDistinct (ps ++ qs)
distinct_both [] qs a b apart = b
distinct_both (p ∷ ps) qs a b apart = (met_both (λ e. not (is_same_position p.0 e)) ps qs a.0 apart.0, distinct_both ps qs a.1 b apart.1)

apart_both : (ps qs rs : List Spot) → AreApart ps qs → AreApart ps rs → AreApart ps (qs ++ rs)
apart_both [] qs rs a b = tt
apart_both (p ∷ ps) qs rs a b = (met_both (λ e. not (is_same_position p.0 e)) qs rs a.0 b.0, apart_both ps qs rs a.1 b.1)

apart_none : (ps : List Spot) → AreApart ps []
apart_none [] = tt
apart_none (p ∷ ps) = (refl, apart_none ps)

-- lists of which two tests tell the elements, where no position passes both
module _ (this that : Item → Bool) (never : (e f : Item) → this e ≡ true → that f ≡ true → is_same_position e f ≡ true → ⊥) where
  differs : (e : Item) → this e ≡ true → (qs : List Spot) → all_met that qs ≡ true → all_met (λ f. not (is_same_position e f)) qs ≡ true
  differs e is [] all = refl
  differs e is (q ∷ qs) all =
      let parts = and_parts (that q.0) _ all in
      and_from (not (is_same_position e q.0)) _ (so (is_same_position e q.0) refl parts.0) (differs e is qs parts.1)
    where
      so : (b : Bool) → is_same_position e q.0 ≡ b → that q.0 ≡ true → not b ≡ true
      so true same there = absurd (never e q.0 is there same)
      so false same there = refl

  pub apart_by : (ps qs : List Spot) → all_met this ps ≡ true → all_met that qs ≡ true → AreApart ps qs
  apart_by [] qs a b = tt
  apart_by (p ∷ ps) qs a b = let parts = and_parts (this p.0) _ a in (differs p.0 parts.0 qs b, apart_by ps qs parts.1 b)

-- what makes two positions one
pub record IsOnePlace (e f : Item) : Type 0 where
  pub owner : e.owner ≡ f.owner
  pub level : e.level ≡ f.level
  pub place : e.place ≡ f.place

equal : (a b : ℕ) → (a == b) ≡ true → a ≡ b
equal a b e = grind (arith, nat_tests, e)

pub one_place : (e f : Item) → is_same_position e f ≡ true → IsOnePlace e f
one_place e f same =
    let p = and_parts (e.owner == f.owner) _ same in
    let q = and_parts (e.level == f.level) _ p.1 in
    record { owner = equal _ _ p.0; level = equal _ _ q.0; place = equal _ _ q.1 }

-- ---- lists over the children of a node, told apart by their numbers

module _ (f : ℕ × Pointer → List Spot) (test : ℕ → Item → Bool) (never : (a b : ℕ) (d e : Item) → a ≢ b → test a d ≡ true → test b e ≡ true → is_same_position d e ≡ true → ⊥) where
  apart_children : (a b : ℕ) (ps : List Spot) (cs : List Pointer) → a < b → all_met (test a) ps ≡ true → ((c : ℕ) → c < length cs → all_met (test (b + c)) (f (b + c, get_or cs c hole)) ≡ true) → AreApart ps (flat_map f (enumerate_from b cs))
  apart_children a b ps [] low here each = apart_none ps
  apart_children a b ps (c ∷ cs) low here each =
      let from : b + 0 ≡ b = omega arith in
      apart_both ps (f (b, c)) _
      (apart_by (test a) (test b) (λ d e. never a b d e (omega (arith, low))) ps (f (b, c)) here (subst (λ n. all_met (test n) (f (n, c)) ≡ true) from (each 0 (omega arith))))
      (apart_children a (b + 1) ps cs (omega (arith, low)) here (λ k inside. let shift : b + suc k ≡ b + 1 + k = omega arith in subst (λ n. all_met (test n) (f (n, get_or cs k hole)) ≡ true) shift (each (suc k) (omega (arith, inside)))))

  pub distinct_children : (a : ℕ) (cs : List Pointer) → ((c : ℕ) → c < length cs → all_met (test (a + c)) (f (a + c, get_or cs c hole)) ≡ true) → ((c : ℕ) → c < length cs → IsDistinct (f (a + c, get_or cs c hole))) → IsDistinct (flat_map f (enumerate_from a cs))
  distinct_children a [] each one = tt
  distinct_children a (c ∷ cs) each one =
      let from : a + 0 ≡ a = omega arith in
      let here = subst (λ n. all_met (test n) (f (n, c)) ≡ true) from (each 0 (omega arith)) in
      let next = λ (k : ℕ) (inside : k < length cs). let shift : a + suc k ≡ a + 1 + k = omega arith in subst (λ n. all_met (test n) (f (n, get_or cs k hole)) ≡ true) shift (each (suc k) (omega (arith, inside))) in
      distinct_both (f (a, c)) _
      (subst (λ n. IsDistinct (f (n, c))) from (one 0 (omega arith)))
      (distinct_children (a + 1) cs next (λ k inside. let shift : a + suc k ≡ a + 1 + k = omega arith in subst (λ n. IsDistinct (f (n, get_or cs k hole))) shift (one (suc k) (omega (arith, inside)))))
      (apart_children a (a + 1) (f (a, c)) cs (omega arith) here next)

-- ---- a tree

module _ (g : Ground) (cell : Item → Placed → List Spot) (owner levels : ℕ) (root top : Pointer) where
  abbrev t : Rooted
  t = stored (under g.view g.slot) owner levels root

  abbrev item : ℕ → ℕ → Item
  item level q = item_of top t level q

  -- what is met at and below range q of a level: positions of the tree below it, and files whose records stand in the blocks of its cells
  abbrev pub is_below : ℕ → ℕ → Item → Bool
  is_below level q e = if e.owner == owner then (nat_le e.level level && (e.place / fan ^ (level - e.level) == q)) else (e.owner / 16 / fan ^ level == q)

  abbrev pub is_foreign : ℕ → Item → Bool
  is_foreign p e = not (e.owner == owner) && (e.owner / 16 == p)

  -- what is met at a cell: files of its own block, no position twice
  pub record AreForeign : Type 0 where
    pub told : (p : ℕ) (x : Placed) → StandsAt t 0 p → place_at g (item 0 p) ≡ Some x → all_met (is_foreign p) (cell (item 0 p) x) ≡ true
    pub once : (p : ℕ) (x : Placed) → StandsAt t 0 p → place_at g (item 0 p) ≡ Some x → IsDistinct (cell (item 0 p) x)

  module _ (are : AreForeign) where
    foreign_below : (level q p : ℕ) → p / fan ^ level ≡ q → (ps : List Spot) → all_met (is_foreign p) ps ≡ true → all_met (is_below level q) ps ≡ true
    foreign_below level q p at [] all = refl
    foreign_below level q p at (e ∷ ps) all =
        let parts = and_parts (is_foreign p e.0) _ all in
        and_from (is_below level q e.0) _ (so (e.0.owner == owner) refl parts.0) (foreign_below level q p at ps parts.1)
      where
        so : (b : Bool) → (e.0.owner == owner) ≡ b → (not b && (e.0.owner / 16 == p)) ≡ true → (if b then (nat_le e.0.level level && (e.0.place / fan ^ (level - e.0.level) == q)) else (e.0.owner / 16 / fan ^ level == q)) ≡ true
        so true is e = absurd cc
        so false is same = let home : e.0.owner / 16 ≡ p = equal _ _ same in ap (λ n. n / fan ^ level == q) home ∙ (let one : (p / fan ^ level == q) ≡ true = grind (arith, nat_tests, at) in one)

    all_below : (level q block : ℕ) → level ≤ levels → all_met (is_below level q) (plain g cell level (item level q) block) ≡ true
    all_below level q block low = to_plain (is_below level q) g cell owner levels root top level q block low (record {
      positions = λ l p le at some.
          let own : (owner == owner) ≡ true = grind (arith, nat_tests) in
          let within : nat_le l level ≡ true = grind (arith, nat_tests, le) in
          let here : (p / fan ^ (level - l) == q) ≡ true = grind (arith, nat_tests, at) in
          ap (λ (b : Bool). if b then (nat_le l level && (p / fan ^ (level - l) == q)) else (owner / 16 / fan ^ level == q)) own ∙ and_from (nat_le l level) _ within here;
      cells = λ p x at some found. foreign_below level q p at (cell (item 0 p) x) (are.told p x some found);
    })

    -- what lies below different ranges differs
    never_both : (level a b : ℕ) (d e : Item) → a ≢ b → is_below level a d ≡ true → is_below level b e ≡ true → is_same_position d e ≡ true → ⊥
    never_both level a b d e differ here there same =
        let one = one_place d e same in
        so (d.owner == owner) refl (e.owner == owner) refl here there one
      where
        so : (x : Bool) → (d.owner == owner) ≡ x → (y : Bool) → (e.owner == owner) ≡ y
            → (if x then (nat_le d.level level && (d.place / fan ^ (level - d.level) == a)) else (d.owner / 16 / fan ^ level == a)) ≡ true
            → (if y then (nat_le e.level level && (e.place / fan ^ (level - e.level) == b)) else (e.owner / 16 / fan ^ level == b)) ≡ true → IsOnePlace d e → ⊥
        so true i true j h k one =
            differ (sym (equal _ _ (and_parts (nat_le d.level level) _ h).1) ∙ (λ i. one.place i / fan ^ (level - one.level i)) ∙ equal _ _ (and_parts (nat_le e.level level) _ k).1)
        so false i false j h k one = differ (sym (equal _ _ h) ∙ ap (λ n. n / 16 / fan ^ level) one.owner ∙ equal _ _ k)
        so true i false j h k one = no (sym i ∙ ap (λ n. n == owner) one.owner ∙ j)
          where
            no : true ≡ false → ⊥
            no e = cc
        so false i true j h k one = no (sym i ∙ ap (λ n. n == owner) one.owner ∙ j)
          where
            no : false ≡ true → ⊥
            no e = cc

    -- the pointer of a position differs from all below its node
    above_all : (k q : ℕ) (q' : ℕ) (ps : List Spot) → all_met (is_below k q') ps ≡ true → all_met (λ e. not (is_same_position (item (suc k) q) e)) ps ≡ true
    above_all k q q' [] all = refl
    above_all k q q' (p ∷ ps) all =
        let parts = and_parts (is_below k q' p.0) _ all in
        and_from (not (is_same_position (item (suc k) q) p.0)) _ (so (is_same_position (item (suc k) q) p.0) refl parts.0) (above_all k q q' ps parts.1)
      where
        high : (b : Bool) → (p.0.owner == owner) ≡ b → (if b then (nat_le p.0.level k && (p.0.place / fan ^ (k - p.0.level) == q')) else (p.0.owner / 16 / fan ^ k == q')) ≡ true → IsOnePlace (item (suc k) q) p.0 → ⊥
        high true i h one =
            let low : p.0.level ≤ k = let test = (and_parts (nat_le p.0.level k) _ h).0 in grind (arith, nat_tests, test) in
            absurd (omega (arith, low, one.level))
        high false i h one = no (sym (ap (λ n. n == owner) (sym one.owner) ∙ own) ∙ i)
          where
            no : true ≡ false → ⊥
            no e = cc

            own : (owner == owner) ≡ true
            own = grind (arith, nat_tests)

        so : (b : Bool) → is_same_position (item (suc k) q) p.0 ≡ b → is_below k q' p.0 ≡ true → not b ≡ true
        so false e h = refl
        so true e h = absurd (high (p.0.owner == owner) refl h (one_place (item (suc k) q) p.0 e))

    -- each differs from what is below its node
    above_children : (k q : ℕ) (f : ℕ × Pointer → List Spot) (a : ℕ) (cs : List Pointer) → ((c : ℕ) → c < length cs → all_met (is_below k (fan * q + (a + c))) (f (a + c, get_or cs c hole)) ≡ true)
        → all_met (λ e. not (is_same_position (item (suc k) q) e)) (flat_map f (enumerate_from a cs)) ≡ true
    above_children k q f a [] each = refl
    above_children k q f a (c ∷ cs) each =
        let from : a + 0 ≡ a = omega arith in
        met_both (λ e. not (is_same_position (item (suc k) q) e)) (f (a, c)) _
        (above_all k q (fan * q + a) (f (a, c)) (subst (λ n. all_met (is_below k (fan * q + n)) (f (n, c)) ≡ true) from (each 0 (omega arith))))
        (above_children k q f (a + 1) cs (λ j inside. let shift : a + suc j ≡ a + 1 + j = omega arith in subst (λ n. all_met (is_below k (fan * q + n)) (f (n, get_or cs j hole)) ≡ true) shift (each (suc j) (omega (arith, inside)))))

    none_foreign : (q p : ℕ) (ps : List Spot) → all_met (is_foreign p) ps ≡ true → all_met (λ e. not (is_same_position (item 0 q) e)) ps ≡ true
    none_foreign q p [] all = refl
    none_foreign q p (e ∷ ps) all =
        let parts = and_parts (is_foreign p e.0) _ all in
        and_from (not (is_same_position (item 0 q) e.0)) _ (so (is_same_position (item 0 q) e.0) refl parts.0) (none_foreign q p ps parts.1)
      where
        no : (b : Bool) → (e.0.owner == owner) ≡ b → (not b && (e.0.owner / 16 == p)) ≡ true → owner ≡ e.0.owner → ⊥
        no true i h same = absurd cc
        no false i h same = wrong (sym (ap (λ n. n == owner) (sym same) ∙ own) ∙ i)
          where
            wrong : true ≡ false → ⊥
            wrong e = cc

            own : (owner == owner) ≡ true
            own = grind (arith, nat_tests)

        so : (b : Bool) → is_same_position (item 0 q) e.0 ≡ b → is_foreign p e.0 ≡ true → not b ≡ true
        so false i h = refl
        so true i h = absurd (no (e.0.owner == owner) refl h (one_place (item 0 q) e.0 i).owner)

    -- one pointer and what is below it
    distinct_one : (below : Item → Placed → List Spot) (e : Item) (block : ℕ) → ((x : Placed) → e.pointer.stamp ≢ 0 → place_at g e ≡ Some x → (all_met (λ f. not (is_same_position e f)) (below e x) ≡ true) × IsDistinct (below e x)) → IsDistinct (plain_one g below e block)
    distinct_one below e block rest = ⊎_elim
        (λ (none : e.pointer.stamp ≡ 0). let hole_is : (e.pointer.stamp == 0) ≡ true = grind (arith, nat_tests, none) in subst (λ (b : Bool). IsDistinct (if b then [] else (e, block) ∷ option_map_or (below e) (place_at g e) [])) (sym hole_is) tt)
        (λ (some : e.pointer.stamp ≢ 0).
        let stands : (e.pointer.stamp == 0) ≡ false = grind (arith, nat_tests, some) in
        subst (λ (b : Bool). IsDistinct (if b then [] else (e, block) ∷ option_map_or (below e) (place_at g e) [])) (sym stands) (so some (place_at g e) refl))
        (cases_eq e.pointer.stamp 0)
      where
        so : e.pointer.stamp ≢ 0 → (o : Option Placed) → place_at g e ≡ o → IsDistinct ((e, block) ∷ option_map_or (below e) o [])
        so some None is = (refl, tt)
        so some (Some x) is = rest x some is

    -- No position of a tree, and of the files below it, is met twice.
    pub distinct_tree : (level q block : ℕ) → level ≤ levels → IsDistinct (plain g cell level (item level q) block)
    unfolding plain
    distinct_tree zero q block low = distinct_one cell (item 0 q) block (λ x some found. (none_foreign q q (cell (item 0 q) x) (are.told q x some found), are.once q x some found))
    distinct_tree (suc k) q block low =
        distinct_one (λ e x. flat_map (λ c. plain g cell k c x.pvbn) (pointers_under e x)) (item (suc k) q) block (λ x some found. read (λ c block. distinct_tree k (fan * q + c) block (omega (arith, low))) x some found (node_at x.block) refl)
      where
        read : ((c block : ℕ) → IsDistinct (plain g cell k (item k (fan * q + c)) block)) → (x : Placed) → StandsAt t (suc k) q → place_at g (item (suc k) q) ≡ Some x → (r : Result Node Shape) → node_at x.block ≡ r
            → (all_met (λ f. not (is_same_position (item (suc k) q) f)) (flat_map (λ c. plain g cell k c x.pvbn) (pointers_under (item (suc k) q) x)) ≡ true) × IsDistinct (flat_map (λ c. plain g cell k c x.pvbn) (pointers_under (item (suc k) q) x))
        read rest x some found (Err f) reads =
            let none = none_in (λ e. true) g cell owner levels root top k q x f reads in
            (ap (all_met (λ f. not (is_same_position (item (suc k) q) f))) none, subst IsDistinct (sym none) tt)
        read rest x some found (Ok n) reads =
            let stands : StandsAt t (k + 1) q = subst (λ n. StandsAt t n q) (sym (add-one k)) some in
            let at_node : place g.view g.slot (pointer_at t (k + 1) q).vvbn ≡ Some x = ap (λ n. place g.view g.slot (pointer_at t n q).vvbn) (add-one k) ∙ found in
            let are_children = children_are (λ e. true) g cell owner levels root top k q x n reads in
            let long = children_long x.block n reads in
            let is = λ (c : ℕ) (inside : c < length n.children). child_is (λ e. true) g cell owner levels root top k q c x n (omega (arith, low)) stands at_node reads (omega (arith, inside, long)) in
            let each = λ (c : ℕ) (inside : c < length n.children). let from : 0 + c ≡ c = omega arith in
            subst (λ m. all_met (is_below k (fan * q + m)) (plain g cell k (child_of (item (suc k) q) (m, get_or n.children c hole)) x.pvbn) ≡ true) (sym from)
            (subst (λ e. all_met (is_below k (fan * q + c)) (plain g cell k e x.pvbn) ≡ true) (sym (is c inside)) (all_below k (fan * q + c) x.pvbn (omega (arith, low)))) in
            let one = λ (c : ℕ) (inside : c < length n.children). let from : 0 + c ≡ c = omega arith in
            subst (λ m. IsDistinct (plain g cell k (child_of (item (suc k) q) (m, get_or n.children c hole)) x.pvbn)) (sym from)
            (subst (λ e. IsDistinct (plain g cell k e x.pvbn)) (sym (is c inside)) (rest c x.pvbn)) in (
              ap (all_met (λ f. not (is_same_position (item (suc k) q) f))) are_children
                  ∙ above_children k q (λ c. plain g cell k (child_of (item (suc k) q) c) x.pvbn) 0 n.children each,
              subst IsDistinct (sym are_children)
                  (distinct_children (λ c. plain g cell k (child_of (item (suc k) q) c) x.pvbn) (λ a. is_below k (fan * q + a)) (λ a b d e differ. never_both k (fan * q + a) (fan * q + b) d e (λ same. differ (omega (arith, same)))) 0 n.children each one),
            )
