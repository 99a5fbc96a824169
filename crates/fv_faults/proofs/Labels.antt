-- Rule 13: the lines on a volume's label, and the tests of soundness.
use Rattle.std.proofs.Common.{◌≡◌, ℕ, ◌<◌, Bool, true, false, not, List, [], ◌∷◌, map, length, inl, inr, refl, sym, ap, subst, ◌∙◌, arith}
use Rattle.std.specs.Prelude.{Option, Some, None, filter, flat_map, count_by, ◌&&◌, ◌||◌, ◌==◌, if◌then◌else◌}
use Rattle.std.specs.List.{list_all, list_any, range_with_len}
use Rattle.std.specs.Option.{is_some, is_none, option_map_or}
use Rattle.std.proofs.lemmas.Bool.{and_parts, and_from, or_left, or_right}
use Rattle.std.proofs.lemmas.Bool.Decides.{nat_tests}
use Rattle.std.proofs.lemmas.List.Folds.{list_all-map, list_all-append}
use Rattle.std.proofs.lemmas.List.Sums.{length-filter}
use Rattle.fv_laws.proofs.Lists.{In, in_range}
use Rattle.fv_laws.proofs.Tests.{from_all, to_all}
use Rattle.fv_tables.specs.Reached.{Item, items, is_listed}
use Rattle.fv_image.specs.Views.{Placed, Rooted, Footing, Head, View}
use Rattle.fv_image.specs.Volumes.{standing_of}
use Rattle.fv_image.specs.Seen.{Reached, Root, Based, reached_at, root_seen, roots_of, base_root, base_seen, based_at, based_on}
use Rattle.fv_image.specs.HintRules.{is_unknown}
use Rattle.fv_image.specs.Staying.{items_of, own_items, base_items}
use Rattle.fv_image.specs.HintRules.{is_splitting}
use Rattle.fv_image.specs.Places.{Held, once_each, is_one_pointer}
use Rattle.fv_faults.specs.FourthPass.{all_held, how_many, unknown_in, is_copy, own_over_base, rests_elsewhere, not_on_base}

-- ---- none of a list passes

none_once : {X : Type 0} (same : X → X → Bool) (xs : List X) → length (once_each same xs) ≡ 0 → xs ≡ []
unfolding once_each
none_once same [] none = refl
none_once same (x ∷ xs) none = absurd cc

once_none : {X : Type 0} (same : X → X → Bool) (xs : List X) → xs ≡ [] → length (once_each same xs) ≡ 0
unfolding once_each
once_none same xs none = rw none refl

none_passes : {X : Type 0} (test : X → Bool) (xs : List X) → filter test xs ≡ [] → list_all (λ x. not (test x)) xs ≡ true
none_passes test [] none = refl
none_passes test (x ∷ xs) none = so (none_passes test xs) (test x) none
  where
    so : (filter test xs ≡ [] → list_all (λ x. not (test x)) xs ≡ true) → (b : Bool) → (if b then x ∷ filter test xs else filter test xs) ≡ [] → (not b && list_all (λ x. not (test x)) xs) ≡ true
    so rest true none = absurd cc
    so rest false none = rest none

passes_none : {X : Type 0} (test : X → Bool) (xs : List X) → list_all (λ x. not (test x)) xs ≡ true → filter test xs ≡ []
passes_none test [] all = refl
passes_none test (x ∷ xs) all = so (passes_none test xs) (test x) all
  where
    so : (list_all (λ x. not (test x)) xs ≡ true → filter test xs ≡ []) → (b : Bool) → (not b && list_all (λ x. not (test x)) xs) ≡ true → (if b then x ∷ filter test xs else filter test xs) ≡ []
    so rest true all = absurd cc
    so rest false all = rest all

-- ---- all that roots hold

module _ (w : View) (s : ℕ) (h : Head) where
  abbrev held_of : ℕ × Rooted → List Held
  held_of r = map (λ (e : Item). record { map = r.0; item = e }) (items (standing_of w s r.1))

  -- of all roots, as a test of the pointers of each
  abbrev pub by_roots : (Item → Bool) → List (ℕ × Rooted) → Bool
  by_roots test rs = list_all (λ (r : ℕ × Rooted). list_all test (items (standing_of w s r.1))) rs

  held_by : (test : Item → Bool) (rs : List (ℕ × Rooted)) → list_all (λ (p : Held). test p.item) (flat_map held_of rs) ≡ by_roots test rs
  held_by test [] = refl
  held_by test (r ∷ rs) =
      list_all-append (λ (p : Held). test p.item) (held_of r) (flat_map held_of rs)
      ∙ ap (λ b. b && list_all (λ (p : Held). test p.item) (flat_map held_of rs)) (list_all-map (λ (p : Held). test p.item) (λ (e : Item). record { map = r.0; item = e }) (items (standing_of w s r.1)))
      ∙ ap (λ b. list_all test (items (standing_of w s r.1)) && b) (held_by test rs)

  -- None is counted exactly where each fails the test.
  pub none_held : (test : Item → Bool) → how_many w s h test ≡ 0 → by_roots (λ e. not (test e)) (roots_of h) ≡ true
  none_held test none =
      sym (held_by (λ e. not (test e)) (roots_of h))
      ∙ none_passes (λ (p : Held). test p.item) (all_held w s h) (none_once is_one_pointer (filter (λ (p : Held). test p.item) (all_held w s h)) none)

  pub held_none : (test : Item → Bool) → by_roots (λ e. not (test e)) (roots_of h) ≡ true → how_many w s h test ≡ 0
  held_none test all =
      once_none is_one_pointer (filter (λ (p : Held). test p.item) (all_held w s h))
      (passes_none (λ (p : Held). test p.item) (all_held w s h) (held_by (λ e. not (test e)) (roots_of h) ∙ all))

  -- the tests of soundness over the roots that are seen of a volume
  seen_by : (test : Reached → Bool) (rs : List (ℕ × Rooted)) → list_all (λ (r : Root). list_all test r.reached) (map (λ r. root_seen w s r.0 r.1) rs) ≡ by_roots (λ e. test (reached_at w s e)) rs
  unfolding root_seen
  seen_by test [] = refl
  seen_by test (r ∷ rs) =
      ap (λ b. b && list_all (λ (r : Root). list_all test r.reached) (map (λ r. root_seen w s r.0 r.1) rs)) (list_all-map test (reached_at w s) (items (standing_of w s r.1)))
      ∙ ap (λ b. list_all (λ e. test (reached_at w s e)) (items (standing_of w s r.1)) && b) (seen_by test rs)

  by_each : (p q : Item → Bool) → ((e : Item) → p e ≡ true → q e ≡ true) → (rs : List (ℕ × Rooted)) → by_roots p rs ≡ true → by_roots q rs ≡ true
  by_each p q each [] all = refl
  by_each p q each (r ∷ rs) all =
      let parts = and_parts (list_all p (items (standing_of w s r.1))) _ all in
      and_from (list_all q (items (standing_of w s r.1))) _ (inner (items (standing_of w s r.1)) parts.0) (by_each p q each rs parts.1)
    where
      inner : (es : List Item) → list_all p es ≡ true → list_all q es ≡ true
      inner [] all = refl
      inner (e ∷ es) all = let parts = and_parts (p e) _ all in and_from (q e) _ (each e parts.0) (inner es parts.1)

  -- ---- known volumes

  abbrev pub known_test : Reached → Bool
  known_test e = not h.known || not (is_unknown e.item.pointer)

  pub known_true : unknown_in w s h ≡ 0 → list_all (λ (r : Root). list_all known_test r.reached) (map (λ r. root_seen w s r.0 r.1) (roots_of h)) ≡ true
  known_true none = seen_by known_test (roots_of h) ∙ so h.known none
    where
      so : (b : Bool) → (if b then how_many w s h (λ e. is_unknown e.pointer) else 0) ≡ 0 → by_roots (λ e. not b || not (is_unknown e.pointer)) (roots_of h) ≡ true
      so true none = none_held (λ e. is_unknown e.pointer) none
      so false none = all_true (roots_of h)
        where
          each_true : (es : List Item) → list_all (λ (e : Item). true) es ≡ true
          each_true [] = refl
          each_true (e ∷ es) = each_true es

          all_true : (rs : List (ℕ × Rooted)) → by_roots (λ (e : Item). true) rs ≡ true
          all_true [] = refl
          all_true (r ∷ rs) = and_from (list_all (λ (e : Item). true) (items (standing_of w s r.1))) _ (each_true (items (standing_of w s r.1))) (all_true rs)

  pub none_unknown_in : list_all (λ (r : Root). list_all known_test r.reached) (map (λ r. root_seen w s r.0 r.1) (roots_of h)) ≡ true → unknown_in w s h ≡ 0
  none_unknown_in all = so h.known (sym (seen_by known_test (roots_of h)) ∙ all)
    where
      so : (b : Bool) → by_roots (λ e. not b || not (is_unknown e.pointer)) (roots_of h) ≡ true → (if b then how_many w s h (λ e. is_unknown e.pointer) else 0) ≡ 0
      so true all = held_none (λ e. is_unknown e.pointer) all
      so false all = refl

-- ---- tests of lists

nothing : {X : Type 0} (xs : List X) → length xs ≡ 0 → xs ≡ []
nothing [] none = refl
nothing (x ∷ xs) none = absurd cc

no_count : {X : Type 0} (test : X → Bool) (xs : List X) → count_by test xs ≡ 0 → list_all (λ x. not (test x)) xs ≡ true
no_count test xs none = none_passes test xs (nothing (filter test xs) (length-filter test xs ∙ none))

count_no : {X : Type 0} (test : X → Bool) (xs : List X) → list_all (λ x. not (test x)) xs ≡ true → count_by test xs ≡ 0
count_no {X = X} test xs all = sym (length-filter test xs) ∙ ap (λ (ys : List X). length ys) (passes_none test xs all)

pub listed : (es : List Item) (e : Item) → In e es → is_listed es e.pointer.vvbn ≡ true
listed [] e there = absurd there
listed (d ∷ ds) e (inl is) = let same : (d.pointer.vvbn == e.pointer.vvbn) ≡ true = (let eq : d.pointer.vvbn ≡ e.pointer.vvbn = ap (λ (c : Item). c.pointer.vvbn) is in grind (arith, nat_tests, eq)) in or_left (d.pointer.vvbn == e.pointer.vvbn) _ same
listed (d ∷ ds) e (inr there) = or_right (d.pointer.vvbn == e.pointer.vvbn) _ (listed ds e there)

from_listed : (es : List Item) (v : ℕ) → is_listed es v ≡ true → (e : Item) × (In e es) × (e.pointer.vvbn ≡ v)
from_listed [] v is = absurd cc
from_listed (d ∷ ds) v is = so (λ is. from_listed ds v is) (d.pointer.vvbn == v) refl is
  where
    so : (is_listed ds v ≡ true → (e : Item) × (In e ds) × (e.pointer.vvbn ≡ v)) → (b : Bool) → (d.pointer.vvbn == v) ≡ b → (b || is_listed ds v) ≡ true → (e : Item) × (In e (d ∷ ds)) × (e.pointer.vvbn ≡ v)
    so rest true same is = (d, inl refl, (let eq : d.pointer.vvbn ≡ v = grind (arith, nat_tests, same) in eq))
    so rest false same is = let there = rest is in (there.0, inr there.1, there.2)

-- ---- what a volume with a base reaches

module _ (w : View) (s : ℕ) (h : Head) where
  pub any_mapped : {X Y : Type 0} (p : Y → Bool) (f : X → Y) (xs : List X) → list_any p (map f xs) ≡ list_any (λ x. p (f x)) xs
  any_mapped p f [] = refl
  any_mapped p f (x ∷ xs) = ap (λ b. p (f x) || b) (any_mapped p f xs)

  abbrev pub on_base : ℕ → Bool
  on_base v = list_any (λ (b : Based). b.item.pointer.vvbn == v) (base_seen w s h.base)

  pub based_same : (v : ℕ) → on_base v ≡ is_listed (base_items w h.base) v
  unfolding base_seen
  based_same v = so h.base
    where
      on : (b : Footing) (o : Option Rooted) → list_any (λ (b : Based). b.item.pointer.vvbn == v) (option_map_or (based_on w s b) o []) ≡ is_listed (option_map_or (λ r. items (standing_of w b.parent r)) o []) v
      on b None = refl
      on b (Some r) = any_mapped (λ (b : Based). b.item.pointer.vvbn == v) (based_at w s b.splitting) (items (standing_of w b.parent r))

      so : (o : Option Footing) → list_any (λ (b : Based). b.item.pointer.vvbn == v) (option_map_or (λ b. option_map_or (based_on w s b) (base_root w b) []) o []) ≡ is_listed (base_items w o) v
      so None = refl
      so (Some b) = on b (base_root w b)

  -- an entry of its own, or reached by the base table
  abbrev rests : ℕ → Bool
  rests v = is_some (w.entry s v) || is_listed (base_items w h.base) v

  abbrev pub rest_test : Reached → Bool
  rest_test e = e.own || on_base e.item.pointer.vvbn

  told : (e : Item) → rest_test (reached_at w s e) ≡ rests e.pointer.vvbn
  told e = ap (λ b. is_some (w.entry s e.pointer.vvbn) || b) (based_same e.pointer.vvbn)

  not_elsewhere : (v : ℕ) → is_listed (own_items w s h) v ≡ true → not (rests_elsewhere w s h v) ≡ true → rests v ≡ true
  not_elsewhere v own is = so (is_listed (own_items w s h) v) (w.entry s v) (is_listed (base_items w h.base) v) own is
    where
      so : (a : Bool) (o : Option Placed) (b : Bool) → a ≡ true → not (a && (is_none o && not b)) ≡ true → (is_some o || b) ≡ true
      so true None true own is = refl
      so true None false own is = absurd cc
      so true (Some x) b own is = refl
      so false o b own is = absurd cc

  elsewhere : (v : ℕ) → (is_listed (own_items w s h) v ≡ true → rests v ≡ true) → not (rests_elsewhere w s h v) ≡ true
  elsewhere v rest = so (is_listed (own_items w s h) v) (w.entry s v) (is_listed (base_items w h.base) v) rest
    where
      so : (a : Bool) (o : Option Placed) (b : Bool) → (a ≡ true → (is_some o || b) ≡ true) → not (a && (is_none o && not b)) ≡ true
      so false o b rest = refl
      so true None true rest = refl
      so true None false rest = let wrong = rest refl in absurd cc
      so true (Some x) b rest = refl

  -- of all that roots reach, as one list and root by root
  own_by : (test : Item → Bool) (rs : List (ℕ × Rooted)) → list_all test (items_of w s rs) ≡ by_roots w s h test rs
  own_by test [] = refl
  own_by test (r ∷ rs) = list_all-append test (items (standing_of w s r.1)) (items_of w s rs) ∙ ap (λ b. list_all test (items (standing_of w s r.1)) && b) (own_by test rs)

  abbrev pub RootsRest : Type 0
  RootsRest = list_all (λ (r : Root). is_none h.base || list_all rest_test r.reached) (map (λ r. root_seen w s r.0 r.1) (roots_of h)) ≡ true

  pub all_roots_true : (rs : List Root) → list_all (λ (r : Root). true) rs ≡ true
  all_roots_true [] = refl
  all_roots_true (r ∷ rs) = all_roots_true rs

  -- Pass 2 has said that what roots reach lies within the span.
  module _ (below : (e : Item) → In e (own_items w s h) → e.pointer.vvbn < h.span) where
    pub rests_true : not_on_base w s h ≡ 0 → RootsRest
    rests_true none = so (is_none h.base) none
      where
        so : (b : Bool) → (if b then 0 else count_by (rests_elsewhere w s h) (range_with_len 0 h.span)) ≡ 0 → list_all (λ (r : Root). b || list_all rest_test r.reached) (map (λ r. root_seen w s r.0 r.1) (roots_of h)) ≡ true
        so true none = all_roots_true (map (λ r. root_seen w s r.0 r.1) (roots_of h))
        so false none =
            let nowhere = no_count (rests_elsewhere w s h) (range_with_len 0 h.span) none in
            seen_by w s h rest_test (roots_of h)
            ∙ sym (own_by (λ e. rest_test (reached_at w s e)) (roots_of h))
            ∙ to_all (λ e. rest_test (reached_at w s e)) (own_items w s h) (λ e there.
            told e ∙ not_elsewhere e.pointer.vvbn (listed (own_items w s h) e there)
            (from_all (λ v. not (rests_elsewhere w s h v)) (range_with_len 0 h.span) nowhere e.pointer.vvbn
            (in_range 0 h.span e.pointer.vvbn (omega arith) (let low = below e there in omega (arith, low)))))

  pub none_elsewhere : RootsRest → not_on_base w s h ≡ 0
  none_elsewhere all = so (is_none h.base) all
    where
      so : (b : Bool) → list_all (λ (r : Root). b || list_all rest_test r.reached) (map (λ r. root_seen w s r.0 r.1) (roots_of h)) ≡ true → (if b then 0 else count_by (rests_elsewhere w s h) (range_with_len 0 h.span)) ≡ 0
      so true all = refl
      so false all =
          let each = own_by (λ e. rest_test (reached_at w s e)) (roots_of h) ∙ sym (seen_by w s h rest_test (roots_of h)) ∙ all in
          count_no (rests_elsewhere w s h) (range_with_len 0 h.span)
          (to_all (λ v. not (rests_elsewhere w s h v)) (range_with_len 0 h.span) (λ v there. elsewhere v (λ own.
          let from = from_listed (own_items w s h) v own in
          ap rests (sym from.2) ∙ sym (told from.0) ∙ from_all (λ e. rest_test (reached_at w s e)) (own_items w s h) each from.0 from.1)))

  -- ---- a clone that isn't being split has no entry of its own under what its base table reaches

  abbrev pub LeavesBase : Type 0
  LeavesBase = list_all (λ (b : Based). not b.own) (base_seen w s h.base) ≡ true

  abbrev bare : ℕ → Bool
  bare v = not (is_some (w.entry s v))

  leaves_by : (o : Option Footing) → list_all (λ (b : Based). not b.own) (option_map_or (λ b. option_map_or (based_on w s b) (base_root w b) []) o [])
      ≡ list_all (λ (e : Item). not (not (is_splitting o) && is_some (w.entry s e.pointer.vvbn))) (base_items w o)
  leaves_by None = refl
  leaves_by (Some b) = on (base_root w b)
    where
      on : (o : Option Rooted) → list_all (λ (b : Based). not b.own) (option_map_or (based_on w s b) o [])
          ≡ list_all (λ (e : Item). not (not b.splitting && is_some (w.entry s e.pointer.vvbn))) (option_map_or (λ r. items (standing_of w b.parent r)) o [])
      on None = refl
      on (Some r) = list_all-map (λ (b : Based). not b.own) (based_at w s b.splitting) (items (standing_of w b.parent r))

  always : (es : List Item) → list_all (λ (e : Item). true) es ≡ true
  always [] = refl
  always (e ∷ es) = always es

  pub leaves_true : ((e : Item) → In e (base_items w h.base) → e.pointer.vvbn < h.span) → own_over_base w s h ≡ 0 → LeavesBase
  unfolding base_seen
  leaves_true below none = leaves_by h.base ∙ so (is_splitting h.base) none
    where
      here : (a b : Bool) → a ≡ true → not (a && b) ≡ true → not b ≡ true
      here true b is free = free
      here false b is free = absurd cc

      so : (b : Bool) → (if b then 0 else count_by (is_copy w s h) (range_with_len 0 h.span)) ≡ 0 → list_all (λ (e : Item). not (not b && is_some (w.entry s e.pointer.vvbn))) (base_items w h.base) ≡ true
      so true none = always (base_items w h.base)
      so false none =
          let nowhere = no_count (is_copy w s h) (range_with_len 0 h.span) none in
          to_all (λ (e : Item). not (is_some (w.entry s e.pointer.vvbn))) (base_items w h.base) (λ e there.
          here (is_listed (base_items w h.base) e.pointer.vvbn) (is_some (w.entry s e.pointer.vvbn)) (listed (base_items w h.base) e there)
          (from_all (λ v. not (is_copy w s h v)) (range_with_len 0 h.span) nowhere e.pointer.vvbn
          (in_range 0 h.span e.pointer.vvbn (omega arith) (let low = below e there in omega (arith, low)))))

  pub none_over_base : LeavesBase → own_over_base w s h ≡ 0
  unfolding base_seen
  none_over_base all = so (is_splitting h.base) (sym (leaves_by h.base) ∙ all)
    where
      here : (a b : Bool) → (a ≡ true → not b ≡ true) → not (a && b) ≡ true
      here true b rest = rest refl
      here false b rest = refl

      so : (b : Bool) → list_all (λ (e : Item). not (not b && is_some (w.entry s e.pointer.vvbn))) (base_items w h.base) ≡ true → (if b then 0 else count_by (is_copy w s h) (range_with_len 0 h.span)) ≡ 0
      so true all = refl
      so false all = count_no (is_copy w s h) (range_with_len 0 h.span)
          (to_all (λ v. not (is_copy w s h v)) (range_with_len 0 h.span) (λ v there. here (is_listed (base_items w h.base) v) (is_some (w.entry s v)) (λ on.
          let from = from_listed (base_items w h.base) v on in
          ap bare (sym from.2) ∙ from_all (λ (e : Item). not (is_some (w.entry s e.pointer.vvbn))) (base_items w h.base) all from.0 from.1)))
