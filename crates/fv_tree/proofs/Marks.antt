-- What a removal of cells is to the machine's tree.
use Rattle.std.proofs.Common.{◌≡◌, ◌≢◌, ◌≤◌, ◌<◌, ℕ, zero, suc, ◌+◌, ◌/◌, ◌^◌, inl, inr, Bool, true, false, ◌&&◌, ◌||◌, not, cond, List, [], ◌∷◌, map, filter, flat_map, length, Option, Some, None, is_some, nat_eq, nat_le, nat_cmp, refl, sym, ap, ◌∙◌, arith, rules}
use Rattle.fv_tree.proofs.Cases.{first_true, or_true}
use Rattle.std.specs.declared.cmp.Ordering.TheVariants.{Equal}
use Rattle.std.specs.Ordering.{is_eq}
use Rattle.std.specs.Cmp.{IsTotalOrder}
use Rattle.std.specs.Cmp.Rules.{comparing}
use Rattle.std.specs.List.{list_any, range_with_len}
use Rattle.std.specs.FinMap as fin
use Rattle.std.proofs.lemmas.Bool.{cases_eq, cases_lt}
use Rattle.std.proofs.lemmas.Bool.Decides.{nat_tests}
use Rattle.std.proofs.lemmas.List.Folds.{list_any-append}
use Rattle.std.proofs.lemmas.List.FromFn.{map-range_with_len_more}
use Rattle.std.proofs.lemmas.Map.Views.{any-filter_same}
use Rattle.fv_model.specs.Trees as trees
use Rattle.fv_model.specs.Trees.{fan, Spot, spot_cmp, spots_over, stamp_spots, holds_one, erased}
use Rattle.fv_tree.specs.Spelled.{Rooted, pointer_at, stamp_in}
use Rattle.fv_tree.specs.Standing.{Shows}
use Rattle.fv_tree.specs.Erasing.{StandsAt, HoldsCells, IsErased, IsGrownFrom, IsSplit, Erases}
use Rattle.fv_tree.proofs.Erased.{either, not_both, stamp_there, hole_of}
use Rattle.fv_tree.proofs.Spots.{same_spot}
use Rattle.fv_tree.proofs.Ways.{past}
use Rattle.fv_tree.proofs.Writes.{no_stamp}

-- ---- the places of a list

-- whether a place is this one
is_at : ℕ → ℕ → Spot → Bool
is_at k p q = nat_eq q.0 k && nat_eq q.1 p

pub spot_total : IsTotalOrder spot_cmp
spot_total = search (comparing, rules)

stamped : (s : ℕ) (ps : List Spot) (m : fin.FinMap spot_cmp ℕ) (k p : ℕ) → fin.get (stamp_spots s ps m) (k, p) ≡ cond (list_any (is_at k p) ps) (Some s) (fin.get m (k, p))
unfolding stamp_spots is_at
stamped s [] m k p = refl
stamped s (q ∷ qs) m k p =
    stamped s qs (fin.insert m q s) k p
    ∙ ap (cond (list_any (is_at k p) qs) (Some s)) (fin.get-insert spot_total m q s (k, p) ∙ ap (λ c. cond c (Some s) (fin.get m (k, p))) (same_spot k p q.0 q.1))
    ∙ merged (list_any (is_at k p) qs) (nat_eq q.0 k && nat_eq q.1 p) (fin.get m (k, p))
  where
    merged : (a b : Bool) (o : Option ℕ) → cond a (Some s) (cond b (Some s) o) ≡ cond (b || a) (Some s) o
    merged true true o = refl
    merged true false o = refl
    merged false true o = refl
    merged false false o = refl

any_flat : {X A : Type 0} (test : A → Bool) (f : X → List A) (xs : List X) → list_any test (flat_map f xs) ≡ list_any (λ x. list_any test (f x)) xs
any_flat test f [] = refl
any_flat test f (x ∷ xs) = list_any-append test (f x) (flat_map f xs) ∙ ap (λ b. list_any test (f x) || b) (any_flat test f xs)

any_same : {X : Type 0} (f g : X → Bool) (xs : List X) → ((x : X) → f x ≡ g x) → list_any f xs ≡ list_any g xs
any_same f g [] same = refl
any_same f g (x ∷ xs) same = (λ j. same x j || any_same f g xs same j)

any_with : {X : Type 0} (b : Bool) (f : X → Bool) (xs : List X) → list_any (λ x. b && f x) xs ≡ (b && list_any f xs)
any_with true f xs = refl
any_with false f [] = refl
any_with false f (x ∷ xs) = any_with false f xs

any_or : (a : Bool) → (a || false) ≡ a
any_or true = refl
any_or false = refl

-- the place of a level over a cell
over_is : (i count k p : ℕ) → list_any (is_at k p) (map (λ k. (k, i / fan ^ k)) (range_with_len 0 count)) ≡ (nat_le (k + 1) count && nat_eq (i / fan ^ k) p)
unfolding is_at
over_is i zero k p = let test : nat_le (k + 1) 0 ≡ false = grind (arith, nat_tests) in sym (ap (λ b. b && nat_eq (i / fan ^ k) p) test)
over_is i (suc count) k p =
    let n : suc count ≡ count + 1 = omega arith in
    ap (λ c. list_any (is_at k p) (map (λ k. (k, i / fan ^ k)) (range_with_len 0 c))) n
    ∙ ap (list_any (is_at k p)) (map-range_with_len_more (λ k. (k, i / fan ^ k)) 0 count count (omega arith))
    ∙ list_any-append (is_at k p) (map (λ k. (k, i / fan ^ k)) (range_with_len 0 count)) ((count, i / fan ^ count) ∷ [])
    ∙ (λ j. over_is i count k p j || any_or (nat_eq count k && nat_eq (i / fan ^ count) p) j)
    ∙ elim (cases_eq count k) [
      | inl same ↦
          let low : nat_le (k + 1) count ≡ false = grind (arith, nat_tests) in
          let high : nat_le (k + 1) (suc count) ≡ true = grind (arith, nat_tests) in
          let yes : nat_eq count k ≡ true = grind (arith, nat_tests) in
          (λ j. (low j && nat_eq (i / fan ^ k) p) || (yes j && nat_eq (i / fan ^ same j) p)) ∙ sym (ap (λ b. b && nat_eq (i / fan ^ k) p) high)
      | inr differs ↦
          let no_ : nat_eq count k ≡ false = grind (arith, nat_tests) in
          let alike : nat_le (k + 1) (suc count) ≡ nat_le (k + 1) count = elim (cases_lt k count) [
            | inl lt ↦ (let a : nat_le (k + 1) (suc count) ≡ true = grind (arith, nat_tests) in let b : nat_le (k + 1) count ≡ true = grind (arith, nat_tests) in a ∙ sym b)
            | inr le ↦ (let a : nat_le (k + 1) (suc count) ≡ false = grind (arith, nat_tests) in let b : nat_le (k + 1) count ≡ false = grind (arith, nat_tests) in a ∙ sym b)
          ] in
          ap (λ c. (nat_le (k + 1) count && nat_eq (i / fan ^ k) p) || (c && nat_eq (i / fan ^ count) p)) no_ ∙ any_or (nat_le (k + 1) count && nat_eq (i / fan ^ k) p) ∙ sym (ap (λ b. b && nat_eq (i / fan ^ k) p) alike)
    ]

same_place : (k p : ℕ) (q : Spot) → is_at k p q ≡ true → q ≡ (k, p)
unfolding is_at
same_place k p q e =
    let first : q.0 ≡ k = grind (arith, nat_tests, e) in
    let second : q.1 ≡ p = grind (arith, nat_tests, e) in λ j. (first j, second j)

-- the marks that a removal stamps
marked : (levels : ℕ) (gone left : List ℕ) (k p : ℕ)
    → list_any (is_at k p) (filter (holds_one left) (flat_map (spots_over levels) gone)) ≡ (holds_one left (k, p) && (nat_le (k + 1) (levels + 1) && holds_one gone (k, p)))
unfolding spots_over
marked levels gone left k p =
    any-filter_same (is_at k p) (holds_one left) (holds_one left (k, p)) (λ q e. ap (holds_one left) (same_place k p q e)) (flat_map (spots_over levels) gone)
    ∙ ap (λ b. holds_one left (k, p) && b)
    (any_flat (is_at k p) (spots_over levels) gone
    ∙ any_same (λ i. list_any (is_at k p) (spots_over levels i)) (λ i. nat_le (k + 1) (levels + 1) && nat_eq (i / fan ^ k) p) gone (λ i. over_is i (levels + 1) k p)
    ∙ any_with (nat_le (k + 1) (levels + 1)) (λ i. nat_eq (i / fan ^ k) p) gone)

-- ---- elements of a list

both_true : (a b : Bool) → (a && b) ≡ true → (a ≡ true) × (b ≡ true)
both_true true b e = (refl, e)
both_true false b e = absurd (not_both true refl (sym e))

same_number : (a b : ℕ) → nat_eq a b ≡ true → a ≡ b
same_number a b e = grind (arith, nat_tests)

any_found : (f : ℕ → Bool) (xs : List ℕ) → list_any f xs ≡ true → (x : ℕ) × (f x ≡ true) × (list_any (nat_eq x) xs ≡ true)
any_found f [] e = absurd (not_both true refl (sym e))
any_found f (x ∷ xs) e = elim (first_true (f x) (list_any f xs) e) [
  | inl is ↦ (x, is, (let own : nat_eq x x ≡ true = grind (arith, nat_tests) in ap (λ b. b || list_any (nat_eq x) xs) own))
  | inr more ↦ let found = any_found f xs more in (found.0, found.1, ap (λ b. nat_eq found.0 x || b) found.2 ∙ or_true (nat_eq found.0 x))
]

any_holds : (f : ℕ → Bool) (i : ℕ) (xs : List ℕ) → list_any (nat_eq i) xs ≡ true → f i ≡ true → list_any f xs ≡ true
any_holds f i [] e is = absurd (not_both true refl (sym e))
any_holds f i (x ∷ xs) e is = elim (first_true (nat_eq i x) (list_any (nat_eq i) xs) e) [
  | inl same ↦ ap (λ b. b || list_any f xs) (ap f (sym (same_number i x same)) ∙ is)
  | inr more ↦ ap (λ b. f x || b) (any_holds f i xs more is) ∙ or_true (f x)
]

-- ---- the removal

is_some_of : {X : Type 0} (o : Option X) → is_some o ≡ true → o ≢ None
is_some_of None e none = not_both true refl (sym e)
is_some_of (Some x) e none = absurd cc

some_is : {X : Type 0} (o : Option X) → o ≢ None → is_some o ≡ true
some_is None e = absurd (e refl)
some_is (Some x) e = refl

module _ (old new : Rooted) (goes : ℕ → Bool) (start s : ℕ) (seen : trees.Tree) (contents rest : fin.FinMap nat_cmp (List ℕ)) (gone left : List ℕ)
    (shows : Shows old seen contents) (grown : IsGrownFrom start seen) (split : IsSplit seen goes gone left) (is : IsErased old new goes start s) where
  -- cells of the lists are those of the tree
  stands_in : (i : ℕ) → is_some (fin.get seen.stamps (0, i)) ≡ true → StandsAt old 0 i
  stands_in i there none = is_some_of (fin.get seen.stamps (0, i)) there (shows.stamps 0 i ∙ no_stamp (pointer_at old 0 i) none)

  seen_in : (i : ℕ) → StandsAt old 0 i → is_some (fin.get seen.stamps (0, i)) ≡ true
  seen_in i stands = ap is_some (shows.stamps 0 i ∙ stamp_there (pointer_at old 0 i) stands)

  of_gone : (i : ℕ) → list_any (nat_eq i) gone ≡ true → StandsAt old 0 i × (goes i ≡ true)
  of_gone i e = let both = both_true (is_some (fin.get seen.stamps (0, i))) (goes i) (sym (split.those i) ∙ e) in (stands_in i both.0, both.1)

  of_left : (i : ℕ) → list_any (nat_eq i) left ≡ true → StandsAt old 0 i × (goes i ≡ false)
  of_left i e = let both = both_true (is_some (fin.get seen.stamps (0, i))) (not (goes i)) (sym (split.rest i) ∙ e) in (stands_in i both.0, unnot (goes i) both.1)
    where
      unnot : (b : Bool) → not b ≡ true → b ≡ false
      unnot true e = sym e
      unnot false e = refl

  in_gone : (i : ℕ) → StandsAt old 0 i → goes i ≡ true → list_any (nat_eq i) gone ≡ true
  in_gone i stands go = split.those i ∙ (λ j. seen_in i stands j && go j)

  in_left : (i : ℕ) → StandsAt old 0 i → goes i ≡ false → list_any (nat_eq i) left ≡ true
  in_left i stands stays = split.rest i ∙ (λ j. seen_in i stands j && not (stays j))

  in_range : (k p i : ℕ) → i / fan ^ k ≡ p → nat_eq (i / fan ^ k) p ≡ true
  in_range k p i at = grind (arith, nat_tests)

  held : (xs : List ℕ) (k p i : ℕ) → list_any (nat_eq i) xs ≡ true → i / fan ^ k ≡ p → holds_one xs (k, p) ≡ true
  held xs k p i there at = any_holds (λ i. nat_eq (i / fan ^ k) p) i xs there (in_range k p i at)

  holder : (xs : List ℕ) (k p : ℕ) → holds_one xs (k, p) ≡ true → (i : ℕ) × (i / fan ^ k ≡ p) × (list_any (nat_eq i) xs ≡ true)
  holder xs k p e = let found = any_found (λ i. nat_eq (i / fan ^ k) p) xs e in (found.0, same_number (found.0 / fan ^ k) p found.1, found.2)

  kept : (k p : ℕ) → fin.get (fin.retain_keys seen.stamps (holds_one left)) (k, p) ≡ cond (holds_one left (k, p)) (fin.get seen.stamps (k, p)) None
  unfolding is_at
  kept k p = fin.get-retain_keys seen.stamps (holds_one left) (k, p) (λ q e. ap (holds_one left) (sym (tied k p q e)))
    where
      tied : (k p : ℕ) (q : Spot) → spot_cmp (k, p) q ≡ Equal → (k, p) ≡ q
      tied k p q e = sym (same_place k p q (sym (same_spot k p q.0 q.1) ∙ ap is_eq e))

  abbrev marks : fin.FinMap spot_cmp ℕ
  marks = stamp_spots s (filter (holds_one left) (flat_map (spots_over seen.levels) gone)) (fin.retain_keys seen.stamps (holds_one left))

  got : (k p : ℕ) → fin.get marks (k, p) ≡ cond (holds_one left (k, p) && (nat_le (k + 1) (seen.levels + 1) && holds_one gone (k, p))) (Some s) (cond (holds_one left (k, p)) (fin.get seen.stamps (k, p)) None)
  got k p =
      stamped s (filter (holds_one left) (flat_map (spots_over seen.levels) gone)) (fin.retain_keys seen.stamps (holds_one left)) k p
      ∙ (λ j. cond (marked seen.levels gone left k p j) (Some s) (kept k p j))

  mark : (k p : ℕ) (l low g : Bool) → holds_one left (k, p) ≡ l → nat_le (k + 1) (seen.levels + 1) ≡ low → holds_one gone (k, p) ≡ g
      → cond (l && (low && g)) (Some s) (cond l (fin.get seen.stamps (k, p)) None) ≡ stamp_in (pointer_at new k p)
  mark k p false low g el elow eg = sym (is.bare k p (λ i at stands. elim (either (goes i)) [
    | inl go ↦ go
    | inr stays ↦ absurd (not_both (holds_one left (k, p)) (held left k p i (in_left i stands stays) at) el)
  ]))
  mark k p true true true el elow eg =
      let i = holder left k p el in
      let j = holder gone k p eg in
      let there = of_left i.0 i.2 in
      let stood = of_gone j.0 j.2 in
      let le : k ≤ old.levels = (let levels : seen.levels ≡ old.levels = shows.levels in let low : k ≤ seen.levels = grind (arith, nat_tests) in omega (arith, levels, low)) in
      sym (ap (λ q. stamp_in (pointer_at new k q)) (sym i.1) ∙ is.over k i.0 j.0 le there.0 there.1 stood.0 stood.1 (j.1 ∙ sym i.1))
  mark k p true false g el elow eg =
      let i = holder left k p el in
      let there = of_left i.0 i.2 in
      let stay : new.levels ≡ old.levels = is.some i.0 there.0 there.1 in
      let levels : seen.levels ≡ old.levels = shows.levels in
      let high : old.levels < k = (let lt : seen.levels < k = grind (arith, nat_tests) in omega (arith, levels, lt)) in
      shows.stamps k p ∙ ap stamp_in (past old k p high ∙ sym (past new k p (omega (arith, high, stay))))
  mark k p true true false el elow eg =
      shows.stamps k p ∙ sym (is.others k p (λ i at stands. elim (either (goes i)) [
        | inl go ↦ absurd (not_both (holds_one gone (k, p)) (held gone k p i (in_gone i stands go) at) eg)
        | inr stays ↦ stays
      ]))

  first_in : (x : ℕ) (xs : List ℕ) → list_any (nat_eq x) (x ∷ xs) ≡ true
  first_in x xs = let own : nat_eq x x ≡ true = grind (arith, nat_tests) in ap (λ b. b || list_any (nat_eq x) xs) own

  levels_are : (xs ys : List ℕ) → xs ≡ left → ys ≡ gone → cond (nat_eq (length xs) 0) start seen.levels ≡ new.levels
  levels_are (x ∷ xs) ys ls gs =
      let there = of_left x (ap (list_any (nat_eq x)) (sym ls) ∙ first_in x xs) in
      let some : nat_eq (length (x ∷ xs)) 0 ≡ false = grind (arith, nat_tests) in
      ap (λ b. cond b start seen.levels) some ∙ shows.levels ∙ sym (is.some x there.0 there.1)
  levels_are [] (y ∷ ys) ls gs =
      let stood = of_gone y (ap (list_any (nat_eq y)) (sym gs) ∙ first_in y ys) in
      sym (is.back (λ i stands. elim (either (goes i)) [
        | inl go ↦ go
        | inr stays ↦ absurd (not_both (list_any (nat_eq i) left) (in_left i stands stays) (ap (list_any (nat_eq i)) (sym ls)))
      ]) y stood.0)
  levels_are [] [] ls gs =
      let none : (i : ℕ) → StandsAt old 0 i → ⊥ = λ i stands. elim (either (goes i)) [
        | inl go ↦ not_both (list_any (nat_eq i) gone) (in_gone i stands go) (ap (list_any (nat_eq i)) (sym gs))
        | inr stays ↦ not_both (list_any (nat_eq i) left) (in_left i stands stays) (ap (list_any (nat_eq i)) (sym ls))
      ] in
      sym (grown.empty (λ i. shows.stamps 0 i ∙ elim (cases_eq (pointer_at old 0 i).stamp 0) [
        | inl hole ↦ no_stamp (pointer_at old 0 i) hole
        | inr some ↦ absurd (none i some)
      ])) ∙ shows.levels ∙ sym (is.none (λ i stands. absurd (none i stands)))

  pub erases_shown : ((i : ℕ) → fin.get rest i ≡ cond (goes i) None (fin.get contents i)) → Shows new (erased s start gone left seen) rest
  unfolding erased
  erases_shown rests = record {
    levels = levels_are left gone refl refl;
    stamps = λ k p. got k p ∙ mark k p (holds_one left (k, p)) (nat_le (k + 1) (seen.levels + 1)) (holds_one gone (k, p)) refl refl refl;
    blocks = λ i. rests i ∙ ap (cond (goes i) None) (shows.blocks i) ∙ sym (is.blocks i);
  }

-- a tree of the machine has no mark over holes alone
pub seen_holds : (t : Rooted) (seen : trees.Tree) (contents : fin.FinMap nat_cmp (List ℕ)) (start : ℕ) → Shows t seen contents → IsGrownFrom start seen → HoldsCells t
seen_holds t seen contents start shows grown level place stands holes =
    let cell = grown.marks level place (λ none. stands (hole_of (pointer_at t level place) (sym (shows.stamps level place) ∙ none))) in
    cell.2 (shows.stamps 0 cell.0 ∙ no_stamp (pointer_at t 0 cell.0) (holes cell.0 cell.1))

pub erases : (old new : Rooted) (goes : ℕ → Bool) (start s : ℕ) → (HoldsCells old → IsErased old new goes start s) → Erases old new goes start s
erases old new goes start s is seen contents rest gone left shows grown split rests =
    erases_shown old new goes start s seen contents rest gone left shows grown split (is (seen_holds old seen contents start shows grown)) rests
