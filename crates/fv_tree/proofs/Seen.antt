-- What a write is to the machine's tree.
use Rattle.std.proofs.Common.{Result, Ok, Err, OnErr, ◌≡◌, ◌≢◌, ◌≤◌, ◌<◌, ℕ, zero, suc, ◌+◌, ◌-◌, ◌/◌, ◌^◌, ◌⊎◌, inl, inr, Bool, true, false, ◌&&◌, cond, List, [], ◌∷◌, ◌++◌, map, length, Option, Some, None, nat_eq, nat_lt, nat_cmp, refl, sym, ap, ◌∙◌, arith}
use Rattle.std.specs.Ordering.{eq_by_cmp}
use Rattle.std.specs.Cmp.{IsTotalOrder, nat_cmp_total}
use Rattle.std.specs.Cmp.Rules.{comparing}
use Rattle.std.specs.List.{range_with_len}
use Rattle.std.specs.FinMap as fin
use Rattle.std.specs.FinMap.{find}
use Rattle.std.proofs.Common.{rules}
use Rattle.std.proofs.lemmas.Bool.{cases_eq, cases_lt}
use Rattle.std.proofs.lemmas.Bool.Decides.{nat_tests}
use Rattle.std.proofs.lemmas.List.FromFn.{map-range_with_len_more}
use Rattle.fv_model.specs.Trees as trees
use Rattle.fv_model.specs.Trees.{fan, Spot, spot_cmp, levels_with, spots_over, spots_grown, stamp_spots, written, written_spots}
use Rattle.fv_tree.specs.Spelled.{Rooted, pointer_at, stamp_in, block_at}
use Rattle.fv_tree.specs.Standing.{Shows}
use Rattle.fv_tree.specs.Writing.{IsAlike, Remains, IsWritten, Writes}
use Rattle.fv_tree.proofs.Spots.{same_spot, here, elsewhere}
use Rattle.fv_tree.proofs.Ways.{past, own_way}
use Rattle.fv_tree.proofs.Writes.{no_stamp, some_stamp, none_at, block_none}

abbrev Stamps : Type 0
Stamps = fin.FinMap spot_cmp ℕ

spot_total : IsTotalOrder spot_cmp
spot_total = search (comparing, rules)

-- ---- stamps that are given one after another

inserted : (m : Stamps) (a b s k p : ℕ) → fin.get (fin.insert m (a, b) s) (k, p) ≡ cond (nat_eq a k && nat_eq b p) (Some s) (fin.get m (k, p))
inserted m a b s k p = fin.get-insert spot_total m (a, b) s (k, p) ∙ ap (λ c. cond c (Some s) (fin.get m (k, p))) (same_spot k p a b)

stamped_on : (s : ℕ) (ps qs : List Spot) (m : Stamps) → stamp_spots s (ps ++ qs) m ≡ stamp_spots s qs (stamp_spots s ps m)
unfolding stamp_spots
stamped_on s [] qs m = refl
stamped_on s (p ∷ ps) qs m = stamped_on s ps qs (fin.insert m p s)

-- one range for each of so many levels
spots : (ℕ → ℕ) → ℕ → ℕ → List Spot
spots f from count = map (λ k. (k, f k)) (range_with_len from count)

one_more : (f : ℕ → ℕ) (s from count : ℕ) (m : Stamps) → stamp_spots s (spots f from (count + 1)) m ≡ fin.insert (stamp_spots s (spots f from count) m) (from + count, f (from + count)) s
unfolding stamp_spots spots
one_more f s from count m =
    ap (λ ps. stamp_spots s ps m) (map-range_with_len_more (λ k. (k, f k)) from count (from + count) (omega arith))
    ∙ stamped_on s (map (λ k. (k, f k)) (range_with_len from count)) ((from + count, f (from + count)) ∷ []) m

no_more : (f : ℕ → ℕ) (s from : ℕ) (m : Stamps) → stamp_spots s (spots f from 0) m ≡ m
unfolding stamp_spots spots
no_more f s from m = refl

misses : (f : ℕ → ℕ) (s from count : ℕ) (m : Stamps) (k p : ℕ) → (k < from) ⊎ ((from + count ≤ k) ⊎ (p ≢ f k)) → fin.get (stamp_spots s (spots f from count) m) (k, p) ≡ fin.get m (k, p)
misses f s from zero m k p other = ap (λ n. fin.get n (k, p)) (no_more f s from m)
misses f s from (suc count) m k p other =
    let n : suc count ≡ count + 1 = omega arith in
    let miss : (nat_eq (from + count) k && nat_eq (f (from + count)) p) ≡ false = elim other [
      | inl low ↦ elsewhere (from + count) (f (from + count)) k p (inl (omega (arith, low)))
      | inr rest ↦ elim rest [
        | inl high ↦ elsewhere (from + count) (f (from + count)) k p (inl (omega (arith, high)))
        | inr differs ↦ elim (cases_eq (from + count) k) [
          | inl same ↦ elsewhere (from + count) (f (from + count)) k p (inr (λ e. differs (sym e ∙ ap f same)))
          | inr apart ↦ elsewhere (from + count) (f (from + count)) k p (inl apart)
        ]
      ]
    ] in
    let rest : (k < from) ⊎ ((from + count ≤ k) ⊎ (p ≢ f k)) = elim other [
      | inl low ↦ inl low
      | inr rest ↦ elim rest [
        | inl high ↦ inr (inl (omega (arith, high)))
        | inr differs ↦ inr (inr differs)
      ]
    ] in
    ap (λ c. fin.get (stamp_spots s (spots f from c) m) (k, p)) n
    ∙ ap (λ x. fin.get x (k, p)) (one_more f s from count m)
    ∙ inserted (stamp_spots s (spots f from count) m) (from + count) (f (from + count)) s k p
    ∙ ap (λ c. cond c (Some s) (fin.get (stamp_spots s (spots f from count) m) (k, p))) miss
    ∙ misses f s from count m k p rest

hits : (f : ℕ → ℕ) (s from count : ℕ) (m : Stamps) (k p : ℕ) → from ≤ k → k < from + count → p ≡ f k → fin.get (stamp_spots s (spots f from count) m) (k, p) ≡ Some s
hits f s from zero m k p low high at = absurd (omega (arith, low, high))
hits f s from (suc count) m k p low high at =
    let n : suc count ≡ count + 1 = omega arith in
    ap (λ c. fin.get (stamp_spots s (spots f from c) m) (k, p)) n
    ∙ ap (λ x. fin.get x (k, p)) (one_more f s from count m)
    ∙ inserted (stamp_spots s (spots f from count) m) (from + count) (f (from + count)) s k p
    ∙ elim (cases_eq (from + count) k) [
      | inl same ↦ ap (λ c. cond c (Some s) (fin.get (stamp_spots s (spots f from count) m) (k, p))) ((λ j. nat_eq (same j) k && nat_eq (f (same j)) (at j)) ∙ here k (f k))
      | inr apart ↦ ap (λ c. cond c (Some s) (fin.get (stamp_spots s (spots f from count) m) (k, p))) (elsewhere (from + count) (f (from + count)) k p (inl apart)) ∙ hits f s from count m k p low (omega arith) at
    ]

-- ---- whether any stamp stands

first_found : (k p v : ℕ) (es : List (Spot × ℕ)) → find spot_cmp (k, p) (((k, p), v) ∷ es) ≡ Some v
first_found k p v es = ap (λ c. cond c (Some v) (find spot_cmp (k, p) es)) (same_spot k p k p ∙ here k p)

counted : Option ℕ → ℕ
counted None = 0
counted (Some v) = 1

not_none : (v : ℕ) → Some v ≡ None → ⊥
unfolding counted
not_none v e = let n : 1 ≡ 0 = ap counted e in absurd (omega (arith, n))

some_stands : (es : List (Spot × ℕ)) → ((k p : ℕ) → find spot_cmp (k, p) es ≡ None) → length es ≡ 0
some_stands [] none = refl
some_stands (x ∷ xs) none = absurd (not_none x.1 (sym (first_found x.0.0 x.0.1 x.1 xs) ∙ none x.0.0 x.0.1))

none_len : (m : Stamps) → ((k p : ℕ) → fin.get m (k, p) ≡ None) → fin.len m ≡ 0
none_len m none = fin.len-entries m ∙ some_stands (fin.entries m) (λ k p. sym (fin.get-entries m (k, p)) ∙ none k p)

some_len : (m : Stamps) (k p v : ℕ) → fin.get m (k, p) ≡ Some v → 0 < fin.len m
some_len m k p v is = elim (cases_eq (fin.len m) 0) [
  | inl e ↦ absurd (not_none v (sym is ∙ ap (λ n. fin.get n (k, p)) (fin.empty_of_len m e) ∙ fin.get-empty {X = ℕ} spot_cmp (k, p)))
  | inr some ↦ omega arith
]

-- ---- the stamps of a write

module _ (old new : Rooted) (i s : ℕ) (block : List ℕ) (seen : trees.Tree) (contents : fin.FinMap nat_cmp (List ℕ)) (shows : Shows old seen contents) (is : IsWritten old new i s block) where
  levels : levels_with seen.levels i ≡ new.levels
  levels = ap (λ n. levels_with n i) shows.levels ∙ sym is.levels

  over : Stamps
  over = stamp_spots s (spots (λ k. i / fan ^ k) 0 (new.levels + 1)) seen.stamps

  over_is : (k p : ℕ) → (k ≤ old.levels) ⊎ ((p ≢ 0) ⊎ (old.root.stamp ≡ 0)) ⊎ (new.levels < k) → fin.get over (k, p) ≡ stamp_in (pointer_at new k p)
  unfolding over
  over_is k p cond = elim (cases_lt new.levels k) [
    | inl lt ↦ misses (λ k. i / fan ^ k) s 0 (new.levels + 1) seen.stamps k p (inr (inl (omega (arith, lt)))) ∙ shows.stamps k p ∙ ap stamp_in (past old k p (omega (arith, lt, is.more)) ∙ sym (past new k p lt))
    | inr le ↦ elim (cases_eq p (i / fan ^ k)) [
      | inl at ↦ hits (λ k. i / fan ^ k) s 0 (new.levels + 1) seen.stamps k p (omega arith) (omega (arith, le)) at ∙ sym (ap (λ q. stamp_in (pointer_at new k q)) at ∙ is.way k le)
      | inr differs ↦ misses (λ k. i / fan ^ k) s 0 (new.levels + 1) seen.stamps k p (inr (inr differs)) ∙ shows.stamps k p ∙ sym (is.others k p differs (elim cond [
        | inl low ↦ inl low
        | inr rest ↦ elim rest [
          | inl other ↦ inr other
          | inr lt ↦ absurd (omega (arith, le, lt))
        ]
      ]))
    ]
  ]

  grown_is : old.root.stamp ≢ 0 → (k p : ℕ) → fin.get (stamp_spots s (spots (λ _. 0) (old.levels + 1) (new.levels - old.levels)) over) (k, p) ≡ stamp_in (pointer_at new k p)
  grown_is cell k p = elim (cases_lt old.levels k) [
    | inr low ↦ misses (λ _. 0) s (old.levels + 1) (new.levels - old.levels) over k p (inl (omega (arith, low))) ∙ over_is k p (inl low)
    | inl lt ↦ elim (cases_lt new.levels k) [
      | inl above ↦ misses (λ _. 0) s (old.levels + 1) (new.levels - old.levels) over k p (inr (inl (omega (arith, above, is.more)))) ∙ over_is k p (inr (inr above))
      | inr le ↦ elim (cases_eq p 0) [
        | inl first ↦ hits (λ _. 0) s (old.levels + 1) (new.levels - old.levels) over k p (omega (arith, lt)) (omega (arith, le, lt)) first ∙ sym (ap (λ q. stamp_in (pointer_at new k q)) first ∙ is.grown cell k lt le)
        | inr other ↦ misses (λ _. 0) s (old.levels + 1) (new.levels - old.levels) over k p (inr (inr other)) ∙ over_is k p (inr (inl (inl other)))
      ]
    ]
  ]

  all_stamps : (any : Bool) → any ≡ nat_lt 0 (fin.len seen.stamps) → (k p : ℕ) → fin.get (stamp_spots s (spots_grown any old.levels new.levels) over) (k, p) ≡ stamp_in (pointer_at new k p)
  unfolding spots_grown spots stamp_spots
  all_stamps true e k p = elim (cases_eq old.root.stamp 0) [
    | inl none ↦
        let length : fin.len seen.stamps ≡ 0 = none_len seen.stamps (λ k p. shows.stamps k p ∙ no_stamp (pointer_at old k p) (none_at old none k p)) in
        absurd (grind (arith, nat_tests, e, length))
    | inr cell ↦ grown_is cell k p
  ]
  all_stamps false e k p = elim (cases_eq old.root.stamp 0) [
    | inl none ↦ over_is k p (inr (inl (inr none)))
    | inr cell ↦
        let top : pointer_at old old.levels 0 ≡ old.root = (own_way old).top 0 in
        let some : 0 < fin.len seen.stamps = some_len seen.stamps old.levels 0 old.root.stamp (shows.stamps old.levels 0 ∙ ap stamp_in top ∙ some_stamp old.root old.root.stamp cell) in
        absurd (grind (arith, nat_tests, e, some))
  ]

  blocks : (j : ℕ) → fin.get (fin.insert contents i block) j ≡ block_at new j
  blocks j = fin.get-insert nat_cmp_total contents i block j ∙ elim (cases_eq j i) [
    | inl same ↦
        let test : eq_by_cmp nat_cmp j i ≡ true = grind (arith, nat_tests) in
        ap (λ b. cond b (Some block) (fin.get contents j)) test ∙ sym (ap (block_at new) same ∙ is.cell)
    | inr differs ↦
        let test : eq_by_cmp nat_cmp j i ≡ false = grind (arith, nat_tests) in
        ap (λ b. cond b (Some block) (fin.get contents j)) test ∙ shows.blocks j ∙ sym (is.blocks j differs)
  ]

  stamps : (k p : ℕ) → fin.get (written s i seen).stamps (k, p) ≡ stamp_in (pointer_at new k p)
  unfolding written spots_over spots over
  stamps k p =
      ap (λ x. fin.get x (k, p)) (stamped_on s (spots_over (levels_with seen.levels i) i) (spots_grown (nat_lt 0 (fin.len seen.stamps)) seen.levels (levels_with seen.levels i)) seen.stamps)
      ∙ (λ j. fin.get (stamp_spots s (spots_grown (nat_lt 0 (fin.len seen.stamps)) (shows.levels j) (levels j)) (stamp_spots s (spots_over (levels j) i) seen.stamps)) (k, p))
      ∙ all_stamps (nat_lt 0 (fin.len seen.stamps)) refl k p

  pub shown : Shows new (written s i seen) (fin.insert contents i block)
  unfolding written
  shown = record {
    levels = levels;
    stamps = stamps;
    blocks = blocks;
  }

pub writes : (old new : Rooted) (i s : ℕ) (block : List ℕ) → IsWritten old new i s block → Writes old new i s block
writes old new i s block is seen contents shows = shown old new i s block seen contents shows is

-- a tree without a cell
pub empty_shown : (t : Rooted) (count : ℕ) → count ≡ t.levels → t.root.stamp ≡ 0 → Shows t (record { levels = count; stamps = fin.empty }) fin.empty
empty_shown t count same none = record {
  levels = same;
  stamps = λ k p. fin.get-empty {X = ℕ} spot_cmp (k, p) ∙ sym (no_stamp (pointer_at t k p) (none_at t none k p));
  blocks = λ i. fin.get-empty {X = List ℕ} nat_cmp i ∙ sym (block_none t i (none_at t none 0 i));
}

-- a tree that is alike is seen as before
pub remains : (old new : Rooted) → IsAlike old new → Remains old new
remains old new alike seen contents shows = record {
  levels = shows.levels ∙ sym alike.levels;
  stamps = λ k p. shows.stamps k p ∙ sym (alike.stamps k p);
  blocks = λ i. shows.blocks i ∙ sym (alike.blocks i);
}

pub remains_at_err : {T E : Type 0} (r : Result T E) (old new : Rooted) → OnErr r (IsAlike old new) → OnErr r (Remains old new)
remains_at_err (Ok x) old new alike = tt
remains_at_err (Err e) old new alike = remains old new alike
