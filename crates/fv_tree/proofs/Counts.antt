-- How many positions a removal takes from a tree.
use Rattle.std.proofs.Common.{◌≡◌, ◌≢◌, ◌≤◌, ◌<◌, ◌⊎◌, inl, inr, ℕ, zero, suc, ◌+◌, ◌-◌, ◌/◌, ◌^◌, Bool, true, false, ◌&&◌, ◌||◌, cond, not, nat_eq, List, [], ◌∷◌, get_or, length, map, Option, None, is_some, refl, sym, ap, ◌∙◌, arith}
use Rattle.std.specs.List.{list_any}
use Rattle.std.specs.Ordering.{eq_by_cmp}
use Rattle.std.specs.FinMap as fin
use Rattle.std.proofs.lemmas.Bool.{cases_eq, cases_lt}
use Rattle.std.proofs.lemmas.Bool.Decides.{nat_tests}
use Rattle.fv_model.specs.Trees.{fan, Spot, spot_cmp}
use Rattle.fv_tables.specs.Told.{tree_told}
use Rattle.fv_tables.proofs.Tables.{stamps_told}
use Rattle.fv_tree.specs.declared.kept.Tree.{Tree}
use Rattle.fv_tree.specs.Spelled.{Under, Rooted, pointer_at, stamp_in}
use Rattle.fv_tree.specs.Standing.{standing}
use Rattle.fv_tree.specs.Counting.{positions_of}
use Rattle.fv_tree.specs.Collecting.{AllBelow, IsRising}
use Rattle.fv_tree.specs.Erasing.{StandsAt}
use Rattle.fv_tree.specs.Unlinking.{HasWay, AreBare, Unlinks}
use Rattle.fv_tree.specs.Writing.{IsAlike}
use Rattle.fv_tree.proofs.Erased.{stamp_there}
use Rattle.fv_tree.proofs.Marks.{spot_total}
use Rattle.fv_tree.proofs.Single.{on_way_goes, other_stays}
use Rattle.fv_tree.proofs.Spots.{here, elsewhere}
use Rattle.fv_tree.proofs.Unlinked.{marks_above}
use Rattle.fv_tree.proofs.Writes.{no_stamp}

-- ---- maps with the same keys

abbrev pub has_key : fin.FinMap spot_cmp ℕ → ℕ → ℕ → Bool
has_key m k p = fin.contains_key m (k, p)

-- whether a key is left once another one is taken out
left_out : (m : fin.FinMap spot_cmp ℕ) (a b k p : ℕ) → has_key (fin.remove m (a, b)) k p ≡ (not (nat_eq k a && nat_eq p b) && has_key m k p)
left_out m a b k p =
    let test : eq_by_cmp spot_cmp (k, p) (a, b) ≡ (nat_eq k a && nat_eq p b) = grind (arith, nat_tests) in
    ap is_some (fin.get-remove spot_total m (a, b) (k, p)) ∙ ap (λ c. is_some (cond c None (fin.get m (k, p)))) test ∙ so (nat_eq k a && nat_eq p b) (fin.get m (k, p))
  where
    so : (c : Bool) (o : Option ℕ) → is_some (cond c None o) ≡ (not c && is_some o)
    so true o = refl
    so false o = refl

one_out : (m : fin.FinMap spot_cmp ℕ) (a b : ℕ) → has_key m a b ≡ true → fin.len (fin.remove m (a, b)) ≡ fin.len m - 1
one_out m a b there = fin.len-remove spot_total m (a, b) ∙ ap (λ c. cond c (fin.len m - 1) (fin.len m)) there

no_key : (m : fin.FinMap spot_cmp ℕ) (k p : ℕ) → fin.len m ≡ 0 → has_key m k p ≡ true → ⊥
no_key m k p none there = absurd (let wrong : false ≡ true = sym (ap (λ (n : fin.FinMap spot_cmp ℕ). has_key n k p) (fin.empty_of_len m none) ∙ ap is_some (fin.get-empty spot_cmp (k, p))) ∙ there in grind (arith, wrong))

some_len : (m : fin.FinMap spot_cmp ℕ) (k p : ℕ) → has_key m k p ≡ true → 1 ≤ fin.len m
some_len m k p there = elim (cases_eq (fin.len m) 0) [
  | inl none ↦ absurd (no_key m k p none there)
  | inr some ↦ omega arith
]

-- a map that isn't empty has a key
a_key : (m : fin.FinMap spot_cmp ℕ) (n : ℕ) → fin.len m ≡ suc n → (q : Spot) × (has_key m q.0 q.1 ≡ true)
a_key m n e = at (fin.entries m) refl
  where
    at : (es : List (Spot × ℕ)) → fin.entries m ≡ es → (q : Spot) × (has_key m q.0 q.1 ≡ true)
    at [] none = absurd (let len : fin.len m ≡ 0 = fin.len-entries m ∙ ap length none in omega (arith, e, len))
    at (x ∷ xs) some = (
      x.0,
      fin.contains_key-keys m x.0
          ∙ ap (λ (es : List (Spot × ℕ)). list_any (eq_by_cmp spot_cmp x.0) (map (λ (e : Spot × ℕ). e.0) es)) some
          ∙ (let same : eq_by_cmp spot_cmp x.0 x.0 ≡ true = grind (arith, nat_tests) in ap (λ b. b || list_any (eq_by_cmp spot_cmp x.0) (map (λ (e : Spot × ℕ). e.0) xs)) same),
    )

pub same_len : (size : ℕ) (m n : fin.FinMap spot_cmp ℕ) → fin.len m ≡ size → ((k p : ℕ) → has_key n k p ≡ has_key m k p) → fin.len m ≡ fin.len n
same_len zero m n none same = elim (cases_eq (fin.len n) 0) [
  | inl e ↦ none ∙ sym e
  | inr some ↦
      let key = a_key n (fin.len n - 1) (omega arith) in
      absurd (no_key m key.0.0 key.0.1 none (sym (same key.0.0 key.0.1) ∙ key.1))
]
same_len (suc size) m n some same =
    let key = a_key m size some in
    let a = key.0.0 in
    let b = key.0.1 in
    let there : has_key n a b ≡ true = same a b ∙ key.1 in
    let out = one_out m a b key.1 in
    let too = one_out n a b there in
    let rest : fin.len (fin.remove m (a, b)) ≡ fin.len (fin.remove n (a, b)) = same_len size (fin.remove m (a, b)) (fin.remove n (a, b)) (omega (arith, out, some))
    (λ k p. left_out n a b k p ∙ ap (λ c. not (nat_eq k a && nat_eq p b) && c) (same k p) ∙ sym (left_out m a b k p)) in
    let least = some_len n a b there in
    omega (arith, out, too, rest, some, least)

-- ---- keys of the lowest levels are taken out, one for each

module _ (f : ℕ → ℕ) where
  without : fin.FinMap spot_cmp ℕ → ℕ → fin.FinMap spot_cmp ℕ
  without m zero = m
  without m (suc count) = fin.remove (without m count) (count, f count)

  still_there : (m : fin.FinMap spot_cmp ℕ) (count k p : ℕ) → (count ≤ k) ⊎ (p ≢ f k) → has_key (without m count) k p ≡ has_key m k p
  unfolding without
  still_there m zero k p other = refl
  still_there m (suc count) k p other =
      let test : (nat_eq k count && nat_eq p (f count)) ≡ false = elsewhere k p count (f count) (elim other [
        | inl le ↦ inl (λ e. absurd (omega (arith, le, e)))
        | inr differs ↦ elim (cases_eq k count) [
          | inl e ↦ inr (λ same. differs (same ∙ ap f (sym e)))
          | inr lower ↦ inl lower
        ]
      ]) in
      left_out (without m count) count (f count) k p ∙ ap (λ c. not c && has_key (without m count) k p) test
      ∙ still_there m count k p (elim other [
        | inl le ↦ inl (omega (arith, le))
        | inr differs ↦ inr differs
      ])

  taken_out : (m : fin.FinMap spot_cmp ℕ) (count k : ℕ) → k < count → has_key (without m count) k (f k) ≡ false
  unfolding without
  taken_out m zero k lt = absurd (omega (arith, lt))
  taken_out m (suc count) k lt = left_out (without m count) count (f count) k (f k) ∙ elim (cases_eq k count) [
    | inl e ↦ ap (λ c. not c && has_key (without m count) k (f k)) ((λ j. nat_eq (e j) count && nat_eq (f (e j)) (f count)) ∙ here count (f count))
    | inr lower ↦ ap (λ c. not (nat_eq k count && nat_eq (f k) (f count)) && c) (taken_out m count k (omega (arith, lt, lower))) ∙ and_false (not (nat_eq k count && nat_eq (f k) (f count)))
  ]
    where
      and_false : (b : Bool) → (b && false) ≡ false
      and_false true = refl
      and_false false = refl

  len_without : (m : fin.FinMap spot_cmp ℕ) (count : ℕ) → ((k : ℕ) → k < count → has_key m k (f k) ≡ true) → fin.len m ≡ fin.len (without m count) + count
  unfolding without
  len_without m zero there = omega arith
  len_without m (suc count) there =
      let here_now : has_key (without m count) count (f count) ≡ true = still_there m count count (f count) (inl (omega arith)) ∙ there count (omega arith) in
      let rest = len_without m count (λ k lt. there k (omega (arith, lt))) in
      let out : fin.len (without m (suc count)) ≡ fin.len (without m count) - 1 = one_out (without m count) count (f count) here_now in
      let least = some_len (without m count) count (f count) here_now in
      omega (arith, rest, out, least)

  pub fewer_by : (m n : fin.FinMap spot_cmp ℕ) (count : ℕ) → ((k : ℕ) → k < count → has_key m k (f k) ≡ true) → ((k : ℕ) → k < count → has_key n k (f k) ≡ false)
      → ((k p : ℕ) → (count ≤ k) ⊎ (p ≢ f k) → has_key n k p ≡ has_key m k p) → fin.len m ≡ fin.len n + count
  fewer_by m n count there gone same =
      len_without m count there ∙ ap (λ len. len + count) (same_len (fin.len (without m count)) (without m count) n refl (λ k p. elim (cases_lt k count) [
        | inr le ↦ same k p (inl le) ∙ sym (still_there m count k p (inl le))
        | inl lt ↦ elim (cases_eq p (f k)) [
          | inr differs ↦ same k p (inr differs) ∙ sym (still_there m count k p (inr differs))
          | inl at ↦ ap (has_key n k) at ∙ gone k lt ∙ sym (ap (has_key (without m count) k) at ∙ taken_out m count k lt)
        ]
      ]))

-- ---- the positions of a tree

pub stands_told : (t : Rooted) (k p : ℕ) → has_key (tree_told t).stamps k p ≡ is_some (stamp_in (pointer_at t k p))
stands_told t k p = ap is_some (stamps_told t k p)

-- a cell and the bare nodes over it go
pub count_goes : (blocks : Under) (t u : Tree) (i lost start stamp : ℕ) → HasWay t i → AreBare t i lost → StandsAt (standing blocks t) 0 i → Unlinks t u i lost start stamp → stamp ≢ 0
    → positions_of (standing blocks t) ≡ positions_of (standing blocks u) + (lost + 1)
count_goes blocks t u i lost start stamp way are stands is some =
    let s = standing blocks t in
    let v = standing blocks u in
    let few = are.few in
    fewer_by (λ k. i / fan ^ k) (tree_told s).stamps (tree_told v).stamps (lost + 1)
    (λ k lt. stands_told s k (i / fan ^ k) ∙ ap is_some (stamp_there (pointer_at s k (i / fan ^ k)) (marks_above s k i (omega (arith, lt, few)) stands)))
    (λ k lt. stands_told v k (i / fan ^ k) ∙ ap is_some (no_stamp (pointer_at v k (i / fan ^ k)) (on_way_goes blocks t u i lost start stamp way are stands is some k (omega (arith, lt)))))
    (λ k p other. stands_told v k p ∙ other_stays blocks t u i lost start stamp way are stands is some k p (elim other [
      | inl le ↦ inl (omega (arith, le))
      | inr differs ↦ inr differs
    ]) ∙ sym (stands_told s k p))

-- trees that are alike have as many
pub alike_count : (t u : Rooted) → IsAlike t u → positions_of u ≡ positions_of t
alike_count t u alike = sym (same_len (fin.len (tree_told t).stamps) (tree_told t).stamps (tree_told u).stamps refl (λ k p. stands_told u k p ∙ ap is_some (alike.stamps k p) ∙ sym (stands_told t k p)))

-- ---- numbers that rise

at_least : (xs : List ℕ) → IsRising xs → (j : ℕ) → j < length xs → j ≤ get_or xs j 0
at_least xs rising zero lt = omega arith
at_least xs rising (suc j) lt =
    let before = at_least xs rising j (omega (arith, lt)) in
    let more = rising j (suc j) (omega arith) lt in
    omega (arith, before, more)

-- there are at most as many as there are numbers below their bound
pub few_below : (xs : List ℕ) (bound : ℕ) → IsRising xs → AllBelow xs bound → length xs ≤ bound
few_below xs bound rising below = elim (cases_eq (length xs) 0) [
  | inl none ↦ omega (arith, none)
  | inr some ↦
      let last : length xs - 1 < length xs = omega (arith, some) in
      let least = at_least xs rising (length xs - 1) last in
      let most = below (length xs - 1) last in
      omega (arith, least, most, some)
]

-- one more removal, of which the count stays in range
pub count_then : (all old new count more sum : ℕ) → all ≡ old + count → old ≡ new + more → sum ≡ count + more → all ≡ new + sum
count_then all old new count more sum first second is = omega (arith, first, second, is)
