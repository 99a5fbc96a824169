-- What one stamp does to the ids that a volume is charged for.
use Rattle.std.proofs.Common.{zero, suc, ◌≡◌, ℕ, ◌+◌, ◌-◌, ◌≤◌, Bool, true, false, cond, not, ◌&&◌, ◌||◌, List, [], ◌∷◌, Option, Some, None, refl, sym, ap, subst, ◌∙◌, arith, T, Less, Equal, Greater}
use Rattle.std.specs.List.{list_any}
use Rattle.std.specs.declared.cmp.Ordering.{Ordering}
use Rattle.std.specs.Option.{option_map_or}
use Rattle.std.specs.Ordering.{nat_cmp, eq_by_cmp, is_eq, ordering_then}
use Rattle.std.specs.Cmp.{Equal-is, tied_itself, nat_cmp_total}
use Rattle.std.specs.FinMap as fin
use Rattle.std.specs.FinMap.{find, is_sorted}
use Rattle.std.specs.FinMap.Entries.{below_all}
use Rattle.std.specs.FinSet as set
use Rattle.fv_model.specs.Places.{Place, place_cmp, Stamps, Id, id_cmp, Ids, ids}
use Rattle.fv_laws.proofs.Orders.{place_total, place_ties, id_total, id_ties}
use Rattle.fv_laws.proofs.SetCounts.{IsPart}
use Rattle.fv_laws.proofs.Maps.{first, second, less}

-- the stamp at a place is this one
abbrev pub is_stamp : ℕ → Option ℕ → Bool
is_stamp s at = option_map_or (eq_by_cmp nat_cmp s) at false

pub not_below : (p : Place) (s : ℕ) (es : List Id) → T (below_all place_cmp p es) → list_any (eq_by_cmp id_cmp (p, s)) es ≡ false
not_below p s [] h = refl
not_below p s (e ∷ es) h =
    ap (λ r. is_eq (ordering_then r (nat_cmp s e.1)) || list_any (eq_by_cmp id_cmp (p, s)) es) (less _ (first _ _ h)) ∙ not_below p s es (second _ _ h)

or_none : (a b : Bool) → b ≡ false → (a || b) ≡ a
or_none true b e = refl
or_none false b e = e

among : (p : Place) (s : ℕ) (es : List Id) → T (is_sorted place_cmp es) → list_any (eq_by_cmp id_cmp (p, s)) es ≡ is_stamp s (find place_cmp p es)
among p s [] h = refl
among p s (e ∷ es) h =
    elim (place_cmp p e.0) as (λ r. place_cmp p e.0 ≡ r → (is_eq (ordering_then r (nat_cmp s e.1)) || list_any (eq_by_cmp id_cmp (p, s)) es) ≡ is_stamp s (cond (is_eq r) (Some e.1) (find place_cmp p es))) [
      | Less ↦ λ d. among p s es (second _ _ h)
      | Equal ↦ λ d. or_none _ _ (not_below p s es (subst (λ (q : Place). T (below_all place_cmp q es)) (sym (place_ties p e.0 d)) (first _ _ h)))
      | Greater ↦ λ d. among p s es (second _ _ h)
    ] refl

-- the ids of stamps: each place with the stamp that stands there
pub contains-ids : (m : Stamps) (p : Place) (s : ℕ) → set.contains (ids m) (p, s) ≡ is_stamp s (fin.get m p)
unfolding ids
contains-ids m p s = set.contains-from_list id_total (fin.entries m) (p, s) ∙ among p s (fin.entries m) (fin.entries_sorted m) ∙ ap (is_stamp s) (sym (fin.get-entries m p))

-- the ids that are charged: in these stamps or kept, and not left out
abbrev pub charged : Stamps → Ids → Ids → Ids
charged m kept out = set.difference (set.union (ids m) kept) out

contains-charged : (m : Stamps) (kept out : Ids) (p : Place) (u : ℕ) → set.contains (charged m kept out) (p, u) ≡ ((is_stamp u (fin.get m p) || set.contains kept (p, u)) && not (set.contains out (p, u)))
contains-charged m kept out p u =
    set.contains-difference id_total (set.union (ids m) kept) out (p, u)
    ∙ ap (λ b. b && not (set.contains out (p, u))) (set.contains-union id_total (ids m) kept (p, u) ∙ ap (λ b. b || set.contains kept (p, u)) (contains-ids m p u))

-- at the place that is stamped: a the new stamp, o the old one, k kept, e left out
stays_too : (a o k e : Bool) → (a ≡ true → e ≡ false) → (o ≡ true → k ≡ true) → ((a || k) && not e) ≡ (a || ((o || k) && not e))
stays_too true o k e h g = rw (h refl) refl
stays_too false true k e h g = rw (g refl) refl
stays_too false false k e h g = refl

goes : (a o k e : Bool) → (a ≡ true → e ≡ false) → (o ≡ true → k ≡ false) → ((a || k) && not e) ≡ (a || (not o && ((o || k) && not e)))
goes true o k e h g = rw (h refl) refl
goes false true k e h g = rw (g refl) refl
goes false false k e h g = refl

-- an id is this one where its place and its stamp are
same_id : (p q : Place) (u s : ℕ) (r : Ordering) → place_cmp p q ≡ r → eq_by_cmp id_cmp (p, u) (q, s) ≡ (is_eq r && eq_by_cmp nat_cmp u s)
same_id p q u s Less e = ap (λ r. is_eq (ordering_then r (nat_cmp u s))) e
same_id p q u s Equal e = ap (λ r. is_eq (ordering_then r (nat_cmp u s))) e
same_id p q u s Greater e = ap (λ r. is_eq (ordering_then r (nat_cmp u s))) e

pub nat_same : (u s : ℕ) → eq_by_cmp nat_cmp u s ≡ true → u ≡ s
nat_same u s e = fin.nat_cmp-IsAntisymmetric u s ((Equal-is (nat_cmp u s)).0 e)

-- where the stamp at q is this one, with nothing that was there taken away
no_loss : (m : Stamps) (q : Place) (s : ℕ) (kept out : Ids) → set.contains out (q, s) ≡ false → ((u : ℕ) → is_stamp u (fin.get m q) ≡ true → set.contains kept (q, u) ≡ true) → charged (fin.insert m q s) kept out ≡ set.insert (charged m kept out) (q, s)
no_loss m q s kept out fresh shared = set.same_set id_total id_ties _ _ (λ id. here id.0 id.1)
  where
    at : (p : Place) (u : ℕ) (r : Ordering) → place_cmp p q ≡ r → ((is_stamp u (cond (is_eq r) (Some s) (fin.get m p)) || set.contains kept (p, u)) && not (set.contains out (p, u))) ≡ ((is_eq r && eq_by_cmp nat_cmp u s) || ((is_stamp u (fin.get m p) || set.contains kept (p, u)) && not (set.contains out (p, u))))
    at p u Less e = refl
    at p u Greater e = refl
    at p u Equal e =
        let same : p ≡ q = place_ties p q e in
        subst (λ (z : Place). ((eq_by_cmp nat_cmp u s || set.contains kept (z, u)) && not (set.contains out (z, u))) ≡ (eq_by_cmp nat_cmp u s || ((is_stamp u (fin.get m z) || set.contains kept (z, u)) && not (set.contains out (z, u))))) (sym same)
        (stays_too (eq_by_cmp nat_cmp u s) (is_stamp u (fin.get m q)) (set.contains kept (q, u)) (set.contains out (q, u)) (λ t. ap (λ n. set.contains out (q, n)) (nat_same u s t) ∙ fresh) (shared u))

    here : (p : Place) (u : ℕ) → set.contains (charged (fin.insert m q s) kept out) (p, u) ≡ set.contains (set.insert (charged m kept out) (q, s)) (p, u)
    here p u =
        contains-charged (fin.insert m q s) kept out p u
        ∙ ap (λ (o : Option ℕ). (is_stamp u o || set.contains kept (p, u)) && not (set.contains out (p, u))) (fin.get-insert place_total m q s p)
        ∙ at p u (place_cmp p q) refl
        ∙ sym (set.contains-insert id_total (charged m kept out) (q, s) (p, u) ∙ ap (λ b. b || set.contains (charged m kept out) (p, u)) (same_id p q u s (place_cmp p q) refl) ∙ ap (λ b. (is_eq (place_cmp p q) && eq_by_cmp nat_cmp u s) || b) (contains-charged m kept out p u))

-- where an old stamp w at q, that isn't kept, is taken away
loss : (m : Stamps) (q : Place) (s w : ℕ) (kept out : Ids) → set.contains out (q, s) ≡ false → fin.get m q ≡ Some w → set.contains kept (q, w) ≡ false → charged (fin.insert m q s) kept out ≡ set.insert (set.remove (charged m kept out) (q, w)) (q, s)
loss m q s w kept out fresh stood alone = set.same_set id_total id_ties _ _ (λ id. here id.0 id.1)
  where
    same_w : (u : ℕ) → is_stamp u (fin.get m q) ≡ eq_by_cmp nat_cmp u w
    same_w u = ap (is_stamp u) stood

    unkept : (u : ℕ) → is_stamp u (fin.get m q) ≡ true → set.contains kept (q, u) ≡ false
    unkept u t = ap (λ n. set.contains kept (q, n)) (nat_same u w (sym (same_w u) ∙ t)) ∙ alone

    at : (p : Place) (u : ℕ) (r : Ordering) → place_cmp p q ≡ r → ((is_stamp u (cond (is_eq r) (Some s) (fin.get m p)) || set.contains kept (p, u)) && not (set.contains out (p, u))) ≡ ((is_eq r && eq_by_cmp nat_cmp u s) || (not (is_eq r && eq_by_cmp nat_cmp u w) && ((is_stamp u (fin.get m p) || set.contains kept (p, u)) && not (set.contains out (p, u)))))
    at p u Less e = refl
    at p u Greater e = refl
    at p u Equal e =
        let same : p ≡ q = place_ties p q e in
        subst (λ (z : Place). ((eq_by_cmp nat_cmp u s || set.contains kept (z, u)) && not (set.contains out (z, u))) ≡ (eq_by_cmp nat_cmp u s || (not (eq_by_cmp nat_cmp u w) && ((is_stamp u (fin.get m z) || set.contains kept (z, u)) && not (set.contains out (z, u)))))) (sym same)
        (goes (eq_by_cmp nat_cmp u s) (is_stamp u (fin.get m q)) (set.contains kept (q, u)) (set.contains out (q, u)) (λ t. ap (λ n. set.contains out (q, n)) (nat_same u s t) ∙ fresh) (unkept u)
        ∙ ap (λ b. eq_by_cmp nat_cmp u s || (not b && ((is_stamp u (fin.get m q) || set.contains kept (q, u)) && not (set.contains out (q, u))))) (same_w u))

    here : (p : Place) (u : ℕ) → set.contains (charged (fin.insert m q s) kept out) (p, u) ≡ set.contains (set.insert (set.remove (charged m kept out) (q, w)) (q, s)) (p, u)
    here p u =
        contains-charged (fin.insert m q s) kept out p u
        ∙ ap (λ (o : Option ℕ). (is_stamp u o || set.contains kept (p, u)) && not (set.contains out (p, u))) (fin.get-insert place_total m q s p)
        ∙ at p u (place_cmp p q) refl
        ∙ sym (set.contains-insert id_total (set.remove (charged m kept out) (q, w)) (q, s) (p, u)
        ∙ ap (λ b. b || set.contains (set.remove (charged m kept out) (q, w)) (p, u)) (same_id p q u s (place_cmp p q) refl)
        ∙ ap (λ b. (is_eq (place_cmp p q) && eq_by_cmp nat_cmp u s) || b) (set.contains-remove id_total (charged m kept out) (q, w) (p, u) ∙ (λ i. not (same_id p q u w (place_cmp p q) refl i) && contains-charged m kept out p u i)))

-- counts of sets that grow or shrink by one
one_more : (s : Ids) (k : Id) → set.len (set.insert s k) ≤ set.len s + 1
one_more s k = subst (λ (n : ℕ). n ≤ set.len s + 1) (sym (set.len-insert id_total s k)) (elim (set.contains s k) as (λ b. cond b (set.len s) (set.len s + 1) ≤ set.len s + 1) [ true ↦ omega arith | false ↦ omega arith ])

not_more : (s : Ids) (k : Id) → set.len (set.remove s k) ≤ set.len s
not_more s k = subst (λ (n : ℕ). n ≤ set.len s) (sym (set.len-remove id_total s k)) (elim (set.contains s k) as (λ b. cond b (set.len s - 1) (set.len s) ≤ set.len s) [ true ↦ omega arith | false ↦ omega arith ])

one_at_least : (s : Ids) (k : Id) → set.contains s k ≡ true → 1 ≤ set.len s
one_at_least s k there =
    elim (set.len s) as (λ n. set.len s ≡ n → 1 ≤ n) [
      | zero ↦ λ e. let no : false ≡ true = sym (ap (λ (t : Ids). set.contains t k) (set.empty_of_len s e) ∙ set.contains-empty id_cmp k) ∙ there in absurd cc
      | (suc n) ↦ λ e. omega arith
    ] refl

one_less : (s : Ids) (k : Id) → set.contains s k ≡ true → set.len (set.remove s k) + 1 ≡ set.len s
one_less s k there =
    let least = one_at_least s k there in
    let is : set.len (set.remove s k) ≡ set.len s - 1 = set.len-remove id_total s k ∙ ap (λ b. cond b (set.len s - 1) (set.len s)) there in
    omega (arith, least, is)

-- whether a stamp that stands at q, or nothing, makes a write there take a block
abbrev pub takes : Ids → Place → Option ℕ → Bool
takes shared q at = option_map_or (λ s. set.contains shared (q, s)) at true

-- one stamp at a place adds at most one id, and none where what stood there alone goes
pub charge_step : (m : Stamps) (q : Place) (s : ℕ) (kept out shared : Ids) → IsPart kept shared → IsPart out shared → set.contains shared (q, s) ≡ false →
    set.len (charged (fin.insert m q s) kept out) ≤ set.len (charged m kept out) + cond (takes shared q (fin.get m q)) 1 0
charge_step m q s kept out shared in_kept in_out fresh =
    let apart : set.contains out (q, s) ≡ false = elim (set.contains out (q, s)) as (λ b. set.contains out (q, s) ≡ b → b ≡ false) [ true ↦ λ e. let no : false ≡ true = sym fresh ∙ in_out (q, s) e in absurd cc | false ↦ λ e. refl ] refl in
    elim (fin.get m q) as (λ at. fin.get m q ≡ at → set.len (charged (fin.insert m q s) kept out) ≤ set.len (charged m kept out) + cond (takes shared q at) 1 0) [
      | None ↦ λ stood.
          let is = ap set.len (no_loss m q s kept out apart (λ u t. let no : false ≡ true = sym (ap (is_stamp u) stood) ∙ t in absurd cc)) in
          omega (arith, is, one_more (charged m kept out) (q, s))
      | (Some w) ↦ λ stood. at_stamp m q s w kept out shared in_kept in_out apart stood (set.contains kept (q, w)) (set.contains shared (q, w)) refl refl
    ] refl
  where
    at_stamp : (m : Stamps) (q : Place) (s w : ℕ) (kept out shared : Ids) → IsPart kept shared → IsPart out shared → set.contains out (q, s) ≡ false → fin.get m q ≡ Some w → (k f : Bool) → set.contains kept (q, w) ≡ k → set.contains shared (q, w) ≡ f →
        set.len (charged (fin.insert m q s) kept out) ≤ set.len (charged m kept out) + cond (set.contains shared (q, w)) 1 0
    at_stamp m q s w kept out shared in_kept in_out apart stood true f k_is f_is =
        let is = ap set.len (no_loss m q s kept out apart (λ u t. ap (λ n. set.contains kept (q, n)) (nat_same u w (sym (ap (is_stamp u) stood) ∙ t)) ∙ k_is)) in
        rw (in_kept (q, w) k_is) (omega (arith, is, one_more (charged m kept out) (q, s)))
    at_stamp m q s w kept out shared in_kept in_out apart stood false true k_is f_is =
        let is = ap set.len (loss m q s w kept out apart stood k_is) in
        rw f_is (omega (arith, is, one_more (set.remove (charged m kept out) (q, w)) (q, s), not_more (charged m kept out) (q, w)))
    at_stamp m q s w kept out shared in_kept in_out apart stood false false k_is f_is =
        let is = ap set.len (loss m q s w kept out apart stood k_is) in
        let left : set.contains out (q, w) ≡ false = elim (set.contains out (q, w)) as (λ b. set.contains out (q, w) ≡ b → b ≡ false) [ true ↦ λ e. let no : false ≡ true = sym f_is ∙ in_out (q, w) e in absurd cc | false ↦ λ e. refl ] refl in
        let there : set.contains (charged m kept out) (q, w) ≡ true = contains-charged m kept out q w ∙ (λ i. (is_stamp w (stood i) || set.contains kept (q, w)) && not (left i)) ∙ ap (λ r. (is_eq r || set.contains kept (q, w)) && not false) (tied_itself nat_cmp_total w) in
        rw f_is (omega (arith, is, one_more (set.remove (charged m kept out) (q, w)) (q, s), one_less (charged m kept out) (q, w) there))
