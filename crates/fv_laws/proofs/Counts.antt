-- How many members unions and differences have.
use Rattle.std.proofs.Common.{◌≡◌, ◌≤◌, ◌+◌, ◌-◌, ℕ, zero, suc, Bool, true, false, cond, not, ◌&&◌, ◌||◌, List, [], ◌∷◌, length, refl, sym, ap, subst, ◌∙◌, arith}
use Rattle.std.specs.declared.cmp.Ordering.{Ordering}
use Rattle.std.specs.Cmp.{IsTotalOrder, Equal-is}
use Rattle.std.specs.Ordering.{eq_by_cmp}
use Rattle.std.specs.FinSet as set
use Rattle.fv_model.specs.Places.{Id, Ids}
use Rattle.fv_laws.proofs.Orders.{id_total, id_ties}

-- tests of one member: e that it is the one inserted, s and t that it is in the sets
or_grouped : (e s t : Bool) → ((e || s) || t) ≡ (e || (s || t))
or_grouped true s t = refl
or_grouped false s t = refl

out_one : (e s t : Bool) → (t && not (e || s)) ≡ (not e && (t && not s))
out_one true s true = refl
out_one true s false = refl
out_one false s t = refl

parted : (s t : Bool) → s ≡ ((s && not t) || (s && t))
parted true true = refl
parted true false = refl
parted false t = refl

disjoint : (s t : Bool) → ((s && t) && not (s && not t)) ≡ (s && t)
disjoint true true = refl
disjoint true false = refl
disjoint false t = refl

and_true : (b : Bool) → (b && not false) ≡ b
and_true true = refl
and_true false = refl

module _ {K : Type 0} {R : K → K → Ordering} (o : IsTotalOrder R) (ties : set.IsAntisymmetric R) where
  -- a set is made by insertions of what isn't there
  from_list : (P : set.FinSet R → Type 0) → P set.empty → ((s : set.FinSet R) (k : K) → set.contains s k ≡ false → P s → P (set.insert s k)) → (ks : List K) → P (set.from_list ks)
  from_list P none more [] = none
  from_list P none more (k ∷ ks) = elim (set.contains (set.from_list {R = R} ks) k) as (λ b. set.contains (set.from_list {R = R} ks) k ≡ b → P (set.insert (set.from_list ks) k)) [
    | true ↦ λ b. subst P (sym (there (set.from_list ks) k b)) (from_list P none more ks)
    | false ↦ λ b. more (set.from_list ks) k b (from_list P none more ks)
  ] refl
    where
      there : (s : set.FinSet R) (k : K) → set.contains s k ≡ true → set.insert s k ≡ s
      there s k b = set.same_set o ties (set.insert s k) s (λ q. set.contains-insert o s k q ∙ elim (eq_by_cmp R q k) as (λ t. eq_by_cmp R q k ≡ t → (t || set.contains s q) ≡ set.contains s q) [
        | true ↦ λ e. sym (ap (set.contains s) (ties q k ((Equal-is (R q k)).0 e)) ∙ b)
        | false ↦ λ e. refl
      ] refl)

  by_inserts : (P : set.FinSet R → Type 0) → P set.empty → ((s : set.FinSet R) (k : K) → set.contains s k ≡ false → P s → P (set.insert s k)) → (s : set.FinSet R) → P s
  by_inserts P none more s = subst P (set.same_set o ties _ _ (λ q. set.contains-from_list o (set.items s) q ∙ sym (set.contains-items s q))) (from_list P none more (set.items s))

  some_member : (s : set.FinSet R) (k : K) → set.contains s k ≡ true → 1 ≤ set.len s
  some_member s k there =
      elim (set.len s) as (λ n. set.len s ≡ n → 1 ≤ n) [
        | zero ↦ λ e. let no : false ≡ true = sym (ap (λ (t : set.FinSet R). set.contains t k) (set.empty_of_len s e) ∙ set.contains-empty R k) ∙ there in absurd cc
        | (suc n) ↦ λ e. omega arith
      ] refl

  adding : (s t : set.FinSet R) (k : K) → set.contains s k ≡ false → set.len (set.union s t) ≡ set.len s + set.len (set.difference t s) → set.len (set.union (set.insert s k) t) ≡ set.len (set.insert s k) + set.len (set.difference t (set.insert s k))
  adding s t k absent so =
      let joined : set.union (set.insert s k) t ≡ set.insert (set.union s t) k = set.same_set o ties _ _ (λ q.
      set.contains-union o (set.insert s k) t q ∙ ap (λ b. b || set.contains t q) (set.contains-insert o s k q) ∙ or_grouped (eq_by_cmp R q k) (set.contains s q) (set.contains t q)
      ∙ sym (set.contains-insert o (set.union s t) k q ∙ ap (λ b. eq_by_cmp R q k || b) (set.contains-union o s t q))) in
      let left : set.difference t (set.insert s k) ≡ set.remove (set.difference t s) k = set.same_set o ties _ _ (λ q.
      set.contains-difference o t (set.insert s k) q ∙ ap (λ b. set.contains t q && not b) (set.contains-insert o s k q) ∙ out_one (eq_by_cmp R q k) (set.contains s q) (set.contains t q)
      ∙ sym (set.contains-remove o (set.difference t s) k q ∙ ap (λ b. not (eq_by_cmp R q k) && b) (set.contains-difference o t s q))) in
      let one_more : set.len (set.insert s k) ≡ set.len s + 1 = set.len-insert o s k ∙ ap (λ b. cond b (set.len s) (set.len s + 1)) absent in
      let union_has : set.contains (set.union s t) k ≡ set.contains t k = set.contains-union o s t k ∙ ap (λ b. b || set.contains t k) absent in
      let rest_has : set.contains (set.difference t s) k ≡ set.contains t k = set.contains-difference o t s k ∙ ap (λ b. set.contains t k && not b) absent ∙ and_true (set.contains t k) in
      let grown : set.len (set.union (set.insert s k) t) ≡ cond (set.contains t k) (set.len (set.union s t)) (set.len (set.union s t) + 1) = ap set.len joined ∙ set.len-insert o (set.union s t) k ∙ ap (λ b. cond b (set.len (set.union s t)) (set.len (set.union s t) + 1)) union_has in
      let shrunk : set.len (set.difference t (set.insert s k)) ≡ cond (set.contains t k) (set.len (set.difference t s) - 1) (set.len (set.difference t s)) = ap set.len left ∙ set.len-remove o (set.difference t s) k ∙ ap (λ b. cond b (set.len (set.difference t s) - 1) (set.len (set.difference t s))) rest_has in
      by (set.contains t k) (set.len (set.union (set.insert s k) t)) (set.len (set.difference t (set.insert s k))) (set.len (set.union s t)) (set.len (set.difference t s)) (set.len s) (set.len (set.insert s k)) grown shrunk one_more so (λ e. some_member (set.difference t s) k (rest_has ∙ e))
    where
      by : (b : Bool) (u' d' u d n n' : ℕ) → u' ≡ cond b u (u + 1) → d' ≡ cond b (d - 1) d → n' ≡ n + 1 → u ≡ n + d → (b ≡ true → 1 ≤ d) → u' ≡ n' + d'
      by true u' d' u d n n' e f g h least = let some = least refl in omega (arith, e, f, g, h, some)
      by false u' d' u d n n' e f g h least = omega (arith, e, f, g, h)

  -- of a union: those of one set, and those of the other that aren't in it
  pub len_union : (s t : set.FinSet R) → set.len (set.union s t) ≡ set.len s + set.len (set.difference t s)
  len_union s t = by_inserts (λ s. set.len (set.union s t) ≡ set.len s + set.len (set.difference t s))
      (let joined : set.union set.empty t ≡ t = set.same_set o ties _ _ (λ q. set.contains-union o set.empty t q ∙ ap (λ b. b || set.contains t q) (set.contains-empty R q)) in
      let left : set.difference t set.empty ≡ t = set.same_set o ties _ _ (λ q. set.contains-difference o t set.empty q ∙ ap (λ b. set.contains t q && not b) (set.contains-empty R q) ∙ and_true (set.contains t q)) in
      let all : set.len (set.union set.empty t) ≡ set.len t = ap set.len joined in
      let rest : set.len (set.difference t set.empty) ≡ set.len t = ap set.len left in
      let none : set.len (set.empty {R = R}) ≡ 0 = set.len-empty R in
      omega (arith, all, rest, none))
      (λ s k absent so. adding s t k absent so) s

  -- of a difference: those of the set, without those in both
  pub len_difference : (s t : set.FinSet R) → set.len (set.difference s t) + set.len (set.intersection s t) ≡ set.len s
  len_difference s t =
      let whole : s ≡ set.union (set.difference s t) (set.intersection s t) = set.same_set o ties _ _ (λ q.
      parted (set.contains s q) (set.contains t q) ∙ sym (set.contains-union o (set.difference s t) (set.intersection s t) q ∙ (λ i. set.contains-difference o s t q i || set.contains-intersection o s t q i))) in
      let apart : set.difference (set.intersection s t) (set.difference s t) ≡ set.intersection s t = set.same_set o ties _ _ (λ q.
      set.contains-difference o (set.intersection s t) (set.difference s t) q ∙ (λ i. set.contains-intersection o s t q i && not (set.contains-difference o s t q i)) ∙ disjoint (set.contains s q) (set.contains t q) ∙ sym (set.contains-intersection o s t q)) in
      let all : set.len s ≡ set.len (set.union (set.difference s t) (set.intersection s t)) = ap set.len whole in
      let both = len_union (set.difference s t) (set.intersection s t) in
      let rest : set.len (set.difference (set.intersection s t) (set.difference s t)) ≡ set.len (set.intersection s t) = ap set.len apart in
      omega (arith, all, both, rest)

  pub len_list : (ks : List K) → set.len (set.from_list {R = R} ks) ≤ length ks
  len_list [] = let none : set.len (set.empty {R = R}) ≡ 0 = set.len-empty R in omega (arith, none)
  len_list (k ∷ ks) =
      let rest = len_list ks in
      subst (λ n. n ≤ suc (length ks)) (sym (set.len-insert o (set.from_list {R = R} ks) k)) (by (set.contains (set.from_list {R = R} ks) k) (set.len (set.from_list {R = R} ks)) rest)
    where
      by : (b : Bool) (n : ℕ) → n ≤ length ks → cond b n (n + 1) ≤ suc (length ks)
      by true n le = omega arith
      by false n le = omega arith

-- at ids
pub counted_union : (s t : Ids) → set.len (set.union s t) ≡ set.len s + set.len (set.difference t s)
counted_union s t = len_union id_total id_ties s t

pub counted_difference : (s t : Ids) → set.len (set.difference s t) + set.len (set.intersection s t) ≡ set.len s
counted_difference s t = len_difference id_total id_ties s t

pub counted_insert : (s : Ids) (id : Id) → set.len (set.insert s id) ≡ cond (set.contains s id) (set.len s) (set.len s + 1)
counted_insert s id = set.len-insert id_total s id
