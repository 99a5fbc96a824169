-- Sums over finite maps, and what a change of one entry does to them.
use Rattle.std.proofs.Common.{◌≡◌, ℕ, ◌+◌, ◌≤◌, Bool, true, false, cond, ◌&&◌, List, [], ◌∷◌, Option, Some, None, sum_by, refl, sym, ap, subst, ◌∙◌, arith, T, Less, Equal, Greater}
use Rattle.std.specs.declared.cmp.Ordering.{Ordering}
use Rattle.std.specs.Option.{option_map_or}
use Rattle.std.specs.Ordering.{eq_by_cmp, is_eq, is_lt}
use Rattle.std.specs.Cmp.{IsTotalOrder, Equal-is, tied_itself}
use Rattle.std.specs.FinMap as fin
use Rattle.std.specs.FinMap.{find, put, is_sorted}
use Rattle.std.specs.FinMap.Entries.{below_all, by_order}
use Rattle.std.proofs.lemmas.List.Sums.{sum_by-cons}

pub first : (a b : Bool) → T (a && b) → T a
first true b h = tt
first false b h = h

pub second : (a b : Bool) → T (a && b) → T b
second true b h = h
second false b h = absurd h

pub less : (r : Ordering) → T (is_lt r) → r ≡ Less
less Less h = refl
less Equal h = absurd h
less Greater h = absurd h

module _ {K X : Type 0} {R : K → K → Ordering} (o : IsTotalOrder R) where
  missing : (k x : K) (es : List (K × X)) → R k x ≡ Less → T (below_all R x es) → find R k es ≡ None
  missing k x [] p h = refl
  missing k x (e ∷ es) p h =
      ap (λ r. cond (is_eq r) (Some e.1) (find R k es)) (o.trans k x e.0 p (less _ (first _ _ h))) ∙ missing k x es p (second _ _ h)

  module _ (ties : fin.IsAntisymmetric R) (f : K × X → ℕ) where
    sum_put : (k : K) (v : X) (es : List (K × X)) → T (is_sorted R es) → sum_by f (put R k v es) + option_map_or (λ w. f (k, w)) (find R k es) 0 ≡ sum_by f es + f (k, v)
    sum_put k v [] h = omega (arith, sum_by-cons f (k, v) [])
    sum_put k v (e ∷ es) h =
        elim (R k e.0) as (λ r. R k e.0 ≡ r → sum_by f (by_order r ((k, v) ∷ e ∷ es) ((e.0, v) ∷ es) (e ∷ put R k v es)) + option_map_or (λ w. f (k, w)) (cond (is_eq r) (Some e.1) (find R k es)) 0 ≡ sum_by f (e ∷ es) + f (k, v)) [
          | Less ↦ λ p. rw (missing k e.0 es p (first _ _ h)) (omega (arith, sum_by-cons f (k, v) (e ∷ es), sum_by-cons f e es))
          | Equal ↦ λ p. rw (ties k e.0 p) (omega (arith, sum_by-cons f (e.0, v) es, sum_by-cons f e es))
          | Greater ↦ λ p. omega (arith, sum_by-cons f e (put R k v es), sum_by-cons f e es, sum_put k v es (second _ _ h))
        ] refl

    -- the sum after an entry was put, and what stood there before
    pub sum-insert : (m : fin.FinMap R X) (k : K) (v : X) → sum_by f (fin.entries (fin.insert m k v)) + option_map_or (λ w. f (k, w)) (fin.get m k) 0 ≡ sum_by f (fin.entries m) + f (k, v)
    sum-insert m k v = rw (fin.entries-insert o m k v, fin.get-entries m k) (sum_put k v (fin.entries m) (fin.entries_sorted m))

    turned : (m : fin.FinMap R X) (k : K) (v : X) → fin.get m k ≡ Some v → (q : K) → fin.get (fin.insert (fin.remove m k) k v) q ≡ fin.get m q
    turned m k v e q =
        fin.get-insert o (fin.remove m k) k v q ∙ ap (cond (eq_by_cmp R q k) (Some v)) (fin.get-remove o m k q)
        ∙ elim (eq_by_cmp R q k) as (λ b. eq_by_cmp R q k ≡ b → cond b (Some v) (cond b None (fin.get m q)) ≡ fin.get m q) [
          | true ↦ λ t. sym (ap (fin.get m) (ties q k ((Equal-is (R q k)).0 t)) ∙ e)
          | false ↦ λ t. refl
        ] refl

    removed : (m : fin.FinMap R X) (k : K) → fin.get (fin.remove m k) k ≡ None
    removed m k = fin.get-remove o m k k ∙ ap (λ r. cond (is_eq r) None (fin.get m k)) (tied_itself o k)

    -- the sum after an entry was removed, and what stood there before
    pub sum-remove : (m : fin.FinMap R X) (k : K) (v : X) → fin.get m k ≡ Some v → sum_by f (fin.entries (fin.remove m k)) + f (k, v) ≡ sum_by f (fin.entries m)
    sum-remove m k v e =
        let same : fin.insert (fin.remove m k) k v ≡ m = fin.same_map o ties _ _ (turned m k v e) in
        sym (sum-insert (fin.remove m k) k v) ∙ ap (λ (x : Option X). sum_by f (fin.entries (fin.insert (fin.remove m k) k v)) + option_map_or (λ w. f (k, w)) x 0) (removed m k) ∙ ap (λ (n : fin.FinMap R X). sum_by f (fin.entries n) + 0) same ∙ omega arith

    absent : (m : fin.FinMap R X) (k : K) → fin.get m k ≡ None → fin.remove m k ≡ m
    absent m k e = fin.same_map o ties _ _ (λ q. fin.get-remove o m k q ∙ elim (eq_by_cmp R q k) as (λ b. eq_by_cmp R q k ≡ b → cond b None (fin.get m q) ≡ fin.get m q) [
      | true ↦ λ t. sym (ap (fin.get m) (ties q k ((Equal-is (R q k)).0 t)) ∙ e)
      | false ↦ λ t. refl
    ] refl)

    pub sum-remove-le : (m : fin.FinMap R X) (k : K) → sum_by f (fin.entries (fin.remove m k)) ≤ sum_by f (fin.entries m)
    sum-remove-le m k = elim (fin.get m k) as (λ x. fin.get m k ≡ x → sum_by f (fin.entries (fin.remove m k)) ≤ sum_by f (fin.entries m)) [
      | None ↦ λ e. subst (λ (n : fin.FinMap R X). sum_by f (fin.entries n) ≤ sum_by f (fin.entries m)) (sym (absent m k e)) (omega arith)
      | (Some v) ↦ λ e. omega (arith, sum-remove m k v e)
    ] refl
