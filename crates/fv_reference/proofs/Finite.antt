-- What the calls of a `BTreeSet` are to the finite set that it stands for, and how sets are made one key after another.
use Rattle.std.proofs.Common.{◌≡◌, ◌+◌, Bool, true, false, cond, not, ◌&&◌, ◌||◌, List, [], ◌∷◌, length, refl, sym, ap, ◌∙◌, Less, arith}
use Rattle.std.proofs.Math.Bool.{or-false, or_assoc, and-true}
use Rattle.std.specs.declared.cmp.Ordering.{Ordering}
use Rattle.std.specs.Ordering.{is_eq, eq_by_cmp}
use Rattle.std.specs.Cmp.{IsTotalOrder, eq_by_cmp_equiv}
use Rattle.std.specs.List.{AllByRecursion, list_any}
use Rattle.std.specs.List.Sorted.{IsStrictlySortedBy}
use Rattle.std.specs.BTreeSet as tree
use Rattle.std.specs.FinSet as set
use Rattle.fv_reference.specs.Maps.{set_of}

or_is : (a b : Bool) → cond a true b ≡ (a || b)
or_is true b = refl
or_is false b = refl

and_is : (a b : Bool) → cond a false b ≡ (not a && b)
and_is true b = refl
and_is false b = refl

turned : (a b c : Bool) → ((a || b) || c) ≡ (b || (a || c))
turned true true c = refl
turned true false c = refl
turned false true c = refl
turned false false c = refl

without : (e s r : Bool) → ((not e && s) && not r) ≡ (s && not (e || r))
without true true r = refl
without true false r = refl
without false true r = refl
without false false r = refl

module _ {K : Type 0} {R : K → K → Ordering} (o : IsTotalOrder R) where
  pub held : (s : tree.BTreeSet K) (k : K) → tree.contains R s k ≡ set.contains (set_of R s) k
  held s k = sym (set.contains-from_list o s.keys k)

  absent : (k : K) (ks : List K) → AllByRecursion (λ y. R k y ≡ Less) ks → list_any (eq_by_cmp R k) ks ≡ false
  absent k [] h = refl
  absent k (x ∷ xs) h = ap (λ r. is_eq r || list_any (eq_by_cmp R k) xs) h.0 ∙ absent k xs h.1

  pub counted : (ks : List K) → IsStrictlySortedBy R ks → length ks ≡ set.len (set.from_list {R = R} ks)
  unfolding IsStrictlySortedBy
  counted [] h = sym (set.len-empty R)
  counted (k ∷ ks) h =
      sym (set.len-insert o (set.from_list {R = R} ks) k ∙ ap (λ (b : Bool). cond b (set.len (set.from_list {R = R} ks)) (set.len (set.from_list {R = R} ks) + 1)) (set.contains-from_list o ks k ∙ absent k ks h.0) ∙ ap (λ n. n + 1) (sym (counted ks h.1)) ∙ omega arith)

  module _ (ties : set.IsAntisymmetric R) where
    pub added : (s n : tree.BTreeSet K) (k : K) → tree.Updates R s n k true → set_of R n ≡ set.insert (set_of R s) k
    added s n k updates = set.same_set o ties (set_of R n) (set.insert (set_of R s) k) (λ q.
        set.contains-from_list o n.keys q ∙ updates.0 q ∙ or_is (is_eq (R k q)) (tree.contains R s q) ∙ sym (set.contains-insert o (set_of R s) k q ∙ (λ i. (eq_by_cmp_equiv o).symm q k i || set.contains-from_list o s.keys q i)))

    pub taken : (s n : tree.BTreeSet K) (k : K) → tree.Updates R s n k false → set_of R n ≡ set.remove (set_of R s) k
    taken s n k updates = set.same_set o ties (set_of R n) (set.remove (set_of R s) k) (λ q.
        set.contains-from_list o n.keys q ∙ updates.0 q ∙ and_is (is_eq (R k q)) (tree.contains R s q) ∙ sym (set.contains-remove o (set_of R s) k q ∙ (λ i. not ((eq_by_cmp_equiv o).symm q k i) && set.contains-from_list o s.keys q i)))

    -- one key after another
    pub union_step : (s : set.FinSet R) (k : K) (ks : List K) → set.union (set.insert s k) (set.from_list ks) ≡ set.union s (set.from_list (k ∷ ks))
    union_step s k ks = set.same_set o ties _ _ (λ q.
        set.contains-union o (set.insert s k) (set.from_list ks) q ∙ ap (λ b. b || set.contains (set.from_list {R = R} ks) q) (set.contains-insert o s k q) ∙ turned (eq_by_cmp R q k) (set.contains s q) (set.contains (set.from_list {R = R} ks) q) ∙ sym (set.contains-union o s (set.from_list (k ∷ ks)) q ∙ ap (λ b. set.contains s q || b) (set.contains-insert o (set.from_list {R = R} ks) k q)))

    pub union_end : (s : set.FinSet R) → set.union s set.empty ≡ s
    union_end s = set.same_set o ties _ _ (λ q. set.contains-union o s set.empty q ∙ ap (λ b. set.contains s q || b) (set.contains-empty R q) ∙ or-false (set.contains s q))

    pub union_start : (s : set.FinSet R) → set.union set.empty s ≡ s
    union_start s = set.same_set o ties _ _ (λ q. set.contains-union o set.empty s q ∙ ap (λ b. b || set.contains s q) (set.contains-empty R q))

    pub union_grouped : (s t u : set.FinSet R) → set.union (set.union s t) u ≡ set.union s (set.union t u)
    union_grouped s t u = set.same_set o ties _ _ (λ q.
        set.contains-union o (set.union s t) u q ∙ ap (λ b. b || set.contains u q) (set.contains-union o s t q) ∙ or_assoc (set.contains s q) (set.contains t q) (set.contains u q) ∙ sym (set.contains-union o s (set.union t u) q ∙ ap (λ b. set.contains s q || b) (set.contains-union o t u q)))

    pub difference_step : (s : set.FinSet R) (k : K) (ks : List K) → set.difference (set.remove s k) (set.from_list ks) ≡ set.difference s (set.from_list (k ∷ ks))
    difference_step s k ks = set.same_set o ties _ _ (λ q.
        set.contains-difference o (set.remove s k) (set.from_list ks) q ∙ ap (λ b. b && not (set.contains (set.from_list {R = R} ks) q)) (set.contains-remove o s k q) ∙ without (eq_by_cmp R q k) (set.contains s q) (set.contains (set.from_list {R = R} ks) q) ∙ sym (set.contains-difference o s (set.from_list (k ∷ ks)) q ∙ ap (λ b. set.contains s q && not b) (set.contains-insert o (set.from_list {R = R} ks) k q)))

    pub difference_end : (s : set.FinSet R) → set.difference s set.empty ≡ s
    difference_end s = set.same_set o ties _ _ (λ q. set.contains-difference o s set.empty q ∙ ap (λ b. set.contains s q && not b) (set.contains-empty R q) ∙ and-true (set.contains s q))
