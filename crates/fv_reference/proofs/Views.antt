-- What the calls of a `BTreeMap` are to the finite map that it stands for.
use Rattle.std.proofs.Common.{◌≡◌, Bool, cond, List, [], ◌∷◌, length, refl, sym, ap, ◌∙◌, Some, None, arith, Less, Equal, Greater}
use Rattle.std.specs.declared.cmp.Ordering.{Ordering}
use Rattle.std.specs.Ordering.{is_eq, match_ordering}
use Rattle.std.specs.Cmp.{IsTotalOrder, eq_by_cmp_equiv}
use Rattle.std.specs.List.{AllByRecursion, filter}
use Rattle.std.specs.List.Sorted.{IsStrictlySortedBy}
use Rattle.std.specs.Map.{keys_of, lookup}
use Rattle.std.specs.BTreeMap as tree
use Rattle.std.specs.FinMap as fin
use Rattle.std.specs.FinMap.Entries.{by_order, find-where_key}
use Rattle.std.specs.FinMap.{find, put}
use Rattle.fv_reference.specs.Maps.{map_of}

no_length : {A : Type 0} (es : List A) → length es ≡ 0 → es ≡ []
no_length [] e = refl
no_length (x ∷ es) e = absurd (omega arith)

module _ {K X : Type 0} {R : K → K → Ordering} (o : IsTotalOrder R) where
  none : fin.entries (fin.empty {K = K} {X = X} {R = R}) ≡ []
  none = no_length _ (sym (fin.len-entries (fin.empty {K = K} {X = X} {R = R})) ∙ fin.len-empty R X)

  put_first : (k : K) (v : X) (es : List (K × X)) → AllByRecursion (λ y. R k y ≡ Less) (keys_of es) → put R k v es ≡ (k, v) ∷ es
  put_first k v [] h = refl
  put_first k v (e ∷ es) h = ap (λ r. by_order r ((k, v) ∷ e ∷ es) ((e.0, v) ∷ es) (e ∷ put R k v es)) h.0

  -- the entries of a list in order are that list
  pub entries_of : (es : List (K × X)) → IsStrictlySortedBy R (keys_of es) → fin.entries (fin.from_entries {R = R} es) ≡ es
  unfolding IsStrictlySortedBy
  entries_of [] h = none
  entries_of (e ∷ es) h =
      fin.entries-insert o (fin.from_entries {R = R} es) e.0 e.1 ∙ ap (put R e.0 e.1) (entries_of es h.1) ∙ put_first e.0 e.1 es h.0

  same_put : (r : Ordering) (a b c : List (K × X)) → match_ordering r a b c ≡ by_order r a b c
  same_put Less a b c = refl
  same_put Equal a b c = refl
  same_put Greater a b c = refl

  put_is : (es : List (K × X)) (k : K) (v : X) → tree.insert_entry R es k v ≡ put R k v es
  put_is [] k v = refl
  put_is (e ∷ es) k v =
      same_put (R k e.0) _ _ _ ∙ ap (λ (rest : List (K × X)). by_order (R k e.0) ((k, v) ∷ e ∷ es) ((e.0, v) ∷ es) (e ∷ rest)) (put_is es k v)

  pub inserted : (m n : tree.BTreeMap K X) (k : K) (v : X) → tree.IsOrdered R m → tree.IsOrdered R n → n.entries ≡ tree.insert_entry R m.entries k v → map_of R n ≡ fin.insert (map_of R m) k v
  inserted m n k v was now is =
      fin.same_entries_map (map_of R n) (fin.insert (map_of R m) k v) (entries_of n.entries now ∙ is ∙ put_is m.entries k v ∙ sym (fin.entries-insert o (map_of R m) k v ∙ ap (put R k v) (entries_of m.entries was)))

  find_is : (es : List (K × X)) (q : K) → lookup (λ k. is_eq (R q k)) es ≡ find R q es
  find_is [] q = refl
  find_is (e ∷ es) q = ap (λ r. cond (is_eq (R q e.0)) (Some e.1) r) (find_is es q)

  pub found : (m : tree.BTreeMap K X) (q : K) → fin.get (map_of R m) q ≡ tree.get R m q
  found m q = fin.get-from_entries o m.entries q ∙ sym (find_is m.entries q)

  pub counted : (m : tree.BTreeMap K X) → tree.IsOrdered R m → fin.len (map_of R m) ≡ length m.entries
  counted m was = fin.len-entries (map_of R m) ∙ ap length (entries_of m.entries was)

  pub removed : fin.IsAntisymmetric R → (m n : tree.BTreeMap K X) (k : K) → tree.Updates R m n k None → map_of R n ≡ fin.remove (map_of R m) k
  removed ties m n k updates = fin.same_map o ties (map_of R n) (fin.remove (map_of R m) k) (λ q.
      found n q ∙ updates.0 q ∙ sym (fin.get-remove o (map_of R m) k q ∙ ap (λ (b : Bool). cond b None (fin.get (map_of R m) q)) ((eq_by_cmp_equiv o).symm q k) ∙ ap (λ r. cond (is_eq (R k q)) None r) (found m q)))

  pub retained : fin.IsAntisymmetric R → (p : K → Bool) (m n : tree.BTreeMap K X) → n.entries ≡ filter (λ e. p e.0) m.entries → map_of R n ≡ fin.retain_keys (map_of R m) p
  retained ties p m n is = fin.same_map o ties (map_of R n) (fin.retain_keys (map_of R m) p) (λ q.
      let alike : (x : K) → R q x ≡ Equal → p x ≡ p q = λ x e. ap p (sym (ties q x e)) in
      fin.get-from_entries o n.entries q ∙ ap (find R q) is ∙ find-where_key R p q alike m.entries ∙ sym (fin.get-retain_keys (map_of R m) p q alike ∙ ap (λ r. cond (p q) r None) (fin.get-from_entries o m.entries q)))
