-- What a volume is charged for once a snapshot of its active table is made, or a snapshot's table is the active one.
use Rattle.std.proofs.Common.{◌≡◌, ◌⊎◌, ℕ, ◌+◌, ◌*◌, ◌≤◌, Bool, true, false, cond, ◌||◌, List, [], ◌∷◌, map, Option, Some, None, inl, inr, refl, sym, ap, ◌∙◌, arith, ⊎_elim, is_some}
use Rattle.std.specs.List.{list_any}
use Rattle.std.specs.declared.cmp.Ordering.{Ordering}
use Rattle.std.specs.Ordering.{eq_by_cmp}
use Rattle.std.specs.Cmp.{IsTotalOrder, Equal-is}
use Rattle.std.specs.FinMap as fin
use Rattle.std.specs.FinMap.{find}
use Rattle.std.specs.FinSet as set
use Rattle.std.proofs.lemmas.Bool.{or_cases, or_left, or_right}
use Rattle.std.proofs.lemmas.Cmp.{eq_by_cmp_equiv}
use Rattle.fv_model.specs.Tables.{Table}
use Rattle.fv_model.specs.Places.{Id, Ids, ids_of}
use Rattle.fv_model.specs.Volumes.{Volume}
use Rattle.fv_model.specs.Space.{map_blocks, ids_in_any, ids_left_out, kept_ids, charge}
use Rattle.fv_laws.proofs.Orders.{id_total, id_ties, name_total, name_ties}
use Rattle.fv_laws.proofs.SetCounts.{len_part, part_difference}
use Rattle.fv_laws.proofs.Release.{in_any}
use Rattle.fv_laws.proofs.Lists.{In, from_map}
use Rattle.fv_laws.proofs.Room.{entry_there}
use Rattle.fv_laws.proofs.Tests.{iff, from_any, to_any}

-- ---- the values of a map

module _ {K X : Type 0} {R : K → K → Ordering} (o : IsTotalOrder R) where
  -- a value is that of a key, and that of a key is one
  pub value_of : (m : fin.FinMap R X) (x : X) → In x (fin.values m) → (k : K) × (fin.get m k ≡ Some x)
  value_of m x there = let e = from_map (λ (e : K × X). e.1) x (fin.entries m) there in (e.0.0, entry_there o m e.0 e.1 ∙ ap Some e.2)

  found_in : (k : K) (es : List (K × X)) (x : X) → find R k es ≡ Some x → In x (map (λ (e : K × X). e.1) es)
  found_in k [] x is = absurd cc
  found_in k (e ∷ es) x is = so (eq_by_cmp R k e.0) (λ f. found_in k es x f) is
    where
      so : (b : Bool) → (find R k es ≡ Some x → In x (map (λ (e : K × X). e.1) es)) → cond b (Some e.1) (find R k es) ≡ Some x → (e.1 ≡ x) ⊎ In x (map (λ (e : K × X). e.1) es)
      so true rest is = inl cc
      so false rest is = inr (rest is)

  pub is_value : (m : fin.FinMap R X) (k : K) (x : X) → fin.get m k ≡ Some x → In x (fin.values m)
  is_value m k x is = found_in k (fin.entries m) x (sym (fin.get-entries m k) ∙ is)

  -- a test of the values with one more
  pub any_inserted : fin.IsAntisymmetric R → (p : X → Bool) (m : fin.FinMap R X) (k : K) (x : X) → fin.get m k ≡ None → list_any p (fin.values (fin.insert m k x)) ≡ (p x || list_any p (fin.values m))
  any_inserted ties p m k x none = iff _ _ there back
    where
      none_is : (t : X) → ◌≡◌ {A = Option X} None (Some t) → ⊥
      none_is t e = cc

      some_is : (a b : X) → ◌≡◌ {A = Option X} (Some a) (Some b) → a ≡ b
      some_is a b e = cc

      there : list_any p (fin.values (fin.insert m k x)) ≡ true → (p x || list_any p (fin.values m)) ≡ true
      there e =
          let t = from_any p (fin.values (fin.insert m k x)) e in
          let at = value_of (fin.insert m k x) t.0 t.1.0 in
          so t.0 t.1.1 at.0 (eq_by_cmp R at.0 k) (sym (fin.get-insert o m k x at.0) ∙ at.1)
        where
          so : (t : X) → p t ≡ true → (j : K) (b : Bool) → cond b (Some x) (fin.get m j) ≡ Some t → (p x || list_any p (fin.values m)) ≡ true
          so t passes j true is = or_left (p x) (list_any p (fin.values m)) (ap p (some_is x t is) ∙ passes)
          so t passes j false is = or_right (p x) (list_any p (fin.values m)) (to_any p t (fin.values m) (is_value m j t is) passes)

      back : (p x || list_any p (fin.values m)) ≡ true → list_any p (fin.values (fin.insert m k x)) ≡ true
      back e = ⊎_elim
          (λ (here : p x ≡ true). to_any p x (fin.values (fin.insert m k x)) (is_value (fin.insert m k x) k x (fin.get-insert o m k x k ∙ ap (λ (b : Bool). cond b (Some x) (fin.get m k)) ((eq_by_cmp_equiv o).refl k))) here)
          (λ later. let t = from_any p (fin.values m) later in
          let at = value_of m t.0 t.1.0 in
          to_any p t.0 (fin.values (fin.insert m k x)) (is_value (fin.insert m k x) at.0 t.0 (fin.get-insert o m k x at.0 ∙ so at.0 t.0 at.1 (eq_by_cmp R at.0 k) refl)) t.1.1)
          (or_cases (p x) (list_any p (fin.values m)) e)
        where
          so : (j : K) (t : X) → fin.get m j ≡ Some t → (b : Bool) → eq_by_cmp R j k ≡ b → cond b (Some x) (fin.get m j) ≡ Some t
          so j t is false e = is
          so j t is true e = absurd (none_is t (sym none ∙ ap (fin.get m) (sym (ties j k ((Equal-is (R j k)).0 e))) ∙ is))

-- ---- one volume

module _ (x : Volume) (s : List ℕ) where
  kept_created : fin.get x.snapshots s ≡ None → (q : Id) → set.contains (ids_in_any (fin.values (fin.insert x.snapshots s x.active))) q ≡ (set.contains (ids_of x.active) q || set.contains (ids_in_any (fin.values x.snapshots)) q)
  kept_created none q = in_any (fin.values (fin.insert x.snapshots s x.active)) q
      ∙ any_inserted name_total name_ties (λ t. set.contains (ids_of t) q) x.snapshots s x.active none
      ∙ ap (λ (b : Bool). set.contains (ids_of x.active) q || b) (sym (in_any (fin.values x.snapshots) q))

  -- A snapshot of the active table costs its map alone: its ids are the table's.
  pub create_charge : fin.get x.snapshots s ≡ None → charge (record x { snapshots = fin.insert x.snapshots s x.active }) ≡ charge x + map_blocks x.span
  unfolding charge
  create_charge none =
      let ids : set.len (set.difference (set.union (ids_of x.active) (ids_in_any (fin.values (fin.insert x.snapshots s x.active)))) (ids_left_out x.base)) ≡ set.len (set.difference (set.union (ids_of x.active) (kept_ids x)) (ids_left_out x.base)) = ap (λ (i : Ids). set.len (set.difference i (ids_left_out x.base))) same in
      let count : fin.len (fin.insert x.snapshots s x.active) ≡ fin.len x.snapshots + 1 = fin.len-insert name_total x.snapshots s x.active ∙ ap (λ (o : Option Table). cond (is_some o) (fin.len x.snapshots) (fin.len x.snapshots + 1)) none in
      sums (map_blocks x.span) (fin.len x.snapshots) _ _ _ ids count
    where
      twice : (a b : Bool) → (a || (a || b)) ≡ (a || b)
      twice true b = refl
      twice false b = refl

      same : set.union (ids_of x.active) (ids_in_any (fin.values (fin.insert x.snapshots s x.active))) ≡ set.union (ids_of x.active) (kept_ids x)
      same = set.same_set id_total id_ties _ _ (λ q.
          set.contains-union id_total (ids_of x.active) (ids_in_any (fin.values (fin.insert x.snapshots s x.active))) q
          ∙ ap (λ (b : Bool). set.contains (ids_of x.active) q || b) (kept_created none q)
          ∙ twice (set.contains (ids_of x.active) q) (set.contains (ids_in_any (fin.values x.snapshots)) q)
          ∙ sym (set.contains-union id_total (ids_of x.active) (kept_ids x) q))

      more : (m n : ℕ) → m * (n + 1) ≡ m * n + m
      more m n = grind (arith)

      sums : (m n a b k : ℕ) → a ≡ b → k ≡ n + 1 → a + m * k ≡ b + m * n + m
      sums m n a b k e d = let f : m * k ≡ m * n + m = ap (λ (j : ℕ). m * j) d ∙ more m n in omega (arith, e, f)

  -- Where the active table is a snapshot's, the snapshots' ids are all,
  pub restore_charge : (t : Table) → fin.get x.snapshots s ≡ Some t → charge (record x { active = t }) ≡ set.len (set.difference (kept_ids x) (ids_left_out x.base)) + map_blocks x.span * fin.len x.snapshots
  unfolding charge
  restore_charge t there = ap (λ (i : Ids). set.len (set.difference i (ids_left_out x.base)) + map_blocks x.span * fin.len x.snapshots) same
    where
      absorbed : (a b : Bool) → (a ≡ true → b ≡ true) → (a || b) ≡ b
      absorbed true b within = sym (within refl)
      absorbed false b within = refl

      same : set.union (ids_of t) (kept_ids x) ≡ kept_ids x
      same = set.same_set id_total id_ties _ _ (λ q.
          set.contains-union id_total (ids_of t) (kept_ids x) q
          ∙ absorbed (set.contains (ids_of t) q) (set.contains (kept_ids x) q)
          (λ e. in_any (fin.values x.snapshots) q ∙ to_any (λ t. set.contains (ids_of t) q) t (fin.values x.snapshots) (is_value name_total x.snapshots s t there) e))

  -- so that it is charged for no more than before.
  pub restore_less : (t : Table) → fin.get x.snapshots s ≡ Some t → charge (record x { active = t }) ≤ charge x
  unfolding charge
  restore_less t there =
      let part = len_part id_total id_ties (set.difference (kept_ids x) (ids_left_out x.base)) (set.difference (set.union (ids_of x.active) (kept_ids x)) (ids_left_out x.base))
      (part_difference id_total id_ties (kept_ids x) (set.union (ids_of x.active) (kept_ids x)) (ids_left_out x.base) (ids_left_out x.base)
      (λ q e. set.contains-union id_total (ids_of x.active) (kept_ids x) q ∙ or_right (set.contains (ids_of x.active) q) (set.contains (kept_ids x) q) e) (λ q e. e)) in
      omega (arith, restore_charge t there, part)
