-- A `BTreeMap` from numbers as a finite map.
use Rattle.std.proofs.Common.{◌≡◌, ℕ, Bool, true, nat_eq, cond, List, [], ◌∷◌, map, Option, Some, None, false, is_some, nat_cmp, refl, sym, ap, ◌∙◌, arith}
use Rattle.std.specs.Ordering.{is_eq, eq_by_cmp}
use Rattle.std.specs.Cmp.{nat_cmp_total}
use Rattle.std.specs.Map.{lookup}
use Rattle.std.specs.Option.{option_map}
use Rattle.std.specs.BTreeMap as tree
use Rattle.std.specs.FinMap as fin
use Rattle.std.specs.FinMap.{find}
use Rattle.std.proofs.lemmas.Bool.Decides.{nat_tests}
use Rattle.std.proofs.lemmas.Map.Made.{lookup-map_values}

turned : (q k : ℕ) → eq_by_cmp nat_cmp q k ≡ is_eq (nat_cmp k q)
turned q k = grind (arith, nat_tests)

turned_eq : (q k : ℕ) → is_eq (nat_cmp k q) ≡ nat_eq q k
turned_eq q k = grind (arith, nat_tests)

find_is : {X : Type 0} (es : List (ℕ × X)) (q : ℕ) → lookup (λ k. is_eq (nat_cmp q k)) es ≡ find nat_cmp q es
find_is [] q = refl
find_is (e ∷ es) q = ap (λ r. cond (is_eq (nat_cmp q e.0)) (Some e.1) r) (find_is es q)

-- a part of each value
module _ {X Y : Type 0} (f : X → Y) where
  abbrev seen : tree.BTreeMap ℕ X → fin.FinMap nat_cmp Y
  seen m = fin.from_entries (map (λ e. (e.0, f e.1)) m.entries)

  with_value : (b : Bool) (x : X) (o : Option X) → option_map f (cond b (Some x) o) ≡ cond b (Some (f x)) (option_map f o)
  with_value true x o = refl
  with_value false x o = refl

  without_value : (b : Bool) (o : Option X) → option_map f (cond b None o) ≡ cond b None (option_map f o)
  without_value true o = refl
  without_value false o = refl

  pub found : (m : tree.BTreeMap ℕ X) (q : ℕ) → fin.get (seen m) q ≡ option_map f (tree.get nat_cmp m q)
  found m q = fin.get-from_entries nat_cmp_total (map (λ e. (e.0, f e.1)) m.entries) q ∙ sym (find_is (map (λ e. (e.0, f e.1)) m.entries) q) ∙ lookup-map_values f (λ k. is_eq (nat_cmp q k)) m.entries

  pub inserted : (m n : tree.BTreeMap ℕ X) (k : ℕ) (x : X) → tree.Updates nat_cmp m n k (Some x) → seen n ≡ fin.insert (seen m) k (f x)
  inserted m n k x updates = fin.same_map nat_cmp_total fin.nat_cmp-IsAntisymmetric (seen n) (fin.insert (seen m) k (f x)) (λ q.
      found n q ∙ ap (option_map f) (updates.0 q) ∙ with_value (is_eq (nat_cmp k q)) x (tree.get nat_cmp m q)
      ∙ sym (fin.get-insert nat_cmp_total (seen m) k (f x) q ∙ ap (λ r. cond (eq_by_cmp nat_cmp q k) (Some (f x)) r) (found m q) ∙ ap (λ b. cond b (Some (f x)) (option_map f (tree.get nat_cmp m q))) (turned q k)))

  pub removed : (m n : tree.BTreeMap ℕ X) (k : ℕ) → tree.Updates nat_cmp m n k None → seen n ≡ fin.remove (seen m) k
  removed m n k updates = fin.same_map nat_cmp_total fin.nat_cmp-IsAntisymmetric (seen n) (fin.remove (seen m) k) (λ q.
      found n q ∙ ap (option_map f) (updates.0 q) ∙ without_value (is_eq (nat_cmp k q)) (tree.get nat_cmp m q)
      ∙ sym (fin.get-remove nat_cmp_total (seen m) k q ∙ ap (λ r. cond (eq_by_cmp nat_cmp q k) None r) (found m q) ∙ ap (λ b. cond b None (option_map f (tree.get nat_cmp m q))) (turned q k)))

  pub some_seen : (o : Option X) → is_some (option_map f o) ≡ is_some o
  some_seen None = refl
  some_seen (Some x) = refl

  -- what is seen once a value came, or went
  pub now_seen : (m n : tree.BTreeMap ℕ X) (k : ℕ) (x : X) → tree.Updates nat_cmp m n k (Some x) → (v : ℕ) → option_map f (tree.get nat_cmp n v) ≡ cond (nat_eq v k) (Some (f x)) (option_map f (tree.get nat_cmp m v))
  now_seen m n k x updates v = ap (option_map f) (updates.0 v) ∙ with_value (is_eq (nat_cmp k v)) x (tree.get nat_cmp m v) ∙ ap (λ b. cond b (Some (f x)) (option_map f (tree.get nat_cmp m v))) (turned_eq v k)

  pub no_longer_seen : (m n : tree.BTreeMap ℕ X) (k : ℕ) → tree.Updates nat_cmp m n k None → (v : ℕ) → option_map f (tree.get nat_cmp n v) ≡ cond (nat_eq v k) None (option_map f (tree.get nat_cmp m v))
  no_longer_seen m n k updates v = ap (option_map f) (updates.0 v) ∙ without_value (is_eq (nat_cmp k v)) (tree.get nat_cmp m v) ∙ ap (λ b. cond b None (option_map f (tree.get nat_cmp m v))) (turned_eq v k)

pub not_some : {X : Type 0} (o : Option X) → false ≡ is_some o → o ≡ None
not_some None e = refl
not_some (Some x) e = absurd (grind (arith, e))
