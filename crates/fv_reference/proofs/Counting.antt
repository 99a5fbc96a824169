-- From lists of entries and keys to the definitions' stamps and ids.
use Rattle.std.proofs.Common.{◌≡◌, ℕ, zero, suc, ◌+◌, ◌-◌, ◌<◌, nat_le, sum_by, count_by, Bool, true, false, cond, List, [], ◌∷◌, ◌++◌, map, filter, flat_map, refl, sym, ap, ◌∙◌, add-one, arith}
use Rattle.std.proofs.lemmas.List.{append-nil}
use Rattle.std.specs.List.{range_with_len}
use Rattle.std.proofs.lemmas.Grind.{flat_map-append}
use Rattle.std.proofs.lemmas.List.Elements.{filter-append}
use Rattle.std.specs.BTreeMap as tree
use Rattle.std.specs.FinMap as fin
use Rattle.std.specs.FinSet as set
use Rattle.std.proofs.lemmas.Bool.Decides.{nat_tests}
use Rattle.fv_model.specs.Numbers.{ceil_div}
use Rattle.fv_model.specs.Space.{nodes_above, needs_block, reserved_places}
use Rattle.fv_model.specs.Tables.{File, Table}
use Rattle.fv_model.specs.Places.{Place, Id, place_cmp, id_cmp, Stamps, stamps_of, ids, Ids, ids_of}
use Rattle.fv_reference.specs.Maps.{map_of}
use Rattle.fv_reference.proofs.Views.{entries_of}
use Rattle.fv_laws.proofs.Orders.{place_total}

pub ids_from : (m : tree.BTreeMap Place ℕ) (t : Table) → tree.IsOrdered place_cmp m → map_of place_cmp m ≡ stamps_of t → set.from_list {R = id_cmp} m.entries ≡ ids_of t
unfolding ids
ids_from m t was is =
    ap (λ (es : List Id). set.from_list {R = id_cmp} es) (sym (entries_of place_total m.entries was)) ∙ ap (λ (s : Stamps). set.from_list {R = id_cmp} (fin.entries s)) is

-- one more number of a range, and what is made of it
range_suc : (a n : ℕ) → range_with_len a (suc n) ≡ range_with_len a n ++ (a + n) ∷ []
range_suc a zero = ap (λ (x : ℕ). x ∷ []) (omega arith)
range_suc a (suc n) = ap (λ (r : List ℕ). a ∷ r) (range_suc (a + 1) n ∙ ap (λ (x : ℕ). range_with_len (a + 1) n ++ x ∷ []) (omega arith))

range_more : (n : ℕ) → range_with_len 0 (n + 1) ≡ range_with_len 0 n ++ n ∷ []
range_more n = ap (range_with_len 0) (add-one n) ∙ range_suc 0 n ∙ ap (λ (x : ℕ). range_with_len 0 n ++ x ∷ []) (omega arith)

module _ {X : Type 0} where
  pub levels_more : (f : ℕ → List X) (n : ℕ) → flat_map f (range_with_len 0 (n + 1)) ≡ flat_map f (range_with_len 0 n) ++ f n
  levels_more f n = ap (flat_map f) (range_more n) ∙ flat_map-append f (range_with_len 0 n) (n ∷ []) ∙ ap (λ (ys : List X). flat_map f (range_with_len 0 n) ++ ys) (append-nil (f n))

  map-append : (g : ℕ → X) (xs ys : List ℕ) → map g (xs ++ ys) ≡ map g xs ++ map g ys
  map-append g [] ys = refl
  map-append g (x ∷ xs) ys = ap (λ (r : List X). g x ∷ r) (map-append g xs ys)

  one : (g : ℕ → X) (n : ℕ) (b : Bool) → map g (cond b (n ∷ []) []) ≡ cond b (g n ∷ []) []
  one g n true = refl
  one g n false = refl

  pub reserved_more : (g : ℕ → X) (h : ℕ → Bool) (n : ℕ) → map g (filter h (range_with_len 0 (n + 1))) ≡ map g (filter h (range_with_len 0 n)) ++ cond (h n) (g n ∷ []) []
  reserved_more g h n =
      ap (λ (r : List ℕ). map g (filter h r)) (range_more n) ∙ ap (map g) (filter-append h (range_with_len 0 n) (n ∷ [])) ∙ map-append g (filter h (range_with_len 0 n)) (filter h (n ∷ [])) ∙ ap (λ (ys : List X). map g (filter h (range_with_len 0 n)) ++ ys) (one g n (h n))

pub needed_same : {S S' : Ids} {m m' : Stamps} {l l' : ℕ} {es es' : List (ℕ × File)} → S ≡ S' → m ≡ m' → l ≡ l' → es ≡ es' → sum_by (λ (e : ℕ × File). count_by (needs_block S m) (reserved_places l e.0 e.1)) es ≡ sum_by (λ (e : ℕ × File). count_by (needs_block S' m') (reserved_places l' e.0 e.1)) es'
needed_same s m l es = λ i. sum_by (λ (e : ℕ × File). count_by (needs_block (s i) (m i)) (reserved_places (l i) e.0 e.1)) (es i)
