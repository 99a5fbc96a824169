-- The aggregate map as a map of blocks that can be taken.
use Rattle.std.proofs.Common.{◌≡◌, ℕ, zero, suc, ◌+◌, ◌-◌, Bool, true, false, cond, not, ◌||◌, List, [], ◌∷◌, nat_lt, refl, sym, ap, ◌∙◌, arith}
use Rattle.std.specs.Prelude.{◌&&◌, nat_le, min, filter}
use Rattle.std.specs.List.{range_with_len, list_any}
use Rattle.std.specs.Ordering.{nat_cmp, eq_by_cmp}
use Rattle.std.specs.Cmp.{nat_cmp_total}
use Rattle.std.specs.FinSet as set
use Rattle.std.proofs.lemmas.Bool.Decides.{nat_tests}
use Rattle.fv_bits.specs.Members.{is_member}
use Rattle.fv_model.specs.Machines.{first_block}
use Rattle.fv_aggmap.specs.Space.{Space, is_held, blocks_of}
use Rattle.fv_container.specs.Freeing.{Room, IsRoom}

-- the blocks that can be allocated; an aggregate has at most 1,048,576
abbrev pub allocatable : Space → List ℕ
allocatable space = range_with_len (first_block (blocks_of space)) (min (blocks_of space) 1048576 - first_block (blocks_of space))

-- neither root holds a block
abbrev pub is_clear : Space → ℕ → Bool
is_clear space b = not (is_held space.committed space.next b)

-- the free blocks, and the blocks that each of the two roots holds
abbrev pub room_of : Space → Room
room_of space = record {
  free = set.from_list (filter (is_clear space) (allocatable space));
  held = is_member space.next;
  committed = space.committed;
}

-- ---- which numbers a set of some numbers of a range has

abbrev pub in_range : ℕ → ℕ → ℕ → Bool
in_range from count q = nat_le from q && nat_lt q (from + count)

pub any_range : (q from count : ℕ) → list_any (eq_by_cmp nat_cmp q) (range_with_len from count) ≡ in_range from count q
any_range q from zero = grind (arith, nat_tests)
any_range q from (suc count) = ap (λ t. eq_by_cmp nat_cmp q from || t) (any_range q (from + 1) count) ∙ grind (arith, nat_tests)

pub any_filter : (p : ℕ → Bool) (q : ℕ) (xs : List ℕ) → list_any (eq_by_cmp nat_cmp q) (filter p xs) ≡ (p q && list_any (eq_by_cmp nat_cmp q) xs)
any_filter p q [] = none (p q)
  where
    none : (t : Bool) → false ≡ (t && false)
    none true = refl
    none false = refl
any_filter p q (x ∷ xs) = front (p x) x (filter p xs) ∙ ap (λ r. p x && eq_by_cmp nat_cmp q x || r) (any_filter p q xs)
    ∙ joined (eq_by_cmp nat_cmp q x) (p x) (p q) (list_any (eq_by_cmp nat_cmp q) xs) (λ same. let k : q ≡ x = grind (arith, nat_tests, same) in ap p k)
  where
    front : (t : Bool) (y : ℕ) (ys : List ℕ) → list_any (eq_by_cmp nat_cmp q) (cond t (y ∷ ys) ys) ≡ (t && eq_by_cmp nat_cmp q y || list_any (eq_by_cmp nat_cmp q) ys)
    front true y ys = refl
    front false y ys = refl

    joined : (e px pq a : Bool) → (e ≡ true → pq ≡ px) → (px && e || pq && a) ≡ (pq && (e || a))
    joined true true true a h = refl
    joined true true false a h = sym (h refl)
    joined true false true a h = let no : true ≡ false = h refl in cc
    joined true false false a h = refl
    joined false true pq a h = refl
    joined false false pq a h = refl

pub free_has : (space : Space) (q : ℕ) → set.contains (room_of space).free q ≡ (is_clear space q && in_range (first_block (blocks_of space)) (min (blocks_of space) 1048576 - first_block (blocks_of space)) q)
free_has space q =
    set.contains-from_list nat_cmp_total (filter (is_clear space) (allocatable space)) q
    ∙ any_filter (is_clear space) q (allocatable space)
    ∙ ap (λ t. is_clear space q && t) (any_range q (first_block (blocks_of space)) (min (blocks_of space) 1048576 - first_block (blocks_of space)))

pub is_room : (space : Space) → IsRoom (room_of space)
is_room space = record {
  places = λ b is.
      let within = both (is_clear space b) _ (sym (free_has space b) ∙ is) in
      (grind (arith, nat_tests, within), grind (arith, nat_tests, within));
}
  where
    both : (x y : Bool) → (x && y) ≡ true → y ≡ true
    both true y h = h
    both false y h = cc
