-- A finite set whose members another set has is no larger than that.
use Rattle.std.proofs.Common.{◌≡◌, ◌≤◌, ◌+◌, ◌-◌, ℕ, Bool, true, false, cond, not, ◌&&◌, ◌||◌, List, [], ◌∷◌, refl, sym, ap, subst, ◌∙◌, arith}
use Rattle.std.specs.declared.cmp.Ordering.{Ordering}
use Rattle.std.specs.Cmp.{IsTotalOrder, Equal-is}
use Rattle.std.specs.Ordering.{eq_by_cmp}
use Rattle.std.specs.FinSet as set

pub either : (a b : Bool) (P : Type 0) → (a ≡ true → P) → (b ≡ true → P) → (a || b) ≡ true → P
either true b P left right one = left refl
either false b P left right one = right one

-- what isn't the one that was added was there
other : (e a b : Bool) → (a ≡ true → (e || b) ≡ true) → (not e && a) ≡ true → b ≡ true
other true a b within one = cc
other false a b within one = within one

never : (b : Bool) → (b ≡ true → false ≡ true) → b ≡ false
never b h = elim b as (λ b. (b ≡ true → false ≡ true) → b ≡ false) [
  | true ↦ λ h. sym (h refl)
  | false ↦ λ h. refl
] h

one_less : (b : Bool) (n most : ℕ) → cond b (n - 1) n ≤ most → n ≤ most + 1
one_less true n most le = omega (arith, le)
one_less false n most le = omega (arith, le)

pub or_true : (a : Bool) → (a || true) ≡ true
or_true true = refl
or_true false = refl

joined : (s s' t t' : Bool) → (s ≡ true → s' ≡ true) → (t ≡ true → t' ≡ true) → (s || t) ≡ true → (s' || t') ≡ true
joined true s' t t' first second one = rw (first refl) refl
joined false s' t t' first second one = rw (second one) (or_true s')

left_over : (s s' out more : Bool) → (s ≡ true → s' ≡ true) → (out ≡ true → more ≡ true) → (s && not more) ≡ true → (s' && not out) ≡ true
left_over true s' out true part fewer one = cc
left_over true s' true false part fewer one = let wrong : false ≡ true = fewer refl in cc
left_over true s' false false part fewer one = rw (part refl) refl
left_over false s' out more part fewer one = cc

module _ {K : Type 0} {R : K → K → Ordering} where
  abbrev pub IsPart : set.FinSet R → set.FinSet R → Type 0
  IsPart s t = (q : K) → set.contains s q ≡ true → set.contains t q ≡ true

module _ {K : Type 0} {R : K → K → Ordering} (o : IsTotalOrder R) (same : set.IsAntisymmetric R) where
  part_of_list : (ks : List K) (s : set.FinSet R) → IsPart s (set.from_list ks) → set.len s ≤ set.len (set.from_list {R = R} ks)
  part_of_list [] s part =
      let none : s ≡ set.empty = set.same_set o same s set.empty (λ q. never (set.contains s q) (λ one. sym (set.contains-empty R q) ∙ part q one) ∙ sym (set.contains-empty R q)) in
      let same_len : set.len s ≡ set.len (set.empty {R = R}) = ap set.len none in
      omega (arith, same_len)
  part_of_list (k ∷ ks) s part =
      let grown : set.len (set.insert (set.from_list {R = R} ks) k) ≡ cond (set.contains (set.from_list {R = R} ks) k) (set.len (set.from_list {R = R} ks)) (set.len (set.from_list {R = R} ks) + 1) = set.len-insert o (set.from_list {R = R} ks) k in
      elim (set.contains (set.from_list {R = R} ks) k) as (λ b. set.contains (set.from_list {R = R} ks) k ≡ b → set.len s ≤ set.len (set.insert (set.from_list {R = R} ks) k)) [
        | true ↦ λ there.
            let stays : set.len (set.insert (set.from_list {R = R} ks) k) ≡ set.len (set.from_list {R = R} ks) = grown ∙ ap (λ b. cond b (set.len (set.from_list {R = R} ks)) (set.len (set.from_list {R = R} ks) + 1)) there in
            let fewer : set.len s ≤ set.len (set.from_list {R = R} ks) = part_of_list ks s (λ q one. either (eq_by_cmp R q k) (set.contains (set.from_list {R = R} ks) q) _ (λ tie. sym (set.contains_tied o (set.from_list {R = R} ks) q k ((Equal-is (R q k)).0 tie)) ∙ there) (λ in_list. in_list) (sym (set.contains-insert o (set.from_list {R = R} ks) k q) ∙ part q one)) in
            omega (arith, stays, fewer)
        | false ↦ λ there.
            let more : set.len (set.insert (set.from_list {R = R} ks) k) ≡ set.len (set.from_list {R = R} ks) + 1 = grown ∙ ap (λ b. cond b (set.len (set.from_list {R = R} ks)) (set.len (set.from_list {R = R} ks) + 1)) there in
            let fewer : set.len (set.remove s k) ≤ set.len (set.from_list {R = R} ks) = part_of_list ks (set.remove s k) (λ q one. other (eq_by_cmp R q k) (set.contains s q) (set.contains (set.from_list {R = R} ks) q) (λ was. sym (set.contains-insert o (set.from_list {R = R} ks) k q) ∙ part q was) (sym (set.contains-remove o s k q) ∙ one)) in
            let le : set.len s ≤ set.len (set.from_list {R = R} ks) + 1 = one_less (set.contains s k) (set.len s) (set.len (set.from_list {R = R} ks)) (subst (λ (n : ℕ). n ≤ set.len (set.from_list {R = R} ks)) (set.len-remove o s k) fewer) in
            omega (arith, more, le)
      ] refl

  listed : (s : set.FinSet R) → set.from_list (set.items s) ≡ s
  listed s = set.same_set o same _ s (λ q. set.contains-from_list o (set.items s) q ∙ sym (set.contains-items s q))

  pub len_part : (s t : set.FinSet R) → IsPart s t → set.len s ≤ set.len t
  len_part s t part =
      subst (λ (u : set.FinSet R). set.len s ≤ set.len u) (listed t) (part_of_list (set.items t) s (λ q one. ap (λ (u : set.FinSet R). set.contains u q) (listed t) ∙ part q one))

  -- a union of parts is a part, and so is what is left of a part where more is left out
  pub part_union : (s s' t t' : set.FinSet R) → IsPart s s' → IsPart t t' → IsPart (set.union s t) (set.union s' t')
  part_union s s' t t' first second q one =
      set.contains-union o s' t' q ∙ joined (set.contains s q) (set.contains s' q) (set.contains t q) (set.contains t' q) (first q) (second q) (sym (set.contains-union o s t q) ∙ one)

  pub part_difference : (s s' out more : set.FinSet R) → IsPart s s' → IsPart out more → IsPart (set.difference s more) (set.difference s' out)
  part_difference s s' out more part fewer q one =
      set.contains-difference o s' out q ∙ left_over (set.contains s q) (set.contains s' q) (set.contains out q) (set.contains more q) (part q) (fewer q) (sym (set.contains-difference o s more q) ∙ one)
