-- The copies of a volume that is being split, as a set, and what is counted by it.
use Rattle.std.proofs.Common.{◌≡◌, ℕ, ◌+◌, ◌<◌, ◌≤◌, Bool, true, false, cond, List, [], ◌∷◌, length, refl, sym, ap, ◌∙◌, arith, ⊎_elim, set}
use Rattle.std.specs.Prelude.{Option, Some, None, filter, ◌&&◌, ◌||◌, ◌==◌, if◌then◌else◌}
use Rattle.std.specs.Option.{is_some}
use Rattle.std.proofs.lemmas.Bool.{cases_lt}
use Rattle.std.proofs.lemmas.List.{length-set}
use Rattle.std.proofs.lemmas.Bool.Decides.{nat_tests}
use Rattle.fv_bits.specs.Members.{is_member}
use Rattle.fv_bits.proofs.Laws.{is_member-set, is_member_past}
use Rattle.fv_tables.specs.Reached.{Item, is_listed}
use Rattle.fv_image.specs.Views.{Head, View}
use Rattle.fv_image.specs.Seen.{roots_of}
use Rattle.fv_image.specs.Staying.{base_items}
use Rattle.fv_image.specs.HintRules.{is_in_label, is_known, is_splitting, is_unknown}
use Rattle.fv_image.specs.Places.{Held, is_one_pointer, once_each}
use Rattle.fv_faults.specs.FourthPass.{how_many, is_copy, is_split_fault, known_in, unknown_in}
use Rattle.fv_faults.specs.Walks.{Ground}
use Rattle.fv_fourth_pass.specs.Based.{has_entry}
use Rattle.fv_fourth_pass.specs.Placed.{HasCopies, HasCopiesTo, IsBased, is_copy_in}
use Rattle.fv_fourth_pass.specs.Tallied.{counts, how_many_in, reached_by}
use Rattle.fv_fourth_pass.specs.Used.{is_out}

-- ---- the set

pub copies_none : (base : List Bool) (row : List ℕ) (bits : List Bool) → length bits ≡ length base → ((v : ℕ) → is_member bits v ≡ false) → HasCopiesTo base row bits 0
copies_none base row bits size empty = record { size = size; low = λ v low. absurd (omega (arith, low)); rest = λ v past. empty v }

pub copies_left : (base : List Bool) (row : List ℕ) (bits : List Bool) (n : ℕ) → HasCopiesTo base row bits n → is_copy_in (Some base) row n ≡ false → HasCopiesTo base row bits (n + 1)
copies_left base row bits n has none = record {
  size = has.size;
  low = λ v low. ⊎_elim
      (λ (below : v < n). has.low v below)
      (λ (past : n ≤ v). has.rest v past ∙ sym none ∙ ap (is_copy_in (Some base) row) (let e : n ≡ v = omega (arith, low, past) in e))
      (cases_lt v n);
  rest = λ v past. has.rest v (omega (arith, past));
}

pub copies_more : (base : List Bool) (row : List ℕ) (old new : List Bool) (n : ℕ) → HasCopiesTo base row old n → n < length base → is_copy_in (Some base) row n ≡ true
    → new ≡ set old n true → HasCopiesTo base row new (n + 1)
copies_more base row old new n has inside one put = record {
  size = ap (λ (bits : List Bool). length bits) put ∙ length-set old n true ∙ has.size;
  low = λ v low. is v ∙ ⊎_elim
      (λ (below : v < n). let apart : (v == n) ≡ false = grind (arith, nat_tests, below) in ap (λ b. cond b true (is_member old v)) apart ∙ has.low v below)
      (λ (past : n ≤ v). let e : v ≡ n = omega (arith, low, past) in let test : (v == n) ≡ true = grind (arith, nat_tests, e) in ap (λ b. cond b true (is_member old v)) test ∙ sym one ∙ ap (is_copy_in (Some base) row) (sym e))
      (cases_lt v n);
  rest = λ v past. let apart : (v == n) ≡ false = grind (arith, nat_tests, past) in is v ∙ ap (λ b. cond b true (is_member old v)) apart ∙ has.rest v (omega (arith, past));
}
  where
    is : (v : ℕ) → is_member new v ≡ cond (v == n) true (is_member old v)
    is v = ap (λ (bits : List Bool). is_member bits v) put ∙ is_member-set old n true v (let size = has.size in omega (arith, inside, size))

pub copies_all : (base : List Bool) (row : List ℕ) (bits : List Bool) (n : ℕ) → length base ≤ n → HasCopiesTo base row bits n → HasCopies (Some base) row bits
copies_all base row bits n long has v = ⊎_elim
    (λ (below : v < n). has.low v below)
    (λ (past : n ≤ v). has.rest v past ∙ sym (ap (λ b. b && has_entry row v) (is_member_past base v (omega (arith, past, long)))))
    (cases_lt v n)

-- ---- what is counted

filter_same : {X : Type 0} (p q : X → Bool) → ((x : X) → p x ≡ q x) → (xs : List X) → filter p xs ≡ filter q xs
filter_same p q same [] = refl
filter_same p q same (x ∷ xs) = λ i. if same x i then x ∷ filter_same p q same xs i else filter_same p q same xs i

module _ (g : Ground) (h : Head) where
  many_same : (copies : Option (List Bool)) (test : Item → Bool) → ((e : Item) → counts copies e ≡ test e) → how_many_in g copies (roots_of h) ≡ how_many g.view g.slot h test
  unfolding how_many_in
  many_same copies test same = ap counted (filter_same (λ (p : Held). counts copies p.item) (λ (p : Held). test p.item) (λ p. same p.item) (reached_by g (roots_of h)))
    where
      counted : List Held → ℕ
      counted ps = length (once_each is_one_pointer ps)

  pub unknown_many : how_many_in g None (roots_of h) ≡ how_many g.view g.slot h (λ e. is_unknown e.pointer)
  unknown_many = many_same None (λ e. is_unknown e.pointer) (λ e. refl)

  module _ (base : Option (List Bool)) (row : List ℕ) (is : IsBased g.view g.slot h base row) where
    copy_is : (v : ℕ) → is_copy_in base row v ≡ is_copy g.view g.slot h v
    copy_is v = so (is_out base v) refl (is.based v) (is.entries v)
      where
        so : (b : Bool) → is_out base v ≡ b → is_out base v ≡ is_listed (base_items g.view h.base) v → (is_out base v ≡ true → is_some (g.view.entry g.slot v) ≡ has_entry row v)
            → (is_out base v && has_entry row v) ≡ (is_listed (base_items g.view h.base) v && is_some (g.view.entry g.slot v))
        so true test based entry = λ i. based i && sym (entry test) i
        so false test based entry =
            ap (λ b. b && has_entry row v) test ∙ sym (ap (λ b. b && is_some (g.view.entry g.slot v)) (sym based ∙ test))

    pub split_many : (bits : List Bool) → HasCopies base row bits → how_many_in g (Some bits) (roots_of h) ≡ how_many g.view g.slot h (is_split_fault g.view g.slot h)
    split_many bits has = many_same (Some bits) (is_split_fault g.view g.slot h) (λ e. λ i. is_known e.pointer && (is_in_label e || ((has e.pointer.vvbn ∙ copy_is e.pointer.vvbn) i || (has e.holder.vvbn ∙ copy_is e.holder.vvbn) i)))

-- ---- by what the label says

module _ (w : View) (s : ℕ) (h : Head) (n : ℕ) where
  pub unknown_none : h.known ≡ false → 0 ≡ unknown_in w s h
  unknown_none out = sym (ap (λ b. if b then how_many w s h (λ e. is_unknown e.pointer) else 0) out)

  pub unknown_some : h.known ≡ true → n ≡ how_many w s h (λ e. is_unknown e.pointer) → n ≡ unknown_in w s h
  unknown_some is many = many ∙ sym (ap (λ b. if b then how_many w s h (λ e. is_unknown e.pointer) else 0) is)

  pub known_none : is_splitting h.base ≡ false → 0 ≡ known_in w s h
  known_none out = sym (ap (λ b. if b then how_many w s h (is_split_fault w s h) else 0) out)

  pub known_some : is_splitting h.base ≡ true → n ≡ how_many w s h (is_split_fault w s h) → n ≡ known_in w s h
  known_some is many = many ∙ sym (ap (λ b. if b then how_many w s h (is_split_fault w s h) else 0) is)
