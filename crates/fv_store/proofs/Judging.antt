-- A held block is judged, and stays what it is.
use Rattle.std.proofs.Common.{◌≡◌, ℕ, true, cond, List, [], ◌∷◌, Option, Some, None, Ok, Err, Result, refl, ap, sym, ◌∙◌, inl, inr, ⊎_elim, arith, nat_eq}
use Rattle.std.specs.Prelude.{IfSome}
use Rattle.std.specs.Map.{set_value}
use Rattle.std.proofs.lemmas.Bool.{cases_Bool}
use Rattle.std.proofs.lemmas.Bool.Decides.{nat_tests}
use Rattle.fv_disk.specs.declared.Failed.{Failed}
use Rattle.fv_store.specs.Held.{Pairs, Held, block_at, Gets, Keeps}

itself : (k : ℕ) → nat_eq k k ≡ true
itself k = grind (arith, nat_tests)

-- a block that is written over itself changes nothing
pub same_over : (es : Pairs) (k : ℕ) (b : List ℕ) → block_at es k ≡ Some b → set_value (nat_eq k) es b ≡ es
same_over [] k b found = cc
same_over (e ∷ es) k b found = ⊎_elim (λ same.
    let here : e.1 ≡ b = (let h = rw same at found in cc) in
    ap (λ t. cond t ((e.0, b) ∷ es) (e ∷ set_value (nat_eq k) es b)) same ∙ ap (λ (c : List ℕ). (e.0, c) ∷ es) (sym here)) (λ other.
    ap (λ t. cond t ((e.0, b) ∷ es) (e ∷ set_value (nat_eq k) es b)) other ∙ ap (λ l. e ∷ l) (same_over es k b (rw other at found))) (cases_Bool (nat_eq k e.0))

first_is : (es : Pairs) (k : ℕ) (b : List ℕ) → block_at ((k, b) ∷ es) k ≡ Some b
first_is es k b = ap (λ t. cond t (Some b) (block_at es k)) (itself k)

-- after a read that was done, what is held under the number is the block that was read
pub held_after : (old new : Held) (k : ℕ) (b : List ℕ) (result : Result (Unit {0}) Failed) → Gets old k new b result → result ≡ Ok tt → IfSome (block_at new.pairs k) (λ was. was ≡ b)
held_after old new k b (Ok unit) gets is = by (block_at old.pairs k) refl
  where
    by : (o : Option (List ℕ)) → block_at old.pairs k ≡ o → IfSome (block_at new.pairs k) (λ was. was ≡ b)
    by (Some was) found =
        let h = rw found at gets.held in
        let there : block_at new.pairs k ≡ Some was = ap (λ l. block_at l k) h.2 ∙ first_is _ k was in
        rw there (sym h.1)
    by None absent =
        let h : Keeps old.pairs old.capacity k b new.pairs = rw absent at gets.kept in
        elim h [
          | inl more ↦ let there : block_at new.pairs k ≡ Some b = ap (λ l. block_at l k) more ∙ first_is _ k b in rw there refl
          | inr same ↦ let there : block_at new.pairs k ≡ None = ap (λ l. block_at l k) same ∙ absent in rw there tt
        ]
held_after old new k b (Err failed) gets is = cc
