-- What is held stands on the disk after each call.
use Rattle.std.proofs.Common.{◌≡◌, ◌≢◌, ℕ, zero, suc, ◌-◌, ◌^◌, ◌<◌, ◌≤◌, ◌⊎◌, false, cond, List, [], ◌∷◌, take, Contains, length, IsTrue, Option, Some, None, Ok, Err, Result, refl, sym, ap, subst, ◌∙◌, inl, inr, ⊎_elim, arith, nat_eq}
use Rattle.std.specs.Prelude.{slice_index_or}
use Rattle.std.proofs.lemmas.Bool.{cases_Bool}
use Rattle.std.proofs.lemmas.Bool.Decides.{nat_tests}
use Rattle.fv_disk.specs.declared.Failed.{Failed}
use Rattle.fv_disk.specs.Shown.{Shown}
use Rattle.fv_disk.specs.DiskCalls.{Writes}
use Rattle.fv_store.specs.Held.{Gets, Held, Keeps, Pairs, Puts, StandsOn, block_at, to_front, without}
use Rattle.fv_store.proofs.Laws.{block_at-other}
use Rattle.fv_check.specs.Lending.{Caches}

-- ---- numbers

-- a pair of another number comes first
other_first : (es : Pairs) (k j : ℕ) (b : List ℕ) → k < j → block_at ((k, b) ∷ es) j ≡ block_at es j
other_first es k j b less =
    let other : nat_eq j k ≡ false = grind (arith, nat_tests, less) in
    ap (λ t. cond t (Some b) (block_at es j)) other

absent_taken : (es : Pairs) (n j : ℕ) → block_at es j ≡ None → block_at (take n es) j ≡ None
absent_taken es zero j absent = refl
absent_taken [] (suc n) j absent = refl
absent_taken (e ∷ es) (suc n) j absent = ⊎_elim (λ same. (let h = rw same at absent in cc)) (λ other.
    ap (λ t. cond t (Some e.1) (block_at (take n es) j)) other ∙ absent_taken es n j (rw other at absent)) (cases_Bool (nat_eq j e.0))

abbrev IsSmall : Pairs → Type 0
IsSmall pairs = (number : ℕ) → 2 ^ 32 ≤ number → block_at pairs number ≡ None

small_without : (es : Pairs) (k : ℕ) → IsSmall es → k < 2 ^ 32 → IsSmall (without es k)
small_without es k small less j large =
    let other : nat_eq k j ≡ false = grind (arith, nat_tests, less, large) in
    block_at-other es k j other ∙ small j large

small_first : (es : Pairs) (k : ℕ) (b : List ℕ) → IsSmall es → k < 2 ^ 32 → IsSmall ((k, b) ∷ es)
small_first es k b small less j large = other_first es k j b (omega (arith, less, large)) ∙ small j large

small_front : (es : Pairs) (k : ℕ) (b : List ℕ) → IsSmall es → k < 2 ^ 32 → IsSmall (to_front es k b)
small_front es k b small less = small_first (without es k) k b (small_without es k small less) less

small_kept : (es after : Pairs) (capacity k : ℕ) (b : List ℕ) → IsSmall es → k < 2 ^ 32 → Keeps es capacity k b after → IsSmall after
small_kept es after capacity k b small less (inl more) = subst IsSmall (sym more) (small_first (take (capacity - 1) es) k b (λ j large. absent_taken es (capacity - 1) j (small j large)) less)
small_kept es after capacity k b small less (inr same) = subst IsSmall (sym same) small

small_got : (old new : Held) (k : ℕ) (b : List ℕ) (result : Result Unit Failed) → IsSmall old.pairs → k < 2 ^ 32 → Gets old k new b result → IsSmall new.pairs
small_got old new k b result small less gets = by_case (block_at old.pairs k) refl result gets
  where
    by_case : (o : Option (List ℕ)) → block_at old.pairs k ≡ o → (r : Result Unit Failed) → Gets old k new b r → IsSmall new.pairs
    by_case (Some was) found r gets = subst IsSmall (sym (rw found at gets.held).2) (small_front old.pairs k was small less)
    by_case None absent (Ok unit) gets = small_kept old.pairs new.pairs old.capacity k b small less (rw absent at gets.kept)
    by_case None absent (Err failed) gets = subst IsSmall (sym gets.failed) small

small_put : (old new : Held) (k : ℕ) (b : List ℕ) (result : Result Unit Failed) → IsSmall old.pairs → k < 2 ^ 32 → Puts old k b new result → IsSmall new.pairs
small_put old new k b (Err failed) small less puts = subst IsSmall (sym puts.failed) (small_without old.pairs k small less)
small_put old new k b (Ok unit) small less puts = by_case (block_at old.pairs k) refl
  where
    by_case : (o : Option (List ℕ)) → block_at old.pairs k ≡ o → IsSmall new.pairs
    by_case (Some was) found = subst IsSmall (sym (rw found at puts.done.held)) (small_front old.pairs k b small less)
    by_case None absent = subst IsSmall (sym (rw absent at puts.done.absent)) small

-- ---- the disk

pub caches_got : (disk after : Shown) (old new : Held) (k : ℕ) (b : List ℕ) (result : Result Unit Failed) → Caches disk old.pairs → k < 2 ^ 32
    → StandsOn after new.pairs → Gets old k new b result → Caches after new.pairs
caches_got disk after old new k b result caches less stands gets = record { stands = stands; small = small_got old new k b result caches.small less gets }

pub caches_put : (disk after : Shown) (old new : Held) (k : ℕ) (b : List ℕ) (result : Result Unit Failed) → Caches disk old.pairs → k < 2 ^ 32
    → StandsOn after new.pairs → Puts old k b new result → Caches after new.pairs
caches_put disk after old new k b result caches less stands puts = record { stands = stands; small = small_put old new k b result caches.small less puts }

-- where nothing is written
pub caches_same : (old new : Shown) (es : Pairs) → new.tells ≡ old.tells → new.reads ≡ old.reads → Caches old es → Caches new es
caches_same old new es tells reads caches = record {
  stands = record { same = λ told k b in_it. caches.stands.same (subst IsTrue tells told) k b in_it ∙ ap (λ image. image k) (sym reads) };
  small = caches.small;
}

-- what a list contains is its first item or in the rest
contained : (e : ℕ × List ℕ) (es : Pairs) (x : ℕ × List ℕ) → Contains (e ∷ es) x → (e ≡ x) ⊎ Contains es x
contained e es x in_it = at in_it.0 in_it.1 in_it.2
  where
    at : (k : ℕ) → k < length (e ∷ es) → slice_index_or (e ∷ es) k x ≡ x → (e ≡ x) ⊎ Contains es x
    at zero less is = inl is
    at (suc k) less is = inr (k, omega (arith, less), is)

-- a number that isn't held is another one
other_held : (es : Pairs) (k j : ℕ) (b : List ℕ) → block_at es k ≡ None → Contains es (j, b) → j ≢ k
other_held [] k j b absent in_it = λ same. (let none = in_it.1 in omega (arith, none))
other_held (e ∷ es) k j b absent in_it = ⊎_elim (λ same. (let h = rw same at absent in cc)) (λ other.
    elim (contained e es (j, b) in_it) [
      | inl here ↦ λ same. (let h : nat_eq k j ≡ false = subst (λ p. nat_eq k p.0 ≡ false) here other in grind (arith, nat_tests, same, h))
      | inr there ↦ other_held es k j b (rw other at absent) there
    ]) (cases_Bool (nat_eq k e.0))

-- where a block was written that is never held
pub caches_past : (old new : Shown) (es : Pairs) (k : ℕ) (b : List ℕ) (result : Result Unit Failed) → 2 ^ 32 ≤ k → Writes old k b new result → Caches old es → Caches new es
caches_past old new es k b result large writes caches = record {
  stands = record {
    same = λ told j c in_it.
        let before : IsTrue old.tells = subst IsTrue writes.tells told in
        caches.stands.same before j c in_it ∙ sym (writes.others before j (other_held es k j c (caches.small k large) in_it));
  };
  small = caches.small;
}
