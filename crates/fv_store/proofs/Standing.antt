-- A store stands on a disk after each change.
use Rattle.std.proofs.Common.{◌≡◌, ◌≢◌, ℕ, ◌+◌, ◌-◌, true, false, List, [], ◌∷◌, take, Contains, IsTrue, Option, Some, None, Ok, Err, Result, IsOk, refl, sym, ap, subst, ◌∙◌, inl, inr, ⊎_elim, arith, nat_eq}
use Rattle.std.proofs.lemmas.Bool.{cases_Bool}
use Rattle.std.proofs.lemmas.Bool.Decides.{nat_tests}
use Rattle.std.proofs.lemmas.Map.Views.{Contains-from_lookup}
use Rattle.lru.proofs.CallerLemmas.{Contains-take}
use Rattle.lru.proofs.Splits.{Contains-head, Contains-tail, Contains-cons, Contains-nil}
use Rattle.fv_disk.specs.declared.Failed.{Failed}
use Rattle.fv_disk.specs.Shown.{Shown}
use Rattle.fv_disk.specs.DiskCalls.{Reads, Writes}
use Rattle.fv_store.specs.Held.{Pairs, block_at, without, to_front, StandsOn, Holds, Keeps, KeepsFrom, Renews}
use Rattle.fv_store.proofs.Lists.{without_first, without_other}

same_number : (k j : ℕ) → nat_eq k j ≡ true → k ≡ j
same_number k j same = grind (arith, nat_tests, same)

-- what is left is a pair of another number
left_over : (es : Pairs) (k j : ℕ) (b : List ℕ) → Contains (without es k) (j, b) → Contains es (j, b) × (nat_eq k j ≡ false)
unfolding without
left_over [] k j b in_it = absurd (Contains-nil (j, b) in_it)
left_over (e ∷ es) k j b in_it = ⊎_elim (λ same.
    let on = left_over es k j b (subst (λ l. Contains l (j, b)) (without_first e es k same) in_it) in
    (Contains-tail e es (j, b) on.0, on.1)) (λ other.
    elim (Contains-cons e (without es k) (j, b) (subst (λ l. Contains l (j, b)) (without_other e es k other) in_it)) [
      | inl here ↦ (subst (Contains (e ∷ es)) here (Contains-head e es), subst (λ p. nat_eq k p.0 ≡ false) here other)
      | inr there ↦ let on = left_over es k j b there in (Contains-tail e es (j, b) on.0, on.1)
    ]) (cases_Bool (nat_eq k e.0))

-- no pair of a number that isn't held
not_in : (es : Pairs) (k j : ℕ) (b : List ℕ) → block_at es k ≡ None → Contains es (j, b) → nat_eq k j ≡ false
not_in [] k j b absent in_it = absurd (Contains-nil (j, b) in_it)
not_in (e ∷ es) k j b absent in_it = ⊎_elim (λ same. (let h = rw same at absent in cc)) (λ other.
    elim (Contains-cons e es (j, b) in_it) [
      | inl here ↦ subst (λ p. nat_eq k p.0 ≡ false) here other
      | inr there ↦ not_in es k j b (rw other at absent) there
    ]) (cases_Bool (nat_eq k e.0))

pub found_block : (disk : Shown) (es : Pairs) (k : ℕ) (b : List ℕ) → StandsOn disk es → block_at es k ≡ Some b → IsTrue disk.tells → b ≡ disk.reads k
found_block disk es k b stands found told = stands.same told k b (Contains-from_lookup same_number k b es found)

-- a held block comes to the front
pub stands_front : (disk : Shown) (es after : Pairs) (k : ℕ) (b : List ℕ) → after ≡ to_front es k b → block_at es k ≡ Some b → StandsOn disk es → StandsOn disk after
stands_front disk es after k b front found stands = record {
  same = λ told j c in_it. elim (Contains-cons (k, b) (without es k) (j, c) (subst (λ l. Contains l (j, c)) front in_it)) [
    | inl same ↦ subst (λ p. p.1 ≡ disk.reads p.0) same (found_block disk es k b stands found told)
    | inr rest ↦ stands.same told j c (left_over es k j c rest).0
  ];
}

-- a held block is what a read would give
pub held_read : (disk : Shown) (es : Pairs) (k : ℕ) (b : List ℕ) → StandsOn disk es → block_at es k ≡ Some b → Reads disk k disk b (Ok tt)
held_read disk es k b stands found = record {
  gives = λ told. found_block disk es k b stands found told;
  stays = record { tells = refl; reads = refl; no_more = λ c left. left; no_fewer = λ c left. left };
  time = record { later = omega arith; nothing_else = λ t c g le left. inl left; keeps = λ t c g le left. left };
  given = refl;
  ends = refl;
  cause = record { later = omega arith; calm = refl; rose = tt };
  write_faults = refl;
}

-- a read leaves what is read, and a block that it gave may be held
pub stands_read : (old new : Shown) (es : Pairs) (k : ℕ) (b : List ℕ) (result : Result Unit Failed) → Reads old k new b result → StandsOn old es → StandsOn new es
stands_read old new es k b result read stands = record {
  same = λ told j c in_it. stands.same (subst IsTrue read.stays.tells told) j c in_it ∙ ap (λ image. image j) (sym read.stays.reads);
}

pub stands_kept : (old new : Shown) (es after : Pairs) (capacity k : ℕ) (b : List ℕ) (result : Result Unit Failed) → Keeps es capacity k b after → Reads old k new b result → IsOk result → StandsOn old es → StandsOn new after
stands_kept old new es after capacity k b (Err failed) kept read done stands = cc
stands_kept old new es after capacity k b (Ok unit) (inr same) read done stands = subst (StandsOn new) (sym same) (stands_read old new es k b (Ok unit) read stands)
stands_kept old new es after capacity k b (Ok unit) (inl more) read done stands = record {
  same = λ told j c in_it. elim (Contains-cons (k, b) (take (capacity - 1) es) (j, c) (subst (λ l. Contains l (j, c)) more in_it)) [
    | inl here ↦ subst (λ p. p.1 ≡ new.reads p.0) here (read.gives (subst IsTrue read.stays.tells told) ∙ ap (λ image. image k) (sym read.stays.reads))
    | inr rest ↦ (stands_read old new es k b (Ok unit) read stands).same told j c (Contains-take (capacity - 1) es (j, c) rest)
  ];
}

-- a write leaves what is read of other numbers
other_reads : (old new : Shown) (k j : ℕ) (b : List ℕ) (result : Result Unit Failed) → Writes old k b new result → IsTrue new.tells → nat_eq k j ≡ false → old.reads j ≡ new.reads j
other_reads old new k j b result write told other = sym (write.others (subst IsTrue write.tells told) j (λ same. (let h = rw same at other in grind (arith, nat_tests, other, same))))

pub stands_forgotten : (old new : Shown) (es after : Pairs) (k : ℕ) (b : List ℕ) (result : Result Unit Failed) → after ≡ without es k → Writes old k b new result → StandsOn old es → StandsOn new after
stands_forgotten old new es after k b result is write stands = record {
  same = λ told j c in_it.
      let at = left_over es k j c (subst (λ l. Contains l (j, c)) is in_it) in
      stands.same (subst IsTrue write.tells told) j c at.0 ∙ other_reads old new k j b result write told at.1;
}

stands_absent : (old new : Shown) (es : Pairs) (k : ℕ) (b : List ℕ) (result : Result Unit Failed) → Writes old k b new result → StandsOn old es → block_at es k ≡ None → StandsOn new es
stands_absent old new es k b result write stands absent = record {
  same = λ told j c in_it. stands.same (subst IsTrue write.tells told) j c in_it ∙ other_reads old new k j b result write told (not_in es k j c absent in_it);
}

pub stands_renewed : (old new : Shown) (es after : Pairs) (k : ℕ) (b : List ℕ) (result : Result Unit Failed) → Renews es k b after → Writes old k b new result → IsOk result → StandsOn old es → StandsOn new after
stands_renewed old new es after k b (Err failed) renewed write done stands = cc
stands_renewed old new es after k b (Ok unit) renewed write done stands = by_case (block_at es k) refl
  where
    by_case : (o : Option (List ℕ)) → block_at es k ≡ o → StandsOn new after
    by_case None absent = subst (StandsOn new) (sym (rw absent at renewed.absent)) (stands_absent old new es k b (Ok unit) write stands absent)
    by_case (Some was) found = record {
      same = λ told j c in_it. elim (Contains-cons (k, b) (without es k) (j, c) (subst (λ l. Contains l (j, c)) (rw found at renewed.held) in_it)) [
        | inl same ↦ subst (λ p. p.1 ≡ new.reads p.0) same (sym (write.written (subst IsTrue write.tells told)))
        | inr rest ↦ (stands_forgotten old new es (without es k) k b (Ok unit) refl write stands).same told j c rest
      ];
    }

-- a block that was written may be held
pub stands_held : (old new : Shown) (es after : Pairs) (capacity k : ℕ) (b : List ℕ) (result : Result Unit Failed) → Holds es capacity k b after → Writes old k b new result → IsOk result → StandsOn old es → StandsOn new after
stands_held old new es after capacity k b (Err failed) holds write done stands = cc
stands_held old new es after capacity k b (Ok unit) holds write done stands = by_case (block_at es k) refl
  where
    more : block_at es k ≡ None → StandsOn new ((k, b) ∷ take (capacity - 1) es)
    more absent = record {
      same = λ told j c in_it. elim (Contains-cons (k, b) (take (capacity - 1) es) (j, c) in_it) [
        | inl here ↦ subst (λ p. p.1 ≡ new.reads p.0) here (sym (write.written (subst IsTrue write.tells told)))
        | inr rest ↦ (stands_absent old new es k b (Ok unit) write stands absent).same told j c (Contains-take (capacity - 1) es (j, c) rest)
      ];
    }

    by_case : (o : Option (List ℕ)) → block_at es k ≡ o → StandsOn new after
    by_case None absent = elim (rw absent at holds.kept) [
      | inl first ↦ subst (StandsOn new) (sym first) (more absent)
      | inr same ↦ subst (StandsOn new) (sym same) (stands_absent old new es k b (Ok unit) write stands absent)
    ]
    by_case (Some was) found = stands_renewed old new es after k b (Ok unit) (record { held = holds.held; absent = rw found tt }) write done stands

-- one number more is forgotten
pub forgotten_more : (first : ℕ) (old es after : Pairs) → KeepsFrom first old es → after ≡ without es first → KeepsFrom (first + 1) old after
forgotten_more first old es after so_far is = record {
  kept = λ j b in_it.
      let left = left_over es first j b (subst (λ l. Contains l (j, b)) is in_it) in
      let was = so_far.kept j b left.0 in
      (omega (arith, was.0, other first j left.1), was.1);
}
  where
    other : (k j : ℕ) → nat_eq k j ≡ false → k ≢ j
    other k j test same = (let h = rw same at test in grind (arith, nat_tests, test, same))
