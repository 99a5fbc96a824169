-- The lists of held pairs.
use Rattle.std.proofs.Common.{◌≡◌, ℕ, zero, suc, ◌-◌, ◌<◌, ◌≤◌, true, false, cond, not, List, [], ◌∷◌, length, take, Some, None, refl, sym, ap, subst, ◌∙◌, ⊎_elim, arith, nat_eq}
use Rattle.std.specs.List.{IsDistinct, AllByRecursion}
use Rattle.std.specs.Map.{keys_of, lookup, lookup_entry, remove_entry, set_value}
use Rattle.std.specs.Option.{option_map_or}
use Rattle.std.proofs.lemmas.Bool.{cases_Bool}
use Rattle.std.proofs.lemmas.Bool.Decides.{nat_tests}
use Rattle.lru.specs.LruCache.{lru_cache, promoted, put_entries}
use Rattle.fv_store.specs.Held.{Pairs, held, block_at, without, to_front, IsStore}

same_number : (k j : ℕ) → nat_eq k j ≡ true → j ≡ k
same_number k j same = grind (arith, nat_tests, same)

-- a list in which no number is this one is kept
kept_whole : (es : Pairs) (k : ℕ) → AllByRecursion (λ y. nat_eq k y ≡ false) (keys_of es) → without es k ≡ es
unfolding without
kept_whole [] k all = refl
kept_whole (e ∷ es) k all =
    ap (λ t. cond (not t) (e ∷ without es k) (without es k)) all.0 ∙ ap (λ l. e ∷ l) (kept_whole es k all.1)

pub without_first : (e : ℕ × List ℕ) (es : Pairs) (k : ℕ) → nat_eq k e.0 ≡ true → without (e ∷ es) k ≡ without es k
unfolding without
without_first e es k same = ap (λ t. cond (not t) (e ∷ without es k) (without es k)) same

pub without_other : (e : ℕ × List ℕ) (es : Pairs) (k : ℕ) → nat_eq k e.0 ≡ false → without (e ∷ es) k ≡ e ∷ without es k
unfolding without
without_other e es k other = ap (λ t. cond (not t) (e ∷ without es k) (without es k)) other

-- the first pair of a number is the one, where numbers are distinct
removed_distinct : (es : Pairs) (k : ℕ) → IsDistinct nat_eq (keys_of es) → remove_entry (nat_eq k) es ≡ without es k
unfolding IsDistinct without
removed_distinct [] k d = refl
removed_distinct (e ∷ es) k d = ⊎_elim (λ same.
    let at : AllByRecursion (λ y. nat_eq k y ≡ false) (keys_of es) = subst (λ j. AllByRecursion (λ y. nat_eq j y ≡ false) (keys_of es)) (same_number k e.0 same) d.0 in
    ap (λ t. cond t es (e ∷ remove_entry (nat_eq k) es)) same ∙ sym (without_first e es k same ∙ kept_whole es k at)) (λ other.
    ap (λ t. cond t es (e ∷ remove_entry (nat_eq k) es)) other ∙ ap (λ l. e ∷ l) (removed_distinct es k d.1) ∙ sym (without_other e es k other)) (cases_Bool (nat_eq k e.0))

pub removed_is : (es : Pairs) (capacity k : ℕ) → IsStore (held es capacity) → remove_entry (nat_eq k) es ≡ without es k
removed_is es capacity k store = removed_distinct es k store.distinct

-- the entry that a look-up finds
entry_found : (es : Pairs) (k : ℕ) (b : List ℕ) → lookup (nat_eq k) es ≡ Some b → lookup_entry (nat_eq k) es ≡ Some (k, b)
entry_found [] k b found = cc
entry_found (e ∷ es) k b found = ⊎_elim (λ same.
    let here : e.1 ≡ b = (let h = rw same at found in cc) in
    ap (λ t. cond t (Some e) (lookup_entry (nat_eq k) es)) same ∙ ap Some (ap (λ j. (j, e.1)) (same_number k e.0 same) ∙ ap (λ c. (k, c)) here)) (λ other.
    ap (λ t. cond t (Some e) (lookup_entry (nat_eq k) es)) other ∙ entry_found es k b (rw other at found)) (cases_Bool (nat_eq k e.0))

entry_absent : (es : Pairs) (k : ℕ) → lookup (nat_eq k) es ≡ None → lookup_entry (nat_eq k) es ≡ None
entry_absent [] k absent = refl
entry_absent (e ∷ es) k absent = ⊎_elim (λ same. (let h = rw same at absent in cc)) (λ other.
    ap (λ t. cond t (Some e) (lookup_entry (nat_eq k) es)) other ∙ entry_absent es k (rw other at absent)) (cases_Bool (nat_eq k e.0))

-- a held pair comes to the front
pub promoted_is : (es : Pairs) (capacity k : ℕ) (b : List ℕ) → IsStore (held es capacity) → block_at es k ≡ Some b → promoted (nat_eq k) es ≡ to_front es k b
promoted_is es capacity k b store found =
    ap (λ o. option_map_or (λ e. e ∷ remove_entry (nat_eq k) es) o es) (entry_found es k b found)
    ∙ ap (λ l. (k, b) ∷ l) (removed_is es capacity k store)

pub promoted_none : (es : Pairs) (k : ℕ) → block_at es k ≡ None → promoted (nat_eq k) es ≡ es
promoted_none es k absent = ap (λ o. option_map_or (λ e. e ∷ remove_entry (nat_eq k) es) o es) (entry_absent es k absent)

-- a new pair is put
pub put_absent : (es : Pairs) (capacity k : ℕ) (v : List ℕ) → block_at es k ≡ None → put_entries nat_eq (lru_cache es capacity) k v ≡ (k, v) ∷ take (capacity - 1) es
put_absent es capacity k v absent =
    ap (λ o. option_map_or (λ e. (e.0, v) ∷ remove_entry (nat_eq k) es) o ((k, v) ∷ take (capacity - 1) es)) (entry_absent es k absent)

-- a block is written over a held one, if there is one
pub overwritten_absent : (es : Pairs) (k : ℕ) (v : List ℕ) → block_at es k ≡ None → set_value (nat_eq k) es v ≡ es
overwritten_absent [] k v absent = refl
overwritten_absent (e ∷ es) k v absent = ⊎_elim (λ same. (let h = rw same at absent in cc)) (λ other.
    ap (λ t. cond t ((e.0, v) ∷ es) (e ∷ set_value (nat_eq k) es v)) other ∙ ap (λ l. e ∷ l) (overwritten_absent es k v (rw other at absent))) (cases_Bool (nat_eq k e.0))

entry_overwritten : (es : Pairs) (k : ℕ) (b v : List ℕ) → block_at es k ≡ Some b → lookup_entry (nat_eq k) (set_value (nat_eq k) es v) ≡ Some (k, v)
entry_overwritten [] k b v found = cc
entry_overwritten (e ∷ es) k b v found = ⊎_elim (λ same.
    ap (λ t. lookup_entry (nat_eq k) (cond t ((e.0, v) ∷ es) (e ∷ set_value (nat_eq k) es v))) same
    ∙ ap (λ t. cond t (Some (e.0, v)) (lookup_entry (nat_eq k) es)) same ∙ ap Some (ap (λ j. (j, v)) (same_number k e.0 same))) (λ other.
    ap (λ t. lookup_entry (nat_eq k) (cond t ((e.0, v) ∷ es) (e ∷ set_value (nat_eq k) es v))) other
    ∙ ap (λ t. cond t (Some e) (lookup_entry (nat_eq k) (set_value (nat_eq k) es v))) other ∙ entry_overwritten es k b v (rw other at found)) (cases_Bool (nat_eq k e.0))

removed_overwritten : (es : Pairs) (k : ℕ) (v : List ℕ) → remove_entry (nat_eq k) (set_value (nat_eq k) es v) ≡ remove_entry (nat_eq k) es
removed_overwritten [] k v = refl
removed_overwritten (e ∷ es) k v = ⊎_elim (λ same.
    ap (λ t. remove_entry (nat_eq k) (cond t ((e.0, v) ∷ es) (e ∷ set_value (nat_eq k) es v))) same
    ∙ ap (λ t. cond t es ((e.0, v) ∷ remove_entry (nat_eq k) es)) same ∙ sym (ap (λ t. cond t es (e ∷ remove_entry (nat_eq k) es)) same)) (λ other.
    ap (λ t. remove_entry (nat_eq k) (cond t ((e.0, v) ∷ es) (e ∷ set_value (nat_eq k) es v))) other
    ∙ ap (λ t. cond t (set_value (nat_eq k) es v) (e ∷ remove_entry (nat_eq k) (set_value (nat_eq k) es v))) other
    ∙ ap (λ l. e ∷ l) (removed_overwritten es k v) ∙ sym (ap (λ t. cond t es (e ∷ remove_entry (nat_eq k) es)) other)) (cases_Bool (nat_eq k e.0))

pub overwritten_front : (es : Pairs) (capacity k : ℕ) (b v : List ℕ) → IsStore (held es capacity) → block_at es k ≡ Some b → promoted (nat_eq k) (set_value (nat_eq k) es v) ≡ to_front es k v
overwritten_front es capacity k b v store found =
    ap (λ o. option_map_or (λ e. e ∷ remove_entry (nat_eq k) (set_value (nat_eq k) es v)) o (set_value (nat_eq k) es v)) (entry_overwritten es k b v found)
    ∙ ap (λ l. (k, v) ∷ l) (removed_overwritten es k v ∙ removed_is es capacity k store)

-- ---- distinct numbers

-- none of the numbers is this one
abbrev IsFresh : ℕ → Pairs → Type 0
IsFresh k es = AllByRecursion (λ y. nat_eq k y ≡ false) (keys_of es)

fresh_where_absent : (es : Pairs) (k : ℕ) → block_at es k ≡ None → IsFresh k es
fresh_where_absent [] k absent = tt
fresh_where_absent (e ∷ es) k absent = ⊎_elim (λ same. (let h = rw same at absent in cc)) (λ other. (other, fresh_where_absent es k (rw other at absent))) (cases_Bool (nat_eq k e.0))

fresh_without : (es : Pairs) (j k : ℕ) → IsFresh j es → IsFresh j (without es k)
unfolding without
fresh_without [] j k fresh = tt
fresh_without (e ∷ es) j k fresh = ⊎_elim (λ same. subst (IsFresh j) (sym (without_first e es k same)) (fresh_without es j k fresh.1)) (λ other. subst (IsFresh j) (sym (without_other e es k other)) (fresh.0, fresh_without es j k fresh.1)) (cases_Bool (nat_eq k e.0))

fresh_front : (es : Pairs) (k : ℕ) → IsFresh k (without es k)
unfolding without
fresh_front [] k = tt
fresh_front (e ∷ es) k = ⊎_elim (λ same. subst (IsFresh k) (sym (without_first e es k same)) (fresh_front es k)) (λ other. subst (IsFresh k) (sym (without_other e es k other)) (other, fresh_front es k)) (cases_Bool (nat_eq k e.0))

fresh_take : (es : Pairs) (n k : ℕ) → IsFresh k es → IsFresh k (take n es)
fresh_take es zero k fresh = tt
fresh_take [] (suc n) k fresh = tt
fresh_take (e ∷ es) (suc n) k fresh = (fresh.0, fresh_take es n k fresh.1)

distinct_without : (es : Pairs) (k : ℕ) → IsDistinct nat_eq (keys_of es) → IsDistinct nat_eq (keys_of (without es k))
unfolding IsDistinct without
distinct_without [] k d = tt
distinct_without (e ∷ es) k d = ⊎_elim (λ same. subst (λ l. IsDistinct nat_eq (keys_of l)) (sym (without_first e es k same)) (distinct_without es k d.1)) (λ other. subst (λ l. IsDistinct nat_eq (keys_of l)) (sym (without_other e es k other)) (fresh_without es e.0 k d.0, distinct_without es k d.1)) (cases_Bool (nat_eq k e.0))

distinct_take : (es : Pairs) (n : ℕ) → IsDistinct nat_eq (keys_of es) → IsDistinct nat_eq (keys_of (take n es))
unfolding IsDistinct
distinct_take es zero d = tt
distinct_take [] (suc n) d = tt
distinct_take (e ∷ es) (suc n) d = (fresh_take es n e.0 d.0, distinct_take es n d.1)

distinct_more : (es : Pairs) (k : ℕ) (b : List ℕ) → IsFresh k es → IsDistinct nat_eq (keys_of es) → IsDistinct nat_eq (keys_of ((k, b) ∷ es))
unfolding IsDistinct
distinct_more es k b fresh d = (fresh, d)

-- ---- how many there are

few_without : (es : Pairs) (k : ℕ) → length (without es k) ≤ length es
unfolding without
few_without [] k = omega arith
few_without (e ∷ es) k = ⊎_elim (λ same. omega (arith, ap length (without_first e es k same), few_without es k)) (λ other. omega (arith, ap length (without_other e es k other), few_without es k)) (cases_Bool (nat_eq k e.0))

fewer_without : (es : Pairs) (k : ℕ) (b : List ℕ) → block_at es k ≡ Some b → length (without es k) < length es
fewer_without [] k b found = cc
fewer_without (e ∷ es) k b found = ⊎_elim (λ same. omega (arith, ap length (without_first e es k same), few_without es k)) (λ other. omega (arith, ap length (without_other e es k other), fewer_without es k b (rw other at found))) (cases_Bool (nat_eq k e.0))

few_taken : (es : Pairs) (n : ℕ) → length (take n es) ≤ n
few_taken es zero = omega arith
few_taken [] (suc n) = omega arith
few_taken (e ∷ es) (suc n) = omega (arith, few_taken es n)

-- ---- what holds of every store, after each change

pub store_front : (es : Pairs) (capacity k : ℕ) (b v : List ℕ) → IsStore (held es capacity) → block_at es k ≡ Some b → IsStore (held (to_front es k v) capacity)
store_front es capacity k b v store found = record {
  distinct = distinct_more (without es k) k v (fresh_front es k) (distinct_without es k store.distinct);
  bounded = omega (arith, fewer_without es k b found, store.bounded);
  room = store.room;
}

pub store_without : (es : Pairs) (capacity k : ℕ) → IsStore (held es capacity) → IsStore (held (without es k) capacity)
store_without es capacity k store = record {
  distinct = distinct_without es k store.distinct;
  bounded = omega (arith, few_without es k, store.bounded);
  room = store.room;
}

pub store_more : (es : Pairs) (capacity k : ℕ) (v : List ℕ) → IsStore (held es capacity) → block_at es k ≡ None → IsStore (held ((k, v) ∷ take (capacity - 1) es) capacity)
store_more es capacity k v store absent = record {
  distinct = distinct_more (take (capacity - 1) es) k v (fresh_take es (capacity - 1) k (fresh_where_absent es k absent)) (distinct_take es (capacity - 1) store.distinct);
  bounded = omega (arith, few_taken es (capacity - 1), store.room);
  room = store.room;
}
