-- The table of two rows, by those of each.
use Rattle.std.proofs.Common.{◌≡◌, ◌≢◌, ℕ, ◌+◌, ◌<◌, ◌≤◌, ◌==◌, List, ◌++◌, filter, get_or, length, min, set, sym, ap, subst, ◌∙◌, ⊎_elim, arith}
use Rattle.std.proofs.lemmas.Bool.{cases_eq}
use Rattle.std.proofs.lemmas.List.{get_or-set_other, get_or-set_same}
use Rattle.std.proofs.lemmas.List.Elements.{filter-append}
use Rattle.std.proofs.lemmas.List.Sums.{sum_by-append}
use Rattle.fv_delay.specs.declared.counts.Count.{Count}
use Rattle.fv_delay.specs.declared.threshold.Table.{Table}
use Rattle.fv_delay.specs.Choice.{full_count, is_full, total}
use Rattle.fv_delay.specs.ByThreshold.{IsTable, level, most_blocks}

-- the sum of two numbers, as far as 64 bits go
abbrev pub joined : ℕ → ℕ → ℕ
joined a b = min (a + b) most_blocks

sums_join : (a b m n k : ℕ) → a ≡ min m most_blocks → b ≡ min n most_blocks → k ≡ m + n → joined a b ≡ min k most_blocks
sums_join a b m n k first second sum = omega (arith, first, second, sum)

-- Each number of the table is the sum of theirs.
pub table_joined : (old other new : Table) (xs ys : List Count) → IsTable old xs → IsTable other ys → new.all ≡ joined old.all other.all → new.full ≡ joined old.full other.full
    → ((n d : ℕ) → n < full_count → get_or new.partial n d ≡ joined (get_or old.partial n 0) (get_or other.partial n 0)) → IsTable new (xs ++ ys)
table_joined old other new xs ys is more all full partial = record {
  all = all ∙ sums_join old.all other.all (total xs) (total ys) (total (xs ++ ys)) is.all more.all (sum_by-append (λ (c : Count). c.count) xs ys);
  full = full ∙ sums_join old.full other.full (total (filter is_full xs)) (total (filter is_full ys)) (total (filter is_full (xs ++ ys))) is.full more.full
      (ap total (filter-append is_full xs ys) ∙ sum_by-append (λ (c : Count). c.count) (filter is_full xs) (filter is_full ys));
  partial = λ n d lt. partial n d lt
      ∙ sums_join (get_or old.partial n 0) (get_or other.partial n 0) (total (level n xs)) (total (level n ys)) (total (level n (xs ++ ys))) (is.partial n 0 lt) (more.partial n 0 lt)
      (ap total (filter-append (λ (c : Count). c.count == n) xs ys) ∙ sum_by-append (λ (c : Count). c.count) (level n xs) (level n ys));
}

-- one number more is joined
pub joined_more : (old other was : List ℕ) (at sum : ℕ) → at < length was → sum ≡ joined (get_or was at 0) (get_or other at 0) → get_or was at 0 ≡ get_or old at 0
    → ((n d : ℕ) → n < at → get_or was n d ≡ joined (get_or old n 0) (get_or other n 0)) → (n d : ℕ) → n < at + 1 → get_or (set was at sum) n d ≡ joined (get_or old n 0) (get_or other n 0)
joined_more old other was at sum within is still done n d lt = ⊎_elim
    (λ (e : n ≡ at). subst (λ (k : ℕ). get_or (set was at sum) k d ≡ joined (get_or old k 0) (get_or other k 0)) (sym e)
    (get_or-set_same was at sum d within ∙ is ∙ ap (λ (k : ℕ). joined k (get_or other at 0)) still))
    (λ (ne : n ≢ at). get_or-set_other was at n sum d ne ∙ done n d (omega (arith, lt, ne)))
    (cases_eq n at)

-- and those behind it stay
pub joined_rest : (old was : List ℕ) (at sum : ℕ) → ((n : ℕ) → at ≤ n → get_or was n 0 ≡ get_or old n 0) → (n : ℕ) → at + 1 ≤ n → get_or (set was at sum) n 0 ≡ get_or old n 0
joined_rest old was at sum rest n past =
    let other : n ≢ at = λ (e : n ≡ at). omega (arith, past, e) in
    get_or-set_other was at n sum 0 other ∙ rest n (omega (arith, past))
