-- How many values of a map have a mark, where one is put, written or taken out.
use Rattle.std.proofs.Common.{◌≡◌, ◌≤◌, ℕ, ◌+◌, Bool, true, false, cond, List, ◌∷◌, Option, Some, None, is_some, length, refl, sym, ap, ◌∙◌, arith}
use Rattle.std.specs.declared.cmp.Ordering.{Ordering}
use Rattle.std.specs.Prelude.{count_by, sum_by, unwrap_or}
use Rattle.std.specs.Option.{option_map}
use Rattle.std.specs.Cmp.{IsTotalOrder}
use Rattle.std.specs.Map.{remove_entry, set_value, values_of}
use Rattle.std.specs.BTreeMap as maps
use Rattle.std.proofs.lemmas.List.Sums.{count_by-le-length, sum_by-cons}
use Rattle.std.proofs.lemmas.Map.Entries.{length-values_of, sum_by-insert_entry, sum_by-remove_entry, sum_by-set_value}

abbrev pub counted : Bool → ℕ
counted b = cond b 1 0

-- at most one
small : (b : Bool) → counted b ≤ 1
small true = omega arith
small false = omega arith

module _ {K V : Type 0} (cmp : K → K → Ordering) (mark : V → Bool) where
  abbrev weight : V → ℕ
  weight x = counted (mark x)

  abbrev marked_in : maps.BTreeMap K V → ℕ
  marked_in m = count_by mark (maps.values m)

  weighs_none : (o : Option V) → is_some o ≡ false → unwrap_or (option_map weight o) 0 ≡ 0
  weighs_none None absent = refl
  weighs_none (Some x) absent = absurd (let wrong : true ≡ false = absent in grind (arith, wrong))

  -- ---- from one map to another

  module _ (o n : maps.BTreeMap K V) where
    pub same_marked : n.entries ≡ o.entries → marked_in n ≡ marked_in o
    same_marked is = ap (λ (es : List (K × V)). sum_by weight (values_of es)) is

    pub same_count : n.entries ≡ o.entries → marked_in n ≤ marked_in o
    same_count is = let same = same_marked is in omega (arith, same)

    -- one value is put
    module _ (total : IsTotalOrder cmp) (k : K) (x : V) (ordered : maps.IsOrdered cmp o) (is : n.entries ≡ maps.insert_entry cmp o.entries k x) where
      put_count : marked_in n + unwrap_or (option_map weight (maps.get cmp o k)) 0 ≡ marked_in o + counted (mark x)
      put_count = ap (λ (es : List (K × V)). sum_by weight (values_of es) + unwrap_or (option_map weight (maps.get cmp o k)) 0) is ∙ sum_by-insert_entry weight total o.entries k x ordered

      pub put_one : marked_in n ≤ marked_in o + 1
      put_one = let most = small (mark x) in omega (arith, put_count, most)

      pub put_none : mark x ≡ false → marked_in n ≤ marked_in o
      put_none unmarked = let none : counted (mark x) ≡ 0 = ap counted unmarked in omega (arith, put_count, none)

      -- a count that is kept
      pub put_absent : is_some (maps.get cmp o k) ≡ false → (old new : ℕ) → old ≡ marked_in o → new ≡ old + counted (mark x) → new ≡ marked_in n
      put_absent absent old new kept is_new = let none = weighs_none (maps.get cmp o k) absent in omega (arith, put_count, none, kept, is_new)

      pub put_kept : (old new : ℕ) (before : Bool) → unwrap_or (option_map weight (maps.get cmp o k)) 0 ≡ counted before → old ≡ marked_in o → new + counted before ≡ old + counted (mark x) → new ≡ marked_in n
      put_kept old new before was kept is_new = omega (arith, put_count, was, kept, is_new)

    -- it is written
    module _ (k : K) (was now : V) (held : Some was ≡ maps.get cmp o k) (is : n.entries ≡ set_value (maps.is_at (cmp k)) o.entries now) where
      set_count : marked_in n + counted (mark was) ≡ marked_in o + counted (mark now)
      set_count = ap (λ (es : List (K × V)). sum_by weight (values_of es) + weight was) is ∙ sum_by-set_value weight (maps.is_at (cmp k)) o.entries was now (sym held)

      pub set_one : marked_in n ≤ marked_in o + 1
      set_one = let most = small (mark now) in omega (arith, set_count, most)

      pub set_again : mark was ≡ true → marked_in n ≤ marked_in o
      set_again marked =
          let most = small (mark now) in
          let one : counted (mark was) ≡ 1 = ap counted marked in
          omega (arith, set_count, most, one)

      pub set_kept : mark now ≡ true → (old new : ℕ) → old ≡ marked_in o → new + counted (mark was) ≡ old + 1 → new ≡ marked_in n
      set_kept marked old new kept is_new = let one : counted (mark now) ≡ 1 = ap counted marked in omega (arith, set_count, one, kept, is_new)

    -- it is taken out
    module _ (k : K) (is : n.entries ≡ remove_entry (maps.is_at (cmp k)) o.entries) where
      left_count : marked_in n + unwrap_or (option_map weight (maps.get cmp o k)) 0 ≡ marked_in o
      left_count = ap (λ (es : List (K × V)). sum_by weight (values_of es) + unwrap_or (option_map weight (maps.get cmp o k)) 0) is ∙ sum_by-remove_entry weight (maps.is_at (cmp k)) o.entries

      pub no_more : marked_in n ≤ marked_in o
      no_more = omega (arith, left_count)

      pub one_fewer : unwrap_or (option_map weight (maps.get cmp o k)) 0 ≡ 1 → marked_in n + 1 ≡ marked_in o
      one_fewer one = omega (arith, left_count, one)

      pub left_kept : (old new : ℕ) (before : Bool) → unwrap_or (option_map weight (maps.get cmp o k)) 0 ≡ counted before → old ≡ marked_in o → new + counted before ≡ old + 0 → new ≡ marked_in n
      left_kept old new before was kept is_new = omega (arith, left_count, was, kept, is_new)

  -- ---- one map

  -- a value that has the mark counts
  pub some_marked : (o : maps.BTreeMap K V) (k : K) → unwrap_or (option_map weight (maps.get cmp o k)) 0 ≡ 1 → 1 ≤ marked_in o
  some_marked o k one =
      let left : sum_by weight (values_of (remove_entry (maps.is_at (cmp k)) o.entries)) + unwrap_or (option_map weight (maps.get cmp o k)) 0 ≡ marked_in o = sum_by-remove_entry weight (maps.is_at (cmp k)) o.entries in
      omega (arith, left, one)

  pub few_marked : (o : maps.BTreeMap K V) → marked_in o ≤ maps.btree_map_len o
  few_marked o =
      let le : marked_in o ≤ length (maps.values o) = count_by-le-length mark (maps.values o) in
      let same : length (maps.values o) ≡ maps.btree_map_len o = length-values_of o.entries in
      omega (arith, le, same)

-- ---- entries one by one

abbrev pub counted_in : {K V : Type 0} → (V → Bool) → List (K × V) → ℕ
counted_in mark es = sum_by (λ x. counted (mark x)) (values_of es)

pub counted_more : {K V : Type 0} (mark : V → Bool) (e : K × V) (es : List (K × V)) → counted_in mark (e ∷ es) ≡ cond (mark e.1) 1 0 + counted_in mark es
counted_more mark e es = sum_by-cons (λ x. counted (mark x)) e.1 (values_of es)
