-- How many files a table has, by the numbers that are taken.
use Rattle.std.proofs.Common.{◌≡◌, ℕ, zero, suc, ◌+◌, ◌<◌, ◌≤◌, Bool, true, false, cond, List, [], ◌∷◌, ◌++◌, length, Option, Some, None, is_some, refl, sym, ap, ◌∙◌, arith, ⊎_elim}
use Rattle.std.specs.Option.{option_map}
use Rattle.std.specs.List.{list_any, range_with_len}
use Rattle.std.specs.Ordering.{nat_cmp, eq_by_cmp}
use Rattle.std.specs.Cmp.{nat_cmp_total}
use Rattle.std.specs.FinMap as fin
use Rattle.std.proofs.lemmas.Bool.{both_ways, cases_eq, cases_lt}
use Rattle.std.proofs.lemmas.Bool.Decides.{nat_tests}
use Rattle.fv_model.specs.Numbers.{most_files}
use Rattle.fv_model.specs.Tables.{File, Table, free_number}
use Rattle.fv_laws.specs.WellFormed.{IsWellTable}
use Rattle.fv_laws.proofs.Tables.{free_is_free, free_is_least, free_low}
use Rattle.fv_codec.specs.declared.inode.InodeRecord.{InodeRecord}
use Rattle.fv_tables.specs.Told.{Standing, entry_or, file_at, file_in, file_told, listed, table_told, tree_of}
use Rattle.fv_tables.proofs.Lists.{any_in_range, found}
use Rattle.fv_tables.proofs.Tables.{files_told}
use Rattle.fv_volume.proofs.Lookups.{listed_entries}

-- ---- as many as numbers at most

same_key : (n : ℕ) → eq_by_cmp nat_cmp n n ≡ true
same_key n = grind (arith, nat_tests)

range_long : (from count : ℕ) → length (range_with_len from count) ≡ count
range_long from zero = refl
range_long from (suc count) = ap suc (range_long (from + 1) count)

module _ {X : Type 0} where
  short : (f : ℕ → Option X) (ns : List ℕ) → length (listed f ns) ≤ length ns
  unfolding listed
  short f [] = omega arith
  short f (n ∷ ns) = by (f n) (short f ns)
    where
      by : (o : Option X) → length (listed f ns) ≤ length ns → length (entry_or n o ++ listed f ns) ≤ suc (length ns)
      by None rest = omega (arith, rest)
      by (Some x) rest = omega (arith, rest)

  -- a map whose keys are below a number has as many at most
  keys_below : (m : fin.FinMap nat_cmp X) (bound : ℕ) → ((n : ℕ) (x : X) → fin.get m n ≡ Some x → n < bound) → fin.len m ≤ bound
  keys_below m bound below =
      let es = listed (fin.get m) (range_with_len 0 bound) in
      let same : m ≡ fin.from_entries {R = nat_cmp} es = fin.same_map nat_cmp_total fin.nat_cmp-IsAntisymmetric m (fin.from_entries es) (λ q. sym (here q)) in
      let long : fin.len m ≡ length es = ap fin.len same ∙ fin.len-entries (fin.from_entries {R = nat_cmp} es) ∙ ap length (listed_entries (fin.get m) 0 bound) in
      let most = short (fin.get m) (range_with_len 0 bound) in
      let count = range_long 0 bound in
      omega (arith, long, most, count)
    where
      absent : (q : ℕ) (o : Option X) → fin.get m q ≡ o → bound ≤ q → o ≡ None
      absent q None e far = refl
      absent q (Some x) e far = absurd (let near = below q x e in omega (arith, near, far))

      here : (q : ℕ) → fin.get (fin.from_entries {R = nat_cmp} (listed (fin.get m) (range_with_len 0 bound))) q ≡ fin.get m q
      here q =
          fin.get-from_entries nat_cmp_total (listed (fin.get m) (range_with_len 0 bound)) q
          ∙ found nat_cmp fin.nat_cmp-IsAntisymmetric (fin.get m) (range_with_len 0 bound) q
          ∙ so (list_any (eq_by_cmp nat_cmp q) (range_with_len 0 bound)) refl
        where
          so : (b : Bool) → list_any (eq_by_cmp nat_cmp q) (range_with_len 0 bound) ≡ b → cond b (fin.get m q) None ≡ fin.get m q
          so true e = refl
          so false e = ⊎_elim
              (λ (inside : q < bound). absurd (both_ways _ e (any_in_range (eq_by_cmp nat_cmp q) q 0 bound (omega arith) (omega (arith, inside)) (same_key q))))
              (λ far. sym (absent q (fin.get m q) refl far))
              (cases_lt q bound)

-- ---- a table with a free number, and one without

module _ (t : Table) (now : ℕ) (well : IsWellTable now t) where
  -- where a number is free, the table doesn't have all files
  pub some_free : (n : ℕ) (f : File) → n < most_files → fin.get t.files n ≡ None → fin.len t.files < most_files
  some_free n f near none =
      let more = fin.insert t.files n f in
      let count : fin.len more ≡ fin.len t.files + 1 = fin.len-insert nat_cmp_total t.files n f ∙ ap (λ (o : Option File). cond (is_some o) (fin.len t.files) (fin.len t.files + 1)) none in
      let most = keys_below more most_files in_range in
      omega (arith, count, most)
    where
      in_range : (k : ℕ) (g : File) → fin.get (fin.insert t.files n f) k ≡ Some g → k < most_files
      in_range k g there = by (eq_by_cmp nat_cmp k n) refl (sym (fin.get-insert nat_cmp_total t.files n f k) ∙ there)
        where
          by : (b : Bool) → eq_by_cmp nat_cmp k n ≡ b → cond b (Some f) (fin.get t.files k) ≡ Some g → k < most_files
          by true e is = let same : k ≡ n = grind (arith, nat_tests, e) in omega (arith, same, near)
          by false e is = well.numbers k g is

-- where all numbers are taken, it has all files
pub none_free : (t : Table) → ((n : ℕ) → n < most_files → is_some (fin.get t.files n) ≡ true) → most_files ≤ fin.len t.files
none_free t all = ⊎_elim
    (λ (near : free_number t < most_files). absurd (both_ways _ (free_is_free t) (all (free_number t) near)))
    (λ far. let low = free_low t in omega (arith, far, low))
    (cases_lt (free_number t) most_files)

module _ (x : Standing) where
  pub none_told : (n : ℕ) → file_at x.inode n ≡ None → fin.get (table_told x).files n ≡ None
  unfolding file_in
  none_told n free = files_told x n ∙ ap (option_map (λ r. file_told (tree_of x n r) r)) free

  pub some_told : (n : ℕ) → is_some (file_at x.inode n) ≡ true → is_some (fin.get (table_told x).files n) ≡ true
  unfolding file_in
  some_told n some = ap is_some (files_told x n) ∙ mapped (file_at x.inode n) some
    where
      mapped : (o : Option InodeRecord) → is_some o ≡ true → is_some (option_map (λ r. file_told (tree_of x n r) r) o) ≡ true
      mapped None is = absurd cc
      mapped (Some r) is = refl

  -- the least number that no record has is the one that the machine takes
  pub least_is : (n : ℕ) → file_at x.inode n ≡ None → ((k : ℕ) → k < n → is_some (file_at x.inode k) ≡ true) → free_number (table_told x) ≡ n
  least_is n free least = ⊎_elim
      (λ (less : free_number (table_told x) < n). absurd (both_ways _ (free_is_free (table_told x)) (some_told (free_number (table_told x)) (least (free_number (table_told x)) less))))
      (λ (ge : n ≤ free_number (table_told x)). ⊎_elim
      (λ (same : free_number (table_told x) ≡ n). same)
      (λ other. absurd (both_ways _ (ap is_some (none_told n free)) (free_is_least (table_told x) n (omega (arith, ge, other)))))
      (cases_eq (free_number (table_told x)) n))
      (cases_lt (free_number (table_told x)) n)
