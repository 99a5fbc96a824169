-- The numbers of a table's files in memory, and the table.
use Rattle.std.proofs.Common.{◌≡◌, ℕ, ◌*◌, ◌^◌, ◌<◌, ◌≤◌, Bool, true, false, cond, not, nat_eq, ◌&&◌, ◌||◌, List, [], ◌∷◌, ◌++◌, map, refl, sym, ap, subst, ◌∙◌, arith, ⊎_elim, inl, inr}
use Rattle.std.specs.Prelude.{Option, Some, None, is_some, Result, Ok, Err, IfOk}
use Rattle.std.specs.List.{list_any, range_with_len}
use Rattle.std.specs.Map.{values_of, lookup}
use Rattle.std.specs.Option.{option_map}
use Rattle.std.specs.Ordering.{nat_cmp, is_eq}
use Rattle.std.specs.BTreeMap as maps
use Rattle.std.specs.FinMap as fin
use Rattle.std.specs.FinMap.{find}
use Rattle.std.proofs.lemmas.Bool.{both_ways, cases_lt}
use Rattle.std.proofs.lemmas.Bool.Decides.{nat_tests}
use Rattle.std.proofs.lemmas.Cmp.{nat_cmp_total}
use Rattle.fv_codec.specs.declared.inode.InodeRecord.{InodeRecord}
use Rattle.fv_model.specs.Numbers.{most_files}
use Rattle.fv_model.specs.Spelling.{is_same_name, name_cmp}
use Rattle.fv_model.specs.Tables.{File, Table}
use Rattle.fv_model.specs.Trees.{fan}
use Rattle.fv_laws.specs.WellFormed.{IsWellTable}
use Rattle.fv_laws.proofs.Changes.{itself, same_name}
use Rattle.fv_laws.proofs.Lists.{In}
use Rattle.fv_laws.proofs.Room.{entry_there}
use Rattle.fv_tables.specs.Told.{Standing, records_each, entry_or, listed, file_at, file_in, file_told, tree_of, table_told}
use Rattle.fv_tables.proofs.Lists.{any_in_range}
use Rattle.fv_tables.proofs.Tables.{files_told, no_file}
use Rattle.fv_inode.specs.declared.info.Info.{Info}
use Rattle.fv_inode.specs.Files.{has_name, info_of, name_of, Finds, HasNone, IsFreeNumber, IsLeastFree}
use Rattle.fv_inode.specs.Listing.{names_from, names_told, numbers_in}
use Rattle.fv_inode.proofs.Views.{entries_of, name_total}
use Rattle.fv_files.specs.declared.numbers.FileNumbers.{FileNumbers}
use Rattle.fv_files.specs.Numbering.{has_value, is_taken, number_of, AreNumbersOf, HasName, IsNamed, IsUnnamed}
use Rattle.fv_tree.proofs.Brought.{some_same}
use Rattle.fv_files.proofs.Tables.{file_there}

same_number : (n : ℕ) → nat_eq n n ≡ true
same_number n = grind (arith, nat_tests)

is_number : (n k : ℕ) → nat_eq n k ≡ true → n ≡ k
is_number n k e = grind (arith, nat_tests, e)

-- ---- maps in memory

-- the number of a name, as the finite map has it
same_find : (es : List (List ℕ × ℕ)) (q : List ℕ) → find name_cmp q es ≡ lookup (λ k. is_eq (name_cmp q k)) es
same_find [] q = refl
same_find (e ∷ es) q = ap (λ r. cond (is_eq (name_cmp q e.0)) (Some e.1) r) (same_find es q)

in_map : (m : maps.BTreeMap (List ℕ) ℕ) (q : List ℕ) → fin.get (numbers_in m) q ≡ maps.get name_cmp m q
in_map m q = fin.get-from_entries name_total m.entries q ∙ same_find m.entries q

-- a value that was found is among the values
value_found : (es : List (List ℕ × ℕ)) (test : List ℕ → Bool) (n : ℕ) → lookup test es ≡ Some n → list_any (nat_eq n) (values_of es) ≡ true
value_found [] test n e = absurd cc
value_found (x ∷ es) test n e = by (λ h. value_found es test n h) (test x.0) e
  where
    or_true : (b : Bool) → (b || true) ≡ true
    or_true true = refl
    or_true false = refl

    by : (lookup test es ≡ Some n → list_any (nat_eq n) (values_of es) ≡ true) → (b : Bool) → cond b (Some x.1) (lookup test es) ≡ Some n → (nat_eq n x.1 || list_any (nat_eq n) (values_of es)) ≡ true
    by rest true h = let same : x.1 ≡ n = some_same x.1 n h in ap (λ b. b || list_any (nat_eq n) (values_of es)) (ap (nat_eq n) same ∙ same_number n)
    by rest false h = ap (λ b. nat_eq n x.1 || b) (rest h) ∙ or_true (nat_eq n x.1)

-- and a value is that of an entry
value_entry : (es : List (List ℕ × ℕ)) (n : ℕ) → list_any (nat_eq n) (values_of es) ≡ true → (k : List ℕ) × In (k, n) es
value_entry [] n e = absurd cc
value_entry (x ∷ es) n e = by (λ h. value_entry es n h) (nat_eq n x.1) refl e
  where
    by : (list_any (nat_eq n) (values_of es) ≡ true → (k : List ℕ) × In (k, n) es) → (b : Bool) → nat_eq n x.1 ≡ b → (b || list_any (nat_eq n) (values_of es)) ≡ true → (k : List ℕ) × In (k, n) (x ∷ es)
    by rest true is h = let same : n ≡ x.1 = is_number n x.1 is in (x.0, inl (λ i. (x.0, sym same i)))
    by rest false is h = let later = rest h in (later.0, inr later.1)

-- ---- the files of an inode file by their names

module _ (f : ℕ → Option InodeRecord) (q : List ℕ) where
  abbrev by_record : ℕ × InodeRecord → List ℕ × ℕ
  by_record e = (name_of e.1, e.0)

  -- what is found has the name
  found_named : (ns : List ℕ) (n : ℕ) → find name_cmp q (map by_record (listed f ns)) ≡ Some n → (r : InodeRecord) × ((f n ≡ Some r) × (q ≡ name_of r))
  unfolding listed
  found_named [] n e = absurd cc
  found_named (k ∷ ns) n e = by (λ h. found_named ns n h) (f k) refl e
    where
      Named : Type 0
      Named = (r : InodeRecord) × ((f n ≡ Some r) × (q ≡ name_of r))

      here : (find name_cmp q (map by_record (listed f ns)) ≡ Some n → Named) → (r : InodeRecord) → f k ≡ Some r → (b : Bool) → is_same_name q (name_of r) ≡ b → cond b (Some k) (find name_cmp q (map by_record (listed f ns))) ≡ Some n → Named
      here rest r at true is h = let same : k ≡ n = some_same k n h in (r, (ap f (sym same) ∙ at, same_name q (name_of r) is))
      here rest r at false is h = rest h

      by : (find name_cmp q (map by_record (listed f ns)) ≡ Some n → Named) → (o : Option InodeRecord) → f k ≡ o → find name_cmp q (map by_record (entry_or k o ++ listed f ns)) ≡ Some n → Named
      by rest None at h = rest h
      by rest (Some r) at h = here rest r at (is_same_name q (name_of r)) refl h

  -- and what has it is found, or another one
  named_found : (ns : List ℕ) (n : ℕ) (r : InodeRecord) → f n ≡ Some r → q ≡ name_of r → list_any (nat_eq n) ns ≡ true → is_some (find name_cmp q (map by_record (listed f ns))) ≡ true
  unfolding listed
  named_found [] n r at named there = absurd cc
  named_found (k ∷ ns) n r at named there = by (λ h. named_found ns n r at named h) (nat_eq n k) refl there (f k) refl
    where
      either : (b : Bool) (x : ℕ) (o : Option ℕ) → is_some o ≡ true → is_some (cond b (Some x) o) ≡ true
      either true x o is = refl
      either false x o is = is

      by : (list_any (nat_eq n) ns ≡ true → is_some (find name_cmp q (map by_record (listed f ns))) ≡ true) → (b : Bool) → nat_eq n k ≡ b → (b || list_any (nat_eq n) ns) ≡ true → (o : Option InodeRecord) → f k ≡ o
          → is_some (find name_cmp q (map by_record (entry_or k o ++ listed f ns))) ≡ true
      by rest true is h None e = let wrong : None ≡ Some r = sym e ∙ ap f (sym (is_number n k is)) ∙ at in absurd cc
      by rest true is h (Some s) e =
          let same : s ≡ r = some_same s r (sym e ∙ ap f (sym (is_number n k is)) ∙ at) in
          let test : is_same_name q (name_of s) ≡ true = ap (λ (x : InodeRecord). is_same_name q (name_of x)) same ∙ ap (is_same_name q) (sym named) ∙ itself q in
          ap (λ b. is_some (cond b (Some k) (find name_cmp q (map by_record (listed f ns))))) test
      by rest false is h None e = rest h
      by rest false is h (Some s) e = either (is_same_name q (name_of s)) k (find name_cmp q (map by_record (listed f ns))) (rest h)

-- ---- a table and its inode file

module _ (x : Standing) where
  abbrev t : Table
  t = table_told x

  -- the record of a file that has a name
  pub record_named : (n : ℕ) (q : List ℕ) → HasName t n q → (r : InodeRecord) × ((file_at x.inode n ≡ Some r) × (name_of r ≡ q))
  unfolding file_in file_told
  record_named n q has = by (file_at x.inode n) refl (sym (files_told x n) ∙ has.there)
    where
      by : (o : Option InodeRecord) → file_at x.inode n ≡ o → option_map (λ r. file_told (tree_of x n r) r) o ≡ Some has.file → (r : InodeRecord) × ((file_at x.inode n ≡ Some r) × (name_of r ≡ q))
      by None at is = absurd cc
      by (Some r) at is = (r, (at, ap (λ (f : File). f.name) (some_same (file_told (tree_of x n r) r) has.file is) ∙ has.named))

  -- a file whose record has it
  pub named_record : (n : ℕ) (r : InodeRecord) → file_at x.inode n ≡ Some r → HasName t n (name_of r)
  unfolding file_told
  named_record n r at = record { file = file_told (tree_of x n r) r; there = files_told x n ∙ file_there x n r at; named = refl }

  -- as many numbers have a file as have a record
  same_some : (n : ℕ) → is_some (fin.get t.files n) ≡ is_some (file_at x.inode n)
  unfolding file_in
  same_some n = ap is_some (files_told x n) ∙ mapped (file_at x.inode n)
    where
      mapped : (o : Option InodeRecord) → is_some (option_map (λ r. file_told (tree_of x n r) r) o) ≡ is_some o
      mapped None = refl
      mapped (Some r) = refl

  -- the numbers by the names of its records are those of the table
  module _ (now : ℕ) (well : IsWellTable now t) (m : FileNumbers) (names : numbers_in m.by_name ≡ names_told x.inode) (ordered : maps.IsOrdered name_cmp m.by_name) (taken : (n : ℕ) → n < most_files → is_taken m.taken n ≡ has_value m.by_name n) where
    abbrev ns : List ℕ
    ns = range_with_len 0 (records_each * fan ^ x.inode.levels)

    number_is : (q : List ℕ) → number_of m q ≡ find name_cmp q (map (by_record (file_at x.inode) q) (listed (file_at x.inode) ns))
    unfolding names_from
    number_is q = sym (in_map m.by_name q) ∙ ap (λ n. fin.get n q) names ∙ fin.get-from_entries name_total (map (by_record (file_at x.inode) q) (listed (file_at x.inode) ns)) q

    found : (q : List ℕ) (n : ℕ) → number_of m q ≡ Some n → HasName t n q
    found q n is = let at = found_named (file_at x.inode) q ns n (sym (number_is q) ∙ is) in subst (HasName t n) (sym at.1.1) (named_record n at.0 at.1.0)

    all : (q : List ℕ) (n : ℕ) → HasName t n q → number_of m q ≡ Some n
    all q n has = by (number_of m q) refl
      where
        r : (r : InodeRecord) × ((file_at x.inode n ≡ Some r) × (name_of r ≡ q))
        r = record_named n q has

        within : n < records_each * fan ^ x.inode.levels
        within = ⊎_elim
            (λ (lt : n < records_each * fan ^ x.inode.levels). lt)
            (λ far. let wrong : None ≡ Some r.0 = sym (no_file x.inode n far) ∙ r.1.0 in absurd cc)
            (cases_lt n (records_each * fan ^ x.inode.levels))

        some : is_some (number_of m q) ≡ true
        some = ap is_some (number_is q) ∙ named_found (file_at x.inode) q ns n r.0 r.1.0 (sym r.1.1) (any_in_range (nat_eq n) n 0 (records_each * fan ^ x.inode.levels) (omega arith) (omega (arith, within)) (same_number n))

        by : (o : Option ℕ) → number_of m q ≡ o → number_of m q ≡ Some n
        by None e = absurd (both_ways (is_some (number_of m q)) (ap is_some e) some)
        by (Some k) e = let other = found q k e in e ∙ ap (λ (j : ℕ). Some j) (well.names k n other.file has.file other.there has.there (other.named ∙ sym has.named))

    taken_is : (n : ℕ) → n < most_files → is_taken m.taken n ≡ is_some (fin.get t.files n)
    taken_is n low = taken n low ∙ by (fin.get t.files n) refl
      where
        none : fin.get t.files n ≡ None → (b : Bool) → has_value m.by_name n ≡ b → b ≡ false
        none e false is = refl
        none e true is =
            let entry = value_entry m.by_name.entries n is in
            let there : fin.get (numbers_in m.by_name) entry.0 ≡ Some n = entry_there name_total (numbers_in m.by_name) (entry.0, n) (subst (In (entry.0, n)) (sym (entries_of name_total m.by_name.entries ordered)) entry.1) in
            let has = found entry.0 n (sym (in_map m.by_name entry.0) ∙ there) in
            let wrong : None ≡ Some has.file = sym e ∙ has.there in absurd cc

        by : (o : Option File) → fin.get t.files n ≡ o → has_value m.by_name n ≡ is_some o
        by (Some f) e = value_found m.by_name.entries (λ k. is_eq (name_cmp f.name k)) n (all f.name n (record { file = f; there = e; named = refl }))
        by None e = none e (has_value m.by_name n) refl

    pub numbers_are : AreNumbersOf m t
    numbers_are = record { found = found; all = all; taken = taken_is }

  -- so they are what a map of those names makes
  pub numbered : {E : Type 0} (r : Result FileNumbers E) (by_name : maps.BTreeMap (List ℕ) ℕ) → numbers_in by_name ≡ names_told x.inode → maps.IsOrdered name_cmp by_name → IfOk r (λ m. m.by_name ≡ by_name)
      → IfOk r (λ m. (n : ℕ) → n < most_files → is_taken m.taken n ≡ has_value by_name n) → IfOk r (λ m. (now : ℕ) → IsWellTable now t → AreNumbersOf m t)
  numbered (Ok m) by_name names ordered same taken = λ now well. numbers_are now well m (ap numbers_in same ∙ names) (subst (maps.IsOrdered name_cmp) (sym same) ordered)
      (λ n low. taken n low ∙ ap (λ (b : maps.BTreeMap (List ℕ) ℕ). has_value b n) (sym same))
  numbered (Err e) by_name names ordered same taken = tt

  -- ---- what they answer

  module _ (m : FileNumbers) (are : AreNumbersOf m t) where
    -- no file has a name that has no number
    pub finds_none : (q : List ℕ) → number_of m q ≡ None → HasNone x.inode q
    finds_none q none n = by (file_at x.inode n) refl
      where
        by : (o : Option InodeRecord) → file_at x.inode n ≡ o → has_name o q ≡ false
        by None e = refl
        by (Some r) e = so (is_same_name (name_of r) q) refl
          where
            so : (b : Bool) → is_same_name (name_of r) q ≡ b → b ≡ false
            so false is = refl
            so true is =
                let wrong : None ≡ Some n = sym none ∙ are.all q n (subst (HasName t n) (same_name (name_of r) q is) (named_record n r e)) in absurd cc

    -- the file of a number is the first of its name
    pub finds_some : (q : List ℕ) (n : ℕ) (o : Option Info) → number_of m q ≡ Some n → o ≡ option_map (info_of n) (file_at x.inode n) → Finds x.inode q o
    finds_some q n o is told = subst (Finds x.inode q) (sym (told ∙ ap (option_map (info_of n)) r.1.0)) (record {
      file = r.0;
      there = r.1.0;
      named = ap (λ k. is_same_name k q) r.1.1 ∙ itself q;
      told = refl;
      first = λ k lt. by k lt (file_at x.inode k) refl;
    })
      where
        r : (r : InodeRecord) × ((file_at x.inode n ≡ Some r) × (name_of r ≡ q))
        r = record_named n q (are.found q n is)

        by : (k : ℕ) → k < n → (o : Option InodeRecord) → file_at x.inode k ≡ o → has_name o q ≡ false
        by k lt None e = refl
        by k lt (Some s) e = so (is_same_name (name_of s) q) refl
          where
            so : (b : Bool) → is_same_name (name_of s) q ≡ b → b ≡ false
            so false same = refl
            so true same =
                let other : number_of m q ≡ Some k = are.all q k (subst (HasName t k) (same_name (name_of s) q same) (named_record k s e)) in
                let one : k ≡ n = some_same k n (sym other ∙ is) in
                absurd (omega (arith, lt, one))

    -- the least number that isn't taken is the least that no file has
    pub least_by : (n : ℕ) → n < most_files → is_taken m.taken n ≡ false → ((k : ℕ) → k < n → is_taken m.taken k ≡ true) → IsLeastFree x.inode n
    least_by n low free least = record {
      free = none (file_at x.inode n) (sym (same_some n) ∙ sym (are.taken n low) ∙ free);
      least = λ k lt. sym (same_some k) ∙ sym (are.taken k (omega (arith, lt, low))) ∙ least k lt;
    }
      where
        none : (o : Option InodeRecord) → is_some o ≡ false → o ≡ None
        none None e = refl
        none (Some r) e = absurd cc

    pub all_by : (n : ℕ) → most_files ≤ n → ((k : ℕ) → k < n → is_taken m.taken k ≡ true) → IsFreeNumber x.inode None
    all_by n high least k low = sym (same_some k) ∙ sym (are.taken k low) ∙ least k (omega (arith, high, low))

-- ---- changes of a table

-- a file got another content under its name
pub numbers_kept : (m : FileNumbers) (t u : Table) (n : ℕ) (f g : File) → AreNumbersOf m t → fin.get t.files n ≡ Some f → g.name ≡ f.name → u.files ≡ fin.insert t.files n g → AreNumbersOf m u
numbers_kept m t u n f g are there named is = record {
  found = λ q k e. let has = are.found q k e in into q k has (nat_eq k n) refl;
  all = λ q k has. are.all q k (back q k has (nat_eq k n) refl);
  taken = λ k low. are.taken k low ∙ sym (some k (nat_eq k n) refl);
}
  where
    at : (k : ℕ) (b : Bool) → nat_eq k n ≡ b → fin.get u.files k ≡ cond b (Some g) (fin.get t.files k)
    at k b e = ap (λ (h : fin.FinMap nat_cmp File). fin.get h k) is ∙ fin.get-insert nat_cmp_total t.files n g k ∙ ap (λ b. cond b (Some g) (fin.get t.files k)) (grind (arith, nat_tests, e))

    into : (q : List ℕ) (k : ℕ) → HasName t k q → (b : Bool) → nat_eq k n ≡ b → HasName u k q
    into q k has true e =
        let same : has.file ≡ f = some_same has.file f (sym has.there ∙ ap (fin.get t.files) (is_number k n e) ∙ there) in
        record { file = g; there = at k true e; named = named ∙ ap (λ (h : File). h.name) (sym same) ∙ has.named }
    into q k has false e = record { file = has.file; there = at k false e ∙ has.there; named = has.named }

    back : (q : List ℕ) (k : ℕ) → HasName u k q → (b : Bool) → nat_eq k n ≡ b → HasName t k q
    back q k has true e =
        let same : has.file ≡ g = some_same has.file g (sym has.there ∙ at k true e) in
        record { file = f; there = ap (fin.get t.files) (is_number k n e) ∙ there; named = sym named ∙ ap (λ (h : File). h.name) (sym same) ∙ has.named }
    back q k has false e = record { file = has.file; there = sym (at k false e) ∙ has.there; named = has.named }

    some : (k : ℕ) (b : Bool) → nat_eq k n ≡ b → is_some (fin.get u.files k) ≡ is_some (fin.get t.files k)
    some k true e = ap is_some (at k true e) ∙ sym (ap is_some (ap (fin.get t.files) (is_number k n e) ∙ there))
    some k false e = ap is_some (at k false e)

-- a file was made under a name that no file had
pub numbers_named : (m w : FileNumbers) (t u : Table) (n : ℕ) (g : File) → AreNumbersOf m t → fin.get t.files n ≡ None → number_of m g.name ≡ None → u.files ≡ fin.insert t.files n g → IsNamed m w g.name n → AreNumbersOf w u
numbers_named m w t u n g are free none is named = record {
  found = λ q k e. found q k (is_same_name g.name q) refl (sym (named.names q) ∙ e);
  all = λ q k has. all q k has (nat_eq k n) refl;
  taken = λ k low. named.taken k low ∙ some k low (nat_eq k n) refl;
}
  where
    at : (k : ℕ) (b : Bool) → nat_eq k n ≡ b → fin.get u.files k ≡ cond b (Some g) (fin.get t.files k)
    at k b e = ap (λ (h : fin.FinMap nat_cmp File). fin.get h k) is ∙ fin.get-insert nat_cmp_total t.files n g k ∙ ap (λ b. cond b (Some g) (fin.get t.files k)) (grind (arith, nat_tests, e))

    kept : (q : List ℕ) (k : ℕ) → HasName t k q → (b : Bool) → nat_eq k n ≡ b → HasName u k q
    kept q k has true e = let wrong : None ≡ Some has.file = sym free ∙ ap (fin.get t.files) (sym (is_number k n e)) ∙ has.there in absurd cc
    kept q k has false e = record { file = has.file; there = at k false e ∙ has.there; named = has.named }

    found : (q : List ℕ) (k : ℕ) (b : Bool) → is_same_name g.name q ≡ b → cond b (Some n) (number_of m q) ≡ Some k → HasName u k q
    found q k true e h =
        let same : n ≡ k = some_same n k h in
        record { file = g; there = at k true (ap (λ j. nat_eq j n) (sym same) ∙ same_number n); named = same_name g.name q e }
    found q k false e h = kept q k (are.found q k h) (nat_eq k n) refl

    all : (q : List ℕ) (k : ℕ) → HasName u k q → (b : Bool) → nat_eq k n ≡ b → number_of w q ≡ Some k
    all q k has true e =
        let same : has.file ≡ g = some_same has.file g (sym has.there ∙ at k true e) in
        let test : is_same_name g.name q ≡ true = ap (is_same_name g.name) (sym has.named ∙ ap (λ (h : File). h.name) same) ∙ itself g.name in
        named.names q ∙ ap (λ b. cond b (Some n) (number_of m q)) test ∙ ap (λ (j : ℕ). Some j) (sym (is_number k n e))
    all q k has false e = named.names q ∙ by (is_same_name g.name q) refl
      where
        was : number_of m q ≡ Some k
        was = are.all q k (record { file = has.file; there = sym (at k false e) ∙ has.there; named = has.named })

        by : (b : Bool) → is_same_name g.name q ≡ b → cond b (Some n) (number_of m q) ≡ Some k
        by true same = let wrong : None ≡ Some k = sym none ∙ ap (number_of m) (same_name g.name q same) ∙ was in absurd cc
        by false same = was

    some : (k : ℕ) → k < most_files → (b : Bool) → nat_eq k n ≡ b → (b || is_taken m.taken k) ≡ is_some (fin.get u.files k)
    some k low true e = sym (ap is_some (at k true e))
    some k low false e = are.taken k low ∙ sym (ap is_some (at k false e))

-- a file was taken away
pub numbers_unnamed : (m w : FileNumbers) (t u : Table) (n : ℕ) (f : File) → AreNumbersOf m t → fin.get t.files n ≡ Some f → u.files ≡ fin.remove t.files n → IsUnnamed m w f.name n → AreNumbersOf w u
numbers_unnamed m w t u n f are there is unnamed = record {
  found = λ q k e. found q k (is_same_name f.name q) refl (sym (unnamed.names q) ∙ e);
  all = λ q k has. all q k has (nat_eq k n) refl;
  taken = λ k low. unnamed.taken k ∙ some k low (nat_eq k n) refl;
}
  where
    at : (k : ℕ) (b : Bool) → nat_eq k n ≡ b → fin.get u.files k ≡ cond b None (fin.get t.files k)
    at k b e = ap (λ (h : fin.FinMap nat_cmp File). fin.get h k) is ∙ fin.get-remove nat_cmp_total t.files n k ∙ ap (λ b. cond b None (fin.get t.files k)) (grind (arith, nat_tests, e))

    its : number_of m f.name ≡ Some n
    its = are.all f.name n (record { file = f; there = there; named = refl })

    found : (q : List ℕ) (k : ℕ) (b : Bool) → is_same_name f.name q ≡ b → cond b None (number_of m q) ≡ Some k → HasName u k q
    found q k true e h = absurd cc
    found q k false e h = let has = are.found q k h in by has (nat_eq k n) refl
      where
        by : HasName t k q → (b : Bool) → nat_eq k n ≡ b → HasName u k q
        by has true same =
            let file : has.file ≡ f = some_same has.file f (sym has.there ∙ ap (fin.get t.files) (is_number k n same) ∙ there) in
            absurd (both_ways (is_same_name f.name q) e (ap (is_same_name f.name) (sym has.named ∙ ap (λ (h : File). h.name) file) ∙ itself f.name))
        by has false same = record { file = has.file; there = at k false same ∙ has.there; named = has.named }

    all : (q : List ℕ) (k : ℕ) → HasName u k q → (b : Bool) → nat_eq k n ≡ b → number_of w q ≡ Some k
    all q k has true e = let wrong : None ≡ Some has.file = sym (at k true e) ∙ has.there in absurd cc
    all q k has false e = unnamed.names q ∙ by (is_same_name f.name q) refl
      where
        was : number_of m q ≡ Some k
        was = are.all q k (record { file = has.file; there = sym (at k false e) ∙ has.there; named = has.named })

        by : (b : Bool) → is_same_name f.name q ≡ b → cond b None (number_of m q) ≡ Some k
        by true same =
            let one : n ≡ k = some_same n k (sym its ∙ ap (number_of m) (same_name f.name q same) ∙ was) in
            absurd (both_ways (nat_eq k n) e (ap (λ j. nat_eq j n) (sym one) ∙ same_number n))
        by false same = was

    some : (k : ℕ) → k < most_files → (b : Bool) → nat_eq k n ≡ b → (not b && is_taken m.taken k) ≡ is_some (fin.get u.files k)
    some k low true e = sym (ap is_some (at k true e))
    some k low false e = are.taken k low ∙ sym (ap is_some (at k false e))
