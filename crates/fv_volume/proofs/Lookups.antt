-- What a look-up by name finds in a table: the file that the machine finds.
use Rattle.std.proofs.Common.{◌≡◌, ◌⊎◌, ℕ, zero, suc, ◌+◌, ◌*◌, ◌^◌, ◌<◌, Bool, true, false, cond, T, ◌&&◌, List, [], ◌∷◌, ◌++◌, map, find, Option, Some, None, refl, sym, ap, subst, ◌∙◌, arith, inl, inr}
use Rattle.std.specs.List.{range_with_len}
use Rattle.std.specs.Option.{option_map}
use Rattle.std.specs.Ordering.{nat_cmp, is_lt}
use Rattle.std.specs.Cmp.{nat_cmp_total}
use Rattle.std.specs.FinMap as fin
use Rattle.std.specs.FinMap.{is_sorted}
use Rattle.std.specs.FinMap.Entries.{below_all, same_entries}
use Rattle.std.proofs.lemmas.Bool.Decides.{nat_tests}
use Rattle.fv_codec.specs.declared.inode.InodeRecord.{InodeRecord}
use Rattle.fv_model.specs.Spelling.{is_same_name, name_cmp}
use Rattle.fv_model.specs.Trees.{fan}
use Rattle.fv_model.specs.Tables.{File, file_named}
use Rattle.fv_model.specs.Replies.{file_names}
use Rattle.fv_laws.specs.WellFormed.{IsWellTable}
use Rattle.fv_laws.proofs.Changes.{same_name}
use Rattle.fv_laws.proofs.Lists.{In}
use Rattle.fv_laws.proofs.Reserve.{among}
use Rattle.fv_laws.proofs.Room.{entry_there, found_among}
use Rattle.fv_tables.specs.Told.{Standing, records_each, entry_or, listed, numbers, file_at, file_in, file_told, tree_of, table_told}
use Rattle.fv_tables.proofs.Tables.{files_told}
use Rattle.fv_inode.specs.declared.info.Info.{Info}
use Rattle.fv_inode.specs.Files.{has_name, name_of, HasNone, IsFirst}
use Rattle.fv_inode.specs.Listing.{names_from, names_told}

-- ---- by name

module _ {X : Type 0} (test : X → Bool) where
  -- what is found passes the test, and nothing is found only where nothing passes
  pub found_passes : (x : X) (xs : List X) → find test xs ≡ Some x → test x ≡ true
  found_passes x [] e = absurd cc
  found_passes x (y ∷ ys) e = elim (test y) as (λ b. test y ≡ b → cond b (Some y) (find test ys) ≡ Some x → test x ≡ true) [
    | true ↦ λ d h. let same : y ≡ x = cc in ap test (sym same) ∙ d
    | false ↦ λ d h. found_passes x ys h
  ] refl e

  -- where nothing was found nothing passes
  pub none_passes : (x : X) (xs : List X) → find test xs ≡ None → In x xs → test x ≡ false
  none_passes x [] e there = absurd there
  none_passes x (y ∷ ys) e there = elim (test y) as (λ b. test y ≡ b → cond b (Some y) (find test ys) ≡ None → (y ≡ x) ⊎ In x ys → test x ≡ false) [
    | true ↦ λ d h there. let no : Some y ≡ None = h in absurd cc
    | false ↦ λ d h there. elim there [
      | inl same ↦ ap test (sym same) ∙ d
      | inr later ↦ none_passes x ys h later
    ]
  ] refl e there

pub not_both : {b : Bool} → b ≡ true → b ≡ false → ⊥
not_both is isnt = let wrong : true ≡ false = sym is ∙ isnt in cc

some_same : {X : Type 0} (x y : X) → Some x ≡ Some y → x ≡ y
some_same x y e = cc

module _ (x : Standing) (name : List ℕ) where
  abbrev is_named : ℕ × File → Bool
  is_named e = is_same_name e.1.name name

  pub name_told : (n : ℕ) (r : InodeRecord) → (file_told (tree_of x n r) r).name ≡ name_of r
  unfolding file_told
  name_told n r = refl

  pub told_by : (n : ℕ) (r : InodeRecord) → file_at x.inode n ≡ Some r → file_in x n ≡ Some (file_told (tree_of x n r) r)
  unfolding file_in
  told_by n r there = ap (option_map (λ r. file_told (tree_of x n r) r)) there

  -- a file of the table has a record
  pub record_of : (n : ℕ) (f : File) → file_in x n ≡ Some f → (r : InodeRecord) × (file_at x.inode n ≡ Some r) × (f ≡ file_told (tree_of x n r) r)
  unfolding file_in
  record_of n f there = by (file_at x.inode n) refl there
    where
      by : (o : Option InodeRecord) → file_at x.inode n ≡ o → option_map (λ r. file_told (tree_of x n r) r) o ≡ Some f → (r : InodeRecord) × (file_at x.inode n ≡ Some r) × (f ≡ file_told (tree_of x n r) r)
      by None e is = absurd cc
      by (Some r) e is = (r, e, some_same f (file_told (tree_of x n r) r) (sym is))

  -- where no record has the name, no file has it
  pub named_none : HasNone x.inode name → file_named (table_told x) name ≡ None
  named_none none = by (file_named (table_told x) name) refl
    where
      by : (o : Option (ℕ × File)) → file_named (table_told x) name ≡ o → o ≡ None
      by None e = refl
      by (Some p) e =
          let files = (table_told x).files in
          let there : fin.get files p.0 ≡ Some p.1 = entry_there nat_cmp_total files p (found_among is_named p (fin.entries files) e) in
          let found = record_of p.0 p.1 (sym (files_told x p.0) ∙ there) in
          let is : is_same_name (name_of found.0) name ≡ true = ap (λ n. is_same_name n name) (sym (name_told p.0 found.0)) ∙ ap (λ (f : File). is_same_name f.name name) (sym found.2) ∙ found_passes is_named p (fin.entries files) e in
          let isnt : is_same_name (name_of found.0) name ≡ false = ap (λ o. has_name o name) (sym found.1) ∙ none p.0 in
          absurd (not_both is isnt)

  module _ (now : ℕ) (info : Info) (first : IsFirst x.inode name info) (well : IsWellTable now (table_told x)) where
    abbrev file : File
    file = file_told (tree_of x info.number first.file) first.file

    there : fin.get (table_told x).files info.number ≡ Some file
    there = files_told x info.number ∙ told_by info.number first.file first.there

    named : file.name ≡ name
    named = name_told info.number first.file ∙ same_name (name_of first.file) name first.named

    which : (o : Option (ℕ × File)) → file_named (table_told x) name ≡ o → o ≡ Some (info.number, file)
    which None e =
        let isnt = none_passes is_named (info.number, file) (fin.entries (table_told x).files) e (among (table_told x).files info.number file there) in
        let is : is_named (info.number, file) ≡ true = ap (λ n. is_same_name n name) (name_told info.number first.file) ∙ first.named in
        absurd (not_both is isnt)
    which (Some p) e =
        let files = (table_told x).files in
        let here : fin.get files p.0 ≡ Some p.1 = entry_there nat_cmp_total files p (found_among is_named p (fin.entries files) e) in
        let same : p.1.name ≡ name = same_name p.1.name name (found_passes is_named p (fin.entries files) e) in
        let number : p.0 ≡ info.number = well.names p.0 info.number p.1 file here there (same ∙ sym named) in
        let its : p.1 ≡ file = some_same p.1 file (sym here ∙ ap (fin.get files) number ∙ there) in
        λ i. Some (number i, its i)

    -- the file of the first record that has it is the one that the machine finds
    pub named_first : file_named (table_told x) name ≡ Some (info.number, file)
    named_first = which (file_named (table_told x) name) refl

-- ---- all names

module _ {X : Type 0} (f : ℕ → Option X) where
  all_below : (k start count : ℕ) → k < start → T (below_all nat_cmp k (listed f (range_with_len start count)))
  unfolding listed
  all_below k start zero lt = tt
  all_below k start (suc count) lt = by (f start) (all_below k (start + 1) count (omega (arith, lt)))
    where
      by : (o : Option X) → T (below_all nat_cmp k (listed f (range_with_len (start + 1) count))) → T (below_all nat_cmp k (entry_or start o ++ listed f (range_with_len (start + 1) count)))
      by None rest = rest
      by (Some x) rest = let less : is_lt (nat_cmp k start) ≡ true = grind (arith, nat_tests, lt) in subst (λ b. T (b && below_all nat_cmp k (listed f (range_with_len (start + 1) count)))) (sym less) rest

  listed_sorted : (start count : ℕ) → T (is_sorted nat_cmp (listed f (range_with_len start count)))
  unfolding listed
  listed_sorted start zero = tt
  listed_sorted start (suc count) = by (f start) (listed_sorted (start + 1) count)
    where
      by : (o : Option X) → T (is_sorted nat_cmp (listed f (range_with_len (start + 1) count))) → T (is_sorted nat_cmp (entry_or start o ++ listed f (range_with_len (start + 1) count)))
      by None rest = rest
      by (Some x) rest = both (below_all nat_cmp start (listed f (range_with_len (start + 1) count))) (is_sorted nat_cmp (listed f (range_with_len (start + 1) count))) (all_below start (start + 1) count (omega arith)) rest
        where
          both : (a b : Bool) → T a → T b → T (a && b)
          both true b p q = q
          both false b p q = absurd p

  pub listed_entries : (start count : ℕ) → fin.entries (fin.from_entries {R = nat_cmp} (listed f (range_with_len start count))) ≡ listed f (range_with_len start count)
  listed_entries start count =
      let es = listed f (range_with_len start count) in
      let m = fin.from_entries {R = nat_cmp} es in
      same_entries nat_cmp nat_cmp_total fin.nat_cmp-IsAntisymmetric (fin.entries m) es (fin.entries_sorted m) (listed_sorted start count)
      (λ q. sym (fin.get-entries m q) ∙ fin.get-from_entries nat_cmp_total es q)

module _ (x : Standing) where
  abbrev by_file : ℕ × File → List ℕ × ℕ
  by_file e = (e.1.name, e.0)

  abbrev by_record : ℕ × InodeRecord → List ℕ × ℕ
  by_record e = (name_of e.1, e.0)

  one_name : (n : ℕ) (o : Option InodeRecord) (xs : List (ℕ × File)) (ys : List (ℕ × InodeRecord)) → map by_file xs ≡ map by_record ys
      → map by_file (entry_or n (option_map (λ r. file_told (tree_of x n r) r) o) ++ xs) ≡ map by_record (entry_or n o ++ ys)
  unfolding file_told
  one_name n None xs ys rest = rest
  one_name n (Some r) xs ys rest = ap (λ (l : List (List ℕ × ℕ)). (name_of r, n) ∷ l) rest

  by_names : (ns : List ℕ) → map by_file (listed (file_in x) ns) ≡ map by_record (listed (file_at x.inode) ns)
  unfolding listed file_in
  by_names [] = refl
  by_names (n ∷ ns) = one_name n (file_at x.inode n) (listed (file_in x) ns) (listed (file_at x.inode) ns) (by_names ns)

  -- The names of all records, in byte order, are those that the machine lists.
  pub names_are : fin.keys (names_told x.inode) ≡ file_names (table_told x)
  unfolding names_from table_told
  names_are = sym (ap (λ (es : List (List ℕ × ℕ)). fin.keys (fin.from_entries {R = name_cmp} es))
      (ap (map by_file) (listed_entries (file_in x) 0 (records_each * fan ^ x.inode.levels)) ∙ by_names (numbers x)))
